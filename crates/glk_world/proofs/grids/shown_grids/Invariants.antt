use Rattle.std.proofs.Common.{◌≡◌, map, take}
use Rattle.glk_world.specs.Shown.{shown_grid}
use Rattle.glk_world.proofs.grids.shown_grids.Given as goal

abbrev pub invariant-loop-grid : goal.invariant-loop-grid
invariant-loop-grid l = l.shown.items ≡ map shown_grid (take l.grid-index l.grids)
