use Rattle.std.proofs.Common.{◌≡◌, map, take}
use Rattle.glk_screen.specs.ScreenRows.{trimmed}
use Rattle.glk_world.proofs.grids.shown_rows.Given as goal

abbrev pub invariant-loop-y : goal.invariant-loop-y
invariant-loop-y l = l.shown ≡ map trimmed (take l.y l.rows)
