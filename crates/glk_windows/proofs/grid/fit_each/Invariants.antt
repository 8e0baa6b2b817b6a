use Rattle.std.proofs.Common.{◌≡◌, ◌++◌, drop, take, map}
use Rattle.glk_windows.specs.Grids.{fit}
use Rattle.glk_windows.proofs.grid.fit_each.Given as goal

abbrev pub invariant-loop-y : goal.invariant-loop-y
invariant-loop-y l =
    l.rows.items ≡ map (fit l.columns 0x20) (take l.y l.initial.rows.items) ++ drop l.y l.initial.rows.items
