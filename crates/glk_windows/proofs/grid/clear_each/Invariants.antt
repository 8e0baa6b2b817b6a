use Rattle.std.proofs.Common.{◌≡◌, ◌++◌, length, drop, take, map, replicate}
use Rattle.glk_windows.proofs.grid.clear_each.Given as goal

abbrev pub invariant-loop-y : goal.invariant-loop-y
invariant-loop-y l =
    l.rows ≡ map (λ row. replicate (length row) 0x20) (take l.y l.initial.rows) ++ drop l.y l.initial.rows
