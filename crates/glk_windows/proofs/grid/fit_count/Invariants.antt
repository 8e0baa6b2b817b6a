use Rattle.std.proofs.Common.{◌≡◌, ◌-◌, ◌++◌, [], length, replicate}
use Rattle.glk_windows.proofs.grid.fit_count.Given as goal

abbrev pub invariant-loop-y : goal.invariant-loop-y
invariant-loop-y l = l.rows.items ≡ l.initial.rows.items ++ replicate (l.y - length l.initial.rows.items) []
