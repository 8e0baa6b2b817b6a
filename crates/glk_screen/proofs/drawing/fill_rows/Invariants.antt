use Rattle.std.proofs.Common.{◌≡◌, ◌++◌, replicate}
use Rattle.glk_screen.specs.Screen.{blank_row}
use Rattle.glk_screen.proofs.drawing.fill_rows.Given as goal

abbrev pub invariant-loop-n : goal.invariant-loop-n
invariant-loop-n l = l.rows.items ≡ l.fn.rows.items ++ replicate l._n (blank_row l.width)
