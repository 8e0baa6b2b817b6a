use Rattle.std.proofs.Common.{◌≡◌, ◌++◌, replicate}
use Rattle.glk_screen.proofs.drawing.fill.Given as goal

abbrev pub invariant-loop-n : goal.invariant-loop-n
invariant-loop-n l = l.row ≡ l.fn.row ++ replicate l._n 0x20
