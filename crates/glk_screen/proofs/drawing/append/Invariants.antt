use Rattle.std.proofs.Common.{◌≡◌, ◌++◌, drop}
use Rattle.glk_screen.proofs.drawing.append.Given as goal

abbrev pub invariant-loop-c : goal.invariant-loop-c
invariant-loop-c l = l.row ++ drop l.c-index l.cells ≡ l.fn.row ++ l.cells
