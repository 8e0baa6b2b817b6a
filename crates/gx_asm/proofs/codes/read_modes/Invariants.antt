-- the modes of the nibbles so far are read
use Rattle.gx_asm.proofs.CodesLoops.{AreSoFar}
use Rattle.gx_asm.proofs.codes.read_modes.Given as goal

abbrev pub invariant-loop-i : goal.invariant-loop-i
invariant-loop-i l = AreSoFar l.at l.row l.pairs l.i l.modes.items
