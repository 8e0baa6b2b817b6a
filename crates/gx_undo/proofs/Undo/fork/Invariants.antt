use Rattle.std.proofs.Common.{◌≡◌, take}
use Rattle.circular_buffer.specs.Buffer.{buffer}
use Rattle.gx_undo.proofs.Undo.fork.Given as goal

-- the first copies are there, in order
abbrev pub invariant-loop-i : goal.invariant-loop-i
invariant-loop-i g l = l.ring ≡ buffer (take l.i l.self.copies) l.self.depth
