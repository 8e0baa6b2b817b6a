use Rattle.gx_state.proofs.Pairs.{AreRead}
use Rattle.gx_state.proofs.formats.format_end.Given as goal

-- the pairs so far are those of the format, and there may be so many more
abbrev pub invariant-pairs : goal.invariant-pairs
invariant-pairs g l = AreRead (g.M.Readable.bytes l.memory) l.at l.here l.left

abbrev pub decreases-pairs : goal.decreases-pairs
decreases-pairs g l = l.left
