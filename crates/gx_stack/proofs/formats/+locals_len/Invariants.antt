use Rattle.std.proofs.Common.{length}
use Rattle.gx_stack.proofs.formats.+locals_len.Given as goal

abbrev pub decreases-locals_len : goal.decreases-locals_len
decreases-locals_len l = length l.pairs.now
