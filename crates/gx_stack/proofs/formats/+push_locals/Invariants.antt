use Rattle.std.proofs.Common.{length}
use Rattle.gx_stack.proofs.formats.+push_locals.Given as goal

abbrev pub decreases-push_locals : goal.decreases-push_locals
decreases-push_locals l = length l.pairs.now
