use Rattle.std.proofs.Common.{length}
use Rattle.glk_replies.proofs.giving.+can_give_each.Given as goal

abbrev pub decreases-can_give_each : goal.decreases-can_give_each
decreases-can_give_each g l = length l.ats.now
