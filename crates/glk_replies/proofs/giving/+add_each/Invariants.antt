use Rattle.std.proofs.Common.{length}
use Rattle.glk_replies.proofs.giving.+add_each.Given as goal

abbrev pub decreases-add_each : goal.decreases-add_each
decreases-add_each l = length l.ats.now
