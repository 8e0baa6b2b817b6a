use Rattle.std.proofs.Common.{length}
use Rattle.glk_replies.proofs.giving.+pushes_each.Given as goal

abbrev pub decreases-pushes_each : goal.decreases-pushes_each
decreases-pushes_each l = length l.ats.now
