use Rattle.std.proofs.Common.{length}
use Rattle.glk_screen.proofs.rows.+kept.Given as goal

abbrev pub decreases-kept : goal.decreases-kept
decreases-kept l = length l.row.now
