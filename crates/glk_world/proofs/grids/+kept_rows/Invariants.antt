use Rattle.std.proofs.Common.{length}
use Rattle.glk_world.proofs.grids.+kept_rows.Given as goal

abbrev pub decreases-kept_rows : goal.decreases-kept_rows
decreases-kept_rows l = length l.rows.now
