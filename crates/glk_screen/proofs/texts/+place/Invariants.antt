use Rattle.std.proofs.Common.{length}
use Rattle.glk_screen.proofs.texts.+place.Given as goal

abbrev pub decreases-place : goal.decreases-place
decreases-place l = length l.texts.now
