-- The constants of the code are the definitions' numbers.
use Rattle.std.proofs.Common.{◌≡◌, refl}
use Rattle.gx_play.specs.declared.command.TheConstants as command
use Rattle.gx_play.specs.declared.loading.TheConstants as loading
use Rattle.gx_play.specs.Constants.{usual_depth, no_file, most_text}

pub USUAL_DEPTH_is : command.USUAL_DEPTH ≡ usual_depth
USUAL_DEPTH_is = refl

pub NO_FILE_is : loading.NO_FILE ≡ no_file
NO_FILE_is = refl

pub MOST_TEXT_is : loading.MOST_TEXT ≡ most_text
MOST_TEXT_is = refl
