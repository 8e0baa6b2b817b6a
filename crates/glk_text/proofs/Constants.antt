-- The constant of the code is the definition's number.
use Rattle.std.proofs.Common.{◌≡◌, refl}
use Rattle.glk_text.specs.declared.utf8.TheConstants as utf8
use Rattle.glk_text.specs.Constants.{replacement}

pub REPLACEMENT_is : utf8.REPLACEMENT ≡ replacement
REPLACEMENT_is = refl
