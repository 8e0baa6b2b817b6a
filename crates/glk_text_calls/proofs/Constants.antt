-- The constants of the code are the definitions' numbers.
use Rattle.std.proofs.Common.{◌≡◌, refl}
use Rattle.glk_text_calls.specs.declared.input.TheConstants as input
use Rattle.glk_text_calls.specs.Constants.{no_character}

pub NO_CHARACTER_is : input.NO_CHARACTER ≡ no_character
NO_CHARACTER_is = refl
