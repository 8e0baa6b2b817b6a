-- The constants of the code are the definitions' numbers.
use Rattle.std.proofs.Common.{◌≡◌, refl}
use Rattle.glk_world.specs.declared.identifiers.TheConstants as identifier
use Rattle.glk_world.specs.declared.showing.TheConstants as showing
use Rattle.glk_world.specs.Constants.{last_identifier, prompt_selector}

pub LAST_IDENTIFIER_is : identifier.LAST_IDENTIFIER ≡ last_identifier
LAST_IDENTIFIER_is = refl

pub PROMPT_SELECTOR_is : showing.PROMPT_SELECTOR ≡ prompt_selector
PROMPT_SELECTOR_is = refl
