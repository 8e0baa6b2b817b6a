-- The constants of the code are the definitions' numbers.
use Rattle.std.proofs.Common.{◌≡◌, refl}
use Rattle.glk_object_calls.specs.declared.gestalts.TheConstants as gestalt
use Rattle.glk_object_calls.specs.declared.references.TheConstants as reference
use Rattle.glk_object_calls.specs.Constants.{gestalt_version, gestalt_char_input, gestalt_line_input}
use Rattle.glk_object_calls.specs.Constants.{gestalt_char_output, gestalt_unicode, cannot_print}
use Rattle.glk_object_calls.specs.Constants.{exact_print, text_mode}

pub VERSION_is : gestalt.VERSION ≡ gestalt_version
VERSION_is = refl

pub CHAR_INPUT_is : gestalt.CHAR_INPUT ≡ gestalt_char_input
CHAR_INPUT_is = refl

pub LINE_INPUT_is : gestalt.LINE_INPUT ≡ gestalt_line_input
LINE_INPUT_is = refl

pub CHAR_OUTPUT_is : gestalt.CHAR_OUTPUT ≡ gestalt_char_output
CHAR_OUTPUT_is = refl

pub UNICODE_is : gestalt.UNICODE ≡ gestalt_unicode
UNICODE_is = refl

pub CANNOT_PRINT_is : gestalt.CANNOT_PRINT ≡ cannot_print
CANNOT_PRINT_is = refl

pub EXACT_PRINT_is : gestalt.EXACT_PRINT ≡ exact_print
EXACT_PRINT_is = refl

pub TEXT_MODE_is : reference.TEXT_MODE ≡ text_mode
TEXT_MODE_is = refl
