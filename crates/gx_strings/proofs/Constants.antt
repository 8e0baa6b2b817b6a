-- The constants of the code are the definitions' numbers.
use Rattle.std.proofs.Common.{◌≡◌, refl}
use Rattle.gx_strings.specs.declared.node_types.TheConstants as node
use Rattle.gx_strings.specs.declared.objects.TheConstants as type
use Rattle.gx_strings.specs.Constants.{branch, string_terminator, single_character, c_style_string}
use Rattle.gx_strings.specs.Constants.{single_unicode_character, c_style_unicode_string, indirect_reference}
use Rattle.gx_strings.specs.Constants.{double_indirect_reference, indirect_reference_with_arguments}
use Rattle.gx_strings.specs.Constants.{double_indirect_reference_with_arguments, last_function}

pub BRANCH_is : node.BRANCH ≡ branch
BRANCH_is = refl

pub STRING_TERMINATOR_is : node.STRING_TERMINATOR ≡ string_terminator
STRING_TERMINATOR_is = refl

pub SINGLE_CHARACTER_is : node.SINGLE_CHARACTER ≡ single_character
SINGLE_CHARACTER_is = refl

pub C_STYLE_STRING_is : node.C_STYLE_STRING ≡ c_style_string
C_STYLE_STRING_is = refl

pub SINGLE_UNICODE_CHARACTER_is : node.SINGLE_UNICODE_CHARACTER ≡ single_unicode_character
SINGLE_UNICODE_CHARACTER_is = refl

pub C_STYLE_UNICODE_STRING_is : node.C_STYLE_UNICODE_STRING ≡ c_style_unicode_string
C_STYLE_UNICODE_STRING_is = refl

pub INDIRECT_REFERENCE_is : node.INDIRECT_REFERENCE ≡ indirect_reference
INDIRECT_REFERENCE_is = refl

pub DOUBLE_INDIRECT_REFERENCE_is : node.DOUBLE_INDIRECT_REFERENCE ≡ double_indirect_reference
DOUBLE_INDIRECT_REFERENCE_is = refl

pub INDIRECT_REFERENCE_WITH_ARGUMENTS_is : node.INDIRECT_REFERENCE_WITH_ARGUMENTS ≡ indirect_reference_with_arguments
INDIRECT_REFERENCE_WITH_ARGUMENTS_is = refl

pub DOUBLE_INDIRECT_REFERENCE_WITH_ARGUMENTS_is : node.DOUBLE_INDIRECT_REFERENCE_WITH_ARGUMENTS
    ≡ double_indirect_reference_with_arguments
DOUBLE_INDIRECT_REFERENCE_WITH_ARGUMENTS_is = refl

pub LAST_FUNCTION_is : type.LAST_FUNCTION ≡ last_function
LAST_FUNCTION_is = refl
