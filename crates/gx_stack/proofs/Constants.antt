-- The constants of the code are the definitions' numbers.
use Rattle.std.proofs.Common.{◌≡◌, refl}
use Rattle.gx_stack.specs.declared.kinds.TheConstants as kind
use Rattle.gx_stack.specs.Constants.{to_nowhere, to_memory, to_local, to_stack, resume_compressed, resume_code}
use Rattle.gx_stack.specs.Constants.{resume_number, resume_c_string, resume_unicode}

pub TO_NOWHERE_is : kind.TO_NOWHERE ≡ to_nowhere
TO_NOWHERE_is = refl

pub TO_MEMORY_is : kind.TO_MEMORY ≡ to_memory
TO_MEMORY_is = refl

pub TO_LOCAL_is : kind.TO_LOCAL ≡ to_local
TO_LOCAL_is = refl

pub TO_STACK_is : kind.TO_STACK ≡ to_stack
TO_STACK_is = refl

pub RESUME_COMPRESSED_is : kind.RESUME_COMPRESSED ≡ resume_compressed
RESUME_COMPRESSED_is = refl

pub RESUME_CODE_is : kind.RESUME_CODE ≡ resume_code
RESUME_CODE_is = refl

pub RESUME_NUMBER_is : kind.RESUME_NUMBER ≡ resume_number
RESUME_NUMBER_is = refl

pub RESUME_C_STRING_is : kind.RESUME_C_STRING ≡ resume_c_string
RESUME_C_STRING_is = refl

pub RESUME_UNICODE_is : kind.RESUME_UNICODE ≡ resume_unicode
RESUME_UNICODE_is = refl
