-- The constants of the code are the definitions' numbers.
use Rattle.std.proofs.Common.{◌≡◌, refl}
use Rattle.gx_words.specs.declared.limits.TheConstants as limit
use Rattle.gx_words.specs.declared.header.TheConstants as header
use Rattle.gx_words.specs.declared.iosystems.TheConstants as system
use Rattle.gx_words.specs.declared.typable.TheConstants as type
use Rattle.gx_words.specs.declared.characters.TheConstants as character
use Rattle.gx_words.specs.Constants.{ceiling, stack_limit, magic_at, version_at, ramstart_at, extstart_at, endmem_at}
use Rattle.gx_words.specs.Constants.{stack_size_at, start_function_at, table_at, checksum_at, header_len, magic}
use Rattle.gx_words.specs.Constants.{null_system, filter_system, glk_system, stack_function, locals_function}
use Rattle.gx_words.specs.Constants.{c_string, compressed_string, unicode_string, line_feed}

pub CEILING_is : limit.CEILING ≡ ceiling
CEILING_is = refl

pub STACK_LIMIT_is : limit.STACK_LIMIT ≡ stack_limit
STACK_LIMIT_is = refl

pub MAGIC_AT_is : header.MAGIC_AT ≡ magic_at
MAGIC_AT_is = refl

pub VERSION_AT_is : header.VERSION_AT ≡ version_at
VERSION_AT_is = refl

pub RAMSTART_AT_is : header.RAMSTART_AT ≡ ramstart_at
RAMSTART_AT_is = refl

pub EXTSTART_AT_is : header.EXTSTART_AT ≡ extstart_at
EXTSTART_AT_is = refl

pub ENDMEM_AT_is : header.ENDMEM_AT ≡ endmem_at
ENDMEM_AT_is = refl

pub STACK_SIZE_AT_is : header.STACK_SIZE_AT ≡ stack_size_at
STACK_SIZE_AT_is = refl

pub START_FUNCTION_AT_is : header.START_FUNCTION_AT ≡ start_function_at
START_FUNCTION_AT_is = refl

pub TABLE_AT_is : header.TABLE_AT ≡ table_at
TABLE_AT_is = refl

pub CHECKSUM_AT_is : header.CHECKSUM_AT ≡ checksum_at
CHECKSUM_AT_is = refl

pub HEADER_LEN_is : header.HEADER_LEN ≡ header_len
HEADER_LEN_is = refl

pub MAGIC_is : header.MAGIC ≡ magic
MAGIC_is = refl

pub NULL_SYSTEM_is : system.NULL_SYSTEM ≡ null_system
NULL_SYSTEM_is = refl

pub FILTER_SYSTEM_is : system.FILTER_SYSTEM ≡ filter_system
FILTER_SYSTEM_is = refl

pub GLK_SYSTEM_is : system.GLK_SYSTEM ≡ glk_system
GLK_SYSTEM_is = refl

pub STACK_FUNCTION_is : type.STACK_FUNCTION ≡ stack_function
STACK_FUNCTION_is = refl

pub LOCALS_FUNCTION_is : type.LOCALS_FUNCTION ≡ locals_function
LOCALS_FUNCTION_is = refl

pub C_STRING_is : type.C_STRING ≡ c_string
C_STRING_is = refl

pub COMPRESSED_STRING_is : type.COMPRESSED_STRING ≡ compressed_string
COMPRESSED_STRING_is = refl

pub UNICODE_STRING_is : type.UNICODE_STRING ≡ unicode_string
UNICODE_STRING_is = refl

pub LINE_FEED_is : character.LINE_FEED ≡ line_feed
LINE_FEED_is = refl
