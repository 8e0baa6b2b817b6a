-- The constants of the code are the definitions' numbers.
use Rattle.std.proofs.Common.{◌≡◌, refl}
use Rattle.gx_story.specs.declared.blorbs.TheConstants as index
use Rattle.gx_story.specs.declared.headers.TheConstants as header
use Rattle.gx_story.specs.Constants.{first_version, last_version, count_len, entry_len}

pub FIRST_VERSION_is : header.FIRST_VERSION ≡ first_version
FIRST_VERSION_is = refl

pub LAST_VERSION_is : header.LAST_VERSION ≡ last_version
LAST_VERSION_is = refl

pub COUNT_LEN_is : index.COUNT_LEN ≡ count_len
COUNT_LEN_is = refl

pub ENTRY_LEN_is : index.ENTRY_LEN ≡ entry_len
ENTRY_LEN_is = refl
