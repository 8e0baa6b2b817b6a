-- The constants of the code are the definitions' numbers.
use Rattle.std.proofs.Common.{◌≡◌, refl}
use Rattle.glk_events.specs.declared.requests.TheConstants as key
use Rattle.glk_events.specs.Constants.{return_key, unknown_key}

pub RETURN_is : key.RETURN ≡ return_key
RETURN_is = refl

pub UNKNOWN_is : key.UNKNOWN ≡ unknown_key
UNKNOWN_is = refl
