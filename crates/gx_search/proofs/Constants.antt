-- The constants of the code are the definitions' numbers.
use Rattle.std.proofs.Common.{◌≡◌, refl}
use Rattle.gx_search.specs.declared.asks.TheConstants as asks
use Rattle.gx_search.specs.Constants.{key_indirect, zero_key_terminates, return_index}

pub KEY_INDIRECT_is : asks.KEY_INDIRECT ≡ key_indirect
KEY_INDIRECT_is = refl

pub ZERO_KEY_TERMINATES_is : asks.ZERO_KEY_TERMINATES ≡ zero_key_terminates
ZERO_KEY_TERMINATES_is = refl

pub RETURN_INDEX_is : asks.RETURN_INDEX ≡ return_index
RETURN_INDEX_is = refl
