-- The constant of the code is the definitions' number.
use Rattle.std.proofs.Common.{◌≡◌, refl}
use Rattle.ops_print.specs.declared.items.TheConstants as code
use Rattle.ops_print.specs.Puts.{most_puts}

pub MOST_PUTS_is : code.MOST_PUTS ≡ most_puts
MOST_PUTS_is = refl
