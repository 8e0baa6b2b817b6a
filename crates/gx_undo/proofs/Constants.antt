-- The constant of the code is the definitions' number.
use Rattle.std.proofs.Common.{◌≡◌, refl}
use Rattle.gx_undo.specs.declared.TheConstants as code
use Rattle.gx_undo.specs.Undo.{most_undo}

pub MOST_UNDO_is : code.MOST_UNDO ≡ most_undo
MOST_UNDO_is = refl
