-- The room for a save.
use Rattle.std.proofs.Common.{◌≤◌, ℕ, List, length, arith}
use Rattle.glk_streams.specs.declared.kinds.FileForm.{FileForm}
use Rattle.glk_streams.specs.declared.kinds.FileForm.TheVariants as forms
use Rattle.glk_streams.specs.Files.{saved_size}

-- each byte of a save takes one at least
pub length_saved : (form : FileForm) (bytes : List ℕ) → length bytes ≤ saved_size form bytes
length_saved forms.Latin bytes = omega arith
length_saved forms.Wide bytes = omega arith
length_saved forms.Utf8 bytes = omega arith
