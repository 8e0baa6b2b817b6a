-- What contracts see of the lines that are held.
use Rattle.std.specs.Prelude.{ℕ, List, Bool, filter}
use Rattle.bstr.specs.Utf8.{lossy_chars}
use Rattle.glk_text.specs.Characters.{is_printable}

-- the bytes that were read and not taken, and whether the source has ended
pub record HeldLines : Type 0 where
  pub held : List ℕ
  pub ended : Bool

-- the characters of the bytes of a line
abbrev pub chars_of : List ℕ → List ℕ
chars_of bytes = filter is_printable (lossy_chars bytes)
