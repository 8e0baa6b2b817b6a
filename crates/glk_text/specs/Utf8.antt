-- Characters as UTF-8, where bytes need not be well-formed.
use lib.Utf8.{scalar}
use Rattle.std.specs.Prelude.{◌≡◌, ◌⊎◌, ℕ, ◌+◌, nat_le, List, ◌++◌, length, drop, Option, Some, None, if◌then◌else◌}
use Rattle.std.specs.Prelude.{unwrap_or}
use Rattle.std.specs.Option.{option_map}
use Rattle.std.specs.Char.{IsScalar, encode_utf8}
use Rattle.std.specs.Str.{StartsWithNoChar}
use Rattle.bstr.specs.Utf8.{decoded}
use Rattle.glk_text.specs.Characters.{question_mark}
use Rattle.glk_text.specs.Constants.{replacement}

-- the number itself where it is a Unicode scalar value, else a question mark
abbrev pub as_scalar : ℕ → ℕ
as_scalar v = if scalar v then v else question_mark

-- the character at a place of some bytes, and the place behind it; U+FFFD for one byte where none begins
abbrev pub read : List ℕ → ℕ → Option (ℕ × ℕ)
read bytes at =
    let found = decoded (drop at bytes) in
    if nat_le (length bytes) at then None else
    Some (unwrap_or (option_map (λ c. (c, at + found.size)) found.char) (replacement, at + 1))

-- a well-formed character stands at a place, and ends at the other
pub record IsWellFormed (bytes : List ℕ) (at v next : ℕ) : Type 0 where
  pub scalar : IsScalar v
  pub spelled : drop at bytes ≡ encode_utf8 v ++ drop next bytes
  pub size : next ≡ at + length (encode_utf8 v)

-- no well-formed character begins at a place, of which one byte is taken
pub record IsIllFormed (bytes : List ℕ) (at v next : ℕ) : Type 0 where
  pub none : StartsWithNoChar (drop at bytes)
  pub replaced : v ≡ replacement
  pub size : next ≡ at + 1

-- what is read is one of these, and no other
abbrev pub IsReading : List ℕ → ℕ → ℕ → ℕ → Type 0
IsReading bytes at v next = IsWellFormed bytes at v next ⊎ IsIllFormed bytes at v next
