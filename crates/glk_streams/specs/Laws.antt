-- What holds of the definitions: what is put to a file is read back (Glk 0.7.5, "File Streams").
use Rattle.std.specs.Prelude.{◌≡◌, ℕ, zero, suc, ◌+◌, ◌^◌, ◌≤◌, ◌<◌, List, [], ◌∷◌, ◌++◌, length, map, Option, Some}
use Rattle.std.specs.Prelude.{None, true}
use Rattle.glk_text.specs.Characters.{latin_of}
use Rattle.glk_text.specs.Utf8.{as_scalar}
use Rattle.glk_streams.specs.declared.kinds.FileForm.{FileForm}
use Rattle.glk_streams.specs.declared.kinds.FileForm.TheVariants as forms
use Rattle.glk_streams.specs.declared.kinds.StreamKind.TheVariants as kinds
use Rattle.glk_streams.specs.declared.kinds.Stream.{Stream}
use Rattle.glk_streams.specs.Constants.{largest, seek_start}
use Rattle.glk_streams.specs.Files.{bytes_of_char, byte_at}
use Rattle.glk_streams.specs.Stream.{readable, writable, after_puts, read_next, after_get, positioned}
use Rattle.glk_streams.specs.Sound.{IsSoundStream}

-- the character that a form keeps: in a byte one above FF is a question mark, in UTF-8 one that is no scalar value
abbrev pub kept_in : FileForm → ℕ → ℕ
kept_in forms.Latin c = latin_of c
kept_in forms.Wide c = c
kept_in forms.Utf8 c = as_scalar c

-- the bytes of characters, one behind the other
abbrev pub all_bytes : FileForm → List ℕ → List ℕ
all_bytes form [] = []
all_bytes form (c ∷ cs) = bytes_of_char form c ++ all_bytes form cs

-- characters are numbers of 32 bits
abbrev pub AreWords : List ℕ → Type 0
AreWords [] = Unit {0}
AreWords (c ∷ cs) = (c < 2 ^ 32) × AreWords cs

-- so many characters got from a stream one after another, fewer at its end
abbrev pub got_in : Stream → Option (ℕ × ℕ) → (Stream → List ℕ) → List ℕ
got_in s None more = []
got_in s (Some got) more = got.0 ∷ more (after_get s (Some got))

unfoldable pub got : ℕ → Stream → List ℕ
got zero s = []
got (suc count) s = got_in s (read_next s 0) (got count)

-- a file that is open for reading and writing, with room for the bytes of characters from its position on
pub record HasRoomFor (s : Stream) (name content : List ℕ) (form : FileForm) (cs : List ℕ) : Type 0 where
  pub file : s.kind ≡ kinds.File name content form
  pub writes : writable s ≡ true
  pub reads : readable s ≡ true
  pub sound : IsSoundStream s
  pub room : byte_at form s.position + length (all_bytes form cs) ≤ largest

-- What is put to a file is read back, in each of its forms, once the position is set to where it was.
abbrev pub FileReadsBack : Type 0
FileReadsBack =
    (s : Stream) (name content : List ℕ) (form : FileForm) (cs : List ℕ) → HasRoomFor s name content form cs
    → AreWords cs
    → got (length cs) (positioned (after_puts s cs) s.position seek_start) ≡ map (kept_in form) cs
