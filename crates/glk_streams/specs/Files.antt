-- A file's content, which is a list of bytes (Glk 0.7.5, "File Streams").
use Rattle.std.specs.Prelude.{ℕ, ◌+◌, ◌*◌, ◌/◌, nat_le, nat_lt, if◌then◌else◌, Bool, List, [], ◌∷◌, length, count_by}
use Rattle.std.specs.Prelude.{Option, Some, None}
use Rattle.gx_words.specs.Numbers.{byte, word, bytes_of_word, spliced}
use Rattle.glk_text.specs.Characters.{latin_of}
use Rattle.std.specs.Char.{encode_utf8}
use Rattle.glk_text.specs.Utf8.{as_scalar, read}
use Rattle.glk_streams.specs.declared.kinds.FileForm.{FileForm}
use Rattle.glk_streams.specs.declared.kinds.FileForm.TheVariants as forms
use Rattle.glk_streams.specs.Constants.{largest}

-- the bytes of a character
abbrev pub bytes_of_char : FileForm → ℕ → List ℕ
bytes_of_char forms.Latin c = latin_of c ∷ []
bytes_of_char forms.Wide c = bytes_of_word c
bytes_of_char forms.Utf8 c = encode_utf8 (as_scalar c)

-- the byte where a position stands: positions count characters, in UTF-8 bytes
abbrev pub byte_at : FileForm → ℕ → ℕ
byte_at forms.Wide position = 4 * position
byte_at _ position = position

-- the positions that so many bytes take; a rest of under four bytes isn't read
abbrev pub positions_in : FileForm → ℕ → ℕ
positions_in forms.Wide bytes = bytes / 4
positions_in _ bytes = bytes

-- bytes from a place on end within the most that a file holds
abbrev pub has_room : ℕ → List ℕ → Bool
has_room place bytes = nat_le (place + length bytes) largest

-- a content with bytes put over those from a place on, if there is room for them
abbrev pub with_bytes : List ℕ → ℕ → List ℕ → List ℕ
with_bytes content place bytes = if has_room place bytes then spliced content place bytes else content

-- how many bytes were put
abbrev pub bytes_put : ℕ → List ℕ → ℕ
bytes_put place bytes = if has_room place bytes then length bytes else 0

-- the character at a position and the position behind it, none at the end
abbrev pub read_in : FileForm → List ℕ → ℕ → Option (ℕ × ℕ)
read_in forms.Latin content at = if nat_lt at (length content) then Some (byte content at, at + 1) else None
read_in forms.Wide content at = if nat_lt at (length content / 4) then Some (word content (4 * at), at + 1) else None
read_in forms.Utf8 content at = read content at

-- the bytes that the bytes of a save take, put as characters: in UTF-8 one from 128 on takes two
abbrev pub saved_size : FileForm → List ℕ → ℕ
saved_size forms.Latin bytes = length bytes
saved_size forms.Wide bytes = 4 * length bytes
saved_size forms.Utf8 bytes = length bytes + count_by (λ byte. nat_le 0x80 byte) bytes
