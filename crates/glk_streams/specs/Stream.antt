-- One stream: what putting, getting and moving make of it (Glk 0.7.5, "Streams").
use Rattle.std.specs.Prelude.{ℕ, ◌+◌, ◌-◌, ◌*◌, ◌^◌, ◌%◌, min, max, ◌==◌, nat_lt, nat_le, not, if◌then◌else◌, Bool}
use Rattle.std.specs.Prelude.{false, ◌||◌, ◌&&◌, List, [], ◌∷◌, length, drop, Option, Some, None}
use Rattle.glk_streams.specs.declared.kinds.FileForm.TheVariants as forms
use Rattle.glk_streams.specs.declared.kinds.StreamKind.{StreamKind}
use Rattle.glk_streams.specs.declared.kinds.StreamKind.TheVariants as kinds
use Rattle.glk_streams.specs.declared.kinds.Stream.{Stream}
use Rattle.glk_streams.specs.declared.kinds.Places.{Places}
use Rattle.glk_streams.specs.Constants.{write_mode, read_mode, read_write_mode, write_append_mode, largest}
use Rattle.glk_streams.specs.Constants.{seek_start, seek_current, seek_end}
use Rattle.glk_streams.specs.Files.{bytes_of_char, byte_at, positions_in, with_bytes, bytes_put, read_in, saved_size}

abbrev pub readable : Stream → Bool
readable s = s.mode == read_mode || s.mode == read_write_mode

abbrev pub writable : Stream → Bool
writable s = s.mode == write_mode || s.mode == read_write_mode || s.mode == write_append_mode

-- the modes in which a kind of stream may be open
abbrev pub allows_mode : StreamKind → ℕ → Bool
allows_mode (kinds.Window win) mode = mode == write_mode
allows_mode (kinds.Memory at len wide) mode = mode == write_mode || mode == read_mode || mode == read_write_mode
allows_mode (kinds.File name content form) mode =
    mode == write_mode || mode == read_mode || mode == read_write_mode || mode == write_append_mode

-- a buffer at 0 has no places
abbrev pub place_count : ℕ → ℕ → ℕ
place_count at len = if at == 0 then 0 else len

-- the position behind the last character
abbrev pub end_position : Stream → ℕ
end_position s = elim s.kind [
  | kinds.Window _ ↦ 0
  | kinds.Memory at len _ ↦ if s.mode == write_mode then s.highest else place_count at len
  | kinds.File _ content form ↦ positions_in form (length content)
]

-- a stream as it is opened
unfoldable pub opened : ℕ → StreamKind → ℕ → ℕ → Stream
opened id kind mode rock = let new : Stream =
    record { id = id; kind = kind; mode = mode; rock = rock; position = 0; highest = 0; read = 0; written = 0 } in
    record new { position = if mode == write_append_mode then end_position new else 0 }

-- A character goes to its window, to the next place of memory if there is one, or over the bytes of a file if
-- it ends within the most that a file holds; else it is dropped.
abbrev pub put_in : StreamKind → Stream → ℕ → Stream
put_in (kinds.Window win) s c = s
put_in (kinds.Memory at len wide) s c = if nat_lt s.position (place_count at len)
    then record s { position = s.position + 1; highest = max s.highest (s.position + 1) } else s
put_in (kinds.File name content form) s c = let bytes = bytes_of_char form c in
    let place = byte_at form s.position in
    let end = s.position + positions_in form (bytes_put place bytes) in
    record s { kind = kinds.File name (with_bytes content place bytes) form; position = end }

-- a character is counted and put, unless the stream isn't open for writing
unfoldable pub after_put : Stream → ℕ → Stream
after_put s c = if writable s then put_in s.kind (record s { written = (s.written + 1) % 2 ^ 32 }) c else s

-- characters are put one after another
unfoldable pub after_puts : Stream → List ℕ → Stream
after_puts s [] = s
after_puts s (c ∷ cs) = after_puts (after_put s c) cs

-- so many bytes go at once: to memory, which counts them in 32 bits, or to a file in Latin-1 with room for them
abbrev pub takes_bytes_in : StreamKind → ℕ → ℕ → Bool
takes_bytes_in (kinds.Memory _ _ _) position count = nat_lt count (2 ^ 32)
takes_bytes_in (kinds.File _ _ forms.Latin) position count = nat_le (position + count) largest
takes_bytes_in _ position count = false

-- the same, where the stream is open for writing
unfoldable pub takes_bytes : Stream → ℕ → Bool
takes_bytes s count = writable s && takes_bytes_in s.kind s.position count

-- putting a character makes a file longer
abbrev pub lengthens : StreamKind → Stream → ℕ → Bool
lengthens (kinds.File _ content form) s c = let end = byte_at form s.position + length (bytes_of_char form c) in
    writable s && nat_le end largest && nat_lt (length content) end
lengthens _ s c = false

-- The next character and the position behind it, none at the end or where the stream isn't open for reading; `found`
-- stands at the place of memory.
unfoldable pub read_next : Stream → ℕ → Option (ℕ × ℕ)
read_next s found = if not (readable s) then None else elim s.kind [
  | kinds.Window _ ↦ None
  | kinds.Memory at len _ ↦ if nat_lt s.position (place_count at len) then Some (found, s.position + 1) else None
  | kinds.File _ content form ↦ read_in form content s.position
]

-- what is left of a file in Latin-1 that is open for reading: its bytes are the characters
abbrev pub latin_rest_in : StreamKind → ℕ → Option (List ℕ)
latin_rest_in (kinds.File _ content forms.Latin) position = Some (drop position content)
latin_rest_in _ position = None

unfoldable pub latin_rest : Stream → Option (List ℕ)
latin_rest s = if readable s then latin_rest_in s.kind s.position else None

-- so many characters were read, up to a position
abbrev pub passed : Stream → ℕ → ℕ → Stream
passed s position count = record s { position = position; read = (s.read + count) % 2 ^ 32 }

-- a character was read, if there was one
abbrev pub after_get : Stream → Option (ℕ × ℕ) → Stream
after_get s None = s
after_get s (Some got) = record s { position = got.1; read = (s.read + 1) % 2 ^ 32 }

-- so far from a place as a signed number says, within the end
abbrev pub clamped : ℕ → ℕ → ℕ → ℕ
clamped base by end = if nat_lt by (2 ^ 31) then min (base + by) end else min (base - (2 ^ 32 - by)) end

-- the position is set (Glk 0.7.5, "Stream Positions"); another seek does nothing
unfoldable pub positioned : Stream → ℕ → ℕ → Stream
positioned s pos seek =
    if seek == seek_start then record s { position = clamped 0 pos (end_position s) } else
    if seek == seek_current then record s { position = clamped s.position pos (end_position s) } else
    if seek == seek_end then record s { position = clamped (end_position s) pos (end_position s) } else s

abbrev pub no_places : Places
no_places = record { at = 0; width = 1; count = 0 }

-- the places of memory that so many characters use next
abbrev pub places_in : StreamKind → ℕ → ℕ → Places
places_in (kinds.Memory at len wide) position count = let width = if wide then 4 else 1 in
    record { at = at + position * width; width = width; count = min count (place_count at len - position) }
places_in _ position count = no_places

unfoldable pub next_places : Stream → ℕ → Places
next_places s count = places_in s.kind s.position count

-- there is room for the bytes of a save, put as characters
abbrev pub fits_in : StreamKind → ℕ → List ℕ → Bool
fits_in (kinds.Window _) position bytes = false
fits_in (kinds.Memory at len _) position bytes = nat_le (length bytes) (place_count at len - position)
fits_in (kinds.File _ _ form) position bytes = nat_le (byte_at form position + saved_size form bytes) largest

unfoldable pub fits : Stream → List ℕ → Bool
fits s bytes = fits_in s.kind s.position bytes

-- the window of a stream, 0 for none
abbrev pub window_in : StreamKind → ℕ
window_in (kinds.Window win) = win
window_in _ = 0

abbrev pub window_of : Stream → ℕ
window_of s = window_in s.kind

-- the name and content of a file
abbrev pub file_in : StreamKind → Option (List ℕ × List ℕ)
file_in (kinds.File name content _) = Some (name, content)
file_in _ = None

-- A file is taken out of its stream, to be stored. The stream goes nowhere then, as one of memory without a buffer
-- ("Memory Streams"); its counts stay.
abbrev pub without_file : Stream → Stream
without_file s = record s { kind = kinds.Memory 0 0 false; position = 0 }

-- a file that has to be stored when it is closed
abbrev pub is_stored : StreamKind → Stream → Bool
is_stored (kinds.File _ _ _) s = writable s
is_stored _ s = false

-- the name and content of a file that has to be stored when it is closed
abbrev pub stored_file : Stream → Option (List ℕ × List ℕ)
stored_file s = if is_stored s.kind s then file_in s.kind else None
