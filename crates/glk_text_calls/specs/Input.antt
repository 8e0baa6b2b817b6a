-- Getting from streams (Glk 0.7.5, "How To Read").
--
-- What is read of a memory stream is looked at place by place, so that no place behind the last character matters.
use Rattle.std.specs.Prelude.{ℕ, zero, suc, ◌+◌, ◌-◌, ◌*◌, ◌==◌, ◌&&◌, not, nat_lt, if◌then◌else◌, Bool, true, false}
use Rattle.std.specs.Prelude.{List, [], ◌∷◌, ◌++◌, length, Option, Some, None, Result, Ok, Err}
use Rattle.std.specs.Option.{option_map}
use Rattle.gx_words.specs.declared.faults.Fault.{Fault}
use Rattle.gx_words.specs.Results.{◌>>=◌}
use Rattle.gx_pages.specs.Memory.{number_in}
use Rattle.gx_state.specs.Flat.{FlatState}
use Rattle.gx_state.specs.declared.effects.Reply.{Reply}
use Rattle.gx_words.specs.Constants.{line_feed}
use Rattle.glk_text.specs.Characters.{latin_of}
use Rattle.glk_streams.specs.declared.kinds.Places.{Places}
use Rattle.glk_streams.specs.declared.kinds.Stream.{Stream}
use Rattle.glk_streams.specs.Stream as one
use Rattle.glk_streams.specs.Streams as streams
use Rattle.glk_world.specs.World.{Scene, silent, Outcome, answered, arg}
use Rattle.glk_world.specs.Putting.{places_read}
use Rattle.glk_world.specs.Calls.{char_got, chars_got}
use Rattle.glk_text_calls.specs.Constants.{no_character}
use Rattle.glk_replies.specs.Parts.{replies, can_lay, reply_filling}

-- the number at one of the places of a memory stream; other streams have none
abbrev pub found_in : FlatState → Places → ℕ → Result ℕ Fault
found_in f p i = if nat_lt i p.count then number_in p.width f.memory (p.at + p.width * i) else Ok 0

-- characters before those that are read after them
abbrev pub read_behind : List ℕ → Result (List ℕ × ℕ) Fault → Result (List ℕ × ℕ) Fault
read_behind cs (Ok got) = Ok (cs ++ got.0, got.1)
read_behind cs (Err e) = Err e

-- the next character, the last of its line or with those that are read behind it; none at the end; a line ends behind
-- a line feed
abbrev pub read_with : Bool → ℕ → Option (ℕ × ℕ) → (ℕ → Result (List ℕ × ℕ) Fault) → Result (List ℕ × ℕ) Fault
read_with stops position None behind = Ok ([], position)
read_with stops position (Some got) behind =
    if stops && got.0 == line_feed then Ok (got.0 ∷ [], got.1) else read_behind (got.0 ∷ []) (behind got.1)

-- the characters that are read where so many more may be, and the position behind them
unfoldable pub read_on : ℕ → Bool → FlatState → Places → Stream → ℕ → ℕ → Result (List ℕ × ℕ) Fault
read_on zero stops f p s i position = Ok ([], position)
read_on (suc more) stops f p s i position = found_in f p i >>= λ found.
    read_with stops position (one.read_next (record s { position = position }) found) (read_on more stops f p s (i + 1))

-- so many characters at most, of a line up to its end
abbrev pub reading : Scene → FlatState → ℕ → Bool → ℕ → Result (List ℕ × ℕ) Fault
reading w f stream stops most =
    let s = streams.stream w.streams stream in read_on most stops f (places_read w stream most) s 0 s.position

-- Characters are read into a buffer, and a line is ended by a zero.
unfoldable pub get_chars : Scene → FlatState → ℕ → Bool → ℕ → ℕ → ℕ → Outcome Reply
get_chars w f stream stops most width at = do
  got ← reading w f stream stops most
  let count = length got.0
  let buffer : Places = record { at = at; width = width; count = count + (if stops then 1 else 0) }
  writable ← can_lay f buffer
  Ok (silent (chars_got w stream got.1 count), reply_filling count buffer (got.0 ++ (if stops then 0 ∷ [] else [])))

-- get_buffer_stream
abbrev pub get_buffer : ℕ → Scene → FlatState → List ℕ → Outcome Reply
get_buffer width w f args = get_chars w f (arg args 0) false (arg args 2) width (arg args 1)

-- get_line_stream: nothing is done for a buffer of no places
abbrev pub get_line : ℕ → Scene → FlatState → List ℕ → Outcome Reply
get_line width w f args = if arg args 2 == 0 then answered w (replies 0) else
    get_chars w f (arg args 0) true (arg args 2 - 1) width (arg args 1)

-- what stands for a character that was read: in one byte it is a character of Latin-1
abbrev pub char_answer : ℕ → Option ℕ → ℕ
char_answer width None = no_character
char_answer width (Some c) = if width == 1 then latin_of c else c

-- get_char_stream
unfoldable pub get_char : ℕ → Scene → FlatState → List ℕ → Outcome Reply
get_char width w f args = found_in f (places_read w (arg args 0) 1) 0 >>= λ found.
    let char = option_map (λ (got : ℕ × ℕ). got.0) (one.read_next (streams.stream w.streams (arg args 0)) found) in
    Ok (silent (char_got w (arg args 0) found), replies (char_answer width char))

-- how many characters were read, and the position behind them
abbrev pub count_read : Result (List ℕ × ℕ) Fault → Result (ℕ × ℕ) Fault
count_read (Ok got) = Ok (length got.0, got.1)
count_read (Err e) = Err e

-- ---- where memory may be wanted: for characters that are read

abbrev pub has_read : Result (List ℕ × ℕ) Fault → Bool
has_read (Ok got) = not (length got.0 == 0)
has_read (Err e) = false

abbrev pub get_buffer_grows : Scene → FlatState → List ℕ → Bool
get_buffer_grows w f args = has_read (reading w f (arg args 0) false (arg args 2))
