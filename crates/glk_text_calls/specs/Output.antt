-- Putting to streams (Glk 0.7.5, "How To Print").
--
-- A call without a stream puts to the current one. The Unicode forms take words, of width 4, where the others take
-- bytes, of width 1.
use Rattle.std.specs.Prelude.{ℕ, ◌*◌, ◌%◌, ◌==◌, not, if◌then◌else◌, Bool, false, [], ◌∷◌, Result, Ok, Err}
use Rattle.gx_words.specs.declared.faults.Fault.{Fault}
use Rattle.gx_words.specs.Results.{◌>>=◌}
use Rattle.gx_state.specs.Flat.{FlatState}
use Rattle.gx_state.specs.declared.effects.Reply.{Reply}
use Rattle.glk_world.specs.World.{Scene, Outcome}
use Rattle.glk_replies.specs.Parts.{can_read, numbers_in}
use Rattle.glk_replies.specs.Strings.{string_length, string_chars}
use Rattle.glk_text_calls.specs.Putting.{put_all}

-- a character that is given in so many bytes: in one byte it is the low eight bits
abbrev pub char_given : ℕ → ℕ → ℕ
char_given width c = if width == 1 then c % 256 else c

-- put_char: one character
unfoldable pub put_char : Scene → FlatState → ℕ → ℕ → ℕ → Outcome Reply
put_char w f stream width c = put_all w f stream (char_given width c ∷ [])

-- put_string: a string of bytes or of words; it is looked at even if no stream takes it
unfoldable pub put_string : Scene → FlatState → ℕ → ℕ → ℕ → Outcome Reply
put_string w f stream width at =
    string_length f width at >>= λ count. put_all w f stream (string_chars f width at count)

-- put_buffer: so many bytes or words; they are looked at even if no stream takes them
unfoldable pub put_buffer : Scene → FlatState → ℕ → ℕ → ℕ → ℕ → Outcome Reply
put_buffer w f stream width at count =
    can_read f at (width * count) >>= λ there. put_all w f stream (numbers_in width f.memory at count)

-- a character that the program prints, which goes to the current stream (Glulx 3.1.2, "Output")
unfoldable pub putting : Scene → FlatState → ℕ → Outcome Reply
putting w f c = put_all w f w.current (c ∷ [])

-- a string has characters, for which a stream may want memory
abbrev pub has_length : Result ℕ Fault → Bool
has_length (Ok count) = not (count == 0)
has_length (Err e) = false
