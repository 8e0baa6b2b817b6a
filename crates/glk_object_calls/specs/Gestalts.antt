-- What the library can do (Glk 0.7.5, "The Gestalt System"; its selectors under "The Version Number", "Output",
-- "Line Input", "Character Input" and "Testing for Unicode Capabilities").
use Rattle.std.specs.Prelude.{ℕ, ◌==◌, ◌&&◌, ◌||◌, not, Bool, if◌then◌else◌, List, [], ◌∷◌}
use Rattle.gx_words.specs.Constants.{line_feed}
use Rattle.glk_text.specs.Characters.{is_printable}
use Rattle.glk_events.specs.Constants.{return_key}
use Rattle.glk_streams.specs.declared.kinds.Places.{Places}
use Rattle.gx_words.specs.Results.{◌>>=◌}
use Rattle.gx_state.specs.Flat.{FlatState}
use Rattle.gx_state.specs.declared.effects.Reply.{Reply}
use Rattle.glk_world.specs.World.{Scene, Outcome, answered, arg}
use Rattle.glk_object_calls.specs.Constants.{gestalt_version, gestalt_char_input, gestalt_line_input}
use Rattle.glk_object_calls.specs.Constants.{gestalt_char_output, gestalt_unicode, cannot_print}
use Rattle.glk_object_calls.specs.Constants.{exact_print}
use Rattle.glk_replies.specs.Parts.{can_lay, reply_filling}
use Rattle.glk_object_calls.specs.Answers.{tells}

-- by selector and value
unfoldable pub gestalt_answer : ℕ → ℕ → ℕ
gestalt_answer sel val =
    if sel == gestalt_version then 0x00000705 else  -- 0.7.5
    if sel == gestalt_char_input then (if is_printable val || val == return_key then 1 else 0) else
    if sel == gestalt_line_input then (if is_printable val then 1 else 0) else
    if sel == gestalt_char_output then (if is_printable val || val == line_feed then exact_print else cannot_print) else
    if sel == gestalt_unicode then 1 else 0  -- the mouse, timers, graphics, sounds, links, others

-- gestalt
unfoldable pub gestalt : Scene → List ℕ → Outcome Reply
gestalt w args = tells w (gestalt_answer (arg args 0) (arg args 1))

-- the number of glyphs of a character has a place in the array
abbrev pub has_glyphs : List ℕ → Bool
has_glyphs args = arg args 0 == gestalt_char_output && not (arg args 2 == 0) && not (arg args 3 == 0)

-- gestalt_ext: a character has one glyph, printable or not
unfoldable pub gestalt_ext : Scene → FlatState → List ℕ → Outcome Reply
gestalt_ext w f args =
    let place : Places = record { at = arg args 2; width = 4; count = if has_glyphs args then 1 else 0 } in
    can_lay f place >>= λ writable. answered w (reply_filling (gestalt_answer (arg args 0) (arg args 1)) place (1 ∷ []))
