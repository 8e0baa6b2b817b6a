-- The calls of Glk of output, input, the case of characters, styles and events (Glk 0.7.5, "How To Print", "How To
-- Read", "Events"), and those of Unicode, in rising order of selector.
use Rattle.std.specs.Prelude.{◌==◌, not, nat_lt, ℕ, if◌then◌else◌, Bool, true, false, List, [], ◌∷◌}
use Rattle.gx_state.specs.Flat.{FlatState}
use Rattle.glk_world.specs.World.{Scene, arg}
use Rattle.glk_replies.specs.Numbers as selectors
use Rattle.glk_replies.specs.TextNumbers as texts
use Rattle.glk_replies.specs.Strings.{string_length}
use Rattle.glk_text_calls.specs.declared.characters.Case.{Case}
use Rattle.glk_text_calls.specs.declared.characters.Case.TheVariants as case
use Rattle.glk_text_calls.specs.Putting.{put_grows_one, put_grows_some}
use Rattle.glk_text_calls.specs.Output.{char_given, put_char, put_string, put_buffer, has_length}
use Rattle.glk_text_calls.specs.Input.{get_char, get_line, get_buffer, get_buffer_grows}
use Rattle.glk_text_calls.specs.Characters.{char_to_case, buffer_to_case, buffer_of}
use Rattle.glk_event_calls.specs.Events.{may_ask, request_line_event, request_char_event, cancel_line_event}
use Rattle.glk_event_calls.specs.Events.{cancel_char_event, select_poll, select}
use Rattle.glk_dispatch.specs.declared.table.ObjectClass.TheVariants.{Window, Stream}
use Rattle.glk_dispatch.specs.CallRows.{CallRow, row_with, on, giving, plain, looking, idles, wants, is_given}
use Rattle.glk_dispatch.specs.CallRows.{opens_file}
use Rattle.glk_dispatch.specs.CallRows.{opens_memory, answers, turns}

-- for a request of a window
abbrev requests : Scene → FlatState → List ℕ → Bool
requests w f args = may_ask w (arg args 0)

-- the case of a buffer's characters, where it has some: of the first, and of all others
abbrev changes_case : ℕ → ℕ → Case → (List ℕ → Case) → CallRow
changes_case number arguments first others =
    wants (λ w f args. nat_lt 0 (buffer_of args).count)
    (row_with number arguments (looking (λ w f args. buffer_to_case w f first (others args) args)))

-- ---- "How To Print": to the current stream, or to the first argument; what is put stands behind that

abbrev current : Scene → List ℕ → ℕ
current w args = w.current

abbrev first : Scene → List ℕ → ℕ
first w args = arg args 0

-- a character of a width, at a place of the arguments
abbrev puts_char : ℕ → ℕ → (Scene → List ℕ → ℕ) → ℕ → ℕ → CallRow
puts_char number arguments stream width at =
    wants (λ w f args. put_grows_one w (stream w args) (char_given width (arg args at)))
    (row_with number arguments (looking (λ w f args. put_char w f (stream w args) width (arg args at))))

-- a string of a width
abbrev puts_string : ℕ → ℕ → (Scene → List ℕ → ℕ) → ℕ → ℕ → CallRow
puts_string number arguments stream width at =
    wants (λ w f args. put_grows_some w (stream w args) (has_length (string_length f width (arg args at))))
    (row_with number arguments (looking (λ w f args. put_string w f (stream w args) width (arg args at))))

-- a buffer of a width, and behind it its count
abbrev puts_buffer : ℕ → ℕ → (Scene → List ℕ → ℕ) → ℕ → ℕ → ℕ → CallRow
puts_buffer number arguments stream width at count =
    wants (λ w f args. put_grows_some w (stream w args) (not (arg args count == 0)))
    (row_with number arguments
    (looking (λ w f args. put_buffer w f (stream w args) width (arg args at) (arg args count))))

-- output, input, the case of characters, styles
unfoldable pub text_calls : List CallRow
text_calls =
    puts_char texts.put_char 1 current 1 0 ∷
    on Stream (puts_char texts.put_char_stream 2 first 1 1) ∷
    puts_string texts.put_string 1 current 1 0 ∷
    on Stream (puts_string texts.put_string_stream 2 first 1 1) ∷
    puts_buffer texts.put_buffer 2 current 1 0 1 ∷
    on Stream (puts_buffer texts.put_buffer_stream 3 first 1 1 2) ∷
    row_with texts.set_style 1 (plain idles) ∷
    on Stream (row_with texts.set_style_stream 2 (plain idles)) ∷
    on Stream (row_with texts.get_char_stream 1 (looking (get_char 1))) ∷
    wants (is_given 2) (on Stream (row_with texts.get_line_stream 3 (looking (get_line 1)))) ∷
    wants get_buffer_grows (on Stream (row_with texts.get_buffer_stream 3 (looking (get_buffer 1)))) ∷
    row_with texts.char_to_lower 1 (plain (λ w args. char_to_case w case.Lower args)) ∷
    row_with texts.char_to_upper 1 (plain (λ w args. char_to_case w case.Upper args)) ∷
    row_with texts.stylehint_set 4 (plain idles) ∷
    row_with texts.stylehint_clear 3 (plain idles) ∷
    on Window (row_with texts.style_distinguish 3 (plain idles)) ∷
    on Window (row_with texts.style_measure 4 (plain idles)) ∷ []

-- events
unfoldable pub event_calls : List CallRow
event_calls =
    row_with texts.select 1 (turns select) ∷
    wants (is_given 0) (row_with texts.select_poll 1 (answers select_poll)) ∷
    wants requests (on Window (row_with texts.request_line_event 4 (plain (request_line_event false)))) ∷
    wants (is_given 1) (giving 1 4 (on Window (row_with texts.cancel_line_event 2 (answers cancel_line_event)))) ∷
    wants requests (on Window (row_with texts.request_char_event 1 (plain (request_char_event false)))) ∷
    on Window (row_with texts.cancel_char_event 1 (plain cancel_char_event)) ∷ []

-- the calls of Unicode, and the echo of line input
unfoldable pub unicode_calls : List CallRow
unicode_calls =
    changes_case texts.buffer_to_lower_case_uni 3 case.Lower (λ args. case.Lower) ∷
    changes_case texts.buffer_to_upper_case_uni 3 case.Upper (λ args. case.Upper) ∷
    changes_case texts.buffer_to_title_case_uni 4 case.Upper
    (λ args. if arg args 3 == 0 then case.Same else case.Lower) ∷
    puts_char texts.put_char_uni 1 current 4 0 ∷
    puts_string texts.put_string_uni 1 current 4 0 ∷
    puts_buffer texts.put_buffer_uni 2 current 4 0 1 ∷
    on Stream (puts_char texts.put_char_stream_uni 2 first 4 1) ∷
    on Stream (puts_string texts.put_string_stream_uni 2 first 4 1) ∷
    on Stream (puts_buffer texts.put_buffer_stream_uni 3 first 4 1 2) ∷
    on Stream (row_with texts.get_char_stream_uni 1 (looking (get_char 4))) ∷
    wants get_buffer_grows (on Stream (row_with texts.get_buffer_stream_uni 3 (looking (get_buffer 4)))) ∷
    wants (is_given 2) (on Stream (row_with texts.get_line_stream_uni 3 (looking (get_line 4)))) ∷
    opens_file selectors.stream_open_file_uni ∷
    opens_memory selectors.stream_open_memory_uni true ∷
    wants requests (on Window (row_with texts.request_char_event_uni 1 (plain (request_char_event true)))) ∷
    wants requests (on Window (row_with texts.request_line_event_uni 4 (plain (request_line_event true)))) ∷
    on Window (row_with texts.set_echo_line_event 2 (plain idles)) ∷ []
