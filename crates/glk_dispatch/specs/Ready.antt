-- What the calls of a row rest on, once its arguments were looked at.
use Rattle.std.specs.Prelude.{◌≡◌, ◌⊎◌, ℕ, ◌==◌, ◌||◌, ◌&&◌, nat_le, nat_lt, if◌then◌else◌, Bool, true, false}
use Rattle.std.specs.Prelude.{List, [], ◌∷◌, Option, Some, None, Err}
use Rattle.gx_words.specs.declared.faults.Fault.TheVariants.{BadGlk}
use Rattle.gx_words.specs.Results.{◌>>=◌}
use Rattle.gx_state.specs.Flat.{FlatState}
use Rattle.gx_state.specs.declared.effects.Reply.{Reply}
use Rattle.glk_world.specs.World.{Scene, Outcome, arg}
use Rattle.glk_replies.specs.Numbers as selectors
use Rattle.glk_replies.specs.TextNumbers as texts
use Rattle.glk_replies.specs.declared.Turn.{Turn}
use Rattle.glk_object_calls.specs.Answers.{tells, as_turn}
use Rattle.glk_dispatch.specs.declared.table.ObjectClass.{ObjectClass}
use Rattle.glk_dispatch.specs.declared.table.Selector.{Selector}
use Rattle.glk_dispatch.specs.CallRows.{Doing, answers, turns, CallRow}
use Rattle.glk_dispatch.specs.ObjectCalls.{window_calls, stream_calls}
use Rattle.glk_dispatch.specs.TextCalls.{text_calls, event_calls, unicode_calls}
use Rattle.glk_dispatch.specs.Table.{row_in, is_dropped}
use Rattle.glk_dispatch.specs.Calls.{has_object, looked_at, is_on_none, nothing, done, gives_nothing}

abbrev pub IsObject : Scene → ObjectClass → ℕ → Type 0
IsObject w class id = has_object w class id ≡ true

-- the object 0, or one that is there
abbrev pub IsNamed : Scene → ObjectClass → ℕ → Type 0
IsNamed w class id = (id ≡ 0) ⊎ IsObject w class id

-- the first argument of a row that needs it isn't 0
abbrev pub IsFirst : Bool → Scene → ObjectClass → ℕ → Type 0
IsFirst true w class id = IsObject w class id
IsFirst false w class id = IsNamed w class id

-- the objects that a row names are there
abbrev pub IsReady : Selector → Scene → List ℕ → Type 0
IsReady row w args = IsFirst row.needs_first w row.first (arg args 0) × IsNamed w row.other (arg args row.other_place)

abbrev pub IsReadyBy : Option CallRow → Scene → List ℕ → Type 0
IsReadyBy None w args = Unit {0}
IsReadyBy (Some row) w args = IsReady row.looks w args

-- what a row does, and where it may want memory; no row is no call
abbrev pub done_by : Option CallRow → Scene → FlatState → ℕ → List ℕ → Outcome Turn
done_by None w f room args = Err BadGlk
done_by (Some row) w f room args = done row.does w f room args

abbrev pub wants_by : Option CallRow → Scene → FlatState → List ℕ → Bool
wants_by None w f args = false
wants_by (Some row) w f args = row.wants w f args

-- ---- the rows that answer at once, and those that take a turn

-- the selectors of the calls that take a turn
abbrev pub takes_turn : ℕ → Bool
takes_turn selector =
    selector == selectors.exit || selector == selectors.stream_open_file || selector == selectors.stream_close
    || selector == selectors.fileref_create_by_prompt || selector == selectors.fileref_delete_file
    || selector == selectors.fileref_does_file_exist || selector == texts.select
    || selector == selectors.stream_open_file_uni

abbrev pub answers_at_once : Doing → Bool
answers_at_once (answers call) = true
answers_at_once (turns call) = false

-- the rows of a list that answer at once, of some selectors
abbrev pub answering : (ℕ → Bool) → List CallRow → List CallRow
answering within [] = []
answering within (row ∷ rows) =
    if within row.looks.number && answers_at_once row.does then row ∷ answering within rows else answering within rows

-- below a selector, and from it on
abbrev pub answering_below : ℕ → List CallRow → List CallRow
answering_below bound rows = answering (λ number. nat_lt number bound) rows

abbrev pub answering_from : ℕ → List CallRow → List CallRow
answering_from bound rows = answering (λ number. nat_le bound number) rows

-- those of a selector, in the groups in which the code does them
abbrev pub arranging_row : ℕ → Option CallRow
arranging_row selector = row_in (answering_below selectors.window_get_type window_calls) selector

abbrev pub window_call_row : ℕ → Option CallRow
window_call_row selector = row_in (answering_from selectors.window_get_type window_calls) selector

abbrev pub stream_row : ℕ → Option CallRow
stream_row selector = row_in (answering_below selectors.fileref_create_temp stream_calls) selector

abbrev pub reference_row : ℕ → Option CallRow
reference_row selector = row_in (answering_from selectors.fileref_create_temp stream_calls) selector

abbrev pub output_row : ℕ → Option CallRow
output_row selector = row_in (answering_below texts.get_char_stream text_calls) selector

abbrev pub input_row : ℕ → Option CallRow
input_row selector = row_in (answering_from texts.get_char_stream text_calls) selector

abbrev pub event_row : ℕ → Option CallRow
event_row selector = row_in (answering_from texts.select event_calls) selector

abbrev pub unicode_output_row : ℕ → Option CallRow
unicode_output_row selector = row_in (answering_below texts.get_char_stream_uni unicode_calls) selector

abbrev pub unicode_input_row : ℕ → Option CallRow
unicode_input_row selector = row_in (answering_from texts.get_char_stream_uni unicode_calls) selector

-- what such a row answers
abbrev pub row_answer : Doing → Scene → FlatState → ℕ → List ℕ → Outcome Reply
row_answer (answers call) w f room args = call w f room args
row_answer (turns call) w f room args = Err BadGlk

abbrev pub answer_by : Option CallRow → Scene → FlatState → ℕ → List ℕ → Outcome Reply
answer_by None w f room args = Err BadGlk
answer_by (Some row) w f room args = row_answer row.does w f room args

-- ---- a call by the looks of its row, and by what the row does and wants

abbrev pub call_on : Selector → Outcome Turn → Scene → FlatState → ℕ → List ℕ → Outcome Turn
call_on looks does w f room args = if is_on_none looks args then as_turn (nothing w f room looks args) else does

abbrev pub call_looked : Option Selector → Outcome Turn → Scene → FlatState → ℕ → ℕ → List ℕ → Outcome Turn
call_looked None does w f room selector args = if is_dropped selector then as_turn (tells w 0) else Err BadGlk
call_looked (Some looks) does w f room selector args = do
  there ← looked_at w looks args
  call_on looks does w f room args

abbrev pub wants_on : Selector → Bool → List ℕ → Bool
wants_on looks wants args = if is_on_none looks args then gives_nothing looks args else wants

abbrev pub wants_looked : Option Selector → Bool → List ℕ → Bool
wants_looked None wants args = false
wants_looked (Some looks) wants args = wants_on looks wants args
