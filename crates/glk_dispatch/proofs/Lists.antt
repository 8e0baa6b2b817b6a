-- The row of a selector stands in the list of the table that has its numbers, and answers at once or takes a turn.
use Rattle.std.proofs.Common.{◌≡◌, ◌⊎◌, ◌<◌, ◌≤◌, ◌==◌, ◌&&◌, ◌||◌, ◌++◌, nat_lt, nat_le, ℕ, Bool, true, false}
use Rattle.std.proofs.Common.{if◌then◌else◌, List, [], ◌∷◌, Option, Some, None, refl}
use Rattle.std.proofs.Common.{inl, inr, arith, ap, ◌∙◌}
use Rattle.std.specs.List.{list_all}
use Rattle.std.specs.Option.{option_or}
use Rattle.std.proofs.lemmas.Bool.Decides.{nat_tests}
use Rattle.std.proofs.lemmas.List.Folds.{find-append}
use Rattle.glk_replies.specs.Numbers as selectors
use Rattle.glk_replies.specs.TextNumbers as texts
use Rattle.gx_state.specs.Flat.{FlatState}
use Rattle.glk_world.specs.World.{Scene}
use Rattle.glk_dispatch.specs.CallRows.{Doing, answers, turns, CallRow}
use Rattle.glk_dispatch.specs.ObjectCalls.{window_calls, stream_calls}
use Rattle.glk_dispatch.specs.TextCalls.{text_calls, event_calls, unicode_calls}
use Rattle.glk_dispatch.specs.Table.{call_table, row_in, row_for}
use Rattle.glk_object_calls.specs.Answers.{as_turn}
use Rattle.glk_dispatch.specs.Calls.{done}
use Rattle.glk_dispatch.specs.Ready.{takes_turn, answers_at_once, answering, answering_below, answering_from}
use Rattle.glk_dispatch.specs.Ready.{row_answer, answer_by, done_by, arranging_row, window_call_row, stream_row}
use Rattle.glk_dispatch.specs.Ready.{reference_row, output_row, input_row, event_row, unicode_output_row}
use Rattle.glk_dispatch.specs.Ready.{unicode_input_row}

-- rows of other selectors
abbrev others : ℕ → List CallRow → Type 0
others number rows = row_in rows number ≡ None

both : (a b : Bool) → (a && b) ≡ true → (a ≡ true) × (b ≡ true)
both true b h = (refl, h)
both false b h = absurd (cc)

abbrev below : ℕ → CallRow → Bool
below bound row = nat_lt row.looks.number bound

abbrev from : ℕ → CallRow → Bool
from bound row = nat_le bound row.looks.number

below_are_others : (number bound : ℕ) (rows : List CallRow) → list_all (below bound) rows ≡ true → bound ≤ number
    → others number rows
below_are_others number bound [] all reached = refl
below_are_others number bound (row ∷ rows) all reached =
    let b = both (below bound row) (list_all (below bound) rows) all in
    let other : (row.looks.number == number) ≡ false = grind (arith, nat_tests, b.0, reached) in
    rw other (below_are_others number bound rows b.1 reached)

above_are_others : (number bound : ℕ) (rows : List CallRow) → list_all (from bound) rows ≡ true → number < bound
    → others number rows
above_are_others number bound [] all until = refl
above_are_others number bound (row ∷ rows) all until =
    let b = both (from bound row) (list_all (from bound) rows) all in
    let other : (row.looks.number == number) ≡ false = grind (arith, nat_tests, b.0, until) in
    rw other (above_are_others number bound rows b.1 until)

or_none : (a : Option CallRow) → option_or a None ≡ a
or_none None = refl
or_none (Some row) = refl

behind : (number : ℕ) (rows more : List CallRow) → others number rows → row_in (rows ++ more) number ≡ row_in more number
behind number rows more none =
    find-append (λ row. row.looks.number == number) rows more ∙ ap (λ found. option_or found (row_in more number)) none

before : (number : ℕ) (rows more : List CallRow) → others number more → row_in (rows ++ more) number ≡ row_in rows number
before number rows more none =
    find-append (λ row. row.looks.number == number) rows more
    ∙ (ap (λ found. option_or (row_in rows number) found) none ∙ or_none (row_in rows number))

-- what stands behind each list
abbrev behind_windows : List CallRow
behind_windows = stream_calls ++ (text_calls ++ (event_calls ++ unicode_calls))

abbrev behind_streams : List CallRow
behind_streams = text_calls ++ (event_calls ++ unicode_calls)

abbrev behind_texts : List CallRow
behind_texts = event_calls ++ unicode_calls

not_windows : (number : ℕ) → selectors.stream_iterate ≤ number → row_for number ≡ row_in behind_windows number
unfolding row_for window_calls
not_windows number reached =
    behind number window_calls behind_windows
    (below_are_others number selectors.stream_iterate window_calls refl reached)

not_streams : (number : ℕ) → texts.put_char ≤ number → row_for number ≡ row_in behind_streams number
unfolding stream_calls
not_streams number reached =
    not_windows number (omega arith)
    ∙ behind number stream_calls behind_streams
    (below_are_others number texts.put_char stream_calls refl reached)

not_texts : (number : ℕ) → texts.select ≤ number → row_for number ≡ row_in behind_texts number
unfolding text_calls
not_texts number reached =
    not_streams number (omega arith)
    ∙ behind number text_calls behind_texts (below_are_others number texts.select text_calls refl reached)

-- ---- those that answer at once

true_or_false : (b : Bool) → (b ≡ true) ⊎ (b ≡ false)
true_or_false true = inl refl
true_or_false false = inr refl

-- a row that takes a turn has one of the numbers of those
abbrev is_known : CallRow → Bool
is_known row = answers_at_once row.does || takes_turn row.looks.number

same_number : (a b : ℕ) → (a == b) ≡ true → takes_turn a ≡ takes_turn b
same_number a b is = let same : a ≡ b = grind (arith, nat_tests, is) in ap (λ n. takes_turn n) same

-- a row of another number
not_the_turn : (a b : ℕ) → takes_turn a ≡ true → takes_turn b ≡ false → (a == b) ≡ false
not_the_turn a b turn none = elim (true_or_false (a == b)) [
  | inl is ↦ absurd (let same = same_number a b is in cc)
  | inr other ↦ other
]

-- a row that is left out has another number
left_out : (within : ℕ → Bool) (number : ℕ) (row : CallRow) → is_known row ≡ true → takes_turn number ≡ false
    → within number ≡ true → (within row.looks.number && answers_at_once row.does) ≡ false
    → (row.looks.number == number) ≡ false
left_out within number row known none inside out = elim (true_or_false (row.looks.number == number)) [
  | inl is ↦
      let same : row.looks.number ≡ number = grind (arith, nat_tests, is) in
      let here : within row.looks.number ≡ true = ap within same ∙ inside in
      let turns : answers_at_once row.does ≡ false = rw here at out in
      not_the_turn row.looks.number number (rw turns at known) none
  | inr other ↦ other
]

at_once_row : (stays : Bool) (number : ℕ) (row : CallRow) (rest more : List CallRow)
    → (stays ≡ false → (row.looks.number == number) ≡ false) → row_in rest number ≡ row_in more number
    → row_in (row ∷ rest) number ≡ row_in (if stays then row ∷ more else more) number
at_once_row true number row rest more other same =
    ap (λ (r : Option CallRow). if row.looks.number == number then Some row else r) same
at_once_row false number row rest more other same = rw (other refl) same

at_once : (within : ℕ → Bool) (number : ℕ) (rows : List CallRow) → list_all is_known rows ≡ true
    → takes_turn number ≡ false → within number ≡ true → row_in rows number ≡ row_in (answering within rows) number
at_once within number [] all none inside = refl
at_once within number (row ∷ rows) all none inside =
    let b = both (is_known row) (list_all is_known rows) all in
    at_once_row (within row.looks.number && answers_at_once row.does) number row rows (answering within rows)
    (left_out within number row b.0 none inside) (at_once within number rows b.1 none inside)

once_below : (bound number : ℕ) (rows : List CallRow) → list_all is_known rows ≡ true → takes_turn number ≡ false
    → number < bound → row_in rows number ≡ row_in (answering_below bound rows) number
once_below bound number rows all none until =
    at_once (λ n. nat_lt n bound) number rows all none (grind (arith, nat_tests, until))

once_from : (bound number : ℕ) (rows : List CallRow) → list_all is_known rows ≡ true → takes_turn number ≡ false
    → bound ≤ number → row_in rows number ≡ row_in (answering_from bound rows) number
once_from bound number rows all none reached =
    at_once (λ n. nat_le bound n) number rows all none (grind (arith, nat_tests, reached))

row_answers : (does : Doing) (at number : ℕ) (w : Scene) (f : FlatState) (room : ℕ) (args : List ℕ)
    → (answers_at_once does || takes_turn at) ≡ true → (at == number) ≡ true → takes_turn number ≡ false
    → done does w f room args ≡ as_turn (row_answer does w f room args)
row_answers (answers call) at number w f room args known here none = refl
row_answers (turns call) at number w f room args known here none =
    absurd (let same = same_number at number here in cc)

rows_answer : (number : ℕ) (rows : List CallRow) (w : Scene) (f : FlatState) (room : ℕ) (args : List ℕ)
    → list_all is_known rows ≡ true → takes_turn number ≡ false
    → done_by (row_in rows number) w f room args ≡ as_turn (answer_by (row_in rows number) w f room args)
rows_answer number [] w f room args all none = refl
rows_answer number (row ∷ rows) w f room args all none =
    let b = both (is_known row) (list_all is_known rows) all in
    elim (true_or_false (row.looks.number == number)) [
      | inl here ↦ rw here (row_answers row.does row.looks.number number w f room args b.0 here none)
      | inr other ↦ rw other (rows_answer number rows w f room args b.1 none)
    ]

pub call_answers : (number : ℕ) (w : Scene) (f : FlatState) (room : ℕ) (args : List ℕ) → takes_turn number ≡ false
    → done_by (row_for number) w f room args ≡ as_turn (answer_by (row_for number) w f room args)
unfolding row_for window_calls stream_calls text_calls event_calls unicode_calls
call_answers number w f room args none = rows_answer number call_table w f room args refl none

-- ---- by the lists

of_windows : (number : ℕ) → number < selectors.stream_iterate → row_for number ≡ row_in window_calls number
unfolding row_for stream_calls text_calls event_calls unicode_calls
of_windows number until =
    before number window_calls behind_windows
    (above_are_others number selectors.stream_iterate behind_windows refl until)

of_streams : (number : ℕ) → selectors.stream_iterate ≤ number → number < texts.put_char
    → row_for number ≡ row_in stream_calls number
unfolding text_calls event_calls unicode_calls
of_streams number reached until =
    not_windows number reached
    ∙ before number stream_calls behind_streams
    (above_are_others number texts.put_char behind_streams refl until)

of_texts : (number : ℕ) → texts.put_char ≤ number → number < texts.select
    → row_for number ≡ row_in text_calls number
unfolding event_calls unicode_calls
of_texts number reached until =
    not_streams number reached
    ∙ before number text_calls behind_texts (above_are_others number texts.select behind_texts refl until)

of_events : (number : ℕ) → texts.select ≤ number → number < texts.buffer_to_lower_case_uni
    → row_for number ≡ row_in event_calls number
unfolding unicode_calls
of_events number reached until =
    not_texts number reached
    ∙ before number event_calls unicode_calls
    (above_are_others number texts.buffer_to_lower_case_uni unicode_calls refl until)

of_unicode : (number : ℕ) → texts.buffer_to_lower_case_uni ≤ number → row_for number ≡ row_in unicode_calls number
unfolding event_calls
of_unicode number reached =
    not_texts number (omega arith)
    ∙ behind number event_calls unicode_calls
    (below_are_others number texts.buffer_to_lower_case_uni event_calls refl reached)

-- ---- by the functions that do them

pub of_arranging : (number : ℕ) → takes_turn number ≡ false → number < selectors.window_get_type
    → row_for number ≡ arranging_row number
unfolding window_calls
of_arranging number none until =
    of_windows number (omega arith) ∙ once_below selectors.window_get_type number window_calls refl none until

pub of_window : (number : ℕ) → takes_turn number ≡ false → selectors.window_get_type ≤ number
    → number < selectors.stream_iterate → row_for number ≡ window_call_row number
unfolding window_calls
of_window number none reached until =
    of_windows number until ∙ once_from selectors.window_get_type number window_calls refl none reached

pub of_stream : (number : ℕ) → takes_turn number ≡ false → selectors.stream_iterate ≤ number
    → number < selectors.fileref_create_temp → row_for number ≡ stream_row number
unfolding stream_calls
of_stream number none reached until =
    of_streams number reached (omega arith)
    ∙ once_below selectors.fileref_create_temp number stream_calls refl none until

pub of_reference : (number : ℕ) → takes_turn number ≡ false → selectors.fileref_create_temp ≤ number
    → number < texts.put_char → row_for number ≡ reference_row number
unfolding stream_calls
of_reference number none reached until =
    of_streams number (omega arith) until
    ∙ once_from selectors.fileref_create_temp number stream_calls refl none reached

pub of_output : (number : ℕ) → takes_turn number ≡ false → texts.put_char ≤ number → number < texts.get_char_stream
    → row_for number ≡ output_row number
unfolding text_calls
of_output number none reached until =
    of_texts number reached (omega arith) ∙ once_below texts.get_char_stream number text_calls refl none until

pub of_input : (number : ℕ) → takes_turn number ≡ false → texts.get_char_stream ≤ number → number < texts.select
    → row_for number ≡ input_row number
unfolding text_calls
of_input number none reached until =
    of_texts number (omega arith) until ∙ once_from texts.get_char_stream number text_calls refl none reached

pub of_event : (number : ℕ) → takes_turn number ≡ false → texts.select ≤ number
    → number < texts.buffer_to_lower_case_uni → row_for number ≡ event_row number
unfolding event_calls
of_event number none reached until =
    of_events number reached until ∙ once_from texts.select number event_calls refl none reached

pub of_unicode_output : (number : ℕ) → takes_turn number ≡ false → texts.buffer_to_lower_case_uni ≤ number
    → number < texts.get_char_stream_uni → row_for number ≡ unicode_output_row number
unfolding unicode_calls
of_unicode_output number none reached until =
    of_unicode number reached ∙ once_below texts.get_char_stream_uni number unicode_calls refl none until

pub of_unicode_input : (number : ℕ) → takes_turn number ≡ false → texts.get_char_stream_uni ≤ number
    → row_for number ≡ unicode_input_row number
unfolding unicode_calls
of_unicode_input number none reached =
    of_unicode number (omega arith) ∙ once_from texts.get_char_stream_uni number unicode_calls refl none reached
