-- The rows that take a turn, and an answer as a turn.
use Rattle.std.proofs.Common.{◌≡◌, ◌≢◌, ◌&&◌, not, ℕ, Bool, true, false, if◌then◌else◌, IsTrue, List, Option, Some}
use Rattle.std.proofs.Common.{None, is_some, Result, Ok}
use Rattle.std.proofs.Common.{Err, refl, subst, ◌==◌, ◌||◌, arith}
use Rattle.std.proofs.lemmas.Bool.Decides.{nat_tests}
use Rattle.std.proofs.lemmas.Grind.{common_steps}
use Rattle.std.proofs.lemmas.List.{append-nil}
use Rattle.std.specs.Prelude.{IfOk}
use Rattle.gx_words.specs.declared.faults.Fault.TheVariants.{BadGlk, NoMemory}
use Rattle.gx_words.specs.Faults.{Reads}
use Rattle.gx_words.specs.Results.{◌>>=◌}
use Rattle.gx_state.specs.Flat.{FlatState}
use Rattle.gx_state.specs.Replies.{IsReply}
use Rattle.glk_replies.specs.Parts.{replies, MayWant}
use Rattle.glk_replies.specs.Turns.{IsTurnFor}
use Rattle.glk_replies.specs.declared.Turn.{Turn}
use Rattle.gx_words.specs.declared.faults.Fault.{Fault}
use Rattle.gx_state.specs.declared.effects.Reply.{Reply}
use Rattle.glk_world.specs.World.{FlatWorld, MakesCall, Outcome, after, on_world, is_composed, arg}
use Rattle.glk_replies.specs.Numbers as selectors
use Rattle.glk_replies.specs.TextNumbers as texts
use Rattle.glk_replies.specs.declared.Turn.TheVariants.{Answer}
use Rattle.glk_object_calls.specs.Streams.{stream_close, file_to_store}
use Rattle.glk_object_calls.specs.References.{fileref_create_by_prompt, fileref_delete_file, fileref_does_file_exist}
use Rattle.glk_event_calls.specs.Events.{select}
use Rattle.glk_dispatch.specs.declared.table.ObjectClass.TheVariants.{Stream, Reference}
use Rattle.glk_object_calls.specs.Answers.{tells, replying, as_turn}
use Rattle.glk_dispatch.specs.Calls.{answer_turn}
use Rattle.glk_dispatch.specs.Ready.{wants_by, answer_by}
use Rattle.glk_dispatch.specs.CallRows.{CallRow, row_with, on, giving, taking_turn, wants, is_given, opens_file, turns}
use Rattle.glk_dispatch.specs.ObjectCalls.{exits, window_calls, stream_calls}
use Rattle.glk_dispatch.specs.TextCalls.{text_calls, event_calls, unicode_calls}
use Rattle.glk_dispatch.specs.Table.{row_for}

-- ---- the rows

pub exit_row : row_for selectors.exit ≡ Some (row_with selectors.exit 0 (taking_turn exits))
unfolding row_for window_calls
exit_row = refl

pub open_row : row_for selectors.stream_open_file ≡ Some (opens_file selectors.stream_open_file)
unfolding row_for window_calls stream_calls
open_row = refl

pub close_row : row_for selectors.stream_close
    ≡ Some (wants (λ w f args. is_given 1 w f args && not (is_some (file_to_store w (arg args 0))))
    (giving 1 2 (on Stream (row_with selectors.stream_close 2 (turns stream_close)))))
unfolding row_for window_calls stream_calls
close_row = refl

pub prompt_row : row_for selectors.fileref_create_by_prompt
    ≡ Some (wants (λ w f args. not (is_composed w))
    (row_with selectors.fileref_create_by_prompt 3 (taking_turn fileref_create_by_prompt)))
unfolding row_for window_calls stream_calls
prompt_row = refl

pub delete_row : row_for selectors.fileref_delete_file ≡ Some (wants (λ w f args. true)
    (on Reference (row_with selectors.fileref_delete_file 1 (taking_turn fileref_delete_file))))
unfolding row_for window_calls stream_calls
delete_row = refl

pub exist_row : row_for selectors.fileref_does_file_exist ≡ Some (wants (λ w f args. true)
    (on Reference (row_with selectors.fileref_does_file_exist 1 (taking_turn fileref_does_file_exist))))
unfolding row_for window_calls stream_calls
exist_row = refl

pub select_row : row_for texts.select ≡ Some (row_with texts.select 1 (turns select))
unfolding row_for window_calls stream_calls text_calls event_calls
select_row = refl

pub open_uni_row : row_for selectors.stream_open_file_uni ≡ Some (opens_file selectors.stream_open_file_uni)
unfolding row_for window_calls stream_calls text_calls event_calls unicode_calls
open_uni_row = refl

-- ---- an answer as a turn

pub makes_turn : (grows : Type 0) (result : Result Reply Fault) (old new : FlatWorld) (outcome : Outcome Reply)
    → MakesCall grows result old new outcome → MakesCall grows (answer_turn result) old new (as_turn outcome)
makes_turn grows (Ok reply) old new (Ok r) is =
    let e : (after old r.0, r.1) ≡ (new, reply) = (cc) in
    subst (λ (x : FlatWorld × Reply). on_world old (as_turn (Ok r)) ≡ Ok (x.0, Answer x.1)) e refl
makes_turn grows (Ok reply) old new (Err e) is = absurd (cc)
makes_turn grows (Err e) old new (Ok r) is = (is.0, ((λ other. absurd (let h = is.1.0 other in cc)), is.1.1))
makes_turn grows (Err e) old new (Err other) is = (is.0, ((λ it. let h = is.1.0 it in cc), is.1.1))

pub turn_fits : (f : FlatState) (room : ℕ) (result : Result Reply Fault) → IfOk result (IsReply f room)
    → IfOk (answer_turn result) (IsTurnFor f room)
turn_fits f room (Ok reply) fits = fits
turn_fits f room (Err e) fits = tt

-- so is that of a selector without a row
pub dropped_turns : (wants : Type 0) (result : Result Reply Fault) (w : FlatWorld) (drops : Bool)
    → Reads (λ reply. reply) result (if drops then Ok (replies 0) else Err BadGlk)
    → MakesCall wants (answer_turn result) w w (if drops then as_turn (tells w.scene 0) else Err BadGlk)
dropped_turns wants (Ok reply) w true is =
    let same : replies 0 ≡ reply = (cc) in
    subst (λ (x : Reply). on_world w (as_turn (tells w.scene 0)) ≡ Ok (w, Answer x)) same (rw (append-nil w.text) refl)
dropped_turns wants (Ok reply) w false is = absurd (cc)
dropped_turns wants (Err e) w true is = absurd (let h = is.0 in cc)
dropped_turns wants (Err e) w false is =
    let same : BadGlk ≡ e = (let h = is.0 in cc) in
    subst (λ (x : Fault). MakesCall {X = Turn} wants (Err x) w w (Err BadGlk)) same
    ((λ _. refl), ((λ _. refl), (λ none. absurd (cc))))

-- what stands behind a look that is refused isn't done
pub look_refused : {X : Type 0} (wants : Type 0) (e : Fault) (w : FlatWorld) (look : Result (Unit {0}) Fault)
    (made : Outcome X) → (look ≡ Err e) × (e ≢ NoMemory) → MakesCall wants (Err e) w w (look >>= λ _. made)
look_refused wants e w look made is = rw is.0 ((λ _. refl), ((λ _. refl), (λ same. absurd (is.1 same))))

-- ---- what a call wants, by its row

pub never_wants : {X : Type 0} (result : Result X Fault) (old new : FlatWorld) (outcome : Outcome X)
    → MakesCall ⊥ result old new outcome → MakesCall (IsTrue false) result old new outcome
never_wants (Ok x) old new outcome is = is
never_wants (Err e) old new outcome is = (is.0, (is.1.0, (λ free. absurd (is.1.1 free).0)))

pub may_want : {X : Type 0} (result : Result X Fault) (old new : FlatWorld) (outcome : Outcome X)
    → MakesCall (Unit {0}) result old new outcome → MakesCall (IsTrue true) result old new outcome
may_want (Ok x) old new outcome is = is
may_want (Err e) old new outcome is = (is.0, (is.1.0, (λ free. (refl, (is.1.1 free).1))))

-- a selector without a row is no call
pub no_call : (row : Option CallRow) (w : FlatWorld) (f : FlatState) (room : ℕ) (args : List ℕ) → row ≡ None
    → MakesCall {X = Reply} (IsTrue (wants_by row w.scene f args)) (Err BadGlk) w w (answer_by row w.scene f room args)
no_call row w f room args none = rw none ((λ _. refl), ((λ _. refl), (λ same. absurd (cc))))

-- ---- a call that gives to references

pub gives_some : (wants also : Type 0) (result : Result Reply Fault) (w : FlatWorld) (given : Result Reply Fault)
    → (wants → also) → MayWant wants (λ reply. reply) result given
    → MakesCall also result w w (replying w.scene given)
gives_some wants also (Ok reply) w given more is = rw is (rw (append-nil w.text) refl)
gives_some wants also (Err e) w (Ok reply) more is =
    ((λ _. refl), ((λ other. absurd (let h = is.0 other in cc)), (λ none. (more (is.1 none).0, refl))))
gives_some wants also (Err e) w (Err other) more is =
    ((λ _. refl), ((λ it. let h = is.0 it in cc), (λ none. (more (is.1 none).0, (is.1 none).1))))

pub one_given : (a : ℕ) → a ≢ 0 → IsTrue (not (a == 0) || false || false)
one_given a some = grind (arith, nat_tests, common_steps)

pub two_given : (a b : Bool) → IsTrue (a || (b || false)) → IsTrue (a || b || false)
two_given true b some = refl
two_given false true some = refl
two_given false false some = some
