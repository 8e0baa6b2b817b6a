-- A call that goes on after a load, a store or a question meets no fault.
use Rattle.std.proofs.Common.{◌≡◌, ◌≢◌, ℕ, ◌==◌, true, false, if◌then◌else◌, List, [], ◌∷◌, length, Option}
use Rattle.std.proofs.Common.{Some, None, Result, Ok, Err, IsOk, refl}
use Rattle.gx_words.specs.declared.faults.Fault.{Fault}
use Rattle.gx_words.specs.declared.faults.Fault.TheVariants as fault
use Rattle.gx_words.specs.Results.{◌>>=◌}
use Rattle.gx_outside.specs.declared.devices.Load.{Load}
use Rattle.gx_outside.specs.declared.devices.Load.TheVariants as of_load
use Rattle.gx_state.specs.Flat.{FlatState}
use Rattle.gx_state.specs.declared.effects.Reply.{Reply}
use Rattle.glk_streams.specs.Constants.{read_mode}
use Rattle.glk_world.specs.World.{WaitingCall, Scene, Said, FlatWorld, MakesCall, Outcome, answered, on_world, arg}
use Rattle.glk_replies.specs.Constants.{on_stack}
use Rattle.glk_replies.specs.Parts.{can_give, can_give_pair, can_push, pushes_for, give}
use Rattle.glk_replies.specs.declared.Turn.{Turn}
use Rattle.glk_replies.specs.declared.Turn.TheVariants.{Answer}
use Rattle.glk_replies.specs.declared.Given.{Given}
use Rattle.glk_replies.specs.declared.Given.TheVariants as given
use Rattle.glk_object_calls.specs.Answers.{tells}
use Rattle.glk_object_calls.specs.References.{open_with, open_goes_on}
use Rattle.glk_object_calls.specs.Streams.{counts, close}
use Rattle.glk_dispatch.specs.Going.{resumed, go_by, glk_go_on}
use Rattle.glk_dispatch.specs.Turns.{IsLookedBy, LookedIn, Looked, IsOfFile, MeetsNoFault}

-- ---- what the looks leave

both : (first second : Result (Unit {0}) Fault) → (first >>= λ _. second) ≡ Ok tt → (first ≡ Ok tt) × (second ≡ Ok tt)
both (Ok _) second is = (refl, is)
both (Err e) second is = absurd (cc)

pair_pushed : (at a b : ℕ) → length (pushes_for at (a ∷ b ∷ [])) ≡ (if at == on_stack then 2 else 0)
pair_pushed at a b = elim (at == on_stack) as (λ on. length (if on then a ∷ b ∷ [] else []) ≡ (if on then 2 else 0)) [
  | true ↦ refl
  | false ↦ refl
]

gives : (f : FlatState) (room at a b : ℕ) → can_give_pair f room at ≡ Ok tt → IsOk (give f room 0 at (a ∷ b ∷ []))
unfolding can_give_pair give
gives f room at a b looks =
    let parts = both (can_give f at 2) (can_push room (if at == on_stack then 2 else 0)) looks in
    rw (parts.0, pair_pushed at a b, parts.1) refl

then_done : (w : Scene) (replied : Result Reply Fault) → IsOk replied → IsOk (replied >>= λ reply. answered w reply)
then_done w (Ok reply) is = refl
then_done w (Err e) is = is

closes : (w : Scene) (f : FlatState) (room : ℕ) (args : List ℕ) → can_give_pair f room (arg args 1) ≡ Ok tt
    → IsOk (close w f room args)
unfolding close
closes w f room args looks =
    then_done _ (give f room 0 (arg args 1) (counts w (arg args 0)))
    (gives f room (arg args 1) _ _ looks)

opens : (w : Scene) (selector : ℕ) (args : List ℕ) (load : Load) → IsOk (open_goes_on w selector args load)
unfolding open_with
opens w selector args of_load.Missing =
    elim (arg args 1 == read_mode) as (λ b. IsOk (if b then tells w 0 else open_with w selector args [])) [
      | true ↦ refl
      | false ↦ refl
    ]
opens w selector args of_load.TooLong = refl
opens w selector args (of_load.Found bytes) = refl

resumes : (w : Scene) (f : FlatState) (room : ℕ) (call : WaitingCall) (g : Given) → IsOfFile g
    → IsLookedBy f room call g
    → IsOk (resumed w f room call g)
resumes w f room call (given.Line line) file looks = absurd file
resumes w f room call (given.Loaded load) file looks = opens w call.selector call.arguments load
resumes w f room call given.Stored file looks = closes w f room call.arguments looks
resumes w f room call (given.Was was) file looks = refl

then_turns : (outcome : Outcome Reply) → IsOk outcome
    → IsOk {T = Said × Turn} (outcome >>= λ done. Ok (done.0, Answer done.1))
then_turns (Ok done) is = refl
then_turns (Err e) is = is

goes_by : (waiting : Option WaitingCall) (w : Scene) (f : FlatState) (room : ℕ) (g : Given) → IsOfFile g
    → LookedIn f room waiting g → IsOk (go_by waiting w f room g)
goes_by None w f room g file looks = absurd looks
goes_by (Some call) w f room g file looks =
    then_turns (resumed (record w { waiting = None }) f room call g)
    (resumes (record w { waiting = None }) f room call g file looks)

goes_on : (w : Scene) (f : FlatState) (room : ℕ) (g : Given) → IsOfFile g → Looked f room w g
    → IsOk (glk_go_on w f room g)
unfolding glk_go_on Looked
goes_on w f room g file looks = goes_by w.waiting w f room g file looks

-- ---- so that nothing but want of memory is in the way

is_want : (e : Fault) → ((e ≢ fault.NoMemory) → ⊥) → e ≡ fault.NoMemory
is_want fault.NoMemory never = refl
is_want e never = absurd (never (λ same. cc))

no_fault : {X : Type 0} (old : FlatWorld) (outcome : Outcome X) (e : Fault) → IsOk outcome
    → on_world old outcome ≡ Err e → ⊥
no_fault old (Ok r) e fine is = absurd (cc)
no_fault old (Err other) e fine is = absurd (cc)

pub calm : (wants : Type 0) (result : Result Turn Fault) (old new : FlatWorld) (f : FlatState) (room : ℕ) (g : Given)
    → MakesCall wants result old new (glk_go_on old.scene f room g)
    → IsOfFile g → Looked f room old.scene g → MeetsNoFault result
calm wants (Ok turn) old new f room g is file looks = tt
calm wants (Err e) old new f room g is file looks =
    is_want e (λ other. no_fault old (glk_go_on old.scene f room g) e (goes_on old.scene f room g file looks)
    (is.1.0 other))
