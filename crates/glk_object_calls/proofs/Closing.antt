-- A stream is closed at once where no file has to be stored, and waits where one has to be.
use Rattle.std.proofs.Common.{◌≡◌, ◌==◌, ◌&&◌, not, ℕ, Bool, true, false, List, Option, Some, None, Result, Ok, Err}
use Rattle.std.proofs.Common.{is_some, IsTrue, IsOk, refl, ap, ◌∙◌, if◌then◌else◌}
use Rattle.std.proofs.lemmas.List.{append-nil}
use Rattle.gx_words.specs.declared.faults.Fault.{Fault}
use Rattle.gx_state.specs.Flat.{FlatState}
use Rattle.gx_state.specs.declared.effects.Reply.{Reply}
use Rattle.glk_world.specs.World.{Scene, FlatWorld, Outcome, on_world, MakesCall, arg, after, silent, waits}
use Rattle.glk_world.specs.Calls.{without_file}
use Rattle.glk_streams.specs.Stream as one
use Rattle.glk_streams.specs.Streams as streams
use Rattle.glk_replies.specs.Numbers as selectors
use Rattle.glk_replies.specs.Parts.{can_give_pair}
use Rattle.glk_replies.specs.declared.Turn.{Turn}
use Rattle.glk_replies.specs.declared.Turn.TheVariants.{Answer, Store}
use Rattle.glk_object_calls.specs.Answers.{as_turn}
use Rattle.glk_object_calls.specs.Streams.{stream_of, file_to_store, close, closing_by, stream_close}

stored_none : (file : Option (List ℕ × List ℕ)) (w : Scene) (f : FlatState) (room : ℕ) (args : List ℕ)
    → is_some file ≡ false → closing_by file w f room args ≡ as_turn (close w f room args)
stored_none None w f room args none = refl
stored_none (Some file) w f room args none = absurd (cc)

abbrev turned : Result (FlatWorld × Reply) Fault → Result (FlatWorld × Turn) Fault
turned (Ok done) = Ok (done.0, Answer done.1)
turned (Err e) = Err e

on_answering : (old : FlatWorld) (outcome : Outcome Reply)
    → on_world old (as_turn outcome) ≡ turned (on_world old outcome)
on_answering old (Ok r) = refl
on_answering old (Err e) = refl

fine : (old : FlatWorld) (outcome : Outcome Reply) → IsOk (on_world old outcome)
    → IsOk (on_world old (as_turn outcome))
fine old (Ok r) is = refl
fine old (Err e) is = is

both : (a b : Bool) → IsTrue a → b ≡ false → IsTrue (a && not b)
both true b is none = rw none refl
both false b is none = is

-- the answer of a call as a turn's
abbrev pub answering : Result Reply Fault → Result Turn Fault
answering (Ok reply) = Ok (Answer reply)
answering (Err e) = Err e

pub turns : (wants more : Type 0) (old new : FlatWorld) (outcome : Outcome Reply) (result : Result Reply Fault)
    → (wants → more) → MakesCall wants result old new outcome
    → MakesCall more (answering result) old new (as_turn outcome)
turns wants more old new outcome (Ok reply) into is = on_answering old outcome ∙ ap turned is
turns wants more old new outcome (Err e) into refused = (
  refused.0,
  (
    λ other. on_answering old outcome ∙ ap turned (refused.1.0 other),
    λ wanted. (into (refused.1.1 wanted).0, fine old outcome (refused.1.1 wanted).1),
  ),
)

pub closes_now : (old new : FlatWorld) (f : FlatState) (room : ℕ) (args : List ℕ) (result : Result Reply Fault)
    → is_some (file_to_store old.scene (arg args 0)) ≡ false
    → MakesCall (IsTrue (not (arg args 1 == 0))) result old new (close old.scene f room args)
    → MakesCall (IsTrue (not (arg args 1 == 0) && not (is_some (file_to_store old.scene (arg args 0)))))
    (answering result)
    old new (stream_close old.scene f room args)
unfolding stream_close
closes_now old new f room args result none is =
    rw (stored_none (file_to_store old.scene (arg args 0)) old.scene f room args none) (turns _ _ old new
    (close old.scene f room args) result
    (λ wanted. both (not (arg args 1 == 0)) (is_some (file_to_store old.scene (arg args 0))) wanted none) is)

kept : (writes : Bool) (found : Option (List ℕ × List ℕ)) (file : List ℕ × List ℕ)
    → is_some (if writes then found else None) ≡ true → found ≡ Some file → (if writes then found else None) ≡ Some file
kept true found file some is = is
kept false found file some is = absurd (cc)

pub stores : (old taken new : FlatWorld) (f : FlatState) (room id at : ℕ) (args : List ℕ) (file : List ℕ × List ℕ)
    → id ≡ arg args 0 → at ≡ arg args 1 → is_some (file_to_store old.scene id) ≡ true
    → streams.file_of old.scene.streams id ≡ Some file → can_give_pair f room at ≡ Ok tt
    → taken ≡ after old (silent (without_file old.scene id))
    → new ≡ after taken (silent (waits taken.scene selectors.stream_close args))
    → on_world old (stream_close old.scene f room args) ≡ Ok (new, Store file.0 file.1)
unfolding stream_close
stores old taken new f room id at args file of to some is there takes waited =
    let stored = rw of at (kept (one.writable (stream_of old.scene id))
    (streams.file_of old.scene.streams id) file some is)
    in rw (waited, takes, stored, ← to, there, append-nil old.text, append-nil old.text) (rw of refl)
