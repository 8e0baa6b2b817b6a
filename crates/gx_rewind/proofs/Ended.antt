-- The last of a machine's steps is recorded.
use Rattle.std.proofs.Common.{◌≡◌, ◌≢◌, ◌+◌, ◌-◌, ◌^◌, ◌≤◌, ℕ, [], ◌∷◌, Option, Some, None, IsSome, IfSome, Ok, refl}
use Rattle.std.proofs.Common.{ap, subst, sym, ◌∙◌, arith}
use Rattle.gx_state.specs.declared.effects.Effect.{Effect}
use Rattle.gx_state.specs.declared.effects.Effect.TheVariants.{Went, Drew, Put, Glk, Save, Restore, Quit, Spent}
use Rattle.gx_machine.specs.declared.askings.Asking.{Asking}
use Rattle.gx_machine.specs.declared.askings.Asking.TheVariants as asking
use Rattle.gx_machine.specs.Advancing.{logged_by}
use Rattle.gx_machine.specs.Log.{Log}
use Rattle.gx_machine.specs.Machine.{FlatMachine, Whole}
use Rattle.gx_machine.specs.Step.{asking_of, cost_of, step_of, stepped}
use Rattle.gx_rewind.specs.declared.books.Book.{Book}
use Rattle.gx_rewind.specs.declared.books.Taken.TheVariants as taken
use Rattle.gx_rewind.specs.Path.{machine_after_step, machine_after_event, answered_by_nothing, IsFit, IsQuiet}
use Rattle.gx_rewind.specs.Views.{HasEnded, IsBook, IsPendingEvent}
use Rattle.gx_rewind.proofs.Calm.{never-spent}
use Rattle.gx_rewind.proofs.Passing.{quiet}
use Rattle.gx_rewind.proofs.Steps.{step-done, step-left}
use Rattle.gx_rewind.proofs.Words.{same-step}

-- what a step took is its cost
pub costs : (before new : Whole) (word budget left cost : ℕ) (e : Effect) → e ≢ Spent
    → stepped before word budget ≡ Ok ((new, left), e) → cost ≡ budget - left → cost ≡ cost_of before.machine
costs before new word budget left cost e unspent step is =
    let d = step-done before word budget new left e unspent step in
    let enough = d.enough in
    let left_is = d.left_is in
    omega (arith, enough, left_is, is)

pub none-asked : {A : Type 0} (b : Book A) (new : Whole) → new.asking ≡ None
    → IfSome new.asking (IsPendingEvent b new.machine)
none-asked b new none = subst (λ (a : Option Asking). IfSome a (IsPendingEvent b new.machine)) (sym none) tt

-- such an event took nothing
pub quiet-fit : (A : Type 0) (before new : Whole) (word budget left : ℕ) (e : Effect) → e ≢ Spent → e ≢ Drew
    → IsQuiet e → stepped before word budget ≡ Ok ((new, left), e) → IsFit {A = A} before.machine None
quiet-fit A before new word budget left e unspent undrawn plain step = (
  new.machine,
  e,
  same-step before.machine word new.machine e undrawn
      (step-done before word budget new left e unspent step).step,
  plain,
)

-- one that took a word drew it
pub drew-fit : (A : Type 0) (before new : Whole) (word budget left : ℕ)
    → stepped before word budget ≡ Ok ((new, left), Drew) → IsFit {A = A} before.machine (Some (taken.Word word))
drew-fit A before new word budget left step =
    (new.machine, (step-done before word budget new left Drew (λ no. cc) step).step)

-- an event that took nothing has ended
pub ended-quiet : {A : Type 0} (b : Book A) (before new : Whole) (word budget left : ℕ) (e : Effect) (log : Log)
    → e ≢ Spent → e ≢ Drew → asking_of e ≡ None
    → stepped before word budget ≡ Ok ((new, left), e)
    → Some (record { before = before.machine ∷ log.before; after = [] }) ≡ logged_by e (Some log) before.machine
    → IsBook b (machine_after_event {A = A} before.machine None)
    (record { before = before.machine ∷ log.before; after = [] }) → HasEnded e before new log b
ended-quiet {A} b before new word budget left e log unspent undrawn none step logs book =
    let d = step-done before word budget new left e unspent step in
    let same = same-step before.machine word new.machine e undrawn d.step in
    let ends : machine_after_event {A = A} before.machine None ≡ new.machine =
    quiet A before.machine new.machine e same ∙ ap (answered_by_nothing new.machine) none in
    record {
      last = record { before = before.machine ∷ log.before; after = [] };
      is = logs;
      book = subst (λ (m : FlatMachine). IsBook b m (record { before = before.machine ∷ log.before; after = [] }))
          ends book;
      pends = none-asked b new (d.asks ∙ none);
    }

-- and one that drew a word
pub ended-drew : {A : Type 0} (b : Book A) (before new : Whole) (word budget left : ℕ) (log : Log)
    → stepped before word budget ≡ Ok ((new, left), Drew)
    → IsBook b (machine_after_event {A = A} before.machine (Some (taken.Word word)))
    (record { before = before.machine ∷ log.before; after = [] }) → HasEnded Drew before new log b
ended-drew {A} b before new word budget left log step book =
    let d = step-done before word budget new left Drew (λ no. cc) step in
    record {
      last = record { before = before.machine ∷ log.before; after = [] };
      is = refl;
      book = subst (λ (m : FlatMachine). IsBook b m (record { before = before.machine ∷ log.before; after = [] }))
          (ap (machine_after_step before.machine) d.step) book;
      pends = none-asked b new d.asks;
    }

-- a step that asks, whose event has not ended
asked : {A : Type 0} (b : Book A) (before new : Whole) (word budget left : ℕ) (e : Effect) (a : Asking) (log : Log)
    → IsBook b before.machine log → e ≢ Spent → e ≢ Drew → asking_of e ≡ Some a
    → stepped before word budget ≡ Ok ((new, left), e) → b.pending ≡ budget - left → b.units + b.pending ≤ 2 ^ 64 - 1
    → new.machine ≡ before.machine → Some log ≡ logged_by e (Some log) before.machine
    → HasEnded e before new log b
asked b before new word budget left e a log book unspent undrawn asks step cost room stands logs =
    let d = step-done before word budget new left e unspent step in
    let same = same-step before.machine word new.machine e undrawn d.step in
    let units = costs before new word budget left b.pending e unspent step cost in
    record {
      last = log;
      is = logs;
      book = subst (λ (m : FlatMachine). IsBook b m log) (sym stands) book;
      pends = subst (λ (x : Option Asking). IfSome x (IsPendingEvent b new.machine)) (sym (d.asks ∙ asks)) (record {
        cost = units ∙ sym (ap cost_of stands);
        room = room;
        effect = e;
        step = subst (λ (m : FlatMachine). step_of m 0 ≡ Ok (new.machine, e)) (sym stands) same;
        asks = asks;
      });
    }

-- a step that isn't one of those above
pub ended-rest : {A : Type 0} (b : Book A) (before new : Whole) (word budget left : ℕ) (e : Effect) (log : Log)
    → IsBook b before.machine log → before.asking ≡ None → e ≢ Went → e ≢ Quit → e ≢ Drew
    → stepped before word budget ≡ Ok ((new, left), e) → b.pending ≡ budget - left → b.units + b.pending ≤ 2 ^ 64 - 1
    → (IsSome (asking_of e) → new.machine ≡ before.machine) → HasEnded e before new log b
ended-rest b before new word budget left Went log book none a q d step cost room stands = absurd (a refl)
ended-rest b before new word budget left Drew log book none a q d step cost room stands = absurd (d refl)
ended-rest b before new word budget left Quit log book none a q d step cost room stands = absurd (q refl)
ended-rest b before new word budget left (Put ch) log book none a q d step cost room stands =
    asked b before new word budget left (Put ch) asking.Put log book (λ no. cc) (λ no. cc) refl step cost room
    (stands refl) refl
ended-rest b before new word budget left (Glk selector args most) log book none a q d step cost room stands =
    asked b before new word budget left (Glk selector args most) (asking.Glk most) log book (λ no. cc)
    (λ no. cc) refl step cost room (stands refl) refl
ended-rest b before new word budget left (Save stream) log book none a q d step cost room stands =
    asked b before new word budget left (Save stream) asking.Save log book (λ no. cc) (λ no. cc) refl step cost room
    (stands refl) refl
ended-rest b before new word budget left (Restore stream) log book none a q d step cost room stands =
    asked b before new word budget left (Restore stream) asking.Restore log book (λ no. cc)
    (λ no. cc) refl step cost room (stands refl) refl
ended-rest b before new word budget left Spent log book none a q d step cost room stands =
    let l = step-left before word budget new left (never-spent before.machine word) step in
    record {
      last = log;
      is = refl;
      book = subst (λ (w : Whole). IsBook b w.machine log) (sym l.stands) book;
      pends = none-asked b new (ap (λ (w : Whole). w.asking) l.stands ∙ none);
    }
