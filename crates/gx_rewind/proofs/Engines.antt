-- A tape that makes steps: what is recorded is what its contract says.
use Rattle.std.proofs.Common.{◌≡◌, ◌+◌, ◌-◌, ◌^◌, ◌≤◌, ℕ, List, [], ◌∷◌, Option, Some, None, IsSome, IfSome, Result}
use Rattle.std.proofs.Common.{Ok, Err, inr, refl, ap, subst, sym, ◌∙◌, arith}
use Rattle.gx_words.specs.declared.faults.Fault.{Fault}
use Rattle.gx_words.specs.declared.faults.Fault.TheVariants.{NoMemory}
use Rattle.gx_words.specs.Faults.{Does}
use Rattle.gx_state.specs.declared.effects.Effect.{Effect}
use Rattle.gx_state.specs.declared.effects.Effect.TheVariants.{Went, Drew, Put, Glk, Save, Restore, Quit, Spent}
use Rattle.gx_state.specs.declared.effects.Reply.{Reply}
use Rattle.gx_state.specs.Replies.{IsReply}
use Rattle.gx_machine.specs.declared.askings.Asking.{Asking}
use Rattle.gx_machine.specs.Advancing.{Advances}
use Rattle.gx_machine.specs.Answer.{answer_of}
use Rattle.gx_machine.specs.Log.{Log, units_of}
use Rattle.gx_machine.specs.Machine.{FlatMachine, Whole}
use Rattle.gx_machine.specs.Step.{asking_of, cost_of, room_of, step_of, stepped, IsStepWriting}
use Rattle.gx_machine.specs.WaysBack.{HasWaysBack}
use Rattle.gx_rewind.specs.declared.books.Book.{Book}
use Rattle.gx_rewind.specs.declared.books.Taken.{Taken}
use Rattle.gx_rewind.specs.Path.{machine_after_event, empty_reply, answered_by_nothing, IsFit, IsQuiet}
use Rattle.gx_rewind.specs.Views.{log_of, IsBook, IsPendingEvent, RecordsSteps}
use Rattle.gx_rewind.proofs.Ended.{none-asked}
use Rattle.gx_rewind.proofs.Kept.{booked, logged}
use Rattle.gx_rewind.proofs.Passing.{passed-lower, quiet}
use Rattle.gx_rewind.proofs.Running.{has-advanced}
use Rattle.gx_rewind.proofs.Steps.{step-done, step-lower}

-- a book at its own record
pub record HasBook {A : Type 0} (c : Book A) (w : Whole) (log : Log) : Type 0 where
  pub book : IsBook c w.machine (log_of c w.machine)
  pub is : log_of c w.machine ≡ log

pub has-book : {A : Type 0} (c : Book A) (w : Whole) (log : Log) → IsBook c w.machine log → HasBook c w log
has-book c w log book = record { book = booked c w.machine log book; is = logged c w.machine log book }

pub record IsEngine {A : Type 0} (word : ℕ) (result : Result Effect Fault) (start budget left : ℕ) (old new : Whole)
    (log : Log) (c : Book A) : Type 0 where
  pub book : IsBook c new.machine (log_of c new.machine)
  pub pends : IfSome new.asking (IsPendingEvent c new.machine)
  pub steps : Advances word result (old, start) (Some log) budget (new, left) (Some (log_of c new.machine))

pub advanced : {A : Type 0} (word : ℕ) (result : Result Effect Fault) (start budget left : ℕ) (old new : Whole)
    (log : Log) (b c : Book A) → RecordsSteps word result (old, start) budget (new, left) b c → IsBook b old.machine log
    → IsEngine word result start budget left old new log c
advanced word result start budget left old new log b c records book =
    let all = records log book in
    let has = has-book c new all.0 all.1 in
    record {
      book = has.book;
      pends = all.3;
      steps = subst (λ (l : Log). Advances word result (old, start) (Some log) budget (new, left) (Some l))
          (sym has.is) all.2;
    }

-- nothing was done
pub refused : {A : Type 0} (word budget : ℕ) (w : Whole) (log : Log) (c : Book A) → log_of c w.machine ≡ log
    → HasWaysBack w.machine
    → Advances word (Err NoMemory) (w, budget) (Some log) budget (w, budget) (Some (log_of c w.machine))
refused word budget w log c is backs = record {
  count = 0;
  before = w;
  log = Some log;
  passes = (refl, refl);
  step = inr (record { recorded = refl; refused = refl; stands = refl });
  stands = tt;
  logs = ap (λ (l : Log). Some l) is;
  backs = backs;
}

does-lower : (wants : Type 0) (word budget left : ℕ) (before new : Whole) (result : Result Effect Fault)
    → Does wants (λ (e : Effect). e) result (before, budget) (new, left) (stepped before word budget) → left ≤ budget
does-lower wants word budget left before new (Ok e) d = step-lower before word budget new left e d
does-lower wants word budget left before new (Err f) d = let same : left ≡ budget = ap (λ (x : Whole × ℕ). x.1) d.0 in
    omega (arith, same)

pub lowers : (word : ℕ) (result : Result Effect Fault) (start budget left : ℕ) (old new : Whole)
    → Advances word result (old, start) None budget (new, left) None → (budget ≤ start) × (left ≤ budget)
lowers word result start budget left old new a =
    let h = has-advanced word result (old, start) budget (new, left) a in (
      passed-lower word h.count old h.before start budget None None h.passes,
      does-lower (IsStepWriting h.before.machine budget) word budget left h.before new result h.step,
    )

pub room-fits : (budget units before room : ℕ) → budget ≤ 2 ^ 64 - 1 - before → before ≡ units
    → room + units ≡ 2 ^ 64 - 1 → budget ≤ room
room-fits budget units before room fits is all = omega (arith, fits, is, all)

-- what is asked, where something is
pub pending-by : {A : Type 0} (b : Book A) (m : FlatMachine) (a : Asking) (o : Option Asking) → o ≡ Some a
    → IfSome o (IsPendingEvent b m) → IsPendingEvent b m a
pending-by b m a o is pends = subst (λ (x : Option Asking). IfSome x (IsPendingEvent b m)) is pends

-- the same where something is asked, whatever it is
pub pending-some : {A : Type 0} (b : Book A) (m : FlatMachine) (o : Option Asking) → IsSome o
    → IfSome o (IsPendingEvent b m) → (a : Asking) × (o ≡ Some a) × IsPendingEvent b m a
pending-some b m None some pends = absurd cc
pending-some b m (Some a) some pends = (a, refl, pends)

-- a character that is put takes a unit
pub put-pends : {A : Type 0} (b : Book A) (old new : Whole) (budget ch : ℕ) (log : Log) → IsBook b old.machine log
    → stepped old 0 budget ≡ Ok ((new, budget - 1), Put ch) → 1 ≤ budget → budget ≤ 2 ^ 64 - 1 - units_of log.before
    → new.machine ≡ old.machine
    → b.pending ≡ 1 → IfSome new.asking (IsPendingEvent b new.machine)
put-pends b old new budget ch log book step some room stands pending =
    let d = step-done old 0 budget new (budget - 1) (Put ch) (λ no. cc) step in
    let enough = d.enough in
    let left_is = d.left_is in
    let here = book.units_is in
    subst (λ (x : Option Asking). IfSome x (IsPendingEvent b new.machine)) (sym d.asks) (record {
      cost = (let e : b.pending ≡ cost_of old.machine = omega (arith, enough, left_is, some, pending) in e)
          ∙ sym (ap cost_of stands);
      room = omega (arith, here, some, room, pending);
      effect = Put ch;
      step = subst (λ (m : FlatMachine). step_of m 0 ≡ Ok (new.machine, Put ch)) (sym stands) d.step;
      asks = refl;
    })

-- an event that asks may take nothing
quiets : (e : Effect) (a : Asking) → asking_of e ≡ Some a → IsQuiet e
quiets Went a asks = tt
quiets Drew a asks = absurd cc
quiets (Put c) a asks = tt
quiets (Glk selector args room) a asks = tt
quiets (Save stream) a asks = tt
quiets (Restore stream) a asks = tt
quiets Quit a asks = tt
quiets Spent a asks = absurd cc

pub nothing-fit : (A : Type 0) (b : Book A) (m : FlatMachine) (a : Asking) → IsPendingEvent b m a → IsFit {A = A} m None
nothing-fit A b m a pends = (m, pends.effect, pends.step, quiets pends.effect a pends.asks)

-- then it is answered with nothing
pub nothing-event : (A : Type 0) (b : Book A) (m : FlatMachine) (a : Asking) → IsPendingEvent b m a
    → machine_after_event {A = A} m None ≡ answer_of m empty_reply
nothing-event A b m a pends = quiet A m m pends.effect pends.step ∙ ap (answered_by_nothing m) pends.asks

-- a reply fits what is asked
pub reply-fits : {A : Type 0} (b : Book A) (m : FlatMachine) (a : Asking) (o : Option Asking) (reply : Reply)
    → o ≡ Some a → IsPendingEvent b m a → IsReply m.flat (room_of o) reply
    → (e : Effect) × (step_of m 0 ≡ Ok (m, e)) × IsSome (asking_of e) × IsReply m.flat (room_of (asking_of e)) reply
reply-fits b m a o reply is pends fits = (
  pends.effect,
  pends.step,
  subst IsSome (sym pends.asks) refl,
  subst (λ (x : Option Asking). IsReply m.flat (room_of x) reply) (is ∙ sym pends.asks) fits,
)

-- an event has ended
pub record IsLogged {A : Type 0} (c : Book A) (w new : Whole) (before : List FlatMachine) : Type 0 where
  pub book : IsBook c new.machine (log_of c new.machine)
  pub pends : IfSome new.asking (IsPendingEvent c new.machine)
  pub is : log_of c new.machine ≡ record { before = w.machine ∷ before; after = [] }

pub ended : {A : Type 0} (c : Book A) (w new : Whole) (before : List FlatMachine) (t : Option (Taken A))
    → IsBook c (machine_after_event w.machine t) (record { before = w.machine ∷ before; after = [] })
    → new.machine ≡ machine_after_event w.machine t → new.asking ≡ None
    → IsLogged c w new before
ended c w new before t book same none =
    let has = has-book c new (record { before = w.machine ∷ before; after = [] })
    (subst (λ (m : FlatMachine). IsBook c m (record { before = w.machine ∷ before; after = [] }))
    (sym same) book) in
    record {
      book = has.book;
      pends = none-asked c new none;
      is = has.is;
    }
