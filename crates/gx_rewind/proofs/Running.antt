-- What the machine's steps do is made of events.
use Rattle.std.proofs.Common.{◌≡◌, ◌≢◌, ◌+◌, ◌-◌, ◌<◌, ◌≤◌, ℕ, Bool, true, false, List, [], ◌∷◌, Option, Some, None}
use Rattle.std.proofs.Common.{IsSome, IfOk, Result, Ok, inl, inr, ◌⊎◌, refl, ap, subst, sym, ◌∙◌, arith}
use Rattle.gx_words.specs.declared.faults.Fault.{Fault}
use Rattle.gx_words.specs.Faults.{Does}
use Rattle.gx_state.specs.declared.effects.Effect.{Effect}
use Rattle.gx_state.specs.declared.effects.Effect.TheVariants.{Drew, Spent}
use Rattle.gx_state.specs.Replies.{IsReply}
use Rattle.gx_machine.specs.declared.askings.Asking.{Asking}
use Rattle.gx_machine.specs.Advancing.{Advances, Passes, IsUnrecorded}
use Rattle.gx_machine.specs.Answer.{answer_of}
use Rattle.gx_machine.specs.Log.{Log, units_of}
use Rattle.gx_machine.specs.Machine.{FlatMachine, Whole}
use Rattle.gx_machine.specs.Step.{asking_of, cost_of, room_of, stepped, IsStepWriting}
use Rattle.gx_machine.specs.WaysBack.{HasWaysBack}
use Rattle.gx_machine.proofs.Costs.{cost-positive}
use Rattle.gx_rewind.specs.declared.books.Book.{Book}
use Rattle.gx_rewind.specs.declared.books.Note.{Note}
use Rattle.gx_rewind.specs.declared.books.Spot.{Spot}
use Rattle.gx_rewind.specs.declared.books.Taken.{Taken}
use Rattle.gx_rewind.specs.declared.books.Taken.TheVariants as taken
use Rattle.gx_rewind.specs.Path.{machine_after_step, machine_after_event, answered_by_nothing, taken_from, word_in}
use Rattle.gx_rewind.specs.Path.{IsFit, IsPath, IsQuiet}
use Rattle.gx_rewind.specs.Views.{RecordsSomeRun, IsMade, IsSpotIn, IsSpot, IsTaking, IsTried, RunsQuietly, gone_to}
use Rattle.gx_rewind.proofs.Calm.{never-spent}
use Rattle.gx_rewind.proofs.Passing.{no-log, passes-on, passed-asks, passed-lower, quiet}
use Rattle.gx_rewind.proofs.Paths.{units-cons, extended, was-made}
use Rattle.gx_rewind.proofs.Steps.{step-done, step-left, ok-is}

pub record HasAdvanced (word : ℕ) (result : Result Effect Fault) (old : Whole × ℕ) (budget : ℕ)
    (new : Whole × ℕ) : Type 0 where
  pub count : ℕ
  pub before : Whole
  pub passes : Passes word count old None (before, budget) None
  pub step : Does (IsStepWriting before.machine budget) (λ (e : Effect). e) result (before, budget) new
      (stepped before word budget)
  pub stands : IfOk result (λ effect. IsSome (asking_of effect) → new.0.machine ≡ before.machine)
  pub backs : HasWaysBack before.machine

-- a machine that records nothing isn't refused for the record
does-by : (word : ℕ) (result : Result Effect Fault) (log : Option Log) (before : Whole) (budget : ℕ) (new : Whole × ℕ)
    → log ≡ None
    → Does (IsStepWriting before.machine budget) (λ (e : Effect). e) result (before, budget) new
    (stepped before word budget) ⊎ IsUnrecorded log result (before, budget) new
    → Does (IsStepWriting before.machine budget) (λ (e : Effect). e) result (before, budget) new
    (stepped before word budget)
does-by word result log before budget new none (inl d) = d
does-by word result log before budget new none (inr u) = let some = u.recorded in absurd cc

pub has-advanced : (word : ℕ) (result : Result Effect Fault) (old : Whole × ℕ) (budget : ℕ) (new : Whole × ℕ)
    → Advances word result old None budget new None → HasAdvanced word result old budget new
has-advanced word result old budget new a =
    let none = no-log word a.count old (a.before, budget) a.log a.passes in
    record {
      count = a.count;
      before = a.before;
      passes = subst (λ (l : Option Log). Passes word a.count old None (a.before, budget) l) none a.passes;
      step = does-by word result a.log a.before budget new none a.step;
      stands = a.stands;
      backs = a.backs;
    }

-- the run stops before an event that doesn't fit
pub run-spent : {A : Type 0} (s : Spot A) (limit budget left : ℕ) (new : Whole) → s.units ≤ limit
    → Advances 0 (Ok Spent) (s.machine, limit - s.units) None budget (new, left) None → s.machine.asking ≡ None
    → (budget ≤ limit) × RunsQuietly limit false s (record { machine = new; units = limit - budget; index = s.index })
run-spent {A} s limit budget left new fits a asks =
    let h = has-advanced 0 (Ok Spent) (s.machine, limit - s.units) budget (new, left) a in
    let l = step-left h.before 0 budget new left (never-spent h.before.machine 0) h.step in
    let lower = passed-lower 0 h.count s.machine h.before (limit - s.units) budget None None h.passes in
    let short = l.short in
    let same : cost_of h.before.machine ≡ cost_of new.machine =
    ap (λ (w : Whole). cost_of w.machine) (sym l.stands) in (
      omega (arith, lower),
      record {
        spot = λ notes opening free place.
            let units = place.units_is in
            let on = passes-on notes opening.machine 0 h.count s.machine h.before
            (limit - s.units) budget place.before [] s.index None h.passes place.path
            (λ u low high. free u (omega (arith, low, units)) (omega (arith, high, units, fits))) in
            let sum = on.units_is in
            record {
              before = on.last;
              path = subst (λ (w : Whole). IsPath notes opening.machine on.last w.machine s.index)
                  (sym l.stands) on.path;
              units_is = omega (arith, sum, units, lower, fits);
              asks = ap (λ (w : Whole). w.asking) l.stands
                  ∙ passed-asks 0 h.count s.machine h.before (limit - s.units) budget None None asks h.passes;
            };
        index = refl;
        within = omega arith;
        after = omega (arith, lower, fits);
        more = λ no. cc;
        last = λ _. omega (arith, short, same, lower, fits);
      },
    )

-- or after one that is no plain step, once what it asks is answered with nothing
pub run-ended : {A : Type 0} (s : Spot A) (limit budget left : ℕ) (new end : Whole) (e : Effect) → s.units ≤ limit
    → Advances 0 (Ok e) (s.machine, limit - s.units) None budget (new, left) None
    → e ≢ Spent → IsQuiet e → end.machine ≡ answered_by_nothing new.machine (asking_of e) → end.asking ≡ None
    → (left ≤ limit) × RunsQuietly limit true s (record { machine = end; units = limit - left; index = s.index })
run-ended {A} s limit budget left new end e fits a unspent plain ends asks =
    let h = has-advanced 0 (Ok e) (s.machine, limit - s.units) budget (new, left) a in
    let d = step-done h.before 0 budget new left e unspent h.step in
    let lower = passed-lower 0 h.count s.machine h.before (limit - s.units) budget None None h.passes in
    let enough = d.enough in
    let left_is = d.left_is in
    let one = cost-positive h.before.machine in (
      omega (arith, lower, left_is),
      record {
        spot = λ notes opening free place.
            let units = place.units_is in
            let on = passes-on notes opening.machine 0 h.count s.machine h.before
            (limit - s.units) budget place.before [] s.index None h.passes place.path
            (λ u low high. free u (omega (arith, low, units)) (omega (arith, high, units, fits))) in
            let sum = on.units_is in
            let cons = units-cons h.before.machine on.last in
            let here : units_of on.last ≡ limit - budget = omega (arith, sum, units, lower, fits) in
            record {
              before = h.before.machine ∷ on.last;
              path = extended notes opening.machine on.last h.before.machine s.index None end.machine s.index on.path
                  (free (units_of on.last) (omega (arith, here, lower, fits))
                  (omega (arith, here, lower, one, enough)))
                  (quiet A h.before.machine new.machine e d.step ∙ sym ends) refl (new.machine, e, d.step, plain);
              units_is = omega (arith, cons, here, left_is, enough, lower);
              asks = asks;
            };
        index = refl;
        within = omega arith;
        after = omega (arith, lower, fits, left_is);
        more = λ _. omega (arith, lower, fits, left_is, one, enough);
        last = λ no. cc;
      },
    )

-- one event that took nothing
pub made-quiet : {A : Type 0} (s : Spot A) (limit left : ℕ) (new end : Whole) (e : Effect) → s.units ≤ limit
    → stepped s.machine 0 (limit - s.units) ≡ Ok ((new, left), e)
    → e ≢ Spent → end.machine ≡ answered_by_nothing new.machine (asking_of e) → end.asking ≡ None
    → (left ≤ limit) × IsMade {A = A} None s (record { machine = end; units = limit - left; index = s.index })
made-quiet {A} s limit left new end e fits step unspent ends asks =
    let d = step-done s.machine 0 (limit - s.units) new left e unspent step in
    let enough = d.enough in
    let left_is = d.left_is in (
      omega (arith, left_is),
      record {
        machine = quiet A s.machine.machine new.machine e d.step ∙ sym ends;
        index = refl;
        units_is = omega (arith, left_is, enough, fits);
        asks = asks;
      },
    )

pub tried-quiet : {A : Type 0} (s : Spot A) (limit left : ℕ) (new end : Whole) (e : Effect) → s.units ≤ limit
    → stepped s.machine 0 (limit - s.units) ≡ Ok ((new, left), e)
    → e ≢ Spent → end.machine ≡ answered_by_nothing new.machine (asking_of e) → end.asking ≡ None
    → IsTried {A = A} limit None true s (record { machine = end; units = limit - left; index = s.index })
tried-quiet s limit left new end e fits step unspent ends asks = record {
  made = λ _. (made-quiet s limit left new end e fits step unspent ends asks).1;
  none = λ no. cc;
  within = omega arith;
}

-- an event isn't made, where it doesn't fit
pub tried-spent : {A : Type 0} (s : Spot A) (t : Option (Taken A)) (word limit left : ℕ) (new : Whole)
    → s.units ≤ limit → stepped s.machine word (limit - s.units) ≡ Ok ((new, left), Spent)
    → IsTried limit t false s (record s { machine = new })
tried-spent {A} s t word limit left new fits step =
    let l = step-left s.machine word (limit - s.units) new left (never-spent s.machine.machine word) step in
    let short = l.short in
    record {
      made = λ no. cc;
      none = λ _. (
        ap (λ (w : Whole). let x : Spot A = record s { machine = w } in x) l.stands,
        omega (arith, short, fits),
      );
      within = fits;
    }

-- what is taken is fit for the machine once its step is made
pub takes : {A : Type 0} (m new : Whole) (t : Taken A) (budget left : ℕ) (e : Effect) → e ≢ Spent
    → stepped m (word_in t) budget ≡ Ok ((new, left), e) → IsFit m.machine (Some t) → IsTaking new t
takes m new (taken.Word word) budget left e unspent step fit =
    let d = step-done m word budget new left e unspent step in
    let same : (fit.0, Drew) ≡ (new.machine, e) =
    ok-is {A = FlatMachine × Effect} (fit.0, Drew) (new.machine, e) (sym fit.1 ∙ d.step) in
    d.asks ∙ sym (ap (λ (q : FlatMachine × Effect). asking_of q.1) same)
takes m new (taken.Reply reply) budget left e unspent step fit =
    let d = step-done m 0 budget new left e unspent step in
    let same : (m.machine, fit.0) ≡ (new.machine, e) =
    ok-is {A = FlatMachine × Effect} (m.machine, fit.0) (new.machine, e) (sym fit.1 ∙ d.step) in
    record {
      pending = subst IsSome (ap (λ (q : FlatMachine × Effect). asking_of q.1) same ∙ sym d.asks) fit.2;
      fits = subst (λ (a : Option Asking). IsReply new.machine.flat (room_of a) reply) (sym d.asks)
          (subst (λ (q : FlatMachine × Effect). IsReply q.0.flat (room_of (asking_of q.1)) reply) same fit.3);
    }
takes m new (taken.Machine gone) budget left e unspent step fit = fit.2

takes-machine : {A : Type 0} (m new : Whole) (t : Taken A) (budget left : ℕ) (e : Effect) → e ≢ Spent
    → stepped m (word_in t) budget ≡ Ok ((new, left), e) → IsFit m.machine (Some t)
    → machine_after_event m.machine (Some t) ≡ gone_to new.machine t
takes-machine {A} m new (taken.Word word) budget left e unspent step fit =
    let d = step-done m word budget new left e unspent step in
    let rest = takes {A = A} m new (taken.Word word) budget left e unspent step fit in
    ap (machine_after_step m.machine) d.step ∙ ap (answered_by_nothing new.machine) (sym d.asks ∙ rest)
takes-machine m new (taken.Reply reply) budget left e unspent step fit =
    let d = step-done m 0 budget new left e unspent step in
    let same : (m.machine, fit.0) ≡ (new.machine, e) =
    ok-is {A = FlatMachine × Effect} (m.machine, fit.0) (new.machine, e) (sym fit.1 ∙ d.step) in
    ap (λ (q : FlatMachine × Effect). answer_of q.0 reply) same
takes-machine m new (taken.Machine gone) budget left e unspent step fit = refl

-- an event that took something is made
pub tried-made : {A : Type 0} (s : Spot A) (t : Taken A) (limit left : ℕ) (new end : Whole) (e : Effect)
    → s.units ≤ limit → stepped s.machine (word_in t) (limit - s.units) ≡ Ok ((new, left), e)
    → e ≢ Spent → IsFit s.machine.machine (Some t) → end ≡ record { machine = gone_to new.machine t; asking = None }
    → IsTried limit (Some t) true s (record { machine = end; units = limit - left; index = s.index + 1 })
tried-made s t limit left new end e fits step unspent fit ends =
    let d = step-done s.machine (word_in t) (limit - s.units) new left e unspent step in
    let enough = d.enough in
    let left_is = d.left_is in
    record {
      made = λ _. record {
        machine = takes-machine s.machine new t (limit - s.units) left e unspent step fit
            ∙ sym (ap (λ (w : Whole). w.machine) ends);
        index = refl;
        units_is = omega (arith, left_is, enough, fits);
        asks = ap (λ (w : Whole). w.asking) ends;
      };
      none = λ no. cc;
      within = omega arith;
    }

pub left-within : (s limit left : ℕ) (m new : Whole) (word : ℕ) (e : Effect) → e ≢ Spent
    → stepped m word (limit - s) ≡ Ok ((new, left), e) → left ≤ limit
left-within s limit left m new word e unspent step =
    let d = step-done m word (limit - s) new left e unspent step in
    let left_is = d.left_is in
    omega (arith, left_is)

-- an event that is made leads to a place of the run
pub made-place : {A : Type 0} (notes : List (Note A)) (opening : Whole) (old new : Spot A) (t : Option (Taken A))
    → IsSpotIn notes opening old → taken_from notes old.index old.units ≡ t → IsFit old.machine.machine t
    → IsMade t old new → IsSpotIn notes opening new
made-place notes opening old new t place is fit made =
    let units = place.units_is in
    let sum = made.units_is in
    let cons = units-cons old.machine.machine place.before in
    record {
      before = old.machine.machine ∷ place.before;
      path = extended notes opening.machine place.before old.machine.machine old.index t new.machine.machine new.index
          place.path (ap (λ (u : ℕ). taken_from notes old.index u) units ∙ is) made.machine made.index fit;
      units_is = omega (arith, units, sum, cons);
      asks = made.asks;
    }

-- the event at a place before that of a book was recorded
pub fit-at : {A : Type 0} (b : Book A) (s : Spot A) → RecordsSomeRun b → IsSpot b s → s.units < b.units
    → IsFit s.machine.machine (taken_from b.notes.items s.index s.units)
fit-at b s kept spot less =
    let book = kept.2 in
    let here = spot.units_is in
    let there = book.units_is in
    let made = was-made b.notes.items b.opening.machine spot.before s.machine.machine s.index kept.1.before kept.0
    b.index spot.path book.path (omega (arith, here, there, less)) in
    subst (λ (u : ℕ). IsFit s.machine.machine (taken_from b.notes.items s.index u)) here made.0

pub asks-by : (m new : Whole) (b budget left : ℕ) (e : Effect) → e ≢ Spent
    → Advances 0 (Ok e) (m, b) None budget (new, left) None → new.asking ≡ asking_of e
asks-by m new b budget left e unspent a =
    let h = has-advanced 0 (Ok e) (m, b) budget (new, left) a in
    (step-done h.before 0 budget new left e unspent h.step).asks

-- an event that was tried leads to a place of the run
pub tried-place : {A : Type 0} (notes : List (Note A)) (opening : Whole) (old new : Spot A) (t : Option (Taken A))
    (limit : ℕ) (b : Bool) → IsSpotIn notes opening old → taken_from notes old.index old.units ≡ t
    → IsFit old.machine.machine t
    → IsTried limit t b old new → IsSpotIn notes opening new
tried-place notes opening old new t limit true place is fit tried =
    made-place notes opening old new t place is fit (tried.made refl)
tried-place notes opening old new t limit false place is fit tried =
    subst (IsSpotIn notes opening) (sym (tried.none refl).0) place

-- what an event takes is at least a unit
pub made-after : {A : Type 0} (t : Option (Taken A)) (old new : Spot A) → IsMade t old new → old.units < new.units
made-after t old new made = let one = cost-positive old.machine.machine in let sum = made.units_is in
    omega (arith, one, sum)
