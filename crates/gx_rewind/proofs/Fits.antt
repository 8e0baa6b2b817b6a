-- The step of an event that was recorded meets no fault.
use Rattle.std.proofs.Common.{◌≡◌, ◌≢◌, ◌<◌, ◌≤◌, ◌-◌, ℕ, [], Bool, true, Option, Some, None, Result, Ok, Err, IfOk}
use Rattle.std.proofs.Common.{IsSome, ap, sym, ◌∙◌, refl, subst, arith}
use Rattle.gx_words.specs.declared.faults.Fault.{Fault}
use Rattle.gx_words.specs.Faults.{IsRefused}
use Rattle.gx_state.specs.declared.effects.Effect.{Effect}
use Rattle.gx_state.specs.declared.effects.Effect.TheVariants.{Drew, Spent}
use Rattle.gx_state.specs.declared.effects.Reply.{Reply}
use Rattle.gx_state.specs.Replies.{IsReply}
use Rattle.gx_machine.specs.declared.askings.Asking.{Asking}
use Rattle.gx_machine.specs.Answer.{answered_whole, AnswersAsking}
use Rattle.gx_machine.specs.Machine.{FlatMachine, Whole}
use Rattle.gx_machine.specs.Step.{asking_of, cost_of, room_of, step_of, stepped}
use Rattle.gx_rewind.specs.declared.books.Book.{Book}
use Rattle.gx_rewind.specs.declared.books.Spot.{Spot}
use Rattle.gx_rewind.specs.declared.books.Taken.{Taken}
use Rattle.gx_rewind.specs.declared.books.Taken.TheVariants as taken
use Rattle.gx_rewind.specs.Path.{empty_reply, answered_by_nothing, taken_from, word_in, IsFit, IsQuiet}
use Rattle.gx_rewind.specs.Views.{RecordsSomeRun, IsSpot, IsTried, IsWant, RunsQuietly}
use Rattle.gx_machine.specs.Advancing.{Advances, Passes}
use Rattle.gx_machine.specs.Log.{units_of}
use Rattle.gx_machine.proofs.Costs.{cost-positive}
use Rattle.gx_rewind.proofs.Passing.{passes-on, passed-asks, passed-lower}
use Rattle.gx_rewind.proofs.Running.{asks-by, fit-at, has-advanced, run-ended, tried-quiet}
use Rattle.gx_rewind.proofs.Parts.{step-fault}
use Rattle.gx_rewind.proofs.Steps.{step-done, ok-is}

-- the reply that pushes and writes nothing answers whatever is asked
pub nothing-answers : (m : Whole) (a : Asking) (reply : Reply) → m.asking ≡ Some a → reply ≡ empty_reply
    → AnswersAsking m reply
nothing-answers m a reply asks is = record {
  pending = subst IsSome (sym asks) refl;
  fits = subst (IsReply m.machine.flat (room_of m.asking)) (sym is) (record { writes = tt; pushes = omega arith });
}

pub nothing-settles : (m : Whole) (a : Asking) (reply : Reply) → m.asking ≡ Some a → reply ≡ empty_reply
    → answered_whole m reply ≡ record { machine = answered_by_nothing m.machine m.asking; asking = None }
nothing-settles m a reply asks is =
    ap (λ (r : Reply). answered_whole m r) is
    ∙ ap (λ (o : Option Asking). let w : Whole =
    record { machine = answered_by_nothing m.machine o; asking = None } in w) (sym asks)

-- the step that an event made
pub goes : {A : Type 0} (m : FlatMachine) (t : Taken A) → IsFit m (Some t) → (n : FlatMachine) × (e : Effect)
    × (step_of m (word_in t) ≡ Ok (n, e))
goes m (taken.Word word) fit = (fit.0, Drew, fit.1)
goes m (taken.Reply reply) fit = (m, fit.0, fit.1)
goes m (taken.Machine gone) fit = (m, fit.0, fit.1)

ok-err : {X : Type 0} (x : X) (f : Fault) → (let r : Result X Fault = Ok x in r ≡ Err f) → ⊥
ok-err x f same = cc

wants-by : (m : Whole) (word budget : ℕ) (n : FlatMachine) (e : Effect) (f : Fault) (wants : Type 0)
    → step_of m.machine word ≡ Ok (n, e) → IsRefused wants f (stepped m word budget) → IsWant f
wants-by m word budget n e f wants is refused =
    λ other. ok-err (n, e) f (sym is ∙ (step-fault m word budget f (refused.0 other)).1)

pub wants : {A : Type 0} (m : Whole) (t : Taken A) (budget : ℕ) (f : Fault) (w : Type 0) → IsFit m.machine (Some t)
    → IsRefused w f (stepped m (word_in t) budget) → IsWant f
wants m t budget f w fit refused = let made = goes m.machine t fit in
    wants-by m (word_in t) budget made.0 made.1 f w made.2 refused

pub wants-quiet : (A : Type 0) (m : Whole) (budget : ℕ) (f : Fault) (w : Type 0) → IsFit {A = A} m.machine None
    → IsRefused w f (stepped m 0 budget) → IsWant f
wants-quiet A m budget f w fit refused = wants-by m 0 budget fit.0 fit.1 f w fit.2 refused

-- one that took nothing is quiet
pub is-quiet : (A : Type 0) (m new : Whole) (budget left : ℕ) (e : Effect) → IsFit {A = A} m.machine None
    → stepped m 0 budget ≡ Ok ((new, left), e) → (e ≢ Spent) → IsQuiet e
is-quiet A m new budget left e fit step unspent =
    let d = step-done m 0 budget new left e unspent step in
    let same : (fit.0, fit.1) ≡ (new.machine, e) =
    ok-is {A = FlatMachine × Effect} (fit.0, fit.1) (new.machine, e) (sym fit.2 ∙ d.step) in
    subst (λ (q : FlatMachine × Effect). IsQuiet q.1) same fit.3

-- what is asked is answered with nothing
settles : (new end : Whole) (e : Effect) → new.asking ≡ asking_of e
    → end ≡ record { machine = answered_by_nothing new.machine new.asking; asking = None }
    → end.machine ≡ answered_by_nothing new.machine (asking_of e)
settles new end e asks is = ap (λ (w : Whole). w.machine) is ∙ ap (answered_by_nothing new.machine) asks

-- an event that took nothing is made
pub step-made : (A : Type 0) (s : Spot A) (limit left : ℕ) (new end : Whole) (e : Effect) → s.units ≤ limit
    → stepped s.machine 0 (limit - s.units) ≡ Ok ((new, left), e) → e ≢ Spent
    → end ≡ record { machine = answered_by_nothing new.machine new.asking; asking = None }
    → IsTried {A = A} limit None true s (record { machine = end; units = limit - left; index = s.index })
step-made A s limit left new end e fits step other is =
    let asks = (step-done s.machine 0 (limit - s.units) new left e other step).asks in
    tried-quiet s limit left new end e fits step other (settles new end e asks is) (ap (λ (w : Whole). w.asking) is)

-- the events before a place that took nothing were recorded, so that a step between them is one of theirs
module _ {A : Type 0} (b : Book A) (s : Spot A) (limit : ℕ) where
  pub reached : (budget n : ℕ) (before : Whole) → RecordsSomeRun b → IsSpot b s → s.units ≤ limit → limit ≤ b.units
      → ((u : ℕ) → s.units ≤ u → u < limit → taken_from b.notes.items s.index u ≡ None)
      → Passes 0 n (s.machine, limit - s.units) None (before, budget) None → cost_of before.machine ≤ budget
      → IsFit {A = A} before.machine None
  reached budget n before kept spot fits within free passes enough =
      let lower = passed-lower 0 n s.machine before (limit - s.units) budget None None passes in
      let one = cost-positive before.machine in
      let units = spot.units_is in
      let on = passes-on b.notes.items b.opening.machine 0 n s.machine before (limit - s.units) budget spot.before
      [] s.index None passes spot.path
      (λ u low high. free u (omega (arith, low, units)) (omega (arith, high, units, fits))) in
      let sum = on.units_is in
      let here : units_of on.last ≡ limit - budget = omega (arith, sum, units, lower, fits) in
      let there : Spot A = record { machine = before; units = limit - budget; index = s.index } in
      let place : IsSpot b there = record {
        before = on.last;
        path = on.path;
        units_is = here;
        asks = passed-asks 0 n s.machine before (limit - s.units) budget None None spot.asks passes;
      } in
      let fit = fit-at b there kept place (omega (arith, lower, one, enough, fits, within)) in
      subst (IsFit before.machine) (free (limit - budget) (omega (arith, lower, fits))
      (omega (arith, lower, one, enough, fits))) fit

  pub run-wants : (budget left : ℕ) (new : Whole) (f : Fault) → RecordsSomeRun b → IsSpot b s → s.units ≤ limit
      → limit ≤ b.units → ((u : ℕ) → s.units ≤ u → u < limit → taken_from b.notes.items s.index u ≡ None)
      → Advances 0 (Err f) (s.machine, limit - s.units) None budget (new, left) None → IsWant f
  run-wants budget left new f kept spot fits within free a =
      λ other.
      let h = has-advanced 0 (Err f) (s.machine, limit - s.units) budget (new, left) a in
      let met = step-fault h.before 0 budget f (h.step.1.0 other) in
      let fit = reached budget h.count h.before kept spot fits within free h.passes met.0 in
      ok-err (fit.0, fit.1) f (sym fit.2 ∙ met.1)

  pub run-quiet : (budget left : ℕ) (new : Whole) (e : Effect) → RecordsSomeRun b → IsSpot b s → s.units ≤ limit
      → limit ≤ b.units → ((u : ℕ) → s.units ≤ u → u < limit → taken_from b.notes.items s.index u ≡ None)
      → e ≢ Spent → Advances 0 (Ok e) (s.machine, limit - s.units) None budget (new, left) None → IsQuiet e
  run-quiet budget left new e kept spot fits within free other a =
      let h = has-advanced 0 (Ok e) (s.machine, limit - s.units) budget (new, left) a in
      let d = step-done h.before 0 budget new left e other h.step in
      let fit = reached budget h.count h.before kept spot fits within free h.passes d.enough in
      is-quiet A h.before new budget left e fit h.step other

  -- the last of them is made
  pub run-made : (budget left : ℕ) (new end : Whole) (e : Effect) → RecordsSomeRun b → IsSpot b s → s.units ≤ limit
      → limit ≤ b.units → ((u : ℕ) → s.units ≤ u → u < limit → taken_from b.notes.items s.index u ≡ None)
      → e ≢ Spent → Advances 0 (Ok e) (s.machine, limit - s.units) None budget (new, left) None
      → end ≡ record { machine = answered_by_nothing new.machine new.asking; asking = None }
      → (left ≤ limit) × RunsQuietly limit true s (record { machine = end; units = limit - left; index = s.index })
  run-made budget left new end e kept spot fits within free other a is =
      let asks = asks-by s.machine new (limit - s.units) budget left e other a in
      let plain = run-quiet budget left new e kept spot fits within free other a in
      run-ended s limit budget left new end e fits a other plain (settles new end e asks is)
      (ap (λ (w : Whole). w.asking) is)

-- where such events end before a limit, the next one takes nothing either
pub ran-on : {A : Type 0} (b : Book A) (old mid : Spot A) (limit : ℕ) (more : Bool) → RecordsSomeRun b
    → limit ≤ b.units → IsSpot b old → ((u : ℕ) → old.units ≤ u → u < limit
    → taken_from b.notes.items old.index u ≡ None)
    → RunsQuietly limit more old mid → mid.units < limit → IsSpot b mid
    × (taken_from b.notes.items mid.index mid.units ≡ None) × IsFit {A = A} mid.machine.machine None
ran-on b old mid limit more kept within spot free ran less =
    let place = ran.spot b.notes.items b.opening free spot in
    let none : taken_from b.notes.items mid.index mid.units ≡ None =
    ap (λ (i : ℕ). taken_from b.notes.items i mid.units) ran.index ∙ free mid.units ran.after less in
    (place, none, subst (IsFit mid.machine.machine) none (fit-at b mid kept place (omega (arith, less, within))))

pub map-ok : {E : Type 0} (P : Bool → Type 0) (Q : Type 0) (r : Result Bool E) → IfOk r P → ((x : Bool) → P x → Q)
    → IfOk r (λ _. Q)
map-ok P Q (Ok x) h f = f x h
map-ok P Q (Err e) h f = tt
