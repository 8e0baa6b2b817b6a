-- Steps that are made within part of a budget are made so within all of it.
use Rattle.std.proofs.Common.{◌≡◌, ◌≢◌, ◌+◌, ◌-◌, ◌≤◌, ℕ, zero, suc, nat_lt, if◌then◌else◌, Bool, true, false, Option}
use Rattle.std.proofs.Common.{None, IsSome, Result, Ok, Err, IsOk, IfOk, ◌⊎◌, inl, inr, refl, ap, subst, sym, ◌∙◌}
use Rattle.std.proofs.Common.{arith}
use Rattle.std.proofs.lemmas.Bool.{le-ltb, ltb-false}
use Rattle.gx_words.specs.declared.faults.Fault.{Fault}
use Rattle.gx_words.specs.Faults.{Does}
use Rattle.gx_words.specs.Results.{◌>>=◌}
use Rattle.gx_state.specs.declared.effects.Effect.{Effect}
use Rattle.gx_state.specs.declared.effects.Effect.TheVariants.{Went, Spent}
use Rattle.gx_machine.specs.Advancing.{Advances, Passes, IsUnrecorded}
use Rattle.gx_machine.specs.Log.{Log}
use Rattle.gx_machine.specs.Machine.{FlatMachine, Whole}
use Rattle.gx_machine.specs.Step.{asking_of, cost_of, step_of, stepped, IsStepWriting}
use Rattle.gx_machine.specs.WaysBack.{HasWaysBack}
use Rattle.gx_machine.proofs.Passing.{logs-none}
use Rattle.gx_rewind.proofs.Calm.{never-spent}
use Rattle.gx_rewind.proofs.Passing.{passed-asks}
use Rattle.gx_rewind.proofs.Running.{has-advanced}
use Rattle.gx_rewind.proofs.Steps.{step-done, step-left}

-- what a step makes of a machine, with the units that it leaves
abbrev paid : ℕ → Result (FlatMachine × Effect) Fault → Result ((Whole × ℕ) × Effect) Fault
paid left r = r >>= (λ (x : FlatMachine × Effect). Ok ((record { machine = x.0; asking = asking_of x.1 }, left), x.1))

paid-is : (w : Whole) (word budget : ℕ) → cost_of w.machine ≤ budget
    → stepped w word budget ≡ paid (budget - cost_of w.machine) (step_of w.machine word)
unfolding stepped
paid-is w word budget enough = let affords : nat_lt budget (cost_of w.machine) ≡ false =
    le-ltb budget (cost_of w.machine) enough in rw affords refl

-- a step that is done leaves so much more
pub step-more : (w new : Whole) (word budget left more : ℕ) (e : Effect) → e ≢ Spent
    → stepped w word budget ≡ Ok ((new, left), e) → stepped w word (budget + more) ≡ Ok ((new, left + more), e)
step-more w new word budget left more e unspent step =
    let d = step-done w word budget new left e unspent step in
    let enough = d.enough in
    let left_is = d.left_is in
    let units : budget + more - cost_of w.machine ≡ left + more = omega (arith, enough, left_is) in
    paid-is w word (budget + more) (omega (arith, enough))
    ∙ ap (paid (budget + more - cost_of w.machine)) d.step
    ∙ ap (λ (n : ℕ). Ok ((record { machine = new.machine; asking = asking_of e }, n), e)) units
    ∙ ap (λ a. Ok ((record { machine = new.machine; asking = a }, left + more), e)) (sym d.asks)

err-by : (left : ℕ) (r : Result (FlatMachine × Effect) Fault) (fault : Fault) → paid left r ≡ Err fault → r ≡ Err fault
err-by left (Ok x) fault h = absurd cc
err-by left (Err f) fault h = cc

has-fault : (w : Whole) (word budget : ℕ) (fault : Fault) (b : Bool) → nat_lt budget (cost_of w.machine) ≡ b
    → (if b then Ok ((w, budget), Spent) else paid (budget - cost_of w.machine) (step_of w.machine word)) ≡ Err fault
    → (cost_of w.machine ≤ budget) × (step_of w.machine word ≡ Err fault)
has-fault w word budget fault true is h = absurd cc
has-fault w word budget fault false is h =
    (ltb-false budget (cost_of w.machine) is, err-by (budget - cost_of w.machine) (step_of w.machine word) fault h)

pub step-fault : (w : Whole) (word budget : ℕ) (fault : Fault) → stepped w word budget ≡ Err fault
    → (cost_of w.machine ≤ budget) × (step_of w.machine word ≡ Err fault)
unfolding stepped
step-fault w word budget fault h = has-fault w word budget fault (nat_lt budget (cost_of w.machine)) refl h

-- one that meets a fault meets it
pub fault-more : (w : Whole) (word budget more : ℕ) (fault : Fault) → stepped w word budget ≡ Err fault
    → stepped w word (budget + more) ≡ Err fault
fault-more w word budget more fault h =
    let met = step-fault w word budget fault h in
    let enough = met.0 in
    paid-is w word (budget + more) (omega (arith, enough)) ∙ ap (paid (budget + more - cost_of w.machine)) met.1

ok-by : (left other : ℕ) (r : Result (FlatMachine × Effect) Fault) → IsOk (paid left r) → IsOk (paid other r)
ok-by left other (Ok x) ok = ok
ok-by left other (Err f) ok = ok

ok-more : (w : Whole) (word budget more : ℕ) → cost_of w.machine ≤ budget → IsOk (stepped w word budget)
    → IsOk (stepped w word (budget + more))
ok-more w word budget more enough ok =
    subst IsOk (sym (paid-is w word (budget + more) (omega (arith, enough))))
    (ok-by (budget - cost_of w.machine) (budget + more - cost_of w.machine) (step_of w.machine word)
    (subst IsOk (paid-is w word budget enough) ok))

-- a step that isn't spent does the same
pub does-more : (word budget left more : ℕ) (before new : Whole) (result : Result Effect Fault)
    → (result ≡ Ok Spent → ⊥)
    → Does (IsStepWriting before.machine budget) (λ (e : Effect). e) result (before, budget) (new, left)
    (stepped before word budget)
    → Does (IsStepWriting before.machine (budget + more)) (λ (e : Effect). e) result (before, budget + more)
    (new, left + more) (stepped before word (budget + more))
does-more word budget left more before new (Ok e) unspent does =
    step-more before new word budget left more e (λ is. unspent (ap (λ (x : Effect). Ok x) is)) does
does-more word budget left more before new (Err fault) unspent does = (
  ap (λ (x : Whole × ℕ). (x.0, x.1 + more)) does.0,
  (
    (λ given. fault-more before word budget more fault (does.1.0 given)),
    (λ none.
        let lack = does.1.1 none in
        let enough = lack.0.0 in
        ((omega (arith, enough), lack.0.1), ok-more before word budget more enough lack.1)),
  ),
)

went-unspent : Went ≡ Spent → ⊥
went-unspent same = cc

pub passes-more : (word n more : ℕ) (w w' : Whole) (budget budget' : ℕ) (x y : Option Log)
    → Passes word n (w, budget) x (w', budget') y → Passes word n (w, budget + more) x (w', budget' + more) y
passes-more word zero more w w' budget budget' x y p = (ap (λ (q : Whole × ℕ). (q.0, q.1 + more)) p.0, p.1)
passes-more word (suc n) more w w' budget budget' x y p = (
  (p.0.0, p.0.1 + more),
  p.1,
  passes-more word n more w p.0.0 budget p.0.1 x p.1 p.2,
  step-more p.0.0 w' word p.0.1 budget' more Went went-unspent p.3,
  p.4,
  p.5,
)

-- steps of which the last isn't spent leave so much more
does-or : (word budget left more : ℕ) (before new : Whole) (result : Result Effect Fault) (log : Option Log)
    → (result ≡ Ok Spent → ⊥)
    → Does (IsStepWriting before.machine budget) (λ (e : Effect). e) result (before, budget) (new, left)
    (stepped before word budget) ⊎ IsUnrecorded log result (before, budget) (new, left)
    → Does (IsStepWriting before.machine (budget + more)) (λ (e : Effect). e) result (before, budget + more)
    (new, left + more) (stepped before word (budget + more))
    ⊎ IsUnrecorded log result (before, budget + more) (new, left + more)
does-or word budget left more before new result log unspent (inl does) =
    inl (does-more word budget left more before new result unspent does)
does-or word budget left more before new result log unspent (inr u) =
    inr (record {
      recorded = u.recorded;
      refused = u.refused;
      stands = ap (λ (x : Whole × ℕ). (x.0, x.1 + more)) u.stands;
    })

pub advances-more : (word more : ℕ) (result : Result Effect Fault) (old new : Whole) (start budget left : ℕ)
    (first last : Option Log) → (result ≡ Ok Spent → ⊥)
    → Advances word result (old, start) first budget (new, left) last
    → Advances word result (old, start + more) first (budget + more) (new, left + more) last
advances-more word more result old new start budget left first last unspent a = record {
  count = a.count;
  before = a.before;
  log = a.log;
  passes = passes-more word a.count more old a.before start budget first a.log a.passes;
  step = does-or word budget left more a.before new result a.log unspent a.step;
  stands = a.stands;
  logs = a.logs;
  backs = a.backs;
}

-- steps of which the last doesn't fit, and that one within all of the budget
pub record IsStill (word : ℕ) (old new : Whole) (start budget : ℕ) : Type 0 where
  pub count : ℕ
  pub passes : Passes word count (old, start) None (new, budget) None
  pub asks : new.asking ≡ None
  pub backs : HasWaysBack new.machine

pub still : (word : ℕ) (old new : Whole) (start budget left : ℕ) → old.asking ≡ None
    → Advances word (Ok Spent) (old, start) None budget (new, left) None → IsStill word old new start budget
still word old new start budget left none a =
    let h = has-advanced word (Ok Spent) (old, start) budget (new, left) a in
    let l = step-left h.before word budget new left (never-spent h.before.machine word) h.step in
    let asks = passed-asks word h.count old h.before start budget None None none h.passes in
    record {
      count = h.count;
      passes = subst (λ (w : Whole). Passes word h.count (old, start) None (w, budget) None) (sym l.stands) h.passes;
      asks = ap (λ (w : Whole). w.asking) l.stands ∙ asks;
      backs = subst (λ (w : Whole). HasWaysBack w.machine) (sym l.stands) h.backs;
    }

pub advances-on : (word more : ℕ) (result : Result Effect Fault) (old mid : Whole) (new : Whole × ℕ)
    (start budget : ℕ) → IsStill word old mid start budget
    → Does (IsStepWriting mid.machine (budget + more)) (λ (e : Effect). e) result (mid, budget + more) new
    (stepped mid word (budget + more))
    → IfOk result (λ effect. IsSome (asking_of effect) → new.0.machine ≡ mid.machine)
    → Advances word result (old, start + more) None (budget + more) new None
advances-on word more result old mid new start budget s does stands = record {
  count = s.count;
  before = mid;
  log = None;
  passes = passes-more word s.count more old mid start budget None None s.passes;
  step = inl does;
  stands = stands;
  logs = logs-none result mid.machine;
  backs = s.backs;
}
