-- A step of an engine is the step of the session.
use Rattle.std.proofs.Common.{◌≡◌, ◌≢◌, ℕ, ◌+◌, ◌-◌, ◌<◌, ◌≤◌, nat_lt, if◌then◌else◌, Bool, true, false, Option, Some}
use Rattle.std.proofs.Common.{None, is_some, IsSome, Result, Ok, Err, refl, ap, subst, sym, ◌∙◌, arith}
use Rattle.std.proofs.lemmas.Bool.{ltb-false}
use Rattle.gx_words.specs.declared.faults.Fault.{Fault}
use Rattle.gx_words.specs.Results.{◌>>=◌}
use Rattle.gx_state.specs.declared.effects.Effect.{Effect}
use Rattle.gx_state.specs.declared.effects.Effect.TheVariants as effect
use Rattle.gx_machine.specs.declared.askings.Asking.{Asking}
use Rattle.gx_machine.specs.Machine.{FlatMachine, Whole}
use Rattle.gx_machine.specs.Step.{cost_of, step_of, stepped, asking_of}
use Rattle.gx_machine.proofs.Costs.{cost-positive}
use Rattle.gx_session.specs.declared.ends.Stop.TheVariants as stop
use Rattle.gx_session.specs.Configurations.{Configuration, Verdict, stops}
use Rattle.gx_session.specs.Moves.{after_effect}
use Rattle.gx_session.specs.Asked.{effect_at, asked}
use Rattle.rand_core.specs.Stream.{Stream, next_u32}
use Rattle.gx_session.proofs.Parts.{step_from, effect_of, asked_by}

-- what a step within a budget makes of a configuration
abbrev verdict_of : Configuration → Result ((Whole × ℕ) × Effect) Fault → Verdict
verdict_of m (Ok p) = after_effect m p.0.1 (Ok (p.0.0.machine, p.1))
verdict_of m (Err f) = stops (stop.Faulted f) m

-- a step that is done, with the units that it leaves
abbrev step-done : ℕ → Result (FlatMachine × Effect) Fault → Result ((Whole × ℕ) × Effect) Fault
step-done left r = r >>= (λ p. Ok ((record { machine = p.0; asking = asking_of p.1 }, left), p.1))

abbrev value_or : {A : Type 0} → A → Result A Fault → A
value_or d (Ok x) = x
value_or d (Err f) = d

-- an answer has one value
pub ok-is : {A : Type 0} (x y : A) → (let a : Result A Fault = Ok x in a ≡ Ok y) → x ≡ y
ok-is x y e = ap (value_or x) e

tested : (m : Configuration) (asking : Option Asking) (cost : ℕ) (r : Result (FlatMachine × Effect) Fault) (b : Bool)
    → (if b then stops stop.Spent m else after_effect m (m.left - cost) r)
    ≡ verdict_of m (if b then Ok ((record { machine = m.machine; asking = asking }, m.left), effect.Spent)
    else step-done (m.left - cost) r)
tested m asking cost r true = refl
tested m asking cost (Ok p) false = refl
tested m asking cost (Err f) false = refl

step-goes : (m : Configuration) (asking : Option Asking) (word : ℕ) → (next_u32 m.words).0 ≡ word
    → step_from m ≡ verdict_of m (stepped (record { machine = m.machine; asking = asking }) word m.left)
unfolding stepped
step-goes m asking word drawn =
    subst (λ (w : ℕ). step_from m ≡ verdict_of m (stepped (record { machine = m.machine; asking = asking }) w m.left))
    drawn
    (tested m asking (cost_of m.machine) (step_of m.machine (next_u32 m.words).0) (nat_lt m.left (cost_of m.machine)))

module _ (m : Configuration) (asking : Option Asking) (word : ℕ) (drawn : (next_u32 m.words).0 ≡ word) where
  -- a step that is answered with an effect
  pub step-does : (w : Whole) (left : ℕ) (does : Effect)
      → stepped (record { machine = m.machine; asking = asking }) word m.left ≡ Ok ((w, left), does)
      → step_from m ≡ after_effect m left (Ok (w.machine, does))
  step-does w left does e = step-goes m asking word drawn ∙ ap (verdict_of m) e

  -- a step that is refused
  pub step-faults : (f : Fault) → stepped (record { machine = m.machine; asking = asking }) word m.left ≡ Err f
      → step_from m ≡ stops (stop.Faulted f) m
  step-faults f e = step-goes m asking word drawn ∙ ap (verdict_of m) e

asks-by : (w : Whole) (budget left : ℕ) (r : Result (FlatMachine × Effect) Fault) (w' : Whole) (left' : ℕ)
    (does : Effect) (b : Bool)
    → (if b then Ok ((w, budget), effect.Spent) else step-done left r) ≡ Ok ((w', left'), does)
    → IsSome (asking_of does) → asked_by r ≡ asking_of does
asks-by w budget left r w' left' does true e some =
    let spent : effect.Spent ≡ does = ap (λ (q : (Whole × ℕ) × Effect). q.1)
    (ok-is {A = (Whole × ℕ) × Effect} ((w, budget), effect.Spent) ((w', left'), does) e) in
    let none : is_some (asking_of does) ≡ false = ap (λ (x : Effect). is_some (asking_of x)) (sym spent) in
    cc
asks-by w budget left (Ok p) w' left' does false e some =
    ap (λ (q : (Whole × ℕ) × Effect). asking_of q.1)
    (ok-is {A = (Whole × ℕ) × Effect} ((record { machine = p.0; asking = asking_of p.1 }, left), p.1)
    ((w', left'), does) e)
asks-by w budget left (Err f) w' left' does false e some = cc

-- the effect of a step
effect-by : (w : Whole) (budget left : ℕ) (r : Result (FlatMachine × Effect) Fault) (w' : Whole) (left' : ℕ)
    (does : Effect) (b : Bool)
    → (if b then Ok ((w, budget), effect.Spent) else step-done left r) ≡ Ok ((w', left'), does) → does ≢ effect.Spent
    → (if b then None else effect_of r) ≡ Some does
effect-by w budget left r w' left' does true e done =
    let spent : effect.Spent ≡ does = ap (λ (q : (Whole × ℕ) × Effect). q.1)
    (ok-is {A = (Whole × ℕ) × Effect} ((w, budget), effect.Spent) ((w', left'), does) e) in
    absurd (done (sym spent))
effect-by w budget left (Ok p) w' left' does false e done =
    ap (λ (q : (Whole × ℕ) × Effect). Some q.1)
    (ok-is {A = (Whole × ℕ) × Effect} ((record { machine = p.0; asking = asking_of p.1 }, left), p.1)
    ((w', left'), does) e)
effect-by w budget left (Err f) w' left' does false e done = cc

-- and no other
only-by : (w : Whole) (budget left : ℕ) (r : Result (FlatMachine × Effect) Fault) (w' : Whole) (left' : ℕ)
    (does other : Effect) (b : Bool)
    → (if b then Ok ((w, budget), effect.Spent) else step-done left r) ≡ Ok ((w', left'), does)
    → (if b then None else effect_of r) ≡ Some other → other ≡ does
only-by w budget left r w' left' does other true e at = cc
only-by w budget left (Ok p) w' left' does other false e at =
    let same : p.1 ≡ other = cc in
    sym same ∙ ap (λ (q : (Whole × ℕ) × Effect). q.1)
    (ok-is {A = (Whole × ℕ) × Effect} ((record { machine = p.0; asking = asking_of p.1 }, left), p.1)
    ((w', left'), does) e)
only-by w budget left (Err f) w' left' does other false e at = cc

-- a fault has none
none-by : (w : Whole) (budget left : ℕ) (r : Result (FlatMachine × Effect) Fault) (f : Fault) (b : Bool)
    → (if b then Ok ((w, budget), effect.Spent) else step-done left r) ≡ Err f → (if b then None else effect_of r) ≡ None
none-by w budget left r f true e = refl
none-by w budget left (Ok p) f false e = cc
none-by w budget left (Err g) f false e = refl

faults-by : (w : Whole) (budget left : ℕ) (r : Result (FlatMachine × Effect) Fault) (f : Fault) (b : Bool)
    → (if b then Ok ((w, budget), effect.Spent) else step-done left r) ≡ Err f → asked_by r ≡ None
faults-by w budget left r f true e = cc
faults-by w budget left (Ok p) f false e = cc
faults-by w budget left (Err g) f false e = refl

module _ (m : Configuration) (asking : Option Asking) (word : ℕ) (drawn : (next_u32 m.words).0 ≡ word) where
  -- A step that asks asks what its configuration asks.
  pub step-asks : (w : Whole) (left : ℕ) (does : Effect)
      → stepped (record { machine = m.machine; asking = asking }) word m.left ≡ Ok ((w, left), does)
      → IsSome (asking_of does) → asked m ≡ asking_of does
  unfolding stepped asked
  step-asks w left does e some =
      ap (λ (x : ℕ). asked_by (step_of m.machine x)) drawn
      ∙ asks-by (record { machine = m.machine; asking = asking }) m.left (m.left - cost_of m.machine)
      (step_of m.machine word) w left does (nat_lt m.left (cost_of m.machine)) e some

  -- One that is done has this effect.
  pub step-effect : (w : Whole) (left : ℕ) (does : Effect)
      → stepped (record { machine = m.machine; asking = asking }) word m.left ≡ Ok ((w, left), does)
      → does ≢ effect.Spent → effect_at m ≡ Some does
  unfolding stepped
  step-effect w left does e done =
      ap (λ (x : ℕ). if nat_lt m.left (cost_of m.machine) then None else effect_of (step_of m.machine x)) drawn
      ∙ effect-by (record { machine = m.machine; asking = asking }) m.left (m.left - cost_of m.machine)
      (step_of m.machine word) w left does (nat_lt m.left (cost_of m.machine)) e done

  pub step-only : (w : Whole) (left : ℕ) (does : Effect)
      → stepped (record { machine = m.machine; asking = asking }) word m.left ≡ Ok ((w, left), does)
      → (other : Effect) → effect_at m ≡ Some other → other ≡ does
  unfolding stepped
  step-only w left does e other at =
      only-by (record { machine = m.machine; asking = asking }) m.left (m.left - cost_of m.machine)
      (step_of m.machine word) w left does other (nat_lt m.left (cost_of m.machine)) e
      (ap (λ (x : ℕ). if nat_lt m.left (cost_of m.machine) then None else effect_of (step_of m.machine x)) (sym drawn)
      ∙ at)

  -- One that meets a fault has none, and asks nothing.
  pub step-none : (f : Fault) → stepped (record { machine = m.machine; asking = asking }) word m.left ≡ Err f
      → effect_at m ≡ None
  unfolding stepped
  step-none f e =
      ap (λ (x : ℕ). if nat_lt m.left (cost_of m.machine) then None else effect_of (step_of m.machine x)) drawn
      ∙ none-by (record { machine = m.machine; asking = asking }) m.left (m.left - cost_of m.machine)
      (step_of m.machine word) f (nat_lt m.left (cost_of m.machine)) e

  pub step-asks-nothing : (f : Fault) → stepped (record { machine = m.machine; asking = asking }) word m.left ≡ Err f
      → asked m ≡ None
  unfolding stepped asked
  step-asks-nothing f e =
      ap (λ (x : ℕ). asked_by (step_of m.machine x)) drawn
      ∙ faults-by (record { machine = m.machine; asking = asking }) m.left (m.left - cost_of m.machine)
      (step_of m.machine word) f (nat_lt m.left (cost_of m.machine)) e

-- What a step answers: the engine asks what the effect asks, and there are fewer units unless the
-- budget is spent.
pub record Stepped (before : ℕ) (w : Whole) (left : ℕ) (does : Effect) : Type 0 where
  pub asks : w.asking ≡ asking_of does
  pub no_more : left ≤ before
  pub nearer : does ≢ effect.Spent → left < before

-- an engine that stands is whole
pub same-whole : (w w' : Whole) (left left' : ℕ) → ◌≡◌ {A = Whole × ℕ} (w, left) (w', left') → w ≡ w'
same-whole w w' left left' e = ap (λ (p : Whole × ℕ). p.0) e

-- what is left after a cost is less
fewer : (cost before left : ℕ) → 1 ≤ cost → cost ≤ before → before - cost ≡ left → left < before
fewer cost before left positive enough units = omega arith

same-units : (before left : ℕ) → before ≡ left → left ≤ before
same-units before left units = omega arith

less-or-same : (before left : ℕ) → left < before → left ≤ before
less-or-same before left less = omega arith

done-steps : (cost before : ℕ) (r : Result (FlatMachine × Effect) Fault) (w' : Whole) (left : ℕ) (does : Effect)
    → 1 ≤ cost → cost ≤ before
    → step-done (before - cost) r ≡ Ok ((w', left), does) → Stepped before w' left does
done-steps cost before (Ok p) w' left does positive enough e =
    let w : Whole = record { machine = p.0; asking = asking_of p.1 } in
    let same : ((w, before - cost), p.1) ≡ ((w', left), does) =
    ok-is {A = (Whole × ℕ) × Effect} ((w, before - cost), p.1) ((w', left), does) e in
    let units : before - cost ≡ left = ap (λ (q : (Whole × ℕ) × Effect). q.0.1) same in
    record {
      asks = sym (ap (λ (q : (Whole × ℕ) × Effect). q.0.0.asking) same)
          ∙ ap (λ (q : (Whole × ℕ) × Effect). asking_of q.1) same;
      no_more = less-or-same before left (fewer cost before left positive enough units);
      nearer = λ _. fewer cost before left positive enough units;
    }
done-steps cost before (Err f) w' left does positive enough e = cc

tested-steps : (w : Whole) (cost before : ℕ) (r : Result (FlatMachine × Effect) Fault) (w' : Whole) (left : ℕ)
    (does : Effect) (b : Bool)
    → nat_lt before cost ≡ b → 1 ≤ cost → w.asking ≡ None
    → (if b then Ok ((w, before), effect.Spent) else step-done (before - cost) r) ≡ Ok ((w', left), does)
    → Stepped before w' left does
tested-steps w cost before r w' left does true is positive none e =
    let same : ((w, before), effect.Spent) ≡ ((w', left), does) =
    ok-is {A = (Whole × ℕ) × Effect} ((w, before), effect.Spent) ((w', left), does) e in
    let units : before ≡ left = ap (λ (q : (Whole × ℕ) × Effect). q.0.1) same in
    let spent : effect.Spent ≡ does = ap (λ (q : (Whole × ℕ) × Effect). q.1) same in
    record {
      asks = sym (ap (λ (q : (Whole × ℕ) × Effect). q.0.0.asking) same) ∙ none ∙ ap asking_of spent;
      no_more = same-units before left units;
      nearer = λ other. absurd (other (sym spent));
    }
tested-steps w cost before r w' left does false is positive none e =
    done-steps cost before r w' left does positive (ltb-false before cost is) e

pub step-answers : (w w' : Whole) (word before left : ℕ) (does : Effect) → w.asking ≡ None
    → stepped w word before ≡ Ok ((w', left), does) → Stepped before w' left does
unfolding stepped
step-answers w w' word before left does none e =
    tested-steps w (cost_of w.machine) before (step_of w.machine word) w' left does
    (nat_lt before (cost_of w.machine)) refl (cost-positive w.machine) none e

cost-by : (w : Whole) (cost before : ℕ) (r : Result (FlatMachine × Effect) Fault) (w' : Whole) (left : ℕ)
    (does : Effect) (b : Bool) → nat_lt before cost ≡ b
    → (if b then Ok ((w, before), effect.Spent) else step-done (before - cost) r) ≡ Ok ((w', left), does)
    → does ≢ effect.Spent → left + cost ≡ before
cost-by w cost before r w' left does true is e done =
    let spent : effect.Spent ≡ does = ap (λ (q : (Whole × ℕ) × Effect). q.1)
    (ok-is {A = (Whole × ℕ) × Effect} ((w, before), effect.Spent) ((w', left), does) e) in
    absurd (done (sym spent))
cost-by w cost before (Ok p) w' left does false is e done =
    let units : before - cost ≡ left = ap (λ (q : (Whole × ℕ) × Effect). q.0.1)
    (ok-is {A = (Whole × ℕ) × Effect} ((record { machine = p.0; asking = asking_of p.1 }, before - cost), p.1)
    ((w', left), does) e) in
    let enough : cost ≤ before = ltb-false before cost is in
    omega arith
cost-by w cost before (Err f) w' left does false is e done = cc

-- A step that is made takes its cost.
pub step-cost : (w w' : Whole) (word before left : ℕ) (does : Effect) → stepped w word before ≡ Ok ((w', left), does)
    → does ≢ effect.Spent → left + cost_of w.machine ≡ before
unfolding stepped
step-cost w w' word before left does e done =
    cost-by w (cost_of w.machine) before (step_of w.machine word) w' left does
    (nat_lt before (cost_of w.machine)) refl e done

-- What is asked is a matter of the machine and of the next word.
pub asked-by-word : (m m' : Configuration) → m'.machine ≡ m.machine → (next_u32 m.words).0 ≡ (next_u32 m'.words).0
    → asked m ≡ asked m'
unfolding asked
asked-by-word m m' machine word =
    ap (λ (x : FlatMachine). asked_by (step_of x (next_u32 m.words).0)) (sym machine)
    ∙ ap (λ (n : ℕ). asked_by (step_of m'.machine n)) word

pub asked-same : (m m' : Configuration) → m'.machine ≡ m.machine → m'.words ≡ m.words → asked m ≡ asked m'
asked-same m m' machine words = asked-by-word m m' machine (ap (λ (s : Stream). (next_u32 s).0) (sym words))
