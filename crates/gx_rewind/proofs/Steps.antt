-- What a step within a budget does.
use Rattle.std.proofs.Common.{◌≡◌, ◌≢◌, ◌<◌, ◌≤◌, ◌-◌, ℕ, nat_lt, if◌then◌else◌, Bool, true, false, Result, Ok, Err}
use Rattle.std.proofs.Common.{refl, ap, sym, ◌∙◌, arith}
use Rattle.std.proofs.lemmas.Bool.{ltb-false, ltb-true}
use Rattle.gx_words.specs.declared.faults.Fault.{Fault}
use Rattle.gx_words.specs.Results.{◌>>=◌}
use Rattle.gx_state.specs.declared.effects.Effect.{Effect}
use Rattle.gx_state.specs.declared.effects.Effect.TheVariants.{Spent}
use Rattle.gx_machine.specs.Machine.{FlatMachine, Whole}
use Rattle.gx_machine.specs.Step.{asking_of, cost_of, step_of, stepped}

-- a step that is done
pub record IsDone (w : Whole) (word budget : ℕ) (new : Whole) (left : ℕ) (effect : Effect) : Type 0 where
  pub enough : cost_of w.machine ≤ budget
  pub left_is : left ≡ budget - cost_of w.machine
  pub step : step_of w.machine word ≡ Ok (new.machine, effect)
  pub asks : new.asking ≡ asking_of effect

-- one that isn't
pub record IsLeft (w : Whole) (budget : ℕ) (new : Whole) (left : ℕ) : Type 0 where
  pub stands : new ≡ w
  pub left_is : left ≡ budget
  pub short : budget < cost_of w.machine

abbrev value_or : {A : Type 0} → A → Result A Fault → A
value_or d (Ok x) = x
value_or d (Err f) = d

-- an answer has one value
pub ok-is : {A : Type 0} (x y : A) → (let a : Result A Fault = Ok x in a ≡ Ok y) → x ≡ y
ok-is x y e = ap (value_or x) e

err-ok : {A : Type 0} (f : Fault) (x : A) → (let r : Result A Fault = Err f in r ≡ Ok x) → ⊥
err-ok f x same = cc

abbrev done : ℕ → Result (FlatMachine × Effect) Fault → Result ((Whole × ℕ) × Effect) Fault
done left r = r >>= (λ (x : FlatMachine × Effect). Ok ((record { machine = x.0; asking = asking_of x.1 }, left), x.1))

done-is : (left : ℕ) (r : Result (FlatMachine × Effect) Fault) (w' : Whole) (left' : ℕ) (e : Effect)
    → done left r ≡ Ok ((w', left'), e)
    → (left' ≡ left) × (r ≡ Ok (w'.machine, e)) × (w'.asking ≡ asking_of e)
done-is left (Ok x) w' left' e h =
    let same : ((record { machine = x.0; asking = asking_of x.1 }, left), x.1) ≡ ((w', left'), e) =
    ok-is {A = (Whole × ℕ) × Effect} ((record { machine = x.0; asking = asking_of x.1 }, left), x.1)
    ((w', left'), e) h in (
      sym (ap (λ (y : (Whole × ℕ) × Effect). y.0.1) same),
      ap (λ (y : (Whole × ℕ) × Effect). Ok (y.0.0.machine, y.1)) same,
      sym (ap (λ (y : (Whole × ℕ) × Effect). y.0.0.asking) same)
          ∙ ap (λ (y : (Whole × ℕ) × Effect). asking_of y.1) same,
    )
done-is left (Err f) w' left' e h = absurd (err-ok f ((w', left'), e) h)

is-done : (w : Whole) (word budget : ℕ) (w' : Whole) (left : ℕ) (e : Effect) (b : Bool)
    → nat_lt budget (cost_of w.machine) ≡ b → (b ≡ true → e ≢ Spent)
    → (if b then Ok ((w, budget), Spent) else done (budget - cost_of w.machine) (step_of w.machine word))
    ≡ Ok ((w', left), e) → IsDone w word budget w' left e
is-done w word budget w' left e true is other h =
    absurd (other refl (sym (ap (λ (y : (Whole × ℕ) × Effect). y.1)
    (ok-is {A = (Whole × ℕ) × Effect} ((w, budget), Spent) ((w', left), e) h))))
is-done w word budget w' left e false is other h =
    let all = done-is (budget - cost_of w.machine) (step_of w.machine word) w' left e h in
    record {
      enough = ltb-false budget (cost_of w.machine) is;
      left_is = all.0;
      step = all.1;
      asks = all.2;
    }

pub step-done : (w : Whole) (word budget : ℕ) (w' : Whole) (left : ℕ) (e : Effect) → e ≢ Spent
    → stepped w word budget ≡ Ok ((w', left), e) → IsDone w word budget w' left e
unfolding stepped
step-done w word budget w' left e other h =
    is-done w word budget w' left e (nat_lt budget (cost_of w.machine)) refl (λ _. other) h

is-left : (w : Whole) (word budget : ℕ) (w' : Whole) (left : ℕ) (b : Bool) → nat_lt budget (cost_of w.machine) ≡ b
    → ((n : FlatMachine) → step_of w.machine word ≡ Ok (n, Spent) → ⊥)
    → (if b then Ok ((w, budget), Spent) else done (budget - cost_of w.machine) (step_of w.machine word))
    ≡ Ok ((w', left), Spent) → IsLeft w budget w' left
is-left w word budget w' left true is never h =
    let same : ((w, budget), Spent) ≡ ((w', left), Spent) =
    ok-is {A = (Whole × ℕ) × Effect} ((w, budget), Spent) ((w', left), Spent) h in
    record {
      stands = sym (ap (λ (y : (Whole × ℕ) × Effect). y.0.0) same);
      left_is = sym (ap (λ (y : (Whole × ℕ) × Effect). y.0.1) same);
      short = ltb-true budget (cost_of w.machine) is;
    }
is-left w word budget w' left false is never h =
    let all = done-is (budget - cost_of w.machine) (step_of w.machine word) w' left Spent h in
    absurd (never w'.machine all.1)

pub step-left : (w : Whole) (word budget : ℕ) (w' : Whole) (left : ℕ)
    → ((n : FlatMachine) → step_of w.machine word ≡ Ok (n, Spent) → ⊥)
    → stepped w word budget ≡ Ok ((w', left), Spent) → IsLeft w budget w' left
unfolding stepped
step-left w word budget w' left never h = is-left w word budget w' left (nat_lt budget (cost_of w.machine)) refl never h

lower-by : (w : Whole) (word budget : ℕ) (w' : Whole) (left : ℕ) (e : Effect) (b : Bool)
    → (if b then Ok ((w, budget), Spent) else done (budget - cost_of w.machine) (step_of w.machine word))
    ≡ Ok ((w', left), e) → left ≤ budget
lower-by w word budget w' left e true h =
    let same : budget ≡ left = ap (λ (y : (Whole × ℕ) × Effect). y.0.1)
    (ok-is {A = (Whole × ℕ) × Effect} ((w, budget), Spent) ((w', left), e) h) in omega (arith, same)
lower-by w word budget w' left e false h =
    let all = done-is (budget - cost_of w.machine) (step_of w.machine word) w' left e h in let left_is = all.0 in
    omega (arith, left_is)

-- no step leaves more than there was
pub step-lower : (w : Whole) (word budget : ℕ) (w' : Whole) (left : ℕ) (e : Effect)
    → stepped w word budget ≡ Ok ((w', left), e) → left ≤ budget
unfolding stepped
step-lower w word budget w' left e h = lower-by w word budget w' left e (nat_lt budget (cost_of w.machine)) h
