-- Steps that are made the quick way, one after the other.
use Rattle.std.proofs.Common.{◌≡◌, ◌<◌, ◌≤◌, ◌-◌, ℕ, zero, suc, nat_lt, false, Option, None, Result, Ok, Err, IsOk}
use Rattle.std.proofs.Common.{refl, ap, subst, sym, ◌∙◌, arith}
use Rattle.std.proofs.lemmas.Bool.{le-ltb}
use Rattle.gx_words.specs.declared.faults.Fault.{Fault}
use Rattle.gx_words.specs.Faults.{IsRefused}
use Rattle.gx_state.specs.declared.effects.Effect.{Effect}
use Rattle.gx_state.specs.declared.effects.Effect.TheVariants.{Went, Drew, Put, Glk, Save, Restore, Quit, Spent}
use Rattle.gx_state.specs.declared.modes.Mode.TheVariants.{Running}
use Rattle.gx_state.specs.Flat.{sp_of}
use Rattle.ops_memory.specs.Charges.{lowered, charged}
use Rattle.gx_machine.specs.Machine.{FlatMachine, Whole}
use Rattle.gx_machine.specs.Step.{mode_step, probes_in, stepped, IsModeWriting, IsStepWriting}
use Rattle.gx_machine.specs.Log.{Log}
use Rattle.gx_machine.specs.Advancing.{Passes, logged_by, logged_after}
use Rattle.gx_machine.proofs.Steps.{step_ok, step_err, step_can, step_writes}

-- steps after steps
pub joined : (word n m : ℕ) (a b c : Whole × ℕ) (x y z : Option Log) → Passes word n a x b y → Passes word m b y c z
    → (k : ℕ) × Passes word k a x c z
joined word n zero a b c x y z first then = (
  n,
  subst (λ (l : Option Log). Passes word n a x c l) then.1
      (subst (λ (p : Whole × ℕ). Passes word n a x p y) then.0 first),
)
joined word n (suc m) a b c x y z first then =
    let before = joined word n m a b then.0 x y then.1 first then.2 in
    (suc before.0, (then.0, then.1, before.1, then.3, then.4, then.5))

-- a step that begins no probes
free : (left : ℕ) (probes : ℕ) (m : FlatMachine) (r : Result (FlatMachine × Effect) Fault) → probes ≡ 0
    → charged left probes m r ≡ lowered left 0 r
free left probes m r none = let enough : nat_lt left 0 ≡ false = le-ltb left 0 (omega arith) in rw (none, enough) refl

pub pass_ok : (w : Whole) (word budget : ℕ) (m' : FlatMachine) → 1 ≤ budget → 0 < sp_of w.machine.flat
    → w.machine.flat.mode ≡ Running → w.asking ≡ None → probes_in w.machine.flat Running ≡ 0
    → mode_step w.machine word Running ≡ Ok (m', Went)
    → stepped w word budget ≡ Ok ((record { machine = m'; asking = w.asking }, budget - 1), Went)
pass_ok w word budget m' some live running asks none is =
    let units : budget - 1 - 0 ≡ budget - 1 = omega arith in
    let all : charged (budget - 1) (probes_in w.machine.flat Running) w.machine (mode_step w.machine word Running)
    ≡ Ok ((m', budget - 1), Went) =
    free (budget - 1) (probes_in w.machine.flat Running) w.machine (mode_step w.machine word Running) none
    ∙ ap (lowered (budget - 1) 0) is ∙ ap (λ (n : ℕ). Ok ((m', n), Went)) units in
    step_ok w word budget (budget - 1) m' Went w.asking some live running (λ same. cc) (sym asks) all

lowered-ok : (left : ℕ) (r : Result (FlatMachine × Effect) Fault) → IsOk r → IsOk (lowered left 0 r)
lowered-ok left (Ok x) ok = ok
lowered-ok left (Err e) ok = ok

pub pass_refused : (w : Whole) (word budget : ℕ) (e : Fault) → 1 ≤ budget → 0 < sp_of w.machine.flat
    → w.machine.flat.mode ≡ Running → probes_in w.machine.flat Running ≡ 0
    → IsRefused (IsModeWriting w.machine Running) e (mode_step w.machine word Running)
    → IsRefused (IsStepWriting w.machine budget) e (stepped w word budget)
pass_refused w word budget e some live running none refused =
    let probes : ℕ = probes_in w.machine.flat Running in
    let same : charged (budget - 1) probes w.machine (mode_step w.machine word Running)
    ≡ lowered (budget - 1) 0 (mode_step w.machine word Running) =
    free (budget - 1) probes w.machine (mode_step w.machine word Running) none in (
      (λ given. step_err w word budget e some live running (same ∙ ap (lowered (budget - 1) 0) (refused.0 given))),
      (λ lacks.
          let lack = refused.1 lacks in (
            step_writes w.machine budget some live running (omega (arith, none)) lack.0,
            step_can w word budget some live running
                (subst IsOk (sym same) (lowered-ok (budget - 1) (mode_step w.machine word Running) lack.1)),
          )),
    )

-- a machine that records nothing goes on so
pub done-logs-none : (done : Effect) (m : FlatMachine) → None ≡ logged_by done None m
done-logs-none Went m = refl
done-logs-none Drew m = refl
done-logs-none (Put c) m = refl
done-logs-none (Glk selector args room) m = refl
done-logs-none (Save stream) m = refl
done-logs-none (Restore stream) m = refl
done-logs-none Quit m = refl
done-logs-none Spent m = refl

pub logs-none : (r : Result Effect Fault) (m : FlatMachine) → None ≡ logged_after r None m
logs-none (Ok done) m = done-logs-none done m
logs-none (Err e) m = refl
