-- Steps that ask nothing and leave the word, one after the other, lead from a configuration of the run to one.
use Rattle.std.proofs.Common.{◌≡◌, ◌≢◌, ◌≤◌, ◌⊎◌, inl, inr, ℕ, zero, suc, Option, Some, None, IsSome, Ok, Err, IsOk}
use Rattle.std.proofs.Common.{subst, arith}
use Rattle.gx_words.specs.declared.faults.Fault.{Fault}
use Rattle.gx_words.specs.declared.faults.Fault.TheVariants.{NoMemory}
use Rattle.gx_state.specs.declared.effects.Effect.{Effect}
use Rattle.gx_state.specs.declared.effects.Effect.TheVariants as effect
use Rattle.gx_machine.specs.Machine.{Whole}
use Rattle.gx_machine.specs.Step.{stepped, IsStepWriting}
use Rattle.gx_machine.specs.Log.{Log}
use Rattle.gx_machine.specs.Advancing.{Passes, Advances}
use Rattle.gx_machine.proofs.Steps.{went_lower, went_asks}
use Rattle.gx_session.specs.Configurations.{Configuration}
use Rattle.gx_session.specs.Holding.{SendStep, Handed, HeldRun}
use Rattle.gx_session.specs.Standing.{Going}
use Rattle.gx_session.proofs.Asking.{step-follows, went-on}

pub passed-asks : (word n : ℕ) (w w' : Whole) (left left' : ℕ) (first last : Option Log) → w.asking ≡ None
    → Passes word n (w, left) first (w', left') last → w'.asking ≡ None
passed-asks word zero w w' left left' first last nothing p = subst (λ (q : Whole × ℕ). q.0.asking ≡ None) p.0 nothing
passed-asks word (suc n) w w' left left' first last nothing p = went_asks p.0.0 w' word p.0.1 left' p.3

pub passed-lower : (word n : ℕ) (w w' : Whole) (left left' : ℕ) (first last : Option Log)
    → Passes word n (w, left) first (w', left') last → left' ≤ left
passed-lower word zero w w' left left' first last p = subst (λ (q : Whole × ℕ). q.1 ≤ left) p.0 (omega arith)
passed-lower word (suc n) w w' left left' first last p =
    omega (arith, went_lower p.0.0 w' word p.0.1 left' p.3, passed-lower word n w p.0.0 left p.0.1 first p.1 p.2)

pub passed-going : {K : Type 0} {sending : SendStep K}
    → (start : Configuration) (entry d : Handed sending) (h : HeldRun) (word n : ℕ) (w w' : Whole) (left left' : ℕ)
    (first last : Option Log) → h.word ≡ Some word → w.asking ≡ None
    → Going start entry (record h { machine = w.machine; left = left; log = first }) d
    → Passes word n (w, left) first (w', left') last
    → Going start entry (record h { machine = w'.machine; left = left'; log = last }) d
passed-going start entry d h word zero w w' left left' first last drawn nothing going p =
    subst (λ (l : Option Log). Going start entry (record h { machine = w'.machine; left = left'; log = l }) d) p.1
    (subst (λ (q : Whole × ℕ). Going start entry (record h { machine = q.0.machine; left = q.1; log = first }) d) p.0
    going)
passed-going start entry d h word (suc n) w w' left left' first last drawn nothing going p =
    let before : Whole = p.0.0 in
    let mid : HeldRun = record h { machine = before.machine; left = p.0.1; log = p.1 } in
    let reached = passed-going start entry d h word n w before left p.0.1 first p.1 drawn nothing going p.2 in
    let follows = step-follows start entry mid d before.asking word drawn reached w' left' effect.Went p.3
    (λ some. absurd cc) last p.4 p.5 in
    went-on start entry (record mid { machine = w'.machine; log = last }) d left' follows

-- the last step of an advance that is answered with an effect
pub advanced : (word : ℕ) (does : Effect) (w w' : Whole) (budget budget' left : ℕ) (first last : Option Log)
    (a : Advances word (Ok does) (w, budget) first budget' (w', left) last)
    → stepped a.before word budget' ≡ Ok ((w', left), does)
advanced word does w w' budget budget' left first last a =
    elim a.step [
      | inl e ↦ e
      | inr none ↦ absurd (let refused = none.refused in cc)
    ]

-- one that is refused
module _ (word : ℕ) (f : Fault) (w w' : Whole) (budget budget' left : ℕ) (first last : Option Log)
    (a : Advances word (Err f) (w, budget) first budget' (w', left) last) where
  pub refused-stands : ◌≡◌ {A = Whole × ℕ} (w', left) (a.before, budget')
  refused-stands =
      elim a.step [
        | inl e ↦ e.0
        | inr none ↦ none.stands
      ]

  -- for want of memory
  pub refused-wants : f ≡ NoMemory → IsSome a.log
      ⊎ (IsStepWriting a.before.machine budget' × IsOk (stepped a.before word budget'))
  refused-wants wants =
      elim a.step [
        | inl e ↦ inr (e.1.1 wants)
        | inr none ↦ inl none.recorded
      ]

  -- for another fault
  pub refused-is : f ≢ NoMemory → stepped a.before word budget' ≡ Err f
  refused-is other =
      elim a.step [
        | inl e ↦ e.1.0 other
        | inr none ↦ absurd (other (let refused = none.refused in cc))
      ]
