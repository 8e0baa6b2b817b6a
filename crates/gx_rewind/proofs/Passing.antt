-- Events that took nothing, one after the other, lead from a place of the run to one.
use Rattle.std.proofs.Common.{◌≡◌, ◌+◌, ◌-◌, ◌<◌, ◌≤◌, ℕ, zero, suc, List, [], ◌∷◌, Option, Some, None, Ok, refl, ap}
use Rattle.std.proofs.Common.{subst, sym, ◌∙◌, arith}
use Rattle.gx_state.specs.declared.effects.Effect.{Effect}
use Rattle.gx_state.specs.declared.effects.Effect.TheVariants.{Went, Drew, Spent}
use Rattle.gx_machine.specs.Advancing.{Passes}
use Rattle.gx_machine.specs.Log.{Log, logged, units_of}
use Rattle.gx_machine.specs.Machine.{FlatMachine, Whole}
use Rattle.gx_machine.specs.Step.{asking_of, step_of}
use Rattle.gx_machine.proofs.Costs.{cost-positive}
use Rattle.gx_machine.proofs.Steps.{went_lower, went_asks}
use Rattle.gx_rewind.specs.declared.books.Note.{Note}
use Rattle.gx_rewind.specs.Path.{machine_after_step, machine_after_event, answered_by_nothing, taken_from, IsPath}
use Rattle.gx_rewind.proofs.Paths.{units-cons, extended}
use Rattle.gx_rewind.proofs.Steps.{step-done}
use Rattle.gx_rewind.proofs.Words.{same-step}

-- a machine that records nothing records nothing
pub no-log : (word n : ℕ) (start end : Whole × ℕ) (log : Option Log) → Passes word n start None end log → log ≡ None
no-log word zero start end log p = sym p.1
no-log word (suc n) start end log p = p.4
    ∙ ap (λ (l : Option Log). logged l p.0.0.machine) (no-log word n start p.0 p.1 p.2)

pub passed-asks : (word n : ℕ) (w w' : Whole) (left left' : ℕ) (x y : Option Log) → w.asking ≡ None
    → Passes word n (w, left) x (w', left') y → w'.asking ≡ None
passed-asks word zero w w' left left' x y nothing p = subst (λ (q : Whole × ℕ). q.0.asking ≡ None) p.0 nothing
passed-asks word (suc n) w w' left left' x y nothing p = went_asks p.0.0 w' word p.0.1 left' p.3

pub passed-lower : (word n : ℕ) (w w' : Whole) (left left' : ℕ) (x y : Option Log)
    → Passes word n (w, left) x (w', left') y → left' ≤ left
passed-lower word zero w w' left left' x y p = subst (λ (q : Whole × ℕ). q.1 ≤ left) p.0 (omega arith)
passed-lower word (suc n) w w' left left' x y p =
    let less = went_lower p.0.0 w' word p.0.1 left' p.3 in
    let before = passed-lower word n w p.0.0 left p.0.1 x p.1 p.2 in
    omega (arith, less, before)

-- an event that took nothing
pub quiet : (A : Type 0) (m n : FlatMachine) (e : Effect) → step_of m 0 ≡ Ok (n, e)
    → machine_after_event {A = A} m None ≡ answered_by_nothing n (asking_of e)
quiet A m n e is = ap (machine_after_step m) is

went-drew : Went ≡ Drew → ⊥
went-drew same = cc

went-spent : Went ≡ Spent → ⊥
went-spent same = cc

-- what followed is cut off where there were any
abbrev pub rest_of : ℕ → List FlatMachine → List FlatMachine
rest_of zero ms = ms
rest_of (suc n) ms = []

-- steps that go on are recorded
pub record HasPassed {A : Type 0} (notes : List (Note A)) (opening : FlatMachine) (word n : ℕ) (w w' : Whole)
    (left left' : ℕ) (before after : List FlatMachine) (i : ℕ) : Type 0 where
  pub last : List FlatMachine
  pub path : IsPath notes opening last w'.machine i
  pub units_is : units_of last ≡ units_of before + (left - left')
  pub lower : left' ≤ left
  pub passes : Passes word n (w, left) (Some (record { before = before; after = after })) (w', left')
      (Some (record { before = last; after = rest_of n after }))

module _ {A : Type 0} (notes : List (Note A)) (opening : FlatMachine) where
  pub passes-on : (word n : ℕ) (w w' : Whole) (left left' : ℕ) (before after : List FlatMachine) (i : ℕ)
      (x : Option Log)
      → Passes word n (w, left) None (w', left') x → IsPath notes opening before w.machine i
      → ((u : ℕ) → units_of before ≤ u → u < units_of before + left → taken_from notes i u ≡ None)
      → HasPassed notes opening word n w w' left left' before after i
  passes-on word zero w w' left left' before after i x p path free =
      subst (λ (q : Whole × ℕ). HasPassed notes opening word 0 w q.0 left q.1 before after i) p.0
      (record {
        last = before;
        path = path;
        units_is = omega arith;
        lower = omega arith;
        passes = (refl, refl);
      })
  passes-on word (suc n) w w' left left' before after i x p path free =
      let mid : Whole = p.0.0 in
      let more : ℕ = p.0.1 in
      let so_far = passes-on word n w mid left more before after i p.1 p.2 path free in
      let step = step-done mid word more w' left' Went went-spent p.3 in
      let one = cost-positive mid.machine in
      let units = so_far.units_is in
      let lower = so_far.lower in
      let enough = step.enough in
      let left_is = step.left_is in
      let sum = units-cons mid.machine so_far.last in
      let none = free (units_of so_far.last) (omega (arith, units)) (omega (arith, units, one, enough, lower)) in
      let same = same-step mid.machine word w'.machine Went went-drew step.step in
      record {
        last = mid.machine ∷ so_far.last;
        path = extended notes opening so_far.last mid.machine i None w'.machine i so_far.path none
            (quiet A mid.machine w'.machine Went same) refl (w'.machine, Went, same, tt);
        units_is = omega (arith, units, lower, enough, left_is, sum);
        lower = omega (arith, lower, left_is);
        passes = (
          (mid, more),
          Some (record { before = so_far.last; after = rest_of n after }),
          so_far.passes,
          p.3,
          refl,
          p.5,
        );
      }

-- where no units passed, no step did
pub none-passed : (word n : ℕ) (w w' : Whole) (left left' : ℕ) (x y : Option Log)
    → Passes word n (w, left) x (w', left') y → left - left' ≡ 0 → n ≡ 0
none-passed word zero w w' left left' x y p none = refl
none-passed word (suc n) w w' left left' x y p none =
    let less = went_lower p.0.0 w' word p.0.1 left' p.3 in
    let before = passed-lower word n w p.0.0 left p.0.1 x p.1 p.2 in
    absurd (omega (arith, less, before, none))
