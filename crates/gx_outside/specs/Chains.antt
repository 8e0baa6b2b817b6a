-- The calls of a device, one after another.
use Rattle.std.specs.Prelude.{◌≡◌, List, [], ◌∷◌}

-- These calls lead from what a device was to what it is. `step` says what one call does.
abbrev pub Chain : {S C : Type 0} → (S → C → S → Type 0) → S → List C → S → Type 0
Chain {S} {C} step before [] now = now ≡ before
Chain {S} {C} step before (c ∷ trace) now = (between : S) × step before c between × Chain step between trace now

-- A device was called so, and in no other way; and this holds of its calls.
pub record IsCalled {S C : Type 0} (step : S → C → S → Type 0) (before now : S) (P : List C → Type 0) : Type 0 where
  pub trace : List C
  pub chain : Chain step before trace now
  pub holds : P trace
