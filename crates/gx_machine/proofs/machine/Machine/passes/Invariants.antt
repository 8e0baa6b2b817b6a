-- the steps so far went on and asked nothing
use Rattle.std.proofs.Common.{◌≡◌, ◌≤◌, ℕ, None}
use Rattle.gx_machine.specs.Advancing.{Passes}
use Rattle.gx_machine.proofs.machine.Machine.passes.Given as goal

abbrev pub invariant-loop-self : goal.invariant-loop-self
invariant-loop-self g l = record {
  none : l.self.asking ≡ None;
  passes : (word : ℕ) → (n : ℕ) × Passes word n (l.initial.self, l.initial.budget) None (l.self, l.budget) None;
  no_more : l.budget ≤ l.initial.budget;
}

abbrev pub decreases-loop-self : goal.decreases-loop-self
decreases-loop-self g l = l.budget
