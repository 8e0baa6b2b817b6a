-- the steps so far went on and asked nothing
use Rattle.std.proofs.Common.{◌≡◌, ◌≤◌, ℕ, None}
use Rattle.gx_machine.specs.Advancing.{Passes}
use Rattle.gx_machine.proofs.machine.Machine.prints_items.Given as goal

abbrev pub invariant-loop : goal.invariant-loop
invariant-loop g l = record {
  none : l.self.asking ≡ None;
  passes : (word : ℕ) → (n : ℕ) × Passes word n (l.initial.self, l.initial.budget) None (l.self, l.budget) None;
  no_more : l.budget ≤ l.initial.budget;
}

abbrev pub decreases-loop : goal.decreases-loop
decreases-loop g l = l.budget
