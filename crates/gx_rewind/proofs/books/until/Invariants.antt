-- each checkpoint so far lies before
use Rattle.std.proofs.Common.{◌<◌, ◌≤◌, ◌-◌, ℕ, length}
use Rattle.std.specs.List.{slice_index_or}
use Rattle.gx_rewind.specs.declared.books.Spot.{Spot}
use Rattle.gx_rewind.proofs.books.until.Given as goal

abbrev pub invariant-loop-count : goal.invariant-loop-count
invariant-loop-count g l = record {
  within : l.count ≤ length l.checkpoints;
  before : (k : ℕ) (d : Spot g.row.A.Denot) → k < l.count → (slice_index_or l.checkpoints k d).units ≤ l.units;
}

abbrev pub decreases-loop-count : goal.decreases-loop-count
decreases-loop-count g l = length l.checkpoints - l.count
