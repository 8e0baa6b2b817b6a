-- what is found is a checkpoint, and none but the newest where there are others
use Rattle.std.proofs.Common.{◌≡◌, ◌+◌, ◌-◌, ◌<◌, length}
use Rattle.gx_rewind.proofs.books.densest.Given as goal

abbrev pub invariant-loop-at : goal.invariant-loop-at
invariant-loop-at g l = record {
  last : l.last + 1 ≡ length l.checkpoints;
  within : l.found < length l.checkpoints;
  newest : 1 < length l.checkpoints → l.found + 1 < length l.checkpoints;
}

abbrev pub decreases-loop-at : goal.decreases-loop-at
decreases-loop-at g l = l.last - l.at
