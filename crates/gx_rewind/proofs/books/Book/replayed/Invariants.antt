-- the place so far is one of the run, and not past the target
use Rattle.std.proofs.Common.{◌≤◌, ◌-◌}
use Rattle.gx_rewind.specs.Views.{IsSpot}
use Rattle.gx_rewind.proofs.books.Book.replayed.Given as goal

abbrev pub invariant-loop-spot : goal.invariant-loop-spot
invariant-loop-spot g l = record {
  spot : IsSpot l.self l.spot;
  within : l.spot.units ≤ l.target;
}

abbrev pub decreases-loop-spot : goal.decreases-loop-spot
decreases-loop-spot g l = l.target - l.spot.units
