-- what is left of the row after the probes so far
use Rattle.std.proofs.Common.{◌≤◌, ◌-◌}
use Rattle.gx_search.proofs.Halvings.{IsLeft}
use Rattle.gx_search.proofs.halves.search_half.Given as goal

abbrev pub invariant-loop-low : goal.invariant-loop-low
invariant-loop-low g l = record {
  within : l.made ≤ l.bound;
  left : IsLeft l.memory l.ask l.made l.low l.high;
}

abbrev pub decreases-loop-low : goal.decreases-loop-low
decreases-loop-low g l = l.bound - l.made
