-- the search passes all structs so far
use Rattle.std.proofs.Common.{◌≡◌, ◌≤◌, ◌-◌, Ok}
use Rattle.gx_search.specs.Finding.{address_of, ArePassed}
use Rattle.gx_search.proofs.turns.search.Given as goal

abbrev pub invariant-loop-layout : goal.invariant-loop-layout
invariant-loop-layout g l = record {
  at : address_of l.layout l.memory l.ask l.i ≡ Ok l.at;
  within : l.i ≤ l.bound;
  below : ArePassed l.layout l.memory l.ask l.i;
}

abbrev pub decreases-loop-layout : goal.decreases-loop-layout
decreases-loop-layout g l = l.bound - l.i
