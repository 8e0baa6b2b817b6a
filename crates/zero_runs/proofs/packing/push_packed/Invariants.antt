use Rattle.std.proofs.Common.{◌≡◌, ◌≤◌, ◌++◌, length, take, drop}
use Rattle.zero_runs.specs.Packing.{packed_behind, packed, xored}
use Rattle.zero_runs.proofs.packing.push_packed.Given as goal

abbrev pub invariant-loop-at : goal.invariant-loop-at
invariant-loop-at l = record {
  few : l.zeros ≤ l.at;
  rest : l.out ++ packed_behind l.zeros (xored (drop l.at l.new) (drop l.at l.old))
      ≡ l.initial.out ++ packed (xored l.new l.old);
  grows : take (length l.initial.out) l.out ≡ l.initial.out;
}
