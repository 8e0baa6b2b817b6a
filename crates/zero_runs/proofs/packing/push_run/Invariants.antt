use Rattle.std.proofs.Common.{◌≡◌, ◌++◌}
use Rattle.zero_runs.proofs.PackingTurns.{full_pairs}
use Rattle.zero_runs.proofs.packing.push_run.Given as goal

abbrev pub invariant-loop-pair : goal.invariant-loop-pair
invariant-loop-pair l = l.out ≡ l.initial.out ++ full_pairs l._pair
