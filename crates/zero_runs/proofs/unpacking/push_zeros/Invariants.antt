use Rattle.std.proofs.Common.{◌≡◌, ◌++◌, replicate}
use Rattle.zero_runs.proofs.unpacking.push_zeros.Given as goal

abbrev pub invariant-loop-zero : goal.invariant-loop-zero
invariant-loop-zero l = l.out ≡ l.initial.out ++ replicate l._zero 0
