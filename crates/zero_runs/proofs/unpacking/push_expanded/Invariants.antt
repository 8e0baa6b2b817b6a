use Rattle.std.proofs.Common.{◌≡◌, length, take}
use Rattle.zero_runs.specs.Unpacking.{expand}
use Rattle.zero_runs.proofs.UnpackingTurns.{behind}
use Rattle.zero_runs.proofs.unpacking.push_expanded.Given as goal

abbrev pub invariant-loop-byte : goal.invariant-loop-byte
invariant-loop-byte l = record {
  rest : behind l.out l.old (expand l.rest) ≡ behind l.initial.out l.old (expand l.packed);
  grows : take (length l.initial.out) l.out ≡ l.initial.out;
}

abbrev pub decreases-loop-byte : goal.decreases-loop-byte
decreases-loop-byte l = length l.rest
