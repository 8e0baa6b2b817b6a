use Rattle.std.proofs.Common.{◌≡◌, ◌≤◌, ◌+◌, ◌*◌, length}
use Rattle.zero_runs.specs.Unpacking.{expand}
use Rattle.zero_runs.specs.Laws.{expanded_len}
use Rattle.zero_runs.proofs.UnpackingTurns.{counted}
use Rattle.zero_runs.proofs.unpacking.expanded_len.Given as goal

abbrev pub invariant-loop-byte : goal.invariant-loop-byte
invariant-loop-byte l = record {
  few : l.len + 256 * length l.rest ≤ 256 * length l.packed;
  whole : counted l.len (expand l.rest) ≡ expanded_len l.packed;
}

abbrev pub decreases-loop-byte : goal.decreases-loop-byte
decreases-loop-byte l = length l.rest
