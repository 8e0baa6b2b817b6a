-- No write so far has a byte.
use Rattle.std.proofs.Common.{◌≡◌, ℕ, List, drop}
use Rattle.gx_pages.specs.Memory.{HasBytes, all_spliced}
use Rattle.gx_pages.proofs.ranges.has_bytes.Given as goal

abbrev pub invariant-loop-write : goal.invariant-loop-write
invariant-loop-write l = record {
  some : HasBytes (drop l.write-index l.writes) → HasBytes l.writes;
  none : (memory : List ℕ) → all_spliced memory l.writes ≡ all_spliced memory (drop l.write-index l.writes);
}
