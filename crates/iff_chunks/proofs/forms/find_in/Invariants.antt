use Rattle.std.proofs.Common.{◌≡◌, ◌≤◌, ◌+◌, ◌-◌, length}
use Rattle.iff_chunks.specs.Chunks.{part_found, parts_from}
use Rattle.iff_chunks.proofs.Reading.{found_from}
use Rattle.iff_chunks.proofs.forms.find_in.Given as goal

abbrev pub invariant-loop-place : goal.invariant-loop-place
invariant-loop-place l = record {
  within : l.place ≤ length l.form + 12;
  rest : found_from l.sought l.found (parts_from (length l.form) l.form l.place)
      ≡ part_found l.sought (parts_from (length l.form) l.form 12);
}

abbrev pub decreases-loop-place : goal.decreases-loop-place
decreases-loop-place l = length l.form - l.place
