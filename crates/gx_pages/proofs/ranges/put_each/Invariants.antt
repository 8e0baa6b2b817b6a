-- What is written so far, then the rest, is all writes.
use Rattle.std.proofs.Common.{◌≡◌, drop, length}
use Rattle.gx_pages.specs.Memory.{AreInside, all_spliced}
use Rattle.gx_pages.proofs.ranges.put_each.Given as goal

abbrev pub invariant-loop-write : goal.invariant-loop-write
invariant-loop-write g l = record {
  inside : AreInside (drop l.write-index l.writes) (length l.table);
  size : length l.table ≡ length l.initial.table;
  rest : all_spliced l.table (drop l.write-index l.writes) ≡ all_spliced l.initial.table l.writes;
}
