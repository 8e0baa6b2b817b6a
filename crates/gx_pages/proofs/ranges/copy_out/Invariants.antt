-- So many bytes are those of the table.
use Rattle.std.proofs.Common.{◌≡◌, ◌≤◌, ◌-◌, take, drop, length}
use Rattle.gx_pages.proofs.ranges.copy_out.Given as goal

abbrev pub invariant-loop-done : goal.invariant-loop-done
invariant-loop-done g l = record {
  upto : l.done ≤ length l.to;
  size : length l.to ≡ length l.initial.to;
  made : take l.done l.to ≡ take l.done (drop l.from l.table);
}

abbrev pub decreases-loop-done : goal.decreases-loop-done
decreases-loop-done g l = length l.to - l.done
