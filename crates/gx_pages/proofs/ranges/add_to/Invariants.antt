-- The bytes so far are added.
use Rattle.std.proofs.Common.{◌≡◌, ◌≤◌, ◌-◌, ◌%◌, ◌++◌, take}
use Rattle.gx_pages.proofs.ranges.add_to.Given as goal

abbrev pub invariant-loop-done : goal.invariant-loop-done
invariant-loop-done g l = record {
  upto : l.done ≤ l.size;
  whole : l.done % 256 ≡ 0;
  made : l.bytes ≡ l.initial.bytes ++ take l.done l.table;
}

abbrev pub decreases-loop-done : goal.decreases-loop-done
decreases-loop-done g l = l.size - l.done
