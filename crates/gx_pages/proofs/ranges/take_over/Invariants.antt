-- The bytes up to here are taken.
use Rattle.std.proofs.Common.{◌≡◌, ◌≤◌, ◌-◌, take, drop, length}
use Rattle.gx_words.specs.Numbers.{spliced}
use Rattle.gx_pages.proofs.ranges.take_over.Given as goal

abbrev pub invariant-loop-at : goal.invariant-loop-at
invariant-loop-at g l = record {
  above : l.from ≤ l.at;
  upto : l.at ≤ l.end;
  size : length l.table ≡ length l.initial.table;
  made : l.table ≡ spliced l.initial.table l.from (take (l.at - l.from) (take (l.end - l.from) (drop l.from l.other)));
}

abbrev pub decreases-loop-at : goal.decreases-loop-at
decreases-loop-at g l = l.end - l.at
