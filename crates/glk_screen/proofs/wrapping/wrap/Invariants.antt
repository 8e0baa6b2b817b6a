use Rattle.std.proofs.Common.{length, ◌+◌, ◌-◌, ◌++◌, ◌≡◌, ◌≤◌}
use Rattle.glk_screen.specs.Wrapping.{wrapped}
use Rattle.glk_screen.proofs.Cuts.{rows_past}
use Rattle.glk_screen.proofs.wrapping.wrap.Given as goal

abbrev pub invariant-loop-at : goal.invariant-loop-at
invariant-loop-at l = record {
  rows : l.rows ++ rows_past l.width l.text l.at ≡ wrapped l.width l.text;
  within : l.at ≤ length l.text + 1;
}

abbrev pub decreases-loop-at : goal.decreases-loop-at
decreases-loop-at l = length l.text + 1 - l.at
