-- what was taken and what is left are all the values
use Rattle.std.proofs.Common.{◌≡◌, ◌≤◌, ◌-◌, ◌*◌, ◌++◌, length}
use Rattle.gx_operands.specs.Arguments.{values_below}
use Rattle.gx_operands.proofs.popped.values_below.Given as goal

abbrev pub invariant-loop-i : goal.invariant-loop-i
invariant-loop-i g l = record {
  same : l.values.items ++ values_below l.stack (l.sp - 4 * l.i) (l.count - l.i) ≡ values_below l.stack l.sp l.count;
  room : length l.values.items ≤ l.i;
}
