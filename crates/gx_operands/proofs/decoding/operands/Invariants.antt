-- what is left to take gives what all operands give
use Rattle.std.proofs.Common.{◌≡◌, ◌≤◌, ◌-◌, length}
use Rattle.gx_operands.specs.Instructions.{operands}
use Rattle.gx_operands.specs.Plans.{HasValues, operands_of}
use Rattle.gx_operands.proofs.decoding.operands.Given as goal

abbrev pub invariant-loop-i : goal.invariant-loop-i
invariant-loop-i g l = record {
  same : operands l.state.flat l.row l.modes (l.count - l.i) l.i (operands_of l.plan)
      ≡ operands l.fn.state.flat l.fn.row l.modes l.count 0 (operands_of l.fn.plan);
  room : length l.plan.loads.items ≤ l.i;
  row : l.plan.row ≡ l.fn.plan.row;
  popped : HasValues l.state.flat l.plan.popped;
}
