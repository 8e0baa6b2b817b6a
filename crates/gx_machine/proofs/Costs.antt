-- Each step takes at least one unit.
use Rattle.std.proofs.Common.{◌≤◌, ℕ, Result, arith}
use Rattle.std.specs.Option.{option_map_or}
use Rattle.std.specs.Result.{result_ok}
use Rattle.gx_words.specs.declared.faults.Fault.{Fault}
use Rattle.gx_state.specs.Flat.{FlatState}
use Rattle.gx_operands.specs.Instructions.{Instruction}
use Rattle.ops_memory.specs.Costs.{probes_of}
use Rattle.gx_machine.specs.Machine.{FlatMachine}
use Rattle.gx_machine.specs.Step.{cost_of}

-- the probes that an instruction begins, where one was read
abbrev pub probes_by : FlatState → Result Instruction Fault → ℕ
probes_by f r = option_map_or (λ i. probes_of i.row.class f i) (result_ok r) 0

pub cost-positive : (m : FlatMachine) → 1 ≤ cost_of m
unfolding cost_of
cost-positive m = omega arith
