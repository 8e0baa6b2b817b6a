-- One step of the machine (Glulx 3.1.2, "Instruction Format"), and what it takes of a budget.
use Rattle.std.specs.Prelude.{ℕ, ◌+◌, ◌-◌, ◌≤◌, ◌==◌, nat_lt, if◌then◌else◌, Option, Some, None, Result, Ok, Err}
use Rattle.std.specs.Prelude.{IsOkAnd}
use Rattle.std.specs.Option.{option_map_or}
use Rattle.std.specs.Result.{result_ok}
use Rattle.gx_words.specs.declared.faults.Fault.{Fault}
use Rattle.gx_words.specs.declared.faults.Fault.TheVariants.{BadFrame}
use Rattle.gx_words.specs.Results.{◌>>=◌}
use Rattle.gx_state.specs.declared.effects.Effect.{Effect}
use Rattle.gx_state.specs.declared.effects.Effect.TheVariants.{Put, Glk, Save, Restore, Spent}
use Rattle.gx_state.specs.declared.modes.Mode.{Mode}
use Rattle.gx_state.specs.declared.modes.Mode.TheVariants as mode
use Rattle.gx_state.specs.Flat.{FlatState, sp_of}
use Rattle.gx_operands.specs.Instructions.{instruction}
use Rattle.ops_memory.specs.Costs.{probes_of}
use Rattle.ops_print.specs.Items.{item}
use Rattle.gx_machine.specs.declared.askings.Asking.{Asking}
use Rattle.gx_machine.specs.declared.askings.Asking.TheVariants as asking
use Rattle.gx_machine.specs.Machine.{FlatMachine, Whole}
use Rattle.gx_machine.specs.MachineRows.{row_effect, with_copies, IsWriting}

-- the probes that the instruction at PC begins; only a search has some
abbrev pub probes_in : FlatState → Mode → ℕ
probes_in f mode.Running = option_map_or (λ i. probes_of i.row.class f i) (result_ok (instruction f)) 0
probes_in f (mode.Printing p) = 0

-- What a step takes of the budget: one unit, and one for each probe. A search without an end takes more
-- than any budget has.
unfoldable pub cost_of : FlatMachine → ℕ
cost_of m = 1 + (if sp_of m.flat == 0 then 0 else probes_in m.flat m.flat.mode)

-- the step of a machine that runs code is an instruction, and that of one that prints is an item
abbrev pub mode_step : FlatMachine → ℕ → Mode → Result (FlatMachine × Effect) Fault
mode_step m word mode.Running = instruction m.flat >>= λ i. row_effect i.row.class m word i
mode_step m word (mode.Printing p) = with_copies m.undo (item m.flat p)

-- What a step does with a random word: a fault after which the machine stands, or the new machine and what was done or
-- is asked; a machine that asks stands. The stack is empty only once the start function has returned: a run has ended
-- then, and comes to no such step.
unfoldable pub step_of : FlatMachine → ℕ → Result (FlatMachine × Effect) Fault
step_of m word = if sp_of m.flat == 0 then Err BadFrame else mode_step m word m.flat.mode

-- the effects that are askings
abbrev pub asking_of : Effect → Option Asking
asking_of (Put c) = Some asking.Put
asking_of (Glk selector args room) = Some (asking.Glk room)
asking_of (Save stream) = Some asking.Save
asking_of (Restore stream) = Some asking.Restore
asking_of effect = None

-- One step within a budget.
unfoldable pub stepped : Whole → ℕ → ℕ → Result ((Whole × ℕ) × Effect) Fault
stepped m word budget =
    if nat_lt budget (cost_of m.machine) then Ok ((m, budget), Spent) else step_of m.machine word >>= λ r.
    Ok ((record { machine = r.0; asking = asking_of r.1 }, budget - cost_of m.machine), r.1)

-- the steps that write memory, resize it or copy it: those of certain instructions, and no item
abbrev pub IsModeWriting : FlatMachine → Mode → Type 0
IsModeWriting m mode.Running = IsOkAnd (instruction m.flat) (λ i. IsWriting i.row.class m i)
IsModeWriting m (mode.Printing p) = ⊥

-- such a step, where the budget has its cost: one that isn't made wants none
abbrev pub IsStepWriting : FlatMachine → ℕ → Type 0
IsStepWriting m budget = (cost_of m ≤ budget) × IsModeWriting m m.flat.mode

-- WHAT CONTRACTS SAY

-- how many values the reply to an asking may push
abbrev pub room_of : Option Asking → ℕ
room_of None = 0
room_of (Some asking.Put) = 0
room_of (Some (asking.Glk room)) = room
room_of (Some asking.Save) = 0
room_of (Some asking.Restore) = 0
