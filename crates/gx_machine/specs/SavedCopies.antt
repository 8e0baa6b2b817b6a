-- The copy that a save asks to be written, and the machine after a restore (Glulx 3.1.2, "Game State").
use Rattle.std.specs.Prelude.{None}
use Rattle.std.specs.Option.{option_map_or}
use Rattle.std.specs.Result.{result_ok}
use Rattle.gx_state.specs.Flat.{FlatState, cut}
use Rattle.gx_state.specs.Copies.{Copy, copy_of, restored_to}
use Rattle.gx_operands.specs.Instructions.{instruction}
use Rattle.gx_machine.specs.Machine.{FlatMachine, Whole}

-- the copy that the instruction at PC takes once its operands are popped, with the stub of its store operand on top
unfoldable pub saved_copy : FlatState → Copy
saved_copy f = option_map_or (λ i. copy_of (cut f i.sp) i.dest i.next) (result_ok (instruction f))
    (record { memory = f.memory; stack = f.stack.bytes; heap = f.heap })

-- A restore: the machine goes back to a copy. Its copies for undo stay.
unfoldable pub restored : FlatMachine → Copy → FlatMachine
restored m c = record m { flat = restored_to m.flat c }

-- WHAT CONTRACTS SAY

abbrev pub restored_whole : Whole → Copy → Whole
restored_whole m c = record { machine = restored m.machine c; asking = None }
