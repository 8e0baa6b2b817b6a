-- What the row of an instruction does: each class by its own definitions, and the row of Glk.
use Rattle.std.specs.Prelude.{ℕ, ◌-◌, ◌*◌, ◌/◌, Result, Ok}
use Rattle.gx_words.specs.declared.faults.Fault.{Fault}
use Rattle.gx_words.specs.Results.{◌>>=◌}
use Rattle.gx_rows.specs.declared.instructions.Class.{Class}
use Rattle.gx_rows.specs.declared.instructions.Class.TheVariants as class
use Rattle.gx_state.specs.declared.effects.Effect.{Effect}
use Rattle.gx_state.specs.declared.effects.Effect.TheVariants.{Glk}
use Rattle.gx_state.specs.declared.modes.Dest.{Dest}
use Rattle.gx_state.specs.declared.modes.Dest.TheVariants.{Push}
use Rattle.gx_state.specs.Flat.{FlatState}
use Rattle.gx_state.specs.Stores.{store_fault}
use Rattle.gx_operands.specs.Instructions.{Instruction, L1, L2}
use Rattle.gx_operands.specs.Arguments.{arguments}
use Rattle.ops_flow.specs.FlowRows as flow
use Rattle.ops_flow.specs.Writes as flow_writes
use Rattle.ops_memory.specs.MemoryRows as memory
use Rattle.ops_memory.specs.Writes as memory_writes
use Rattle.ops_print.specs.PrintRows as print
use Rattle.ops_game.specs.GameRows as game
use Rattle.ops_game.specs.Writes as game_writes
use Rattle.gx_undo.specs.Undo.{FlatUndo}
use Rattle.gx_machine.specs.Machine.{FlatMachine}

-- how many words fit above a stack pointer, beside a result that is pushed
abbrev pub room_above : FlatState → ℕ → Dest → ℕ
room_above f sp Push = (f.stack.limit - sp) / 4 - 1
room_above f sp dest = (f.stack.limit - sp) / 4

-- 130 glk (L1 L2 S1): pops L2 arguments, the first topmost, and asks for the Glk call of selector L1,
-- with the state standing; S1 is its answer
unfoldable pub glk : FlatState → Instruction → Result (FlatState × Effect) Fault
glk f i = do
  args ← arguments f i.sp (L2 i) 8
  _ ← store_fault f 4 i.dest (i.sp - 4 * L2 i)
  Ok (f, Glk (L1 i) (record { items = args }) (room_above f (i.sp - 4 * L2 i) i.dest))

-- what a row makes of a machine, whose copies stay
abbrev pub with_copies : FlatUndo → Result (FlatState × Effect) Fault → Result (FlatMachine × Effect) Fault
with_copies u r = r >>= λ x. Ok (record { flat = x.0; undo = u }, x.1)

-- The row of a class, with a random word that it may use. Only those of Game may change the copies; the classes that
-- aren't named are ops_flow's.
abbrev pub row_effect : Class → FlatMachine → ℕ → Instruction → Result (FlatMachine × Effect) Fault
row_effect class.Copy m word i = with_copies m.undo (memory.row_effect class.Copy m.flat i)
row_effect class.Memory m word i = with_copies m.undo (memory.row_effect class.Memory m.flat i)
row_effect class.Print m word i = with_copies m.undo (print.row_effect m.flat i)
row_effect class.Game m word i =
    game.row_effect m.flat m.undo word i >>= λ r. Ok (record { flat = r.0.0; undo = r.0.1 }, r.1)
row_effect class.Glk m word i = with_copies m.undo (glk m.flat i)
row_effect c m word i = with_copies m.undo (flow.row_effect c m.flat i)

-- The rows whose step writes memory, resizes it or copies it, and so may want some. No row of Print or Glk does: the
-- last line answers so for all classes that aren't ops_flow's.
abbrev pub IsWriting : Class → FlatMachine → Instruction → Type 0
IsWriting class.Copy m i = memory_writes.IsWriting class.Copy m.flat i
IsWriting class.Memory m i = memory_writes.IsWriting class.Memory m.flat i
IsWriting class.Game m i = game_writes.IsWriting m.undo i
IsWriting c m i = flow_writes.IsWriting c m.flat i
