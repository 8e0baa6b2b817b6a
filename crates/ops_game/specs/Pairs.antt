-- The two stores of getiosys, of which both are made or none: memory first, in one write, and then the stack, which
-- lies apart from it.
use Rattle.std.specs.Prelude.{ℕ, ◌+◌, Option, Some, None, Result}
use Rattle.gx_words.specs.declared.faults.Fault.{Fault}
use Rattle.gx_words.specs.Results.{◌>>=◌}
use Rattle.gx_state.specs.declared.modes.Dest.{Dest}
use Rattle.gx_state.specs.declared.modes.Dest.TheVariants.{Nowhere, Memory, Local, Push}
use Rattle.gx_state.specs.Flat.{FlatState}
use Rattle.gx_state.specs.Stores.{store_fault}
use Rattle.gx_operands.specs.Instructions.{Instruction}

-- how many bytes a store of a word pushes
abbrev pub pushed_bytes : Dest → ℕ
pushed_bytes Nowhere = 0
pushed_bytes (Memory at) = 0
pushed_bytes (Local at) = 0
pushed_bytes Push = 4

-- the fault of the first store, or else that of the second above what the first pushes
abbrev pub both_fault : FlatState → Instruction → Result (Unit {0}) Fault
both_fault f i = do
  _ ← store_fault f 4 i.dest i.sp
  store_fault f 4 i.second (i.sp + pushed_bytes i.dest)

-- the word that a store puts in memory, behind its address
abbrev pub memory_word : Dest → ℕ → Option (ℕ × ℕ)
memory_word Nowhere v = None
memory_word (Memory at) v = Some (at, v)
memory_word (Local at) v = None
memory_word Push v = None

-- where a store goes beside memory
abbrev pub beside_memory : Dest → Dest
beside_memory Nowhere = Nowhere
beside_memory (Memory at) = Nowhere
beside_memory (Local at) = Local at
beside_memory Push = Push
