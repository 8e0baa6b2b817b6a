-- What a store makes of the state (Glulx 3.1.2, "Instruction Format").
use Rattle.std.specs.Prelude.{ℕ, ◌+◌, ◌++◌, nat_le, if◌then◌else◌, Result, Ok, Err}
use Rattle.gx_words.specs.declared.faults.Fault.{Fault}
use Rattle.gx_words.specs.declared.faults.Fault.TheVariants.{Overflow, BadLocal}
use Rattle.gx_words.specs.Numbers.{bytes_of_number, bytes_of_word, low, spliced}
use Rattle.gx_words.specs.Results.{◌>>=◌}
use Rattle.gx_stack.specs.Frames.{has_local}
use Rattle.gx_state.specs.declared.modes.Dest.{Dest}
use Rattle.gx_state.specs.declared.modes.Dest.TheVariants.{Nowhere, Memory, Local, Push}
use Rattle.gx_state.specs.Flat.{FlatState, frame_of, sp_of, write_fault, written}

-- the fault of a store of so many bytes on the stack cut to a stack pointer
unfoldable pub store_fault : FlatState → ℕ → Dest → ℕ → Result (Unit {0}) Fault
store_fault f width Nowhere sp = Ok tt
store_fault f width (Memory at) sp = write_fault f at width
store_fault f width (Local at) sp = if has_local (frame_of f) at width then Ok tt else Err BadLocal
store_fault f width Push sp = if nat_le (sp + 4) f.stack.limit then Ok tt else Err Overflow

-- the state with a number's low bytes stored, once that has no fault; a word is pushed
abbrev pub with_value : FlatState → ℕ → Dest → ℕ → FlatState
with_value f width Nowhere v = f
with_value f width (Memory at) v = written f at (bytes_of_number width v)
with_value f width (Local at) v =
    let bytes = spliced f.stack.bytes ((frame_of f).locals + at) (bytes_of_number width v) in
    record f { stack = record f.stack { bytes = bytes } }
with_value f width Push v = record f { stack = record f.stack { bytes = f.stack.bytes ++ bytes_of_word (low width v) } }

-- a store: its fault, or the state with the value
unfoldable pub stored : FlatState → ℕ → Dest → ℕ → Result FlatState Fault
stored f width d v = store_fault f width d (sp_of f) >>= λ _. Ok (with_value f width d v)

-- only a store to memory may want memory
abbrev pub IsMemory : Dest → Type 0
IsMemory (Memory at) = Unit {0}
IsMemory dest = ⊥
