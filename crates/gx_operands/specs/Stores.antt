-- What a store makes of the state once an instruction's pops are made (Glulx 3.1.2, "Instruction Format").
--
-- A store after pops changes memory or the local first, then cuts the stack, then pushes: what is
-- popped lies apart from memory and locals.
use Rattle.std.specs.Prelude.{ℕ, Result, Ok}
use Rattle.gx_words.specs.declared.faults.Fault.{Fault}
use Rattle.gx_words.specs.Results.{◌>>=◌}
use Rattle.gx_state.specs.declared.effects.Effect.{Effect}
use Rattle.gx_state.specs.declared.effects.Effect.TheVariants.{Went}
use Rattle.gx_state.specs.declared.modes.Dest.{Dest}
use Rattle.gx_state.specs.declared.modes.Dest.TheVariants.{Push}
use Rattle.gx_state.specs.Flat.{FlatState, cut}
use Rattle.gx_state.specs.Stores.{store_fault, with_value}
use Rattle.gx_operands.specs.Instructions.{Instruction, going_to}

-- the state whose stack is cut, with a number's low bytes stored
abbrev pub with_settled : FlatState → ℕ → ℕ → Dest → ℕ → FlatState
with_settled f sp width Push v = with_value (cut f sp) width Push v
with_settled f sp width dest v = cut (with_value f width dest v) sp

-- A row's result, once its pops are made.
unfoldable pub settled : FlatState → ℕ → ℕ → Dest → ℕ → Result FlatState Fault
settled f sp width d v = store_fault f width d sp >>= λ _. Ok (with_settled f sp width d v)

-- WHAT THE ROWS OF ALL CLASSES SHARE

-- S1 = a value, and the next instruction follows
abbrev pub stores : FlatState → Instruction → ℕ → Result (FlatState × Effect) Fault
stores f i v = settled f i.sp 4 i.dest v >>= λ g. Ok (going_to g i.next, Went)

-- on at an address
abbrev pub goes_to : FlatState → ℕ → Result (FlatState × Effect) Fault
goes_to f pc = Ok (going_to f pc, Went)

-- on with the next instruction
abbrev pub goes : FlatState → Instruction → Result (FlatState × Effect) Fault
goes f i = goes_to (cut f i.sp) i.next
