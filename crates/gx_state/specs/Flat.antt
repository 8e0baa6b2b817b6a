-- The state of the machine as numbers and lists (Glulx 3.1.2, "The Machine").
use Rattle.std.specs.Prelude.{ℕ, ℤ, pos, ◌+◌, nat_lt, if◌then◌else◌, List, length, take, Result, Ok, Err, ◌≡◌, ◌%◌, ◌<◌}
use Rattle.std.specs.Prelude.{◌≤◌}
use Rattle.gx_words.specs.declared.faults.Fault.{Fault}
use Rattle.gx_words.specs.declared.faults.Fault.TheVariants.{BadAddress, ReadOnly}
use Rattle.gx_words.specs.Numbers.{spliced}
use Rattle.gx_words.specs.Results.{◌>>=◌}
use Rattle.gx_stack.specs.declared.frames.Frame.{Frame}
use Rattle.gx_stack.specs.Faults.{lifted}
use Rattle.gx_stack.specs.Flat.{FlatStack}
use Rattle.gx_stack.specs.Frames.{parts}
use Rattle.gx_stack.specs.Values as values
use Rattle.heap_blocks.specs.Heap.{FlatHeap}
use Rattle.ops_calc.specs.declared.random.Generator.{Generator}
use Rattle.gx_story.specs.Stories.{FlatStory}
use Rattle.gx_state.specs.declared.modes.Mode.{Mode}

-- Memory and the stack are lists of bytes. The iosystem is a system and its rock, the protected range
-- an address and a count. The story is what the file said: its header and its stored bytes.
pub record FlatState : Type 0 where
  pub memory : List ℕ
  pub stack : FlatStack
  pub fp : ℕ
  pub pc : ℕ
  pub table : ℕ
  pub iosys : ℕ × ℕ
  pub protected : ℕ × ℕ
  pub heap : FlatHeap
  pub generator : Generator
  pub mode : Mode
  pub story : FlatStory

-- the state and its stack pointer
abbrev pub sp_of : FlatState → ℕ
sp_of f = length f.stack.bytes

-- the present frame
abbrev pub frame_of : FlatState → Frame
frame_of f = parts f.stack.bytes f.fp

-- the fault of a write of so many bytes, one at least, from an address on
abbrev pub write_fault : FlatState → ℕ → ℕ → Result (Unit {0}) Fault
write_fault f at count = if nat_lt (length f.memory) (at + count) then Err BadAddress else
    if nat_lt at f.story.header.ramstart then Err ReadOnly else Ok tt

-- the stack cut to a stack pointer
abbrev pub cut : FlatState → ℕ → FlatState
cut f sp = record f { stack = record f.stack { bytes = take sp f.stack.bytes } }

-- bytes written over those of memory from an address on
abbrev pub written : FlatState → ℕ → List ℕ → FlatState
written f at bytes = record f { memory = spliced f.memory at bytes }

-- the top n values moved so many places up, cyclically, or down where `by` is negative
unfoldable pub rolled : FlatState → ℕ → ℤ → Result FlatState Fault
rolled f n by = lifted (values.rolled f.stack (frame_of f) n by) >>= λ s. Ok (record f { stack = s })

-- the top two values exchanged
unfoldable pub swapped : FlatState → Result FlatState Fault
swapped f = rolled f 2 (pos 1)

-- the top n values pushed again
unfoldable pub copied : FlatState → ℕ → Result FlatState Fault
copied f n = lifted (values.copied f.stack (frame_of f) n) >>= λ s. Ok (record f { stack = s })

-- WHAT CONTRACTS SAY

-- What contracts see of a State: the flat state, and beside it the room in its list of heap blocks,
-- of which no rule speaks.
pub record HeldState : Type 0 where
  pub flat : FlatState
  pub spare : ℕ

-- a stack pointer of the frame: a multiple of 4 between the begin of its values and the top
pub record IsHeight (f : FlatState) (sp : ℕ) : Type 0 where
  pub live : 0 < sp_of f
  pub values : (frame_of f).values ≤ sp
  pub there : sp ≤ sp_of f
  pub aligned : sp % 4 ≡ 0

-- all that is written lies in RAM; nothing may be written anywhere
abbrev pub IsInRam : FlatState → ℕ → ℕ → Type 0
IsInRam f at count = 0 < count → (f.story.header.ramstart ≤ at) × (at + count ≤ length f.memory)
