-- Copies of the state and the way back to them, and the restart of a story (Glulx 3.1.2, "Game State").
use Rattle.std.specs.Prelude.{◌≡◌, ℕ, ◌+◌, ◌-◌, ◌%◌, ◌≤◌, List, [], ◌++◌, length, take, Result, Ok, Err, IsTrue}
use Rattle.gx_words.specs.declared.faults.Fault.{Fault}
use Rattle.gx_pages.specs.Memory.{IsSize, put_back_of}
use Rattle.gx_stack.specs.Constants.{to_memory, to_local, to_stack}
use Rattle.gx_stack.specs.declared.stubs.Stub.{Stub}
use Rattle.gx_stack.specs.Frames.{is_good, has_local, parts}
use Rattle.gx_stack.specs.Stubs.{stub_bytes, stub_below}
use Rattle.heap_blocks.specs.Heap.{FlatHeap}
use Rattle.gx_story.specs.Stories.{FlatStory}
use Rattle.gx_state.specs.declared.modes.Dest.{Dest}
use Rattle.gx_state.specs.declared.modes.Mode.TheVariants.{Running}
use Rattle.gx_state.specs.Flat.{FlatState}
use Rattle.gx_state.specs.Entry.{initial, entered}
use Rattle.gx_state.specs.Returns.{stub_of, returned}
use Rattle.gx_state.specs.Sound.{IsHeapWithin}

-- what a copy has: memory, the stack with a stub on top, and the heap
pub record Copy : Type 0 where
  pub memory : List ℕ
  pub stack : List ℕ
  pub heap : FlatHeap

-- A copy of the state, with the stub of a store operand on top of its stack.
abbrev pub copy_of : FlatState → Dest → ℕ → Copy
copy_of f d next = record { memory = f.memory; stack = f.stack.bytes ++ stub_bytes (stub_of f d next); heap = f.heap }

-- the stub on top of a copy's stack
abbrev pub stub_in : Copy → Stub
stub_in c = stub_below c.stack (length c.stack)

-- Back at a copy: its stack, its heap, and its memory but for the protected range are laid over the state, its stub is
-- popped, and -1 is delivered. A copy that is fit for the story has no fault in this. The decoding table, the iosystem,
-- the generator and the protected range stay. (Of the generator the standard doesn't say whether it does.)
unfoldable pub restored_to : FlatState → Copy → FlatState
restored_to f c =
    let memory = put_back_of f.memory c.memory f.protected.0 f.protected.1 in
    let laid = record f { memory = memory; stack = record f.stack { bytes = c.stack }; heap = c.heap; mode = Running }
    in elim (returned laid (length c.stack) 0xFFFFFFFF) [ Ok r ↦ r.0 | Err fault ↦ f ]

-- A copy is fit for a story: its memory is one of the story's, with the same bytes below RAMSTART; its stack is
-- within the story's limit and has on top a stub that stores, with a good frame below it, and with its word in RAM or
-- its local in the frame; its heap lies in its memory.
pub record IsCopyFor (story : FlatStory) (c : Copy) : Type 0 where
  pub size : IsSize (length c.memory)
  pub endmem : story.header.endmem ≤ length c.memory
  pub rom : take story.header.ramstart c.memory ≡ take story.header.ramstart story.bytes
  pub aligned : length c.stack % 4 ≡ 0
  pub height : length c.stack ≤ story.header.stack_size
  pub stub : 16 ≤ length c.stack
  pub kind : (stub_in c).kind ≤ to_stack
  pub framed : IsTrue (is_good (take (length c.stack - 16) c.stack) (stub_in c).fp)
  pub word : (stub_in c).kind ≡ to_memory
      → (story.header.ramstart ≤ (stub_in c).addr) × ((stub_in c).addr + 4 ≤ length c.memory)
  pub local : (stub_in c).kind ≡ to_local
      → IsTrue (has_local (parts (take (length c.stack - 16) c.stack) (stub_in c).fp) (stub_in c).addr 4)
  pub heap : IsHeapWithin story.header.endmem (length c.memory) c.heap

-- the state before a restart enters the start function: that of a story which starts, but for the bytes of the
-- protected range, the range itself and the generator
abbrev pub reset : FlatState → FlatState
reset f =
    let memory = put_back_of f.memory (initial f.story).memory f.protected.0 f.protected.1 in
    record (initial f.story) { memory = memory; protected = f.protected; generator = f.generator }

-- A restart: the start function is entered without arguments.
unfoldable pub restarted : FlatState → Result FlatState Fault
restarted f = entered (reset f) 0 [] f.story.header.start_function []
