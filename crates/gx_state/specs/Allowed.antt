-- What calls of the state may be asked for.
use Rattle.std.specs.Prelude.{◌≡◌, ℕ, ◌+◌, ◌%◌, ◌<◌, ◌≤◌, length, IsTrue, Option, IfSome}
use Rattle.gx_state.specs.Flat.{FlatState, frame_of}
use Rattle.gx_pages.specs.Memory.{IsSize, IsInside}
use Rattle.heap_blocks.specs.Heap.{IsHeapBelow, first_address}
use Rattle.heap_blocks.specs.Relations.{IsFree}
use Rattle.gx_stack.specs.Frames.{has_local}
use Rattle.gx_state.specs.declared.modes.Dest.{Dest}
use Rattle.gx_state.specs.declared.modes.Dest.TheVariants.{Nowhere, Memory, Local, Push}

-- all that is read lies in memory; nothing may be read anywhere
abbrev pub IsInMemory : FlatState → ℕ → ℕ → Type 0
IsInMemory f at count = IsInside at count (length f.memory)

-- memory may be made so large
pub record IsGrowth (f : FlatState) (size : ℕ) : Type 0 where
  pub whole : IsSize size
  pub above : length f.memory ≤ size

-- memory may be cut to a size: not below ENDMEM, nor below the heap's start or the end of a block
pub record IsShrinking (f : FlatState) (size : ℕ) : Type 0 where
  pub whole : IsSize size
  pub below : size ≤ length f.memory
  pub endmem : f.story.header.endmem ≤ size
  pub heap : IsHeapBelow size f.heap

-- A block may be entered: it has a byte, is free and lies in memory, at or after the heap's start or, where
-- the heap is inactive, the end of memory at which it begins.
pub record IsNewBlock (f : FlatState) (end at size : ℕ) : Type 0 where
  pub some : 0 < size
  pub start : first_address f.heap end ≤ at
  pub there : at + size ≤ length f.memory
  pub free : IsFree f.heap.blocks at size
  pub whole : end % 256 ≡ 0
  pub endmem : f.story.header.endmem ≤ end

-- a word can be stored there: in RAM or in a local of the frame
abbrev pub HasPlaceFor : FlatState → Dest → Type 0
HasPlaceFor f Nowhere = Unit {0}
HasPlaceFor f (Memory at) = (f.story.header.ramstart ≤ at) × (at + 4 ≤ length f.memory)
HasPlaceFor f (Local at) = IsTrue (has_local (frame_of f) at 4)
HasPlaceFor f Push = Unit {0}

-- its place lies in RAM
abbrev pub IsWordInRam : FlatState → Option (ℕ × ℕ) → Type 0
IsWordInRam f w = IfSome w (λ x. f.story.header.ramstart ≤ x.0) × IfSome w (λ x. x.0 + 4 ≤ length f.memory)
