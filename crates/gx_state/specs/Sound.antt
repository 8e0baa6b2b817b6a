-- What holds of every state.
use Rattle.std.specs.Prelude.{◌≡◌, ℕ, ◌%◌, ◌<◌, ◌≤◌, List, length, take}
use Rattle.gx_pages.specs.Memory.{IsSize}
use Rattle.gx_stack.specs.Frames.{IsGood}
use Rattle.heap_blocks.specs.Heap as heaps
use Rattle.heap_blocks.specs.Heap.{FlatHeap}
use Rattle.gx_story.specs.Stories.{IsStory}
use Rattle.gx_state.specs.Flat.{FlatState}

-- the heap is inactive, or begins at a whole page from ENDMEM on and lies within memory
pub record IsHeapWithin (endmem size : ℕ) (heap : FlatHeap) : Type 0 where
  pub blocks : heaps.IsSound heap
  pub begins : 0 < length heap.blocks → endmem ≤ heap.start
  pub whole : heap.start % 256 ≡ 0
  pub within : heaps.IsHeapBelow size heap

-- the frame at fp is good, unless the start function has returned
pub record IsFramed (bytes : List ℕ) (fp : ℕ) : Type 0 where
  pub good : 0 < length bytes → IsGood bytes fp

pub record IsSound (f : FlatState) : Type 0 where
  pub story : IsStory f.story
  pub size : IsSize (length f.memory)
  pub endmem : f.story.header.endmem ≤ length f.memory
  pub rom : take f.story.header.ramstart f.memory ≡ take f.story.header.ramstart f.story.bytes
  pub limit : f.stack.limit ≡ f.story.header.stack_size
  pub height : length f.stack.bytes ≤ f.stack.limit
  pub aligned : length f.stack.bytes % 4 ≡ 0
  pub framed : IsFramed f.stack.bytes f.fp
  pub heap : IsHeapWithin f.story.header.endmem (length f.memory) f.heap
