-- How a copy is written as a save (Quetzal 1.4; Glulx 3.1.2, "Saved Games").
use Rattle.std.specs.Prelude.{ℕ, List, [], ◌∷◌, take, if◌then◌else◌, codes}
use Rattle.iff_chunks.specs.Writing.{Chunk, bytes_of_form}
use Rattle.heap_blocks.specs.Heap.{FlatHeap, is_inactive}
use Rattle.gx_story.specs.Stories.{FlatStory}
use Rattle.gx_state.specs.Copies.{Copy}
use Rattle.quetzal.specs.Constants.{story_start}
use Rattle.quetzal.specs.Memory.{memory_bytes}
use Rattle.quetzal.specs.Blocks.{heap_bytes}

-- a heap's chunk, where a heap is active
abbrev pub heap_chunks : FlatHeap → List Chunk
heap_chunks heap = if is_inactive heap then [] else record { id = codes "MAll"; body = heap_bytes heap } ∷ []

unfoldable pub save_bytes : FlatStory → Copy → List ℕ
save_bytes story copy = bytes_of_form (codes "IFZS")
    (record { id = codes "IFhd"; body = take story_start story.bytes } ∷
    record { id = codes "CMem"; body = memory_bytes story copy.memory } ∷
    record { id = codes "Stks"; body = copy.stack } ∷ heap_chunks copy.heap)
