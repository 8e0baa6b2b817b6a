-- The heap of a save (Glulx 3.1.2, "Contents of the Save File"): its start, the count of its blocks, and the address
-- and the length of each, in any order.
use Rattle.std.specs.Prelude.{ℕ, zero, suc, Bool, ◌+◌, ◌*◌, ◌==◌, nat_lt, nat_le, ◌&&◌, ◌||◌, if◌then◌else◌}
use Rattle.std.specs.Prelude.{List, [], ◌∷◌, ◌++◌, length, Result, Ok, Err}
use Rattle.std.specs.List.{flat_map}
use Rattle.gx_words.specs.Numbers.{word, bytes_of_word}
use Rattle.heap_blocks.specs.Heap.{Block, FlatHeap, block_end, inactive, inserted}
use Rattle.gx_story.specs.Stories.{FlatStory}
use Rattle.quetzal.specs.Constants.{heap_header_len, block_len}
use Rattle.quetzal.specs.Memory.{is_memory_size}
use Rattle.quetzal.specs.declared.faults.SaveFault.{SaveFault}
use Rattle.quetzal.specs.declared.faults.SaveFault.TheVariants as fault

-- so many blocks from a place on
unfoldable pub blocks_from : ℕ → List ℕ → ℕ → List Block
blocks_from zero body at = []
blocks_from (suc count) body at = (word body at, word body (at + 4)) ∷ blocks_from count body (at + block_len)

abbrev pub start_in : List ℕ → ℕ
start_in body = word body 0

abbrev pub count_in : List ℕ → ℕ
count_in body = word body 4

abbrev pub blocks_in : List ℕ → List Block
blocks_in body = blocks_from (count_in body) body heap_header_len

-- no heap: the chunk is empty or isn't there, or its start and its count are 0, which is the standard's form
abbrev pub has_no_heap : List ℕ → Bool
has_no_heap body = length body == 0 || (length body == heap_header_len && start_in body == 0 && count_in body == 0)

-- as many blocks as are counted, and one at least
abbrev pub has_count : List ℕ → Bool
has_count body = length body == heap_header_len + block_len * count_in body && nat_lt 0 (count_in body)

-- blocks in rising order from an address on, none empty, none past a size, no two that meet
abbrev pub rises : ℕ → ℕ → List Block → Bool
rises at size [] = nat_le at size
rises at size (b ∷ bs) = nat_le at b.0 && nat_lt 0 b.1 && rises (block_end b) size bs

-- blocks by their address
unfoldable pub ordered_blocks : List Block → List Block
ordered_blocks [] = []
ordered_blocks (b ∷ bs) = inserted b (ordered_blocks bs)

-- the heap, if any: memory may have ended at its start before it began
unfoldable pub heap_of : FlatStory → ℕ → List ℕ → Result FlatHeap SaveFault
heap_of story size body =
    let start = start_in body in let blocks = ordered_blocks (blocks_in body) in
    if has_no_heap body then Ok inactive else
    if has_count body && is_memory_size size story start && rises start size blocks
    then Ok (record { start = start; blocks = blocks }) else Err fault.Blocks

-- the body of a heap's chunk as it is written
abbrev pub heap_bytes : FlatHeap → List ℕ
heap_bytes heap = bytes_of_word heap.start ++ (bytes_of_word (length heap.blocks)
    ++ flat_map (λ (b : Block). bytes_of_word b.0 ++ bytes_of_word b.1) heap.blocks)
