-- What contracts say beside the definitions: blocks that are sorted, the lengths of a save, that saves are read back
-- and that old ones load.
use Rattle.std.specs.Prelude.{ℕ, Bool, nat_lt, nat_le, ◌&&◌, if◌then◌else◌, List, Result, Ok, Err, ◌≡◌, ◌≤◌}
use Rattle.std.specs.Prelude.{true, ◌+◌, ◌*◌, ◌%◌, ◌==◌}
use Rattle.std.specs.List.{list_all}
use Rattle.std.specs.List.Sorted.{IsPermutation, IsNonDecreasingBy}
use Rattle.heap_blocks.specs.Heap.{Block, block_end}
use Rattle.gx_story.specs.Stories.{FlatStory}
use Rattle.quetzal.specs.declared.faults.SaveFault.{SaveFault}
use Rattle.quetzal.specs.declared.faults.SaveFault.TheVariants as fault
use Rattle.quetzal.specs.Blocks.{start_in, count_in, blocks_in, has_count, ordered_blocks, rises}
use Rattle.gx_words.specs.Results.{◌>>=◌}
use Rattle.gx_state.specs.Copies.{Copy, IsCopyFor}
use Rattle.quetzal.specs.Chunks.{parts_in}
use Rattle.quetzal.specs.Memory.{is_memory_size, size_in}
use Rattle.quetzal.specs.ReadingSaves.{copy_in_save}
use Rattle.gx_words.specs.Constants.{ceiling}
use Rattle.gx_story.specs.Stories.{IsStory}
use Rattle.quetzal.specs.Constants.{story_start, heap_header_len, block_len}
use Rattle.quetzal.specs.Writing.{save_bytes}

-- a block that isn't empty, between the start and the size
abbrev pub is_block : ℕ → ℕ → Block → Bool
is_block start size b = nat_lt 0 b.1 && nat_le start b.0 && nat_le (block_end b) size

-- nothing else is wrong with the heap, and it has two blocks at least: they may still meet
unfoldable pub may_meet : FlatStory → ℕ → List ℕ → Bool
may_meet story size body =
    has_count body && is_memory_size size story (start_in body) &&
    list_all (is_block (start_in body) size) (blocks_in body) && nat_lt 1 (count_in body)

-- the same blocks, by their address
pub record IsSortedFrom (bs sorted : List Block) : Type 0 where
  pub same : IsPermutation bs sorted
  pub order : IsNonDecreasingBy (λ b. b.0) sorted

-- the blocks in order, where they are blocks of a heap
abbrev pub ordered : ℕ → ℕ → List Block → Result (List Block) SaveFault
ordered start size bs = if rises start size (ordered_blocks bs) then Ok (ordered_blocks bs) else Err fault.Blocks

-- the blocks of a save may meet, and nothing else is wrong with its heap
abbrev pub MayMeet : List ℕ → FlatStory → Type 0
MayMeet save story = (parts_in save story >>= λ parts. Ok (may_meet story (size_in parts.memory) parts.heap)) ≡ Ok true

-- OLD SAVES LOAD: a save that is a copy under a ceiling is the same copy under each higher one.
abbrev pub OldSavesLoad : Type 0
OldSavesLoad =
    (old new : ℕ) (save : List ℕ) (story : FlatStory) (copy : Copy)
    → old ≤ new → copy_in_save old save story ≡ Ok copy → copy_in_save new save story ≡ Ok copy

-- the lengths of a chunk and of a form from its kind on, by those of their parts
abbrev pub chunk_len : ℕ → ℕ
chunk_len body = 8 + body + body % 2

abbrev pub form_len : ℕ → ℕ → ℕ → ℕ
form_len memory stack blocks =
    4 + chunk_len story_start + chunk_len memory + chunk_len stack
    + (if blocks == 0 then 0 else chunk_len (heap_header_len + block_len * blocks))

-- a fit copy that was written is read back
abbrev pub ReadsBack : Type 0
ReadsBack =
    (story : FlatStory) (copy : Copy) → IsStory story → IsCopyFor story copy
    → copy_in_save ceiling (save_bytes story copy) story ≡ Ok copy
