-- The memory of a save (Glulx 3.1.2, "Contents of the Save File").
use Rattle.std.specs.Prelude.{ℕ, Bool, ◌-◌, ◌%◌, ◌==◌, nat_le, ◌&&◌, if◌then◌else◌, List, ◌++◌, length, take, drop}
use Rattle.std.specs.Prelude.{Result, Ok, Err}
use Rattle.std.specs.Result.{result_map_both}
use Rattle.gx_words.specs.Numbers.{word, bytes_of_word}
use Rattle.zero_runs.specs.Packing.{packed, xored}
use Rattle.zero_runs.specs.Unpacking.{unpacked}
use Rattle.gx_story.specs.Stories.{FlatStory}
use Rattle.quetzal.specs.Constants.{size_len}
use Rattle.quetzal.specs.Chunks.{MemoryBody}
use Rattle.quetzal.specs.declared.faults.SaveFault.{SaveFault}
use Rattle.quetzal.specs.declared.faults.SaveFault.TheVariants as fault

-- the size that a chunk begins with
abbrev pub size_in : MemoryBody → ℕ
size_in memory = word memory.body 0

-- a size that memory may have under a ceiling
abbrev pub is_memory_size : ℕ → FlatStory → ℕ → Bool
is_memory_size ceiling story size = size % 256 == 0 && nat_le story.header.endmem size && nat_le size ceiling

-- the first bytes of RAM, which is zero past the stored part
abbrev pub first_ram : FlatStory → List ℕ
first_ram story = drop story.header.ramstart story.bytes

-- memory whole: below RAMSTART it is the story's, and of RAM packed bytes stand for what differs from the first bytes,
-- plain ones for themselves
unfoldable pub memory_of : FlatStory → MemoryBody → Result (List ℕ) SaveFault
memory_of story memory =
    let bytes = drop size_len memory.body in let count = size_in memory - story.header.ramstart in
    let whole = λ (ram : List ℕ). take story.header.ramstart story.bytes ++ ram in
    if memory.is_packed then result_map_both whole (λ e. fault.Runs) (unpacked bytes (first_ram story) count) else
    if length bytes == count then Ok (whole bytes) else Err fault.Runs

-- the body of a packed chunk as it is written
unfoldable pub memory_bytes : FlatStory → List ℕ → List ℕ
memory_bytes story memory =
    bytes_of_word (length memory) ++ packed (xored (drop story.header.ramstart memory) (first_ram story))
