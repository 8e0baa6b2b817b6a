-- The chunks of a save that are looked at (Quetzal 1.4, sections 3 to 5; Glulx 3.1.2, "Contents of the Save File").
use Rattle.std.specs.Prelude.{ℕ, Bool, true, false, nat_le, List, [], length, take, Option, Some, None, unwrap_or}
use Rattle.std.specs.Prelude.{codes, Result, Ok}
use Rattle.std.specs.Option.{ok_or, option_map, option_map_or}
use Rattle.std.specs.Result.{result_map_both}
use Rattle.std.specs.Str.{bytes_eq}
use Rattle.gx_words.specs.Results.{◌>>=◌}
use Rattle.iff_chunks.specs.Chunks.{body, chunks, part_found}
use Rattle.iff_chunks.specs.declared.parts.Sought.TheVariants.{Letters}
use Rattle.gx_story.specs.Stories.{FlatStory}
use Rattle.quetzal.specs.Constants.{story_start, size_len}
use Rattle.quetzal.specs.Faults.{allowed}
use Rattle.quetzal.specs.declared.faults.SaveFault.{SaveFault}
use Rattle.quetzal.specs.declared.faults.SaveFault.TheVariants as fault

-- the body of the first chunk with these letters, where there is one
unfoldable pub body_in : List ℕ → List ℕ → Result (Option (List ℕ)) SaveFault
body_in save id =
    result_map_both (option_map (body save)) (λ e. fault.Form) (part_found (Letters id) (chunks save (codes "IFZS")))

-- a chunk that has to be there
unfoldable pub needed : List ℕ → List ℕ → Result (List ℕ) SaveFault
needed save id = body_in save id >>= λ body. ok_or body fault.Form

-- a chunk of memory: whether it is packed, and its body
pub record MemoryBody : Type 0 where
  pub is_packed : Bool
  pub body : List ℕ

-- a packed chunk is taken before a plain one
abbrev pub either : Option (List ℕ) → Option (List ℕ) → Option MemoryBody
either (Some packed) plain = Some (record { is_packed = true; body = packed })
either None plain = option_map (λ body. record { is_packed = false; body = body }) plain

unfoldable pub memory_in : List ℕ → Result (Option MemoryBody) SaveFault
memory_in save =
    body_in save (codes "CMem") >>= λ packed. body_in save (codes "UMem") >>= λ plain. Ok (either packed plain)

-- what is looked at of a save; the heap's chunk is empty where there is none
pub record Parts : Type 0 where
  pub stack : List ℕ
  pub memory : MemoryBody
  pub heap : List ℕ

-- A chunk of memory begins with a word, the size of memory. The save is of this story where its chunk IFhd has the
-- story's first 128 bytes.
unfoldable pub parts_in : List ℕ → FlatStory → Result Parts SaveFault
parts_in save story = do
  header ← needed save (codes "IFhd")
  stack ← needed save (codes "Stks")
  memory ← memory_in save
  _ ← allowed (option_map_or (λ m. nat_le size_len (length m.body)) memory true) fault.Form
  _ ← allowed (bytes_eq header (take story_start story.bytes)) fault.OtherStory
  chunk ← ok_or memory fault.NoMemoryChunk
  heap ← body_in save (codes "MAll")
  Ok (record { stack = stack; memory = chunk; heap = unwrap_or heap [] })
