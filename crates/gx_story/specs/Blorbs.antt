-- The story in a Blorb (Blorb 2.0.4: the resource index and executable resources).
use Rattle.std.specs.Prelude.{ℕ, zero, suc, ◌+◌, ◌*◌, ◌==◌, nat_le, ◌&&◌, Bool, if◌then◌else◌, List, [], ◌∷◌, length}
use Rattle.std.specs.Prelude.{Option, None, codes, Result, Ok, Err}
use Rattle.std.specs.List.{find}
use Rattle.std.specs.Option.{ok_or}
use Rattle.std.specs.Result.{result_or}
use Rattle.std.specs.Str.{bytes_eq}
use Rattle.gx_words.specs.Numbers.{word}
use Rattle.gx_words.specs.Results.{◌>>=◌}
use Rattle.iff_chunks.specs.Chunks.{id_at, chunks, part_found, body}
use Rattle.iff_chunks.specs.declared.parts.Part.{Part}
use Rattle.iff_chunks.specs.declared.parts.Sought.{Sought}
use Rattle.iff_chunks.specs.declared.parts.Sought.TheVariants.{Letters, Place}
use Rattle.gx_story.specs.Constants.{count_len, entry_len}
use Rattle.gx_story.specs.declared.blorbs.Entry.{Entry}
use Rattle.gx_story.specs.declared.faults.StoryFault.{StoryFault}
use Rattle.gx_story.specs.declared.faults.StoryFault.TheVariants as fault

-- so many entries of an index from a place on
unfoldable pub entries_from : ℕ → List ℕ → ℕ → List Entry
entries_from zero index at = []
entries_from (suc count) index at =
    record { usage = id_at index at; number = word index (at + 4); start = word index (at + 8) } ∷
    entries_from count index (at + entry_len)

-- the entry names the story
abbrev pub is_story : Entry → Bool
is_story entry = bytes_eq entry.usage (codes "Exec") && entry.number == 0

-- the first entry that names the story, of an index that has a count and as many entries
unfoldable pub story_entry : List ℕ → Option Entry
story_entry index =
    if nat_le count_len (length index) && nat_le (count_len + entry_len * word index 0) (length index)
    then find is_story (entries_from (word index 0) index count_len) else None

-- the first chunk of a Blorb that is sought; whatever is wrong with the form is the fault of a Blorb
abbrev pub blorb_part : List ℕ → Sought → Result Part StoryFault
blorb_part file sought =
    result_or (part_found sought (chunks file (codes "IFRS"))) (Err fault.Blorb) >>= λ part. ok_or part fault.Blorb

-- the bare story: the body of the chunk `GLUL` whose header is where the first index says
unfoldable pub story_in : List ℕ → Result (List ℕ) StoryFault
story_in file = do
  index ← blorb_part file (Letters (codes "RIdx"))
  entry ← ok_or (story_entry (body file index)) fault.Blorb
  chunk ← blorb_part file (Place entry.start)
  if bytes_eq chunk.id (codes "GLUL") then Ok (body file chunk) else Err fault.Blorb
