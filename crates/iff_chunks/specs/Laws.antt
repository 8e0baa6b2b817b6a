-- What contracts say beside the definitions: a chunk that is found, and a form that is read back.
use Rattle.std.specs.Prelude.{ℕ, if◌then◌else◌, List, Option, Some, None, ◌≡◌, ◌+◌, ◌^◌, ◌<◌, length, map, Result, Ok}
use Rattle.std.specs.List.{find, AllByRecursion, flat_map}
use Rattle.iff_chunks.specs.declared.parts.Part.{Part}
use Rattle.iff_chunks.specs.declared.parts.Sought.{Sought}
use Rattle.iff_chunks.specs.declared.parts.Sought.TheVariants.{Letters, Place}
use Rattle.iff_chunks.specs.Chunks.{is_sought, body, chunks}
use Rattle.iff_chunks.specs.Faults.{◌>>=◌}
use Rattle.iff_chunks.specs.declared.faults.IffFault.{IffFault}
use Rattle.iff_chunks.specs.Writing.{Chunk, bytes_of_chunk, bytes_of_form}

-- the first chunk with these letters
abbrev pub first : List ℕ → List Part → Option Part
first id parts = find (is_sought (Letters id)) parts

-- the chunk whose header begins at a place
abbrev pub at_place : ℕ → List Part → Option Part
at_place place parts = find (is_sought (Place place)) parts

-- what was found already, or else a chunk where it is sought
abbrev pub found_first : Sought → Option Part → Part → Option Part
found_first sought (Some found) part = Some found
found_first sought None part = if is_sought sought part then Some part else None

-- the chunks of a form of a kind, with their bodies
abbrev pub chunk_of : List ℕ → Part → Chunk
chunk_of bytes part = record { id = part.id; body = body bytes part }

abbrev pub chunks_in : List ℕ → List ℕ → Result (List Chunk) IffFault
chunks_in bytes kind = chunks bytes kind >>= λ parts. Ok (map (chunk_of bytes) parts)

-- what can be written as a chunk, and as a form
abbrev pub IsChunk : Chunk → Type 0
IsChunk chunk = (length chunk.id ≡ 4) × (length chunk.body < 2 ^ 32)

pub record IsForm (kind : List ℕ) (chunks : List Chunk) : Type 0 where
  pub kind_whole : length kind ≡ 4
  pub chunks_whole : AllByRecursion IsChunk chunks
  pub small : 4 + length (flat_map bytes_of_chunk chunks) < 2 ^ 32

-- what is written is read back
abbrev pub ReadsBack : Type 0
ReadsBack =
    (kind : List ℕ) (chunks : List Chunk) → IsForm kind chunks →
    chunks_in (bytes_of_form kind chunks) kind ≡ Ok chunks
