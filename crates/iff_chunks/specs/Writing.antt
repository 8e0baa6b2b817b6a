-- How a form is written (Quetzal 1.4, "Introduction to the IFF format").
use Rattle.std.specs.Prelude.{ℕ, ◌+◌, ◌/◌, ◌%◌, ◌^◌, List, [], ◌∷◌, ◌++◌, length, codes, replicate}
use Rattle.std.specs.List.{flat_map}

-- a chunk without its place
pub record Chunk : Type 0 where
  pub id : List ℕ
  pub body : List ℕ

-- the bytes of a length, the highest first
abbrev pub bytes_of_length : ℕ → List ℕ
bytes_of_length n = (n / 2 ^ 24 % 256) ∷ (n / 2 ^ 16 % 256) ∷ (n / 2 ^ 8 % 256) ∷ (n % 256) ∷ []

-- the bytes of a chunk: letters, length, body, and a zero byte after an odd length
unfoldable pub bytes_of_chunk : Chunk → List ℕ
bytes_of_chunk chunk =
    chunk.id ++ (bytes_of_length (length chunk.body) ++ (chunk.body ++ replicate (length chunk.body % 2) 0))

-- the bytes of a form: FORM, the length from the kind on, the kind, the chunks
unfoldable pub bytes_of_form : List ℕ → List Chunk → List ℕ
bytes_of_form kind chunks =
    codes "FORM" ++
    (bytes_of_length (4 + length (flat_map bytes_of_chunk chunks)) ++ (kind ++ flat_map bytes_of_chunk chunks))
