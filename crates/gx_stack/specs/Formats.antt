-- Locals formats and the frames that they make (Glulx 3.1.2, "Call Frames" and "Functions").
--
-- A format is the pairs of type and count and an ending pair, as they stand in memory. The type is
-- the size of each of the pair's locals in bytes.
use Rattle.std.specs.Prelude.{ℕ, zero, suc, ◌+◌, ◌-◌, ◌*◌, ◌%◌, ◌==◌, if◌then◌else◌, List, [], ◌∷◌, ◌++◌, length, take}
use Rattle.std.specs.Prelude.{drop, replicate}
use Rattle.gx_words.specs.Numbers.{bytes_of_word, bytes_of_number}

-- the pairs of a format in front of its ending pair
abbrev pub pairs_of : List ℕ → List ℕ
pairs_of format = take (length format - 2) format

-- how far it is from an offset to the least multiple of 1, 2 or 4 at or after it
abbrev pub gap : ℕ → ℕ → ℕ
gap t at = if t == 1 then 0 else if t == 2 then at % 2 else (4 - at % 4) % 4

-- bytes with zeros up to a multiple of 4
abbrev pub padded : List ℕ → List ℕ
padded bytes = bytes ++ replicate (gap 4 (length bytes)) 0

abbrev pub padded_len : ℕ → ℕ
padded_len n = n + gap 4 n

-- so many locals of t bytes: the arguments in order, each cut to its local, then zeros
unfoldable pub pair_locals : ℕ → ℕ → List ℕ → List ℕ
pair_locals t zero args = []
pair_locals t (suc n) [] = bytes_of_number t 0 ++ pair_locals t n []
pair_locals t (suc n) (a ∷ args) = bytes_of_number t a ++ pair_locals t n args

-- the locals of pairs from an offset on, each pair's at the least multiple of its type
unfoldable pub locals : ℕ → List ℕ → List ℕ → List ℕ
locals at [] args = []
locals at (t ∷ []) args = []
locals at (t ∷ n ∷ pairs) args =
    replicate (gap t at) 0 ++ pair_locals t n args ++ locals (at + gap t at + t * n) pairs (drop n args)

-- how many bytes they are
unfoldable pub locals_len : ℕ → List ℕ → ℕ
locals_len at [] = 0
locals_len at (t ∷ []) = 0
locals_len at (t ∷ n ∷ pairs) = gap t at + t * n + locals_len (at + gap t at + t * n) pairs

-- LocalsPos and FrameLen
abbrev pub locals_pos : List ℕ → ℕ
locals_pos format = 8 + padded_len (length format)

abbrev pub frame_len : List ℕ → ℕ
frame_len format = locals_pos format + padded_len (locals_len 0 (pairs_of format))

-- The frame of a format with these arguments in its locals: FrameLen, LocalsPos, the pairs and an
-- ending pair of zeros, the locals.
unfoldable pub frame : List ℕ → List ℕ → List ℕ
frame format args = bytes_of_word (frame_len format) ++ bytes_of_word (locals_pos format)
    ++ padded (pairs_of format ++ 0 ∷ 0 ∷ []) ++ padded (locals 0 (pairs_of format) args)
