-- Packed bytes as they are written (Quetzal 1.4, section 3).
--
-- Memory is compared with the memory that the story began with, so that most bytes are 0. A byte
-- other than 0 stands for itself, and zeros are written as runs, but those at the end are left out.
use Rattle.std.specs.Prelude.{ℕ, zero, suc, ◌-◌, ◌/◌, ◌%◌, ◌==◌, if◌then◌else◌, List, [], ◌∷◌, ◌++◌, drop, slice_index}
use Rattle.std.specs.Prelude.{replicate}
use Rattle.std.specs.List.{concat}
use Rattle.std.specs.Int.Bits.{bit_xor}

-- each byte xor the old byte at its place, which is 0 past the end of the old ones
unfoldable pub xored : List ℕ → List ℕ → List ℕ
xored [] old = []
xored (x ∷ xs) old = bit_xor x (slice_index old 0) ∷ xored xs (drop 1 old)

-- a run of zeros: 00 FF for each 256 of them, and for the others, if any, 00 and one less than their number
unfoldable pub run : ℕ → List ℕ
run n = concat (replicate (n / 256) (0 ∷ 0xFF ∷ [])) ++ (if n % 256 == 0 then [] else 0 ∷ (n % 256 - 1) ∷ [])

-- a list behind so many zeros: a run is written with the byte that ends it
unfoldable pub packed_behind : ℕ → List ℕ → List ℕ
packed_behind n [] = []
packed_behind n (zero ∷ xs) = packed_behind (suc n) xs
packed_behind n (suc x ∷ xs) = run n ++ suc x ∷ packed_behind 0 xs

abbrev pub packed : List ℕ → List ℕ
packed xs = packed_behind 0 xs
