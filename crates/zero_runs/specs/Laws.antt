-- What contracts say beside the definitions: packed bytes that are read behind others, and lists without their last
-- zeros.
use Rattle.std.specs.Prelude.{ℕ, zero, suc, List, [], ◌∷◌, ◌++◌, length, drop, Result, Ok}
use Rattle.gx_words.specs.Results.{◌>>=◌}
use Rattle.zero_runs.specs.Packing.{xored}
use Rattle.zero_runs.specs.declared.faults.RunFault.{RunFault}
use Rattle.zero_runs.specs.Unpacking.{expand, unpacked}

-- its length
abbrev pub expanded_len : List ℕ → Result ℕ RunFault
expanded_len bytes = expand bytes >>= λ xs. Ok (length xs)

-- a list with its bytes behind it, xor the old ones from there on
abbrev pub expanded_onto : List ℕ → List ℕ → List ℕ → Result (List ℕ) RunFault
expanded_onto out bytes old = expand bytes >>= λ xs. Ok (out ++ xored xs (drop (length out) old))

-- a list with so many bytes behind it, over the old bytes from there on
abbrev pub unpacked_onto : List ℕ → List ℕ → List ℕ → ℕ → Result (List ℕ) RunFault
unpacked_onto out bytes old size = unpacked bytes (drop (length out) old) size >>= λ added. Ok (out ++ added)

-- a byte before a list that ends in no zero: a zero before nothing is dropped
abbrev pub before : ℕ → List ℕ → List ℕ
before zero [] = []
before zero (y ∷ ys) = 0 ∷ y ∷ ys
before (suc x) ys = suc x ∷ ys

-- a list without its last zeros
unfoldable pub without_last_zeros : List ℕ → List ℕ
without_last_zeros [] = []
without_last_zeros (x ∷ xs) = before x (without_last_zeros xs)
