-- Packed bytes as they are read (Quetzal 1.4, section 3).
use Rattle.std.specs.Prelude.{ℕ, zero, suc, ◌+◌, ◌-◌, nat_lt, if◌then◌else◌, List, [], ◌∷◌, ◌++◌, length, replicate}
use Rattle.std.specs.Prelude.{Result, Ok, Err}
use Rattle.gx_words.specs.Results.{◌>>=◌}
use Rattle.zero_runs.specs.Packing.{xored}
use Rattle.zero_runs.specs.declared.faults.RunFault.{RunFault}
use Rattle.zero_runs.specs.declared.faults.RunFault.TheVariants.{Cut, TooMany}

-- the list that packed bytes stand for
unfoldable pub expand : List ℕ → Result (List ℕ) RunFault
expand [] = Ok []
expand (zero ∷ []) = Err Cut
expand (zero ∷ more ∷ bytes) = expand bytes >>= λ xs. Ok (replicate (more + 1) 0 ++ xs)
expand (suc x ∷ bytes) = expand bytes >>= λ xs. Ok (suc x ∷ xs)

-- so many bytes that packed bytes stand for over the old ones: zeros that are missing at the end count
unfoldable pub unpacked : List ℕ → List ℕ → ℕ → Result (List ℕ) RunFault
unpacked bytes old size = expand bytes >>= λ xs.
    if nat_lt size (length xs) then Err TooMany else Ok (xored (xs ++ replicate (size - length xs) 0) old)
