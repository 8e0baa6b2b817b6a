-- The story's own bytes below RAMSTART are memory's first ones.
use Rattle.std.proofs.Common.{◌≡◌, ◌≤◌, ℕ, List, length, take, sym}
use Rattle.std.proofs.lemmas.List.{length-take-le}

pub stored : (memory bytes : List ℕ) (ramstart : ℕ) → take ramstart memory ≡ take ramstart bytes
    → ramstart ≤ length bytes
    → take ramstart bytes ≡ take (length (take ramstart bytes)) memory
stored memory bytes ramstart same inside =
    let all : length (take ramstart bytes) ≡ ramstart = length-take-le ramstart bytes inside in
    rw all (sym same)
