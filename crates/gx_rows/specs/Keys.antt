-- Tables whose rows are found by a number: keys that rise, and the one row of a key.
use Rattle.std.specs.Prelude.{◌≡◌, ◌<◌, ◌&&◌, ℕ, Bool, true, nat_lt, List, [], ◌∷◌, length, slice_index_or}

-- each key is below the next
abbrev pub is_rising : {T : Type 0} → (T → ℕ) → List T → Bool
is_rising key_of [] = true
is_rising key_of (row ∷ []) = true
is_rising key_of (row ∷ next ∷ rest) = nat_lt (key_of row) (key_of next) && is_rising key_of (next ∷ rest)

-- the row at this place has the key, and no other has it
pub record IsOnly {T : Type 0} (key_of : T → ℕ) (rows : List T) (key place : ℕ) : Type 0 where
  pub within : place < length rows
  pub here : (row : T) → key_of (slice_index_or rows place row) ≡ key
  pub alone : (other : ℕ) (row : T) → other < length rows → key_of (slice_index_or rows other row) ≡ key → other ≡ place
