-- The objects of one class in order of creation (Glk 0.7.5, "Opaque Objects").
--
-- `id_of` gives an object's identifier. The identifiers in a list rise.
use Rattle.std.specs.Prelude.{ℕ, zero, suc, ◌+◌, ◌<◌, ◌≤◌, ◌==◌, ◌||◌, nat_lt, Bool, false, if◌then◌else◌, List, []}
use Rattle.std.specs.Prelude.{◌∷◌, length, slice_index_or}

-- an identifier is above all that are there
abbrev pub IsAboveAll : {T : Type 0} → (T → ℕ) → List T → ℕ → Type 0
IsAboveAll id_of [] id = Unit {0}
IsAboveAll id_of (x ∷ xs) id = (id_of x < id) × IsAboveAll id_of xs id

-- a number is below all identifiers that are there
abbrev pub IsBelowAll : {T : Type 0} → (T → ℕ) → List T → ℕ → Type 0
IsBelowAll id_of [] id = Unit {0}
IsBelowAll id_of (x ∷ xs) id = (id < id_of x) × IsBelowAll id_of xs id

-- each identifier is below those after it
abbrev pub AreRising : {T : Type 0} → (T → ℕ) → List T → Type 0
AreRising id_of [] = Unit {0}
AreRising id_of (x ∷ xs) = IsBelowAll id_of xs (id_of x) × AreRising id_of xs

-- an object has the identifier
abbrev pub has : {T : Type 0} → (T → ℕ) → List T → ℕ → Bool
has id_of [] id = false
has id_of (x ∷ xs) id = id_of x == id || has id_of xs id

-- where the object stands, the length where there is none
unfoldable pub object_place : {T : Type 0} → (T → ℕ) → List T → ℕ → ℕ
object_place id_of [] id = 0
object_place id_of (x ∷ xs) id = if id_of x == id then 0 else object_place id_of xs id + 1

-- the object, or one that stands for none
unfoldable pub at : {T : Type 0} → (T → ℕ) → T → List T → ℕ → T
at id_of none [] id = none
at id_of none (x ∷ xs) id = if id_of x == id then x else at id_of none xs id

-- the object of this one's identifier becomes this one
unfoldable pub with : {T : Type 0} → (T → ℕ) → List T → T → List T
with id_of [] new = []
with id_of (x ∷ xs) new = if id_of x == id_of new then new ∷ xs else x ∷ with id_of xs new

-- the object of an identifier is gone
unfoldable pub all_but : {T : Type 0} → (T → ℕ) → List T → ℕ → List T
all_but id_of [] id = []
all_but id_of (x ∷ xs) id = if id_of x == id then xs else x ∷ all_but id_of xs id

-- the first identifier above a number, which is the least of them; 0 where there is none
unfoldable pub next : {T : Type 0} → (T → ℕ) → List T → ℕ → ℕ
next id_of [] id = 0
next id_of (x ∷ xs) id = if nat_lt id (id_of x) then id_of x else next id_of xs id

-- the identifiers that are met by going on from one to the next again and again, up to 0; so many at most
unfoldable pub met_from : {T : Type 0} → (T → ℕ) → ℕ → List T → ℕ → List ℕ
met_from id_of zero xs id = []
met_from id_of (suc most) xs id =
    if next id_of xs id == 0 then [] else next id_of xs id ∷ met_from id_of most xs (next id_of xs id)

-- so many objects have identifiers up to a number, and all others have greater ones
pub record IsSplit {T : Type 0} (id_of : T → ℕ) (xs : List T) (id count : ℕ) : Type 0 where
  pub within : count ≤ length xs
  pub up_to : (i : ℕ) (d : T) → i < count → id_of (slice_index_or xs i d) ≤ id
  pub above : (i : ℕ) (d : T) → count ≤ i → i < length xs → id < id_of (slice_index_or xs i d)
