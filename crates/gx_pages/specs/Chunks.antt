-- Chunks of memory in order, each known by a function that gives its bytes and by what it is to be whole.
use Rattle.std.specs.Prelude.{◌≡◌, ℕ, List, [], ◌∷◌, ◌++◌, length}
use Rattle.std.specs.declared.rc.Rc.{Rc}

-- each chunk is whole
abbrev pub AllWhole : {C Z : Type 0} → (C → Type 0) → List (Rc C Z) → Type 0
AllWhole IsWhole [] = Unit {0}
AllWhole IsWhole (c ∷ cs) = IsWhole c.value × AllWhole IsWhole cs

-- the bytes of the chunks, in order
abbrev pub flat : {C Z : Type 0} → (C → List ℕ) → List (Rc C Z) → List ℕ
flat bytes_of [] = []
flat bytes_of (c ∷ cs) = bytes_of c.value ++ flat bytes_of cs

-- 16 whole chunks
pub record AreSixteen {C Z : Type 0} (IsWhole : C → Type 0) (chunks : List (Rc C Z)) : Type 0 where
  pub whole : AllWhole IsWhole chunks
  pub count : length chunks ≡ 16
