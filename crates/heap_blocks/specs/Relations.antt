-- What contracts say of a heap beside its definitions: its blocks in plain words, the least free place, and what is
-- left by a call that frees a block.
use Rattle.std.specs.Prelude.{ℕ, ◌+◌, ◌^◌, ◌<◌, ◌≤◌, ◌⊎◌, List, [], ◌∷◌, All, AllPairs, Option, MatchOption, ◌≡◌, Bool}
use Rattle.std.specs.Prelude.{Some, None}
use Rattle.heap_blocks.specs.Heap.{Block, block_end, FlatHeap, first_address, is_inactive, HeldHeap}

-- the same in plain words: each block isn't empty and lies between the start and 2^32, and of any
-- two the one ends before the other begins
pub record AreApart (h : FlatHeap) : Type 0 where
  pub each : All (λ b. (h.start ≤ b.0) × (0 < b.1) × (block_end b < 2 ^ 32)) h.blocks
  pub apart : AllPairs (λ a b. block_end a ≤ b.0) h.blocks

-- no block has one of the n bytes at an address
abbrev pub IsFree : List Block → ℕ → ℕ → Type 0
IsFree [] at n = Unit {0}
IsFree (b ∷ bs) at n = ((at + n ≤ b.0) ⊎ (block_end b ≤ at)) × IsFree bs at n

-- n bytes at an address are a block that the heap can get
pub record IsFreePlace (h : FlatHeap) (end n ceiling at : ℕ) : Type 0 where
  pub start : first_address h end ≤ at
  pub ends : at + n ≤ ceiling
  pub free : IsFree h.blocks at n

-- The standard leaves the address open. It is the least one at which n bytes fit, or none where they
-- fit nowhere, so that it depends on the live blocks alone.
abbrev pub IsLeast : FlatHeap → ℕ → ℕ → ℕ → Option ℕ → Type 0
IsLeast h end n ceiling found =
    MatchOption found
    ((at : ℕ) → IsFreePlace h end n ceiling at → ⊥)
    (λ least. IsFreePlace h end n ceiling least × ((at : ℕ) → IsFreePlace h end n ceiling at → least ≤ at))

-- what a call that frees a block answers and leaves: nothing changes where no block begins at the
-- address; else the answer says whether it was the last, and no room is lost
abbrev pub Frees : HeldHeap → HeldHeap → Option FlatHeap → Option Bool → Type 0
Frees old new None answer = (answer ≡ None) × (new ≡ old)
Frees old new (Some left) answer =
    (answer ≡ Some (is_inactive left)) × (new.heap ≡ left) × (old.spare ≤ new.spare)
