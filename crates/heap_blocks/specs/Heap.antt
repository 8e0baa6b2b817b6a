-- The blocks of the memory allocation heap, and where the next one goes (Glulx 3.1.2,
-- "Memory Allocation Heap").
use Rattle.std.specs.Prelude.{◌≡◌, ℕ, ◌+◌, ◌<◌, ◌≤◌, Bool, ◌==◌, nat_le, nat_lt, if◌then◌else◌, List, [], ◌∷◌, length}
use Rattle.std.specs.Prelude.{Option, Some, None}
use Rattle.std.specs.Option.{option_map}

-- a block is its address and its length
abbrev pub Block : Type 0
Block = ℕ × ℕ

abbrev pub block_end : Block → ℕ
block_end b = b.0 + b.1

-- where the heap begins, and its blocks in rising order
pub record FlatHeap : Type 0 where
  pub start : ℕ
  pub blocks : List Block

-- a heap is inactive as long as it has no block
abbrev pub inactive : FlatHeap
inactive = record { start = 0; blocks = [] }

abbrev pub is_inactive : FlatHeap → Bool
is_inactive h = length h.blocks == 0

-- blocks that aren't empty, the first at or after an address and each other at or after the end
-- of the one before: so they rise, and no two of them meet
abbrev pub IsRising : ℕ → List Block → Type 0
IsRising from [] = Unit {0}
IsRising from (b ∷ bs) = (from ≤ b.0) × (0 < b.1) × IsRising (block_end b) bs

-- no block goes past an address
abbrev pub IsEndedBy : ℕ → List Block → Type 0
IsEndedBy limit [] = Unit {0}
IsEndedBy limit (b ∷ bs) = (block_end b ≤ limit) × IsEndedBy limit bs

-- what holds of every heap; each block ends below 2^32
pub record IsSound (h : FlatHeap) : Type 0 where
  pub rises : IsRising h.start h.blocks
  pub ends : IsEndedBy 0xFFFFFFFF h.blocks
  pub none : length h.blocks ≡ 0 → h.start ≡ 0

-- nothing of a heap lies past an address
pub record IsHeapBelow (limit : ℕ) (h : FlatHeap) : Type 0 where
  pub start : h.start ≤ limit
  pub ends : IsEndedBy limit h.blocks

-- the address at which the heap begins, or would begin with its first block
abbrev pub first_address : FlatHeap → ℕ → ℕ
first_address h end = if is_inactive h then end else h.start

-- the first free place of n bytes from an address on, among blocks in rising order
abbrev pub free_place : ℕ → ℕ → List Block → ℕ
free_place n at [] = at
free_place n at (b ∷ bs) = if nat_le (at + n) b.0 then at else free_place n (block_end b) bs

-- malloc: the address of a block of n bytes that ends at or below a ceiling
abbrev pub block_address : FlatHeap → ℕ → ℕ → ℕ → Option ℕ
block_address h end n ceiling =
    let at = free_place n (first_address h end) h.blocks in
    if nat_le (at + n) ceiling then Some at else None

-- a block put in order among the others
unfoldable pub inserted : Block → List Block → List Block
inserted x [] = x ∷ []
inserted x (b ∷ bs) = if nat_lt b.0 x.0 then b ∷ inserted x bs else x ∷ b ∷ bs

-- malloc: the heap with one more block, which begins at `end` where it was inactive
abbrev pub with_block : FlatHeap → ℕ → Block → FlatHeap
with_block h end x = record { start = first_address h end; blocks = inserted x h.blocks }

-- the other blocks, where one begins at an address
unfoldable pub other_blocks : ℕ → List Block → Option (List Block)
other_blocks at [] = None
other_blocks at (b ∷ bs) = if b.0 == at then Some bs else option_map (λ rest. b ∷ rest) (other_blocks at bs)

-- mfree: the heap without that block, inactive where it was the last
abbrev pub freed : FlatHeap → ℕ → Option FlatHeap
freed h at =
    option_map (λ rest. record { start = if length rest == 0 then 0 else h.start; blocks = rest })
    (other_blocks at h.blocks)

-- WHAT CONTRACTS SEE

-- a heap beside the number of blocks that it has room for
pub record HeldHeap : Type 0 where
  pub heap : FlatHeap
  pub spare : ℕ
