-- How many of the first blocks leave no gap. A heap keeps it, so that no search for a place goes over them.
use Rattle.std.specs.Prelude.{ℕ, suc, ◌==◌, if◌then◌else◌, List, [], ◌∷◌}
use Rattle.heap_blocks.specs.Heap.{Block, block_end}

-- how many of the first blocks each begin where the one before ends, the first at an address
abbrev pub gapless : ℕ → List Block → ℕ
gapless from [] = 0
gapless from (b ∷ bs) = if b.0 == from then suc (gapless (block_end b) bs) else 0

-- the end of the last block, or the address itself where there is none
abbrev pub last_end : ℕ → List Block → ℕ
last_end from [] = from
last_end from (b ∷ bs) = last_end (block_end b) bs
