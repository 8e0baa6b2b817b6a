-- What contracts see of a heap, and what holds of its fields.
use Rattle.std.specs.Prelude.{◌≡◌, ◌-◌, vec_len, vec_capacity}
use Rattle.heap_blocks.specs.Heap.{FlatHeap, HeldHeap, IsSound}
use Rattle.heap_blocks.specs.Gapless.{gapless}
use Rattle.heap_blocks.specs.declared.blocks.Heap.TheInside.{Inside}

abbrev pub flat_of : Inside → FlatHeap
flat_of h = record { start = h.start; blocks = h.blocks.items }

abbrev pub held_of : Inside → HeldHeap
held_of h = record { heap = flat_of h; spare = vec_capacity h.blocks - vec_len h.blocks }

-- the heap is sound, and how many of its first blocks leave no gap is as it is kept
pub record HeapInvariant (h : Inside) : Type 0 where
  pub sound : IsSound (flat_of h)
  pub gapless : h.gapless ≡ gapless h.start h.blocks.items
