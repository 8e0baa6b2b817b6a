-- The size of memory, and the blocks of its heap (Glulx 3.1.2, "Memory Map" and "Memory Allocation Heap").
use Rattle.std.specs.Prelude.{ℕ, if◌then◌else◌, take, Option}
use Rattle.std.specs.Option.{option_map}
use Rattle.gx_pages.specs.Memory.{resized}
use Rattle.heap_blocks.specs.Heap as heaps
use Rattle.heap_blocks.specs.Heap.{FlatHeap, is_inactive, freed}
use Rattle.gx_state.specs.Flat.{FlatState}

-- memory of another size: cut, or with zeros at its end
abbrev pub with_size : FlatState → ℕ → FlatState
with_size f size = record f { memory = resized f.memory size }

-- malloc: one more block
abbrev pub with_block : FlatState → ℕ → ℕ → ℕ → FlatState
with_block f end at size = record f { heap = heaps.with_block f.heap end (at, size) }

-- mfree, where a block begins at the address; with the last block memory goes back to the size at which the heap began
abbrev pub without_block : FlatState → ℕ → Option FlatState
without_block f at =
    let memory = λ (heap : FlatHeap). if is_inactive heap then take f.heap.start f.memory else f.memory in
    option_map (λ heap. record f { memory = memory heap; heap = heap }) (freed f.heap at)
