-- What the borrowed parts of a save stand for, and a heap's start and blocks.
use Rattle.std.specs.Prelude.{ℕ, List}
use Rattle.heap_blocks.specs.Heap.{Block, FlatHeap}
use Rattle.quetzal.specs.declared.chunks.MemoryChunk.{MemoryChunk}
use Rattle.quetzal.specs.declared.chunks.Parts as borrowed
use Rattle.quetzal.specs.Chunks.{MemoryBody, Parts}

abbrev pub memory_body : MemoryChunk → MemoryBody
memory_body chunk = record { is_packed = chunk.is_packed; body = chunk.body.now }

abbrev pub parts_of : borrowed.Parts → Parts
parts_of parts = record { stack = parts.stack.now; memory = memory_body parts.memory; heap = parts.heap.now }

abbrev pub heap_from : ℕ × List Block → FlatHeap
heap_from heap = record { start = heap.0; blocks = heap.1 }
