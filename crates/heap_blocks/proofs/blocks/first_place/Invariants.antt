use Rattle.std.proofs.Common.{◌≡◌, ◌<◌, ◌^◌, drop}
use Rattle.heap_blocks.specs.Heap.{free_place}
use Rattle.heap_blocks.proofs.blocks.first_place.Given as goal

abbrev pub invariant-loop-block : goal.invariant-loop-block
invariant-loop-block l = record {
  fits : l.at < 2 ^ 33;
  rest : free_place l.size l.at (drop l.block-index l.blocks) ≡ free_place l.size l.initial.at l.blocks;
}
