use Rattle.std.proofs.Common.{◌≡◌, ◌+◌, ◌<◌, ◌^◌, drop}
use Rattle.heap_blocks.specs.Gapless.{gapless}
use Rattle.heap_blocks.proofs.blocks.gapless.Given as goal

abbrev pub invariant-loop-block : goal.invariant-loop-block
invariant-loop-block l = record {
  fits : l.at < 2 ^ 33;
  place : l.count ≡ l.known + l.block-index;
  rest : l.count + gapless l.at (drop l.block-index l.rest) ≡ gapless l.from l.blocks;
}
