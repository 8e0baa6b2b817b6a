use Rattle.std.proofs.Common.{◌≡◌, ◌<◌, ◌^◌, drop}
use Rattle.quetzal.specs.Blocks.{rises}
use Rattle.quetzal.proofs.blocks.rises.Given as goal

abbrev pub invariant-loop-block : goal.invariant-loop-block
invariant-loop-block l = (l.at < 2 ^ 33)
    × (rises l.at l.size (drop l.block-index l.blocks) ≡ rises l.start l.size l.blocks)
