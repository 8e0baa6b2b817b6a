use Rattle.std.proofs.Common.{arith}
use Rattle.heap_blocks.proofs.Changing.{without-missing}
use Rattle.heap_blocks.proofs.blocks.index_of.Goals as goal
use Rattle.heap_blocks.proofs.blocks.index_of.Goals.{else-i-blocks-via-then-i-blocks+else-blocks-i}
use Rattle.heap_blocks.proofs.blocks.index_of.Goals.{else-i-blocks-via-else-i-blocks}

pub returns-else-i-blocks-clause-value : goal.returns-else-i-blocks-clause-value
returns-else-i-blocks-clause-value c =
    without-missing _ 0 c.count_below-i.result c.args.at c.requires c.count_below-i.ensures.bound
    c.count_below-i.ensures.below
    (λ h. elim c.else-i-blocks.branch [
      | else-i-blocks-via-then-i-blocks+else-blocks-i w ↦ omega (arith, c.count_below-i.ensures.above h)
      | else-i-blocks-via-else-i-blocks w ↦ absurd (omega arith)
    ])
