-- the blocks as they come, one a turn
use Rattle.std.proofs.Common.{◌∙◌, ap}
use Rattle.quetzal.specs.Blocks.{blocks_from}
use Rattle.quetzal.proofs.Listing.{block_gathered, all_gathered}
use Rattle.quetzal.proofs.blocks.gathered.Goals as goal

pub loop-index-preserved : goal.loop-index-preserved
loop-index-preserved c =
    let pushed = c.in_ok-push.ensures in
    rw (pushed.items, c.block_at.ensures) (block_gathered c.args.body.now c.loop-index.all.items _
    c.word_at-count.result c.loop-index.index c.loop-index-test.true c.loop-index.invariant)

pub returns : goal.returns
returns c =
    all_gathered c.args.body.now c.loop-index.all.items _ c.word_at-count.result c.loop-index.index
    c.loop-index-test.false c.loop-index.invariant
    ∙ ap (λ k. blocks_from k c.args.body.now 8) c.word_at-count.ensures
