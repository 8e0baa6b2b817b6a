use Rattle.std.proofs.Common.{◌≡◌, take}
use Rattle.quetzal.proofs.blocks.listed.Given as goal

abbrev pub invariant-loop-block : goal.invariant-loop-block
invariant-loop-block l = l.blocks ≡ take l.block-index l.all
