use Rattle.std.proofs.Common.{◌≡◌, ◌++◌, take}
use Rattle.std.specs.List.{flat_map}
use Rattle.quetzal.proofs.ReadingBack.{bytes_of_block}
use Rattle.quetzal.proofs.writing.push_blocks.Given as goal

abbrev pub invariant-loop-block : goal.invariant-loop-block
invariant-loop-block l = l.body ≡ l.initial.body ++ flat_map bytes_of_block (take l.block-index l.blocks)
