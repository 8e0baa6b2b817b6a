use Rattle.std.proofs.Common.{◌≡◌, ◌+◌, ◌-◌, ◌*◌}
use Rattle.std.specs.List.{list_all}
use Rattle.quetzal.specs.Blocks.{blocks_from}
use Rattle.quetzal.specs.Laws.{is_block}
use Rattle.quetzal.proofs.blocks.are_within.Given as goal

abbrev pub invariant-loop-index : goal.invariant-loop-index
invariant-loop-index l = list_all (is_block l.start l.size) (blocks_from (l.count - l.index) l.body (8 + 8 * l.index))
    ≡ list_all (is_block l.start l.size) (blocks_from l.count l.body 8)
