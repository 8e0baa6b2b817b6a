use Rattle.std.proofs.Common.{◌≡◌, ◌++◌, ◌+◌, ◌-◌, ◌*◌}
use Rattle.quetzal.specs.Blocks.{blocks_from}
use Rattle.quetzal.proofs.blocks.gathered.Given as goal

abbrev pub invariant-loop-index : goal.invariant-loop-index
invariant-loop-index l = l.all.items ++ blocks_from (l.count - l.index) l.body (8 + 8 * l.index)
    ≡ blocks_from l.count l.body 8
