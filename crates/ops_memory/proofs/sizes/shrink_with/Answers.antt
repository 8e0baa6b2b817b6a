use Rattle.ops_memory.proofs.Spaces.{shrink_after}
use Rattle.ops_memory.proofs.sizes.shrink_with.Goals as goal

pub shrink-requires : goal.shrink-requires
shrink-requires g c = shrink_after _ _ _ _ _ _ c.requires.size c.in_ok-settle.ensures.0
