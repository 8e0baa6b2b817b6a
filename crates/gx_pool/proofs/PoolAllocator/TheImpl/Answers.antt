-- Beside the clauses of every allocator stand those on a request that is refused.
use mir.Syntax.{Ty}
use base.Logic.{sep}
use contract.Monad.{fact}
use types.Logic.{sem}
use Rattle.std.proofs.Common.{◌<◌}
use Rattle.std.specs.Prelude.{IsErr}
use Rattle.std.specs.Allocator.{HasLayout, block_if_ok}
use Rattle.gx_pool.specs.declared.tally.TheConstants.{MOST_SIZE, MOST_ALIGN}
use Rattle.gx_pool.proofs.Promises.{ensures_more}
use Rattle.gx_pool.proofs.PoolAllocator.TheImpl.Goals as goal

pub allocate-meets : goal.allocate-meets
allocate-meets g x c =
    let 𝓤 = g.world.𝓤 in
    ensures_more 𝓤 Ty _ _ (λ ty. HasLayout ty c.args.size c.args.align)
    (λ ty answer. sem g.world.𝓛 (block_if_ok (g.B.Allocator.dealloc_token c.args.self.now.alloc) ty answer))
    (λ answer. sep 𝓤 (fact 𝓤 (MOST_SIZE < c.args.size → IsErr answer))
    (fact 𝓤 (MOST_ALIGN < c.args.align → IsErr answer))) c.ghost
