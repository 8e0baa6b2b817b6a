-- the size of memory is stored
use Rattle.std.proofs.Common.{length, ap, ◌∙◌}
use Rattle.gx_machine.proofs.Fetching.{size_stored}
use Rattle.gx_machine.proofs.quick.do_store.Goals as goal

pub returns-in-Memory-clause-value : goal.returns-in-Memory-clause-value
returns-in-Memory-clause-value g c =
    size_stored _ _ _ _ _ _ _ c.in-Memory.is c.if-row-eq-GETMEMSIZE.true
    (c.size-size.ensures.value ∙ ap length c.memory.ensures.value) c.store_on.ensures.value
