use Rattle.std.proofs.Common.{subst}
use Rattle.heap_blocks.specs.Heap.{HeldHeap}
use Rattle.heap_blocks.specs.Relations.{AreApart}
use Rattle.heap_blocks.specs.Sound.{flat_of}
use Rattle.heap_blocks.proofs.Placing.{are_apart}
use Rattle.heap_blocks.proofs.blocks.Heap.blocks.Goals as goal

pub returns-clause-apart : goal.returns-clause-apart
returns-clause-apart c = subst (λ (held : HeldHeap). AreApart held.heap) c.self.view_is
    (are_apart (flat_of c.self.inside) c.self.invariant.sound)
