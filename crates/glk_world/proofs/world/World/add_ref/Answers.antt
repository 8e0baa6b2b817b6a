use Rattle.std.proofs.Common.{arith}
use Rattle.glk_world.proofs.Kept.{new_more, streams_more, references_rise, references_end, references_first}
use Rattle.glk_world.proofs.Links.{linked_more}
use Rattle.glk_world.proofs.world.World.add_ref.Goals as goal

pub invariant_of-self-2 : goal.invariant_of-self-2
invariant_of-self-2 c = record {
  windows = new_more _ _ _ c.self.invariant.windows (omega arith);
  streams = streams_more _ _ _ c.self.invariant.streams (omega arith);
  references = rw c.in_ok-push.ensures.items (references_rise _ _ c.self.invariant.references c.self.invariant.above);
  above = rw c.in_ok-push.ensures.items (references_end _ _ c.self.invariant.above);
  first = rw c.in_ok-push.ensures.items (references_first _ _ c.self.invariant.first c.self.invariant.links.begun);
  links = linked_more _ _ _ _ c.self.invariant.links (omega arith);
  named = c.self.invariant.named;
}
