use Rattle.glk_world.proofs.Kept.{streams_without, forgotten_new}
use Rattle.glk_world.proofs.Links.{linked_without}
use Rattle.glk_world.proofs.Names.{named_without}
use Rattle.glk_world.proofs.world.World.remove_stream.Goals as goal

pub invariant_of-self : goal.invariant_of-self
invariant_of-self c = record {
  windows = rw c.forget_stream.ensures (forgotten_new _ _ _ c.self.invariant.windows);
  streams = rw c.remove.ensures (streams_without _ _ _ c.self.invariant.streams);
  references = c.self.invariant.references;
  above = c.self.invariant.above;
  first = c.self.invariant.first;
  links = rw (c.remove.ensures, c.forget_stream.ensures) (linked_without _ _ _ _ c.self.invariant.links);
  named = rw (c.remove.ensures, c.forget_stream.ensures)
      (named_without _ _ _ _ (rw (← c.self.view_is) at c.requires.own) c.self.invariant.links c.self.invariant.named);
}

pub invariant_of-self-else-self-id : goal.invariant_of-self-else-self-id
invariant_of-self-else-self-id c = record {
  windows = rw c.forget_stream.ensures (forgotten_new _ _ _ c.self.invariant.windows);
  streams = rw c.remove.ensures (streams_without _ _ _ c.self.invariant.streams);
  references = c.self.invariant.references;
  above = c.self.invariant.above;
  first = c.self.invariant.first;
  links = rw (c.remove.ensures, c.forget_stream.ensures) (linked_without _ _ _ _ c.self.invariant.links);
  named = rw (c.remove.ensures, c.forget_stream.ensures)
      (named_without _ _ _ _ (rw (← c.self.view_is) at c.requires.own) c.self.invariant.links c.self.invariant.named);
}
