use Rattle.glk_world.proofs.Kept.{streams_with}
use Rattle.glk_world.proofs.Links.{linked_changed, as_taken}
use Rattle.glk_world.proofs.Names.{named_changed}
use Rattle.glk_world.proofs.world.World.take_file.Goals as goal

pub invariant_of-self : goal.invariant_of-self
invariant_of-self c =
    let there = rw (← c.self.view_is) at c.requires.there in
    let taken = as_taken _ _ c.take_file.ensures.value in
    record {
      windows = c.self.invariant.windows;
      streams = rw c.take_file.ensures.new (streams_with _ _ _ c.self.invariant.streams);
      references = c.self.invariant.references;
      above = c.self.invariant.above;
      first = c.self.invariant.first;
      links = rw c.take_file.ensures.new (linked_changed _ _ _ _ _ there taken c.self.invariant.links);
      named = rw c.take_file.ensures.new (named_changed _ _ _ _ there taken c.self.invariant.named);
    }
