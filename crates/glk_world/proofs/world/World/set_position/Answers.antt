use Rattle.glk_world.proofs.Kept.{streams_with}
use Rattle.glk_world.proofs.Links.{linked_changed, as_moved}
use Rattle.glk_world.proofs.Names.{named_changed}
use Rattle.glk_world.proofs.world.World.set_position.Goals as goal

pub invariant_of-self : goal.invariant_of-self
invariant_of-self c =
    let there = rw (← c.self.view_is) at c.requires in
    record {
      windows = c.self.invariant.windows;
      streams = rw c.set_position.ensures (streams_with _ _ _ c.self.invariant.streams);
      references = c.self.invariant.references;
      above = c.self.invariant.above;
      first = c.self.invariant.first;
      links = rw c.set_position.ensures (linked_changed _ _ _ _ _ there (as_moved _ _ _) c.self.invariant.links);
      named = rw c.set_position.ensures (named_changed _ _ _ _ there (as_moved _ _ _) c.self.invariant.named);
    }
