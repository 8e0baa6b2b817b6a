use Rattle.glk_world.proofs.Kept.{moved_new}
use Rattle.glk_world.proofs.Links.{entries_moved}
use Rattle.glk_world.proofs.world.World.move_cursor.Goals as goal

pub invariant_of-self : goal.invariant_of-self
invariant_of-self c = record {
  windows = rw c.move_cursor.ensures (moved_new _ _ _ _ _ c.self.invariant.windows);
  streams = c.self.invariant.streams;
  references = c.self.invariant.references;
  above = c.self.invariant.above;
  first = c.self.invariant.first;
  links = rw (c.move_cursor.ensures, entries_moved) c.self.invariant.links;
  named = rw (c.move_cursor.ensures, entries_moved) c.self.invariant.named;
}
