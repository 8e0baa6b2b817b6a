use Rattle.glk_world.proofs.Kept.{cleared_new}
use Rattle.glk_world.proofs.Links.{entries_cleared}
use Rattle.glk_world.proofs.world.World.clear_window.Goals as goal

pub invariant_of-self : goal.invariant_of-self
invariant_of-self c = record {
  windows = rw c.clear.ensures (cleared_new _ _ _ c.self.invariant.windows);
  streams = c.self.invariant.streams;
  references = c.self.invariant.references;
  above = c.self.invariant.above;
  first = c.self.invariant.first;
  links = rw (c.clear.ensures, entries_cleared) c.self.invariant.links;
  named = rw (c.clear.ensures, entries_cleared) c.self.invariant.named;
}
