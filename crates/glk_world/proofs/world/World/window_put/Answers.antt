use Rattle.glk_world.proofs.Kept.{put_new}
use Rattle.glk_world.proofs.Ranks.{entries_put}
use Rattle.glk_world.proofs.world.World.window_put.Goals as goal

pub invariant_of-self : goal.invariant_of-self
invariant_of-self c = record {
  windows = rw c.put.ensures (put_new _ _ _ _ c.self.invariant.windows);
  streams = c.self.invariant.streams;
  references = c.self.invariant.references;
  above = c.self.invariant.above;
  first = c.self.invariant.first;
  links = rw (c.put.ensures, entries_put) c.self.invariant.links;
  named = rw (c.put.ensures, entries_put) c.self.invariant.named;
}
