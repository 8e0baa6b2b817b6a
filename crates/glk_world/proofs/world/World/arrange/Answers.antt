use Rattle.glk_world.proofs.Names.{arranged_or_lost}
use Rattle.glk_world.proofs.world.World.arrange.Goals as goal

pub invariant_of-self : goal.invariant_of-self
invariant_of-self c =
    let same = rw c.or_none.ensures.same at c.or_none.ensures.ok in
    let none = rw c.or_none.ensures.same at c.or_none.ensures.err in
    let kept =
    arranged_or_lost c.arrange-changed.result _ _ _ _ _ _ _ _ _ _ (record {
      windows = c.self.invariant.windows;
      streams = c.self.invariant.streams;
      links = c.self.invariant.links;
      named = c.self.invariant.named;
    }) c.arrange-changed.ensures.ok same none in
    record {
      windows = kept.windows;
      streams = kept.streams;
      references = c.self.invariant.references;
      above = c.self.invariant.above;
      first = c.self.invariant.first;
      links = kept.links;
      named = kept.named;
    }
