use Rattle.glk_world.proofs.Kept.{streams_with}
use Rattle.glk_world.proofs.Links.{linked_changed, as_put}
use Rattle.glk_world.proofs.Names.{named_changed}
use Rattle.glk_world.proofs.world.World.stream_put.Goals as goal

pub invariant_of-self-then-win-eq0 : goal.invariant_of-self-then-win-eq0
invariant_of-self-then-win-eq0 c =
    let there = rw (← c.self.view_is) at c.requires in
    record {
      windows = c.self.invariant.windows;
      streams = rw c.in_ok-put.ensures.ok (streams_with _ _ _ c.self.invariant.streams);
      references = c.self.invariant.references;
      above = c.self.invariant.above;
      first = c.self.invariant.first;
      links = rw c.in_ok-put.ensures.ok (linked_changed _ _ _ _ _ there (as_put _ _) c.self.invariant.links);
      named = rw c.in_ok-put.ensures.ok (named_changed _ _ _ _ there (as_put _ _) c.self.invariant.named);
    }

pub invariant_of-self-else-win-eq0 : goal.invariant_of-self-else-win-eq0
invariant_of-self-else-win-eq0 c =
    let there = rw (← c.self.view_is) at c.requires in
    record {
      windows = c.self.invariant.windows;
      streams = rw c.in_ok-put.ensures.ok (streams_with _ _ _ c.self.invariant.streams);
      references = c.self.invariant.references;
      above = c.self.invariant.above;
      first = c.self.invariant.first;
      links = rw c.in_ok-put.ensures.ok (linked_changed _ _ _ _ _ there (as_put _ _) c.self.invariant.links);
      named = rw c.in_ok-put.ensures.ok (named_changed _ _ _ _ there (as_put _ _) c.self.invariant.named);
    }
