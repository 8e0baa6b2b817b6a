use Rattle.std.proofs.Common.{arith}
use Rattle.glk_world.proofs.Kept.{new_more, streams_more, streams_opened, references_more}
use Rattle.glk_world.proofs.Links.{linked_more, linked_own}
use Rattle.glk_world.proofs.Names.{named_own}
use Rattle.glk_world.proofs.world.World.add_stream.Goals as goal

pub invariant_of-self : goal.invariant_of-self
invariant_of-self c = record {
  windows = new_more _ _ _ c.self.invariant.windows (omega arith);
  streams = rw c.in_err-add.ensures.err (streams_more _ _ _ c.self.invariant.streams (omega arith));
  references = c.self.invariant.references;
  above = references_more _ _ _ c.self.invariant.above (omega arith);
  first = c.self.invariant.first;
  links = rw c.in_err-add.ensures.err (linked_more _ _ _ _ c.self.invariant.links (omega arith));
  named = rw c.in_err-add.ensures.err c.self.invariant.named;
}

pub invariant_of-self-2 : goal.invariant_of-self-2
invariant_of-self-2 c = record {
  windows = new_more _ _ _ c.self.invariant.windows (omega arith);
  streams = rw c.in_ok-add.ensures.ok
      (streams_opened _ _ _ _ _ _ (streams_more _ _ _ c.self.invariant.streams (omega arith)) (omega arith));
  references = c.self.invariant.references;
  above = references_more _ _ _ c.self.invariant.above (omega arith);
  first = c.self.invariant.first;
  links = rw c.in_ok-add.ensures.ok
      (linked_own _ _ _ _ _ _ c.self.invariant.links c.self.invariant.streams c.requires.own);
  named = rw c.in_ok-add.ensures.ok
      (named_own _ _ _ _ _ _ c.self.invariant.streams c.requires.own c.self.invariant.named);
}
