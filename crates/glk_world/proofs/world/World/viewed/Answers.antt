use Rattle.std.proofs.Common.{arith}
use Rattle.glk_world.proofs.Kept.{none_new}
use Rattle.glk_world.proofs.Links.{linked_none}
use Rattle.glk_world.proofs.Names.{named_none}
use Rattle.glk_world.proofs.world.World.viewed.Goals as goal

pub invariant_of-result : goal.invariant_of-result
invariant_of-result c = record {
  windows = rw c.new.ensures (none_new _ _ _);
  streams = rw c.new-4.ensures tt;
  references = rw c.new-5.ensures.items tt;
  above = rw c.new-5.ensures.items tt;
  first = rw c.new-5.ensures.items tt;
  links = rw (c.new.ensures, c.new-4.ensures) (linked_none 1 (omega arith));
  named = rw (c.new.ensures, c.new-4.ensures) named_none;
}
