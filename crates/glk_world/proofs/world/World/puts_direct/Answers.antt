use Rattle.std.proofs.Common.{refl}
use Rattle.glk_world.specs.Kept.{flat_of}
use Rattle.glk_world.proofs.Kept.{streams_with}
use Rattle.glk_world.proofs.Links.{linked_changed, as_puts}
use Rattle.glk_world.proofs.Alone.{direct_puts, plain_there}
use Rattle.glk_world.proofs.Names.{named_changed}
use Rattle.glk_world.proofs.world.World.puts_direct.Goals as goal

pub invariant_of-self-2 : goal.invariant_of-self-2
invariant_of-self-2 c =
    let text = rw (← c.self.view_is) at c.requires.text in
    let there = plain_there (flat_of c.self.inside).scene c.args.stream text in
    let made = c.count.ensures c.args.chars.now c.requires.count in
    record {
      windows = c.self.invariant.windows;
      streams = rw made (streams_with _ _ _ c.self.invariant.streams);
      references = c.self.invariant.references;
      above = c.self.invariant.above;
      first = c.self.invariant.first;
      links = rw made (linked_changed _ _ _ _ _ there (as_puts _ _) c.self.invariant.links);
      named = rw made (named_changed _ _ _ _ there (as_puts _ _) c.self.invariant.named);
    }

pub returns-clause-ok : goal.returns-clause-ok
returns-clause-ok c =
    let text = rw (← c.self.view_is) at c.requires.text in
    let view = rw (← c.self.view_is) at c.requires.view in
    rw (
      ← c.self.view_is,
      direct_puts (flat_of c.self.inside).scene c.args.stream c.args.chars.now view c.self.invariant.links.first text,
      c.count.ensures c.args.chars.now c.requires.count,
      c.in_ok-self-inside.ensures.text,
      c.in_ok-self-inside.ensures.fresh,
    ) refl
