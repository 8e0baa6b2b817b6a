use Rattle.std.proofs.Common.{◌≡◌, length, inl, inr, sym, ap, ◌∙◌, arith}
use Rattle.glk_world.specs.Kept.{flat_of}
use Rattle.glk_world.proofs.Kept.{streams_with}
use Rattle.glk_world.proofs.Links.{linked_changed, as_puts}
use Rattle.glk_world.proofs.Alone.{bytes_alone, err_by, ok_by, made_or_same}
use Rattle.glk_world.proofs.Names.{named_changed}
use Rattle.glk_world.proofs.world.World.put_at_once.Goals as goal

pub invariant_of-self : goal.invariant_of-self
invariant_of-self c =
    let there = sym c.has.ensures ∙ c.if-has.true in
    elim (made_or_same c.put_bytes.result _ _ _ c.put_bytes.ensures.put c.put_bytes.ensures.other
    c.put_bytes.ensures.err) [
      | inl made ↦ record {
        windows = c.self.invariant.windows;
        streams = rw made (streams_with _ _ _ c.self.invariant.streams);
        references = c.self.invariant.references;
        above = c.self.invariant.above;
        first = c.self.invariant.first;
        links = rw made (linked_changed _ _ _ _ _ there (as_puts _ _) c.self.invariant.links);
        named = rw made (named_changed _ _ _ _ there (as_puts _ _) c.self.invariant.named);
      }
      | inr same ↦ record {
        windows = c.self.invariant.windows;
        streams = rw same c.self.invariant.streams;
        references = c.self.invariant.references;
        above = c.self.invariant.above;
        first = c.self.invariant.first;
        links = rw same c.self.invariant.links;
        named = rw same c.self.invariant.named;
      }
    ]

pub returns-then-has-clause-put : goal.returns-then-has-clause-put
returns-then-has-clause-put c =
    let there = sym c.has.ensures ∙ c.if-has.true in
    ok_by c.put_bytes.result _ _ _ c.put_bytes.ensures.value c.put_bytes.ensures.put (λ put is made on.
    rw (← c.self.view_is, made on)
    (bytes_alone (flat_of c.self.inside) c.args.stream c.args.bytes.now c.self.invariant.links.first there
    (sym is ∙ on)))

pub returns-then-has-clause-memory : goal.returns-then-has-clause-memory
returns-then-has-clause-memory c =
    err_by c.put_bytes.result c.put_bytes.ensures.some
    (λ less none. let zero : length c.args.bytes.now ≡ 0 = ap length none in absurd (omega (arith, less, zero)))
