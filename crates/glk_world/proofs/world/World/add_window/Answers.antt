use Rattle.std.proofs.Common.{◌≡◌, ◌+◌, sym, ◌∙◌, arith}
use Rattle.glk_windows.specs.Windows.{last_given}
use Rattle.glk_world.proofs.Kept.{made_first, made_beside, given_ok, added_new, references_more}
use Rattle.glk_world.proofs.Links.{linked_opened}
use Rattle.glk_world.proofs.Names.{lost, named_opened}
use Rattle.glk_world.proofs.world.World.add_window.Goals.{then-split-eq0, else-split-eq0}
use Rattle.glk_world.proofs.world.World.add_window.Goals as goal

pub invariant_of-self : goal.invariant_of-self
invariant_of-self c =
    let made : c.self.inside.next_id + c.if-split-eq0.made ≡ last_given c.args.split c.self.inside.next_id + 1 =
    elim c.if-split-eq0.branch [
      | then-split-eq0 w ↦ made_first _ _ _ w.if-split-eq0.true w.made-is
      | else-split-eq0 w ↦ made_beside _ _ _ w.if-split-eq0.false w.made-is
    ] in
    let begun = c.self.invariant.links.begun in
    let none = lost _ _ _ c.in_err-or_none.ensures.err (omega (arith, begun)) in
    record {
      windows = none.windows;
      streams = none.streams;
      references = c.self.invariant.references;
      above = references_more _ _ _ c.self.invariant.above (omega (arith, made));
      first = c.self.invariant.first;
      links = none.links;
      named = none.named;
    }

pub invariant_of-self-in_err-or_none-2 : goal.invariant_of-self-in_err-or_none-2
invariant_of-self-in_err-or_none-2 c =
    let made : c.self.inside.next_id + c.if-split-eq0.made ≡ last_given c.args.split c.self.inside.next_id + 1 =
    elim c.if-split-eq0.branch [
      | then-split-eq0 w ↦ made_first _ _ _ w.if-split-eq0.true w.made-is
      | else-split-eq0 w ↦ made_beside _ _ _ w.if-split-eq0.false w.made-is
    ] in
    let begun = c.self.invariant.links.begun in
    let none = lost _ _ _ c.in_err-or_none-2.ensures.err (omega (arith, begun)) in
    record {
      windows = none.windows;
      streams = none.streams;
      references = c.self.invariant.references;
      above = references_more _ _ _ c.self.invariant.above (omega (arith, made));
      first = c.self.invariant.first;
      links = none.links;
      named = none.named;
    }

pub invariant_of-self-2 : goal.invariant_of-self-2
invariant_of-self-2 c =
    let made : c.self.inside.next_id + c.if-split-eq0.made ≡ last_given c.args.split c.self.inside.next_id + 1 =
    elim c.if-split-eq0.branch [
      | then-split-eq0 w ↦ made_first _ _ _ w.if-split-eq0.true w.made-is
      | else-split-eq0 w ↦ made_beside _ _ _ w.if-split-eq0.false w.made-is
    ] in
    let added =
    given_ok c.add-added.result c.in_ok-or_none.field-0
    (sym c.or_none.ensures.same ∙ c.in_ok-or_none.was) c.add-added.ensures in
    let links =
    linked_opened _ _ c.args.split c.args.method c.args.size c.args.kind c.args.rock _ c.self.invariant.windows
    c.self.invariant.streams c.self.invariant.links in
    let named =
    named_opened _ _ c.args.split c.args.method c.args.size c.args.kind c.args.rock _ c.self.invariant.windows
    c.self.invariant.streams c.self.invariant.named in
    let opened =
    given_ok c.add_streams-added.result c.in_ok-or_none-2.field-0
    (sym c.or_none-2.ensures.same ∙ c.in_ok-or_none-2.was) c.add_streams-added.ensures.ok in
    let first = c.in_ok-or_none.ensures.ok in
    let last = c.in_ok-or_none-2.ensures.ok in
    record {
      windows = rw (last.0, first.0, added, made) (added_new _ _ _ _ _ _ _ c.self.invariant.windows);
      streams = rw (last.1, made) c.add_streams-added.ensures.above;
      references = c.self.invariant.references;
      above = references_more _ _ _ c.self.invariant.above (omega (arith, made));
      first = c.self.invariant.first;
      links = rw (last.0, first.0, added, made, last.1, opened, first.1) links;
      named = rw (last.0, first.0, added, last.1, opened, first.1) named;
    }
