use Rattle.std.proofs.Common.{◌≡◌, List, ℕ, sym, ◌∙◌}
use Rattle.glk_windows.specs.Changes as windows
use Rattle.glk_world.proofs.Kept.{given_ok, given_if, closed_new, streams_gone}
use Rattle.glk_world.proofs.Links.{linked_left}
use Rattle.glk_world.proofs.Names.{lost, named_closed}
use Rattle.glk_world.proofs.Closing.{closed_world}
use Rattle.glk_world.proofs.world.World.remove_window.Goals as goal

pub invariant_of-self : goal.invariant_of-self
invariant_of-self c = let none = lost _ _ _ c.in_err-gone.ensures.err c.self.invariant.links.begun in record {
  windows = none.windows;
  streams = none.streams;
  references = c.self.invariant.references;
  above = c.self.invariant.above;
  first = c.self.invariant.first;
  links = none.links;
  named = none.named;
}

pub invariant_of-self-2 : goal.invariant_of-self-2
invariant_of-self-2 c =
    let was = sym c.or_none.ensures.same ∙ c.in_ok-gone.was in
    let closed = given_ok c.remove-removed.result c.in_ok-gone.gone was c.remove-removed.ensures.new in
    let gone =
    given_if (λ (ids : List ℕ). ids ≡ windows.gone c.self.inside.windows c.args.win) c.remove-removed.result
    c.in_ok-gone.gone was c.remove-removed.ensures.gone in
    let same = c.in_ok-gone.ensures.ok in
    record {
      windows = rw (same.0, closed) (closed_new _ _ _ c.self.invariant.windows);
      streams = rw (c.remove_windows.ensures, same.1) (streams_gone _ _ _ c.self.invariant.streams);
      references = c.self.invariant.references;
      above = c.self.invariant.above;
      first = c.self.invariant.first;
      links = rw (same.0, closed, c.remove_windows.ensures, same.1) (linked_left _ _ _ _ _ c.self.invariant.links);
      named = rw (same.0, closed, c.remove_windows.ensures, same.1)
          (named_closed _ _ _ _ _ (c.as_slice.ensures ∙ gone) c.self.invariant.links c.self.invariant.named);
    }

pub returns-clause-new : goal.returns-clause-new
returns-clause-new c =
    let was = sym c.or_none.ensures.same ∙ c.in_ok-gone.was in
    let closed = given_ok c.remove-removed.result c.in_ok-gone.gone was c.remove-removed.ensures.new in
    let gone =
    given_if (λ (ids : List ℕ). ids ≡ windows.gone c.self.inside.windows c.args.win) c.remove-removed.result
    c.in_ok-gone.gone was c.remove-removed.ensures.gone in
    let streams = rw (c.as_slice.ensures, c.in_ok-gone.ensures.ok.1) at c.remove_windows.ensures in
    let requests = rw c.as_slice-2.ensures at c.drop_requests.ensures in
    let texts = rw c.as_slice-3.ensures at c.drop_texts.ensures in
    rw (← c.self.view_is) (closed_world c.self.inside c.args.win c.in_ok-gone.gone _ _ _ _ _ gone
    (c.in_ok-gone.ensures.ok.0 ∙ closed) streams requests texts c.unless_gone-self-inside.ensures)
