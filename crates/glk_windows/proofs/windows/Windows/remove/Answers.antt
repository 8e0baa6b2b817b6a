use Rattle.glk_windows.specs.Changes.{closing_grows, window_closed}
use Rattle.glk_windows.proofs.Placing.{placed_closed}
use Rattle.glk_windows.proofs.Leaving.{closes_same, still_enough, on_err}
use Rattle.glk_windows.proofs.windows.Windows.remove.Goals as goal

pub invariant_of-self : goal.invariant_of-self
invariant_of-self c =
    let there = rw (← c.self.view_is) at c.requires in
    let same = closes_same _ _ _ there c.self.invariant.placed in
    record {
      entries = c.remove_entries.ensures.order;
      grids = c.keep_grids.ensures.rises;
      placed = rw (
        c.close.ensures,
        c.deref.ensures.value,
        c.remove_entries.ensures.gone,
        c.remove_entries.ensures.new,
        same,
      )
          (placed_closed _ _ _ there c.self.invariant.placed);
      spare = still_enough _ _ _ _ _ _ there c.self.invariant.placed c.remove_entries.ensures.new
          c.self.invariant.spare c.pop-gone.ensures.left;
    }

pub returns-in_err-fit-clause-memory : goal.returns-in_err-fit-clause-memory
unfolding closing_grows
returns-in_err-fit-clause-memory c =
    let there = rw (← c.self.view_is) at c.requires in
    let same = closes_same _ _ _ there c.self.invariant.placed in
    let grows = rw (
      c.keep_grids.ensures.value,
      c.close.ensures,
      c.deref.ensures.value,
      c.remove_entries.ensures.gone,
      same,
    ) at c.in_err-fit.ensures.memory in
    rw (← c.self.view_is) (on_err c.from_residual.result grows)

pub returns-clause-new : goal.returns-clause-new
unfolding window_closed
returns-clause-new c =
    let there = rw (← c.self.view_is) at c.requires in
    let same = closes_same _ _ _ there c.self.invariant.placed in
    let closed = rw (
      c.remove_entries.ensures.new,
      c.keep_grids.ensures.value,
      c.close.ensures,
      c.deref.ensures.value,
      c.remove_entries.ensures.gone,
      same,
    ) at c.in_ok-fit.ensures.ok in
    rw (← c.self.view_is) closed
