use Rattle.std.proofs.lemmas.List.{length-map}
use Rattle.glk_windows.proofs.Placing.{placed_forgotten}
use Rattle.glk_windows.proofs.windows.Windows.forget_stream.Goals as goal

pub invariant_of-self : goal.invariant_of-self
invariant_of-self c = record {
  entries = c.forget.ensures.rises;
  grids = c.self.invariant.grids;
  placed = rw c.forget.ensures.value (placed_forgotten _ _ _ c.self.invariant.placed);
  spare = rw (c.forget.ensures.value, length-map) c.self.invariant.spare;
}
