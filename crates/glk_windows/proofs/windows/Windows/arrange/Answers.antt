use Rattle.glk_windows.proofs.Placing.{placed_arranged}
use Rattle.glk_windows.proofs.windows.Windows.arrange.Goals as goal

pub invariant_of-self : goal.invariant_of-self
invariant_of-self c = record {
  entries = c.self.invariant.entries;
  grids = c.self.invariant.grids;
  placed = rw c.arrange_tree.ensures (placed_arranged _ _ _ _ _ _ _ c.self.invariant.placed);
  spare = c.self.invariant.spare;
}
