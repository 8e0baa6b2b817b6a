use Rattle.glk_windows.proofs.Leaving.{length_with}
use Rattle.glk_windows.proofs.Placing.{placed_echoed}
use Rattle.glk_windows.proofs.windows.Windows.set_echo.Goals as goal

pub invariant_of-self : goal.invariant_of-self
invariant_of-self c =
    let there = rw (← c.self.view_is) at c.requires in
    record {
      entries = c.set_echo.ensures.rises;
      grids = c.self.invariant.grids;
      placed = rw c.set_echo.ensures.value (placed_echoed _ _ _ _ there c.self.invariant.placed);
      spare = rw (c.set_echo.ensures.value, length_with) c.self.invariant.spare;
    }
