use Rattle.std.proofs.Common.{arith}
use Rattle.std.proofs.lemmas.Grind.{common_steps}
use Rattle.glk_windows.proofs.Placing.{placed_first}
use Rattle.glk_windows.proofs.windows.Windows.add_root.Goals as goal

pub invariant_of-self-2 : goal.invariant_of-self-2
invariant_of-self-2 c =
    let none = rw (← c.self.view_is) at c.requires.none in
    let new = rw (← c.self.view_is) at c.requires.new in
    record {
      entries = c.push_entry.ensures.rises;
      grids = c.push_grid.ensures.rises;
      placed = rw (c.push_entry.ensures.value, c.reserve.ensures.items, c.new_entry.ensures)
          (placed_first _ _ _ _ new.entries c.requires.kind (rw none at c.self.invariant.placed));
      spare =
          let len = c.len.ensures in
          let enough = c.in_ok-reserve-2.ensures.ok in
          let kept = c.reserve.ensures.len in
          let last = c.push_entry.ensures.len in
          grind (arith, common_steps, len, enough, kept, last);
    }
