use Rattle.std.proofs.Common.{arith}
use Rattle.std.proofs.lemmas.Grind.{common_steps}
use Rattle.glk_windows.proofs.Placing.{placed_beside}
use Rattle.glk_windows.proofs.windows.Windows.add_beside.Goals as goal

pub invariant_of-self-2 : goal.invariant_of-self-2
invariant_of-self-2 c =
    let split = rw (← c.self.view_is) at c.requires.split in
    let new = rw (← c.self.view_is) at c.requires.new in
    record {
      entries = c.push_entry-2.ensures.rises;
      grids = c.push_grid.ensures.rises;
      placed = rw (
        c.in_ok-split_tree.ensures.ok,
        c.push_entry-2.ensures.value,
        c.push_entry.ensures.value,
        c.in_ok-reserve.ensures.items,
        c.new_entry.ensures,
        c.new_entry-2.ensures,
      )
          (placed_beside _ _ _ c.args.method c.args.size _ _ _ split new.entries c.requires.kind
          c.self.invariant.placed);
      spare =
          let len = c.len.ensures in
          let enough = c.in_ok-reserve-2.ensures.ok in
          let kept = c.reserve.ensures.len in
          let first = c.push_entry.ensures.len in
          let last = c.push_entry-2.ensures.len in
          grind (arith, common_steps, len, enough, kept, first, last);
    }
