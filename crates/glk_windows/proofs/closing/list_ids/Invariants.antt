use Rattle.std.proofs.Common.{◌≡◌, ◌≤◌, ◌++◌, drop, map, length, vec_len, vec_capacity}
use Rattle.glk_windows.specs.Windows.{tree_of, entry_id}
use Rattle.glk_windows.specs.Changes.{leaving, chosen}
use Rattle.glk_windows.proofs.closing.list_ids.Given as goal

abbrev pub invariant-loop-entry : goal.invariant-loop-entry
invariant-loop-entry l = record {
  done : l.list.items ++ map entry_id (chosen (leaving (tree_of l.tree) l.win) (drop l.entry-index l.entries))
      ≡ map entry_id (chosen (leaving (tree_of l.tree) l.win) l.entries);
  len : vec_len l.list ≤ l.entry-index;
  room : length l.entries ≤ vec_capacity l.list;
}
