use Rattle.std.proofs.Common.{◌≡◌, ◌≤◌, ◌++◌, drop, map, length, vec_len, vec_capacity}
use Rattle.glk_windows.specs.declared.entries.Entry.{Entry}
use Rattle.glk_windows.specs.Windows.{tree_of}
use Rattle.glk_windows.specs.Changes.{leaving, chosen}
use Rattle.glk_windows.proofs.closing.list_streams.Given as goal

abbrev pub invariant-loop-entry : goal.invariant-loop-entry
invariant-loop-entry l = record {
  done : l.list.items
      ++ map (λ (e : Entry). e.stream) (chosen (leaving (tree_of l.tree) l.win) (drop l.entry-index l.entries))
      ≡ map (λ (e : Entry). e.stream) (chosen (leaving (tree_of l.tree) l.win) l.entries);
  len : vec_len l.list ≤ l.entry-index;
  room : length l.entries ≤ vec_capacity l.list;
  same : vec_capacity l.list ≡ vec_capacity l.fn.list;
}
