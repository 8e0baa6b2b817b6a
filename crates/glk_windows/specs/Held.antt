-- What contracts see of the windows, and what holds of their fields.
use Rattle.std.specs.Prelude.{◌≤◌, length}
use Rattle.glk_objects.specs.Objects.{AreRising}
use Rattle.glk_windows.specs.declared.windows.Windows.TheInside.{Inside}
use Rattle.glk_windows.specs.Grids.{grid_id}
use Rattle.glk_windows.specs.Windows.{FlatWindows, entry_id, tree_of}
use Rattle.glk_windows.specs.Laws.{ArePlaced}

abbrev pub flat_of : Inside → FlatWindows
flat_of w = record {
  entries = w.entries.items;
  tree = tree_of w.tree;
  grids = w.grids.items;
  columns = w.columns;
  rows = w.rows;
}

-- identifiers rise in both lists, each window has its place in the tree, and there is a spare list for each
pub record WindowsInvariant (w : Inside) : Type 0 where
  pub entries : AreRising entry_id w.entries.items
  pub grids : AreRising grid_id w.grids.items
  pub placed : ArePlaced w.entries.items (tree_of w.tree)
  pub spare : length w.entries.items ≤ w.spare
