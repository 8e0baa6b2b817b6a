-- All windows (Glk 0.7.5, "Windows"): a list in order of creation, the tree, the grids, the size of the screen.
use Rattle.std.specs.Prelude.{ℕ, ◌+◌, ◌==◌, ◌||◌, ◌&&◌, nat_lt, not, Bool, if◌then◌else◌, List, [], Option, Some, None}
use Rattle.std.specs.Prelude.{is_some, unwrap_or, option_and_then, count_by, slice_index_or}
use Rattle.std.specs.Option.{option_map}
use Rattle.glk_objects.specs.Objects as objects
use Rattle.glk_windows.specs.Constants.{pair_window, blank_window, text_buffer, text_grid, most_windows, blank_cell}
use Rattle.glk_windows.specs.declared.tree.Pair.{Pair}
use Rattle.glk_windows.specs.declared.tree.Tree.{Tree}
use Rattle.glk_windows.specs.declared.entries.Entry.{Entry}
use Rattle.glk_windows.specs.declared.entries.Window.{Window}
use Rattle.glk_windows.specs.declared.grid.Grid.{Grid}
use Rattle.glk_windows.specs.Methods.{is_method}
use Rattle.glk_windows.specs.Tree.{Shape, shape_of, shape_id, area_in, part_from, parent_in, pair_of}
use Rattle.glk_windows.specs.Grids.{grid_id, empty_grid}

pub record FlatWindows : Type 0 where
  pub entries : List Entry
  pub tree : Option Shape
  pub grids : List Grid
  pub columns : ℕ
  pub rows : ℕ

-- the tree, if there is a window
abbrev pub tree_of : Option Tree → Option Shape
tree_of None = None
tree_of (Some t) = Some (shape_of t)

-- no window on a screen of so many columns and rows
abbrev pub no_windows : ℕ → ℕ → FlatWindows
no_windows columns rows = record { entries = []; tree = None; grids = []; columns = columns; rows = rows }

-- ---- the list

abbrev pub entry_id : Entry → ℕ
entry_id e = e.id

abbrev pub no_entry : Entry
no_entry = record { id = 0; kind = 0; rock = 0; stream = 0; echo = 0 }

abbrev pub is_window : FlatWindows → ℕ → Bool
is_window f win = objects.has entry_id f.entries win

abbrev pub window_entry : List Entry → ℕ → Entry
window_entry entries win = objects.at entry_id no_entry entries win

abbrev pub entry : FlatWindows → ℕ → Option Entry
entry f win = if is_window f win then Some (window_entry f.entries win) else None

-- windows of this type show text
abbrev pub has_text : ℕ → Bool
has_text kind = kind == text_buffer || kind == text_grid

-- ---- the tree

abbrev pub root : FlatWindows → ℕ
root f = unwrap_or (option_map shape_id f.tree) 0

-- the pair above a window, 0 for none
abbrev pub parent : FlatWindows → ℕ → ℕ
parent f win = unwrap_or (option_map (λ t. parent_in t win) f.tree) 0

-- all that a story sees of a window
abbrev pub as_window : Entry → ℕ → Window
as_window e above = record { id = e.id; kind = e.kind; rock = e.rock; stream = e.stream; echo = e.echo; parent = above }

abbrev pub window : FlatWindows → ℕ → Option Window
window f win = option_map (λ e. as_window e (parent f win)) (entry f win)

abbrev pub window_pair : FlatWindows → ℕ → Option Pair
window_pair f win = option_and_then pair_of (option_and_then (λ t. part_from t win) f.tree)

-- the columns and rows of each window in a tree, from the root's on; none where there is no such window
abbrev pub sizes_in : Option Shape → ℕ × ℕ → ℕ → ℕ × ℕ
sizes_in tree screen win = unwrap_or (option_and_then (λ t. area_in t screen win) tree) (0, 0)

abbrev pub sizes : FlatWindows → ℕ → ℕ × ℕ
sizes f win = sizes_in f.tree (f.columns, f.rows) win

-- "Window Sizes": what a story is told; windows without text have the size 0 by 0
abbrev pub text_size : FlatWindows → ℕ → ℕ × ℕ
text_size f win = if has_text (window_entry f.entries win).kind then sizes f win else (0, 0)

-- ---- the grids

abbrev pub grid_at : List Grid → ℕ → Grid
grid_at grids win = objects.at grid_id (empty_grid 0) grids win

-- a cell and a row of a window's grid; blank and empty where there is none
abbrev pub window_cell : FlatWindows → ℕ → ℕ → ℕ → ℕ
window_cell f win x y = slice_index_or (slice_index_or (grid_at f.grids win).rows y []) x blank_cell

abbrev pub window_row : FlatWindows → ℕ → ℕ → List ℕ
window_row f win y = slice_index_or (grid_at f.grids win).rows y []

-- ---- what may be opened

-- an identifier is above those of all windows
pub record IsNewId (f : FlatWindows) (id : ℕ) : Type 0 where
  pub entries : objects.IsAboveAll entry_id f.entries id
  pub grids : objects.IsAboveAll grid_id f.grids id

-- a story may open a window of this type
abbrev pub is_openable : ℕ → Bool
is_openable kind = kind == blank_window || kind == text_buffer || kind == text_grid

-- a window may be opened: the first one with split 0, every other one by a split with a method, and so many at most
-- that aren't pairs
abbrev pub can_add : FlatWindows → ℕ → ℕ → ℕ → Bool
can_add f split method kind = not (split == 0 && is_some f.tree) && is_openable kind
    && nat_lt (count_by (λ e. not (e.kind == pair_window)) f.entries) most_windows && (split == 0 || is_method method)

-- the last identifier that opening a window gives: that of its stream, or of the pair's stream
abbrev pub last_given : ℕ → ℕ → ℕ
last_given split id = if split == 0 then id + 1 else id + 3
