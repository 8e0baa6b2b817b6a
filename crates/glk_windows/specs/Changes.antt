-- What the calls that change windows make of them (Glk 0.7.5, "Window Opening, Closing, and Constraints" and
-- "Changing Window Constraints").
use Rattle.std.specs.Prelude.{ℕ, ◌+◌, ◌%◌, ◌==◌, not, Bool, false, if◌then◌else◌, List, [], ◌∷◌, ◌++◌, Option, Some}
use Rattle.std.specs.Prelude.{None, map, filter, unwrap_or, option_and_then}
use Rattle.std.specs.Option.{option_map}
use Rattle.std.specs.List.{list_any}
use Rattle.glk_objects.specs.Objects as objects
use Rattle.glk_windows.specs.Constants.{pair_window, blank_window, text_grid}
use Rattle.glk_windows.specs.declared.tree.Arrangement.{Arrangement}
use Rattle.glk_windows.specs.declared.entries.Entry.{Entry}
use Rattle.glk_windows.specs.declared.grid.Grid.{Grid}
use Rattle.glk_windows.specs.Tree.{Shape, One, shape_id, part_from, ids_in, parent_in, split_in, closed_in, is_among}
use Rattle.glk_windows.specs.Tree.{unkeyed, can_arrange, arranged_in}
use Rattle.glk_windows.specs.Grids.{grid_id, empty_grid, sized_to, grid_grows, put, blanked}
use Rattle.glk_windows.specs.Windows.{FlatWindows, entry_id, window_entry, sizes_in, sizes, grid_at}

-- each grid gets its window's size
abbrev pub fitted : FlatWindows → FlatWindows
fitted f = record f { grids = map (λ g. sized_to (sizes f g.id) g) f.grids }

-- a grid gets a row or a cell more then
abbrev pub some_grow : Option Shape → ℕ × ℕ → List Grid → Bool
some_grow tree screen grids = list_any (λ g. grid_grows (sizes_in tree screen g.id) g) grids

-- ---- opening

-- a new window or pair, with its stream behind it
abbrev pub new_entry : ℕ → ℕ → ℕ → Entry
new_entry id kind rock = record { id = id; kind = kind; rock = rock; stream = id + 1; echo = 0 }

-- the first window, which is the root; a grid window has a grid
abbrev pub rooted : FlatWindows → ℕ → ℕ → ℕ → FlatWindows
rooted f kind rock id = let entries = f.entries ++ new_entry id kind rock ∷ [] in
    let grids = if kind == text_grid then f.grids ++ empty_grid id ∷ [] else f.grids in
    record f { entries = entries; tree = Some (One id); grids = grids }

-- a window beside one that is split, and the pair of both, of which the new window is the key
abbrev pub split_by : FlatWindows → ℕ → ℕ → ℕ → ℕ → ℕ → ℕ → FlatWindows
split_by f split method size kind rock id = let alone = rooted f kind rock id in
    let pair : Arrangement =
    record { id = id + 2; method = method % 256; size = size; key = id; key_is_blank = kind == blank_window } in
    let tree = option_map (λ t. split_in t split pair id) f.tree in
    record alone { entries = alone.entries ++ new_entry (id + 2) pair_window 0 ∷ []; tree = tree }

-- A window is opened. The identifiers from `id` on are those of the window, its stream, the pair, the pair's stream.
unfoldable pub with_new_window : FlatWindows → ℕ → ℕ → ℕ → ℕ → ℕ → ℕ → FlatWindows
with_new_window f split method size kind rock id =
    fitted (if split == 0 then rooted f kind rock id else split_by f split method size kind rock id)

-- ---- closing

-- what goes with a window: the pair above it, or 0, and the window with all windows below it
abbrev pub leaving : Option Shape → ℕ → List ℕ
leaving None win = []
leaving (Some t) win = parent_in t win ∷ unwrap_or (option_map ids_in (part_from t win)) []

-- of these identifiers the windows, in order of creation
abbrev pub chosen : List ℕ → List Entry → List Entry
chosen ids entries = filter (λ e. is_among ids e.id) entries

-- the windows that are gone then
abbrev pub gone : FlatWindows → ℕ → List ℕ
gone f win = map entry_id (chosen (leaving f.tree win) f.entries)

-- an echo stream that is gone becomes none
unfoldable pub forgetting : List ℕ → Entry → Entry
forgetting streams e = if is_among streams e.echo then record e { echo = 0 } else e

-- the tree without a window, and without these keys; none is left where the window is the root
abbrev pub closed_tree : List ℕ → Option Shape → ℕ → Option Shape
closed_tree ids None win = None
closed_tree ids (Some t) win = if shape_id t == win then None else Some (unkeyed ids (closed_in t win))

-- the windows but for those of these identifiers, whose streams are gone too
abbrev pub left_of : List Entry → List ℕ → List Entry
left_of entries ids =
    map (forgetting (map (λ e. e.stream) (chosen ids entries))) (filter (λ e. not (is_among ids e.id)) entries)

-- the grids but for those of these windows
abbrev pub grids_left : List Grid → List ℕ → List Grid
grids_left grids ids = filter (λ g. not (is_among ids g.id)) grids

-- a window is closed, with all windows below it, their pair and their streams
unfoldable pub window_closed : FlatWindows → ℕ → FlatWindows
window_closed f win = let ids = leaving f.tree win in
    let entries = left_of f.entries ids in
    fitted (record f { entries = entries; tree = closed_tree ids f.tree win; grids = grids_left f.grids ids })

-- that makes a grid larger
unfoldable pub closing_grows : FlatWindows → ℕ → Bool
closing_grows f win = let ids = leaving f.tree win in
    some_grow (closed_tree ids f.tree win) (f.columns, f.rows) (grids_left f.grids ids)

-- ---- arranging

-- a window is a pair that may get this method and this key
abbrev pub allows_arrangement : FlatWindows → ℕ → ℕ → ℕ → Bool
allows_arrangement f win method key =
    unwrap_or (option_map (λ t. can_arrange t method key) (option_and_then (λ t. part_from t win) f.tree)) false

-- the tree with another arrangement of a pair
abbrev pub arranged_tree : FlatWindows → ℕ → ℕ → ℕ → ℕ → Option Shape
arranged_tree f win method size key =
    option_map (λ t. arranged_in t win method size key ((window_entry f.entries key).kind == blank_window)) f.tree

-- a pair gets another arrangement; nothing changes where it may not
unfoldable pub arranged : FlatWindows → ℕ → ℕ → ℕ → ℕ → FlatWindows
arranged f win method size key =
    if allows_arrangement f win method key then fitted (record f { tree = arranged_tree f win method size key }) else f

-- that makes a grid larger
unfoldable pub arranging_grows : FlatWindows → ℕ → ℕ → ℕ → ℕ → Bool
arranging_grows f win method size key = if allows_arrangement f win method key
    then some_grow (arranged_tree f win method size key) (f.columns, f.rows) f.grids else false

-- ---- text, cursor, echo

-- a window's grid becomes another; other windows have none
abbrev pub with_grid_of : FlatWindows → ℕ → Grid → FlatWindows
with_grid_of f win new =
    if objects.has grid_id f.grids win then record f { grids = objects.with grid_id f.grids new } else f

unfoldable pub put_to : FlatWindows → ℕ → ℕ → FlatWindows
put_to f win c = with_grid_of f win (put (grid_at f.grids win) c)

unfoldable pub cleared_in : FlatWindows → ℕ → FlatWindows
cleared_in f win = with_grid_of f win (blanked (grid_at f.grids win))

unfoldable pub moved_in : FlatWindows → ℕ → ℕ → ℕ → FlatWindows
moved_in f win x y = with_grid_of f win (record (grid_at f.grids win) { x = x; y = y })

-- a window's echo stream, 0 for none
unfoldable pub with_echo_stream : FlatWindows → ℕ → ℕ → FlatWindows
with_echo_stream f win stream =
    record f { entries = objects.with entry_id f.entries (record (window_entry f.entries win) { echo = stream }) }

-- a stream is gone
abbrev pub without_echoes : FlatWindows → ℕ → FlatWindows
without_echoes f stream = record f { entries = map (forgetting (stream ∷ [])) f.entries }
