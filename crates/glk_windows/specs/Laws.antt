-- What holds of all windows: each stands once in the tree, and their sizes tile the screen (Glk 0.7.5, "Window
-- Arrangement").
use Rattle.std.specs.Prelude.{◌≡◌, ℕ, ◌+◌, ◌*◌, ◌==◌, true, false, Bool, List, [], ◌∷◌, ◌++◌, Option, Some, None}
use Rattle.std.specs.Prelude.{unwrap_or, sum_by}
use Rattle.std.specs.Option.{option_map}
use Rattle.glk_objects.specs.Objects as objects
use Rattle.glk_windows.specs.Constants.{pair_window}
use Rattle.glk_windows.specs.declared.tree.Arrangement.{Arrangement}
use Rattle.glk_windows.specs.declared.entries.Entry.{Entry}
use Rattle.glk_windows.specs.Methods.{is_across}
use Rattle.glk_windows.specs.Tree.{Shape, One, Two, ids_in, first_area, second_area, is_among}
use Rattle.glk_windows.specs.Windows.{FlatWindows, entry_id, window_entry, sizes_in}

-- the windows that aren't pairs
abbrev pub leaves : Shape → List ℕ
leaves (One id) = id ∷ []
leaves (Two a first second) = leaves first ++ leaves second

-- no identifier stands twice
abbrev pub AreDistinct : List ℕ → Type 0
AreDistinct [] = Unit {0}
AreDistinct (id ∷ ids) = (is_among ids id ≡ false) × AreDistinct ids

-- the windows of the tree
abbrev pub ids_of : Option Shape → List ℕ
ids_of tree = unwrap_or (option_map ids_in tree) []

-- a window has the type of pairs
abbrev pub is_pair : List Entry → ℕ → Bool
is_pair entries win = (window_entry entries win).kind == pair_window

-- those with children have it, and no others
abbrev pub HaveTypes : List Entry → Shape → Type 0
HaveTypes entries (One id) = is_pair entries id ≡ false
HaveTypes entries (Two a first second) =
    (is_pair entries a.id ≡ true) × (HaveTypes entries first × HaveTypes entries second)

abbrev pub HaveTheirTypes : List Entry → Option Shape → Type 0
HaveTheirTypes entries None = Unit {0}
HaveTheirTypes entries (Some tree) = HaveTypes entries tree

-- The windows of the tree are those of the list, each once; the pairs among them are those with children.
pub record ArePlaced (entries : List Entry) (tree : Option Shape) : Type 0 where
  pub once : AreDistinct (ids_of tree)
  pub same : (win : ℕ) → is_among (ids_of tree) win ≡ objects.has entry_id entries win
  pub types : HaveTheirTypes entries tree

-- so many cells
abbrev pub cells : ℕ × ℕ → ℕ
cells size = size.0 * size.1

-- A pair's place is divided between its children along one axis, with nothing left over; along the other one each
-- has all of it.
pub record IsDivided (a : Arrangement) (area first second : ℕ × ℕ) : Type 0 where
  pub across : is_across a.method ≡ true → (first.0 + second.0 ≡ area.0) × (first.1 ≡ area.1) × (second.1 ≡ area.1)
  pub down : is_across a.method ≡ false → (first.1 + second.1 ≡ area.1) × (first.0 ≡ area.0) × (second.0 ≡ area.0)

abbrev pub PairsDivide : Type 0
PairsDivide = (a : Arrangement) (area : ℕ × ℕ) → IsDivided a area (first_area a area) (second_area a area)

-- The sizes of a tree's windows that aren't pairs add up to the screen's.
abbrev pub Tile : Option Shape → ℕ × ℕ → Type 0
Tile None screen = Unit {0}
Tile (Some tree) screen = sum_by (λ win. cells (sizes_in (Some tree) screen win)) (leaves tree) ≡ cells screen

-- So it is where no identifier stands twice,
abbrev pub LeavesTile : Type 0
LeavesTile = (tree : Shape) (screen : ℕ × ℕ) → AreDistinct (ids_in tree) → Tile (Some tree) screen

-- and so of all windows, always.
pub record AreWhole (f : FlatWindows) : Type 0 where
  pub placed : ArePlaced f.entries f.tree
  pub tile : Tile f.tree (f.columns, f.rows)
