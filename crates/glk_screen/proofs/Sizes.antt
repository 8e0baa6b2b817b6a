-- The screen has exactly so many rows of exactly so many columns.
use Rattle.std.proofs.Common.{zero, suc, ◌≡◌, ◌≢◌, ◌<◌, ◌≤◌, ◌+◌, ◌-◌, ◌==◌, ℕ, true, false, Bool, List, [], ◌∷◌, ◌++◌}
use Rattle.std.proofs.Common.{length, map, drop, replicate, refl, sym, ◌∙◌, ap, arith, if◌then◌else◌, nat_le, ◌⊎◌, inl}
use Rattle.std.proofs.Common.{inr, Option, Some, None, length-append, length-drop}
use Rattle.std.specs.List.{list_all, filter}
use Rattle.std.proofs.lemmas.Bool.Decides.{nat_tests}
use Rattle.std.proofs.lemmas.Bool.{and_parts}
use Rattle.std.proofs.lemmas.List.Folds.{list_all-append}
use Rattle.std.proofs.lemmas.List.{length-take, length-replicate, length-map}
use Rattle.unicode_width.specs.Width.{char_width}
use Rattle.glk_windows.specs.declared.grid.Grid.{Grid}
use Rattle.glk_windows.specs.Methods.{direction}
use Rattle.glk_windows.specs.declared.tree.Arrangement.{Arrangement}
use Rattle.glk_windows.specs.Tree.{Shape, One, Two, share, first_area, second_area}
use Rattle.glk_windows.specs.Windows.{FlatWindows, grid_at}
use Rattle.glk_windows.specs.Grids.{fit}
use Rattle.glk_windows.specs.Constants.{text_buffer, text_grid}
use Rattle.glk_screen.specs.Texts.{FlatText, text_of}
use Rattle.glk_screen.specs.Wrapping.{width_of, drawn_columns, columns_of, columns, wrapped, rows_at}
use Rattle.glk_screen.specs.Screen.{DrawnRows, blank_row, blank_rows, drawn_char, is_drawn, drawn_row, bottom_rows}
use Rattle.glk_screen.specs.Screen.{text_rows, buffer_rows, drawn_cell, grid_row, grid_rows, window_type, window_rows}
use Rattle.glk_screen.specs.Screen.{beside, put_together, part_rows, screen_rows}
use Rattle.glk_screen.specs.Laws.{is_fitting, is_wide, IsSized, ScreenIsFilled}
use Rattle.glk_screen.proofs.Holding.{rows_fit}
use Rattle.glk_screen.proofs.Turns.{fit_length}

-- ---- columns of a row

blank_is_one : width_of 0x20 ≡ 1
unfolding width_of char_width
blank_is_one = refl

question_is_one : width_of 0x3F ≡ 1
unfolding width_of char_width
question_is_one = refl

columns_append : (xs ys : List ℕ) → drawn_columns (xs ++ ys) ≡ drawn_columns xs + drawn_columns ys
columns_append [] ys = omega arith
columns_append (x ∷ xs) ys = omega (arith, columns_append xs ys)

columns_blank : (n : ℕ) → drawn_columns (blank_row n) ≡ n
columns_blank zero = refl
columns_blank (suc n) = omega (arith, columns_blank n, blank_is_one)

char_columns : (width c : ℕ) → columns_of width c ≢ 0 → width_of (drawn_char width c) ≡ columns_of width c
unfolding drawn_char columns_of
char_columns width c some = grind (arith, nat_tests, question_is_one)

chars_columns : (width : ℕ) (row : List ℕ)
    → drawn_columns (map (drawn_char width) (filter (is_drawn width) row)) ≡ columns width row
chars_columns width [] = refl
chars_columns width (c ∷ cs) = grind (arith, nat_tests, char_columns width c, chars_columns width cs)

row_columns : (width : ℕ) (row : List ℕ) → columns width row ≤ width → drawn_columns (drawn_row width row) ≡ width
unfolding drawn_row
row_columns width row narrow =
    rw (columns_append, chars_columns, columns_blank) (omega (arith, narrow))

cell_columns : (c : ℕ) → width_of (drawn_cell c) ≡ 1
unfolding drawn_cell
cell_columns c = grind (arith, nat_tests, question_is_one)

cells_columns : (cells : List ℕ) → drawn_columns (map drawn_cell cells) ≡ length cells
cells_columns [] = refl
cells_columns (c ∷ cs) = omega (arith, cell_columns c, cells_columns cs)

grid_columns : (width : ℕ) (row : List ℕ) → drawn_columns (grid_row width row) ≡ width
unfolding grid_row
grid_columns width row = rw (columns_append, cells_columns, columns_blank, length-take) (omega arith)

-- ---- rows

wide_true : (width : ℕ) (row : List ℕ) → drawn_columns row ≡ width → is_wide width row ≡ true
wide_true width row is = grind (arith, nat_tests, is)

wide_is : (width : ℕ) (row : List ℕ) → is_wide width row ≡ true → drawn_columns row ≡ width
wide_is width row test = grind (arith, nat_tests, test)

all_append : {A : Type 0} (p : A → Bool) (xs ys : List A) → list_all p xs ≡ true → list_all p ys ≡ true
    → list_all p (xs ++ ys) ≡ true
all_append p xs ys front back = rw (list_all-append p xs ys, front, back) refl

all_replicate : {A : Type 0} (p : A → Bool) (n : ℕ) (x : A) → p x ≡ true → list_all p (replicate n x) ≡ true
all_replicate p zero x test = refl
all_replicate p (suc n) x test = rw (test, all_replicate p n x test) refl

all_drop : {A : Type 0} (p : A → Bool) (n : ℕ) (xs : List A) → list_all p xs ≡ true → list_all p (drop n xs) ≡ true
all_drop p zero xs all = all
all_drop p (suc n) [] all = refl
all_drop p (suc n) (x ∷ xs) all = all_drop p n xs (and_parts (p x) (list_all p xs) all).1

all_map : (width : ℕ) (f : List ℕ → List ℕ) (rows : DrawnRows) → ((row : List ℕ) → is_wide width (f row) ≡ true)
    → list_all (is_wide width) (map f rows) ≡ true
all_map width f [] wide = refl
all_map width f (row ∷ rows) wide = rw (wide row, all_map width f rows wide) refl

fitting_rows : (width : ℕ) (rows : DrawnRows) → list_all (is_fitting width) rows ≡ true
    → list_all (is_wide width) (map (drawn_row width) rows) ≡ true
fitting_rows width [] fits = refl
fitting_rows width (row ∷ rows) fits =
    let parts = and_parts (is_fitting width row) (list_all (is_fitting width) rows) fits in
    let narrow : columns width row ≤ width = grind (arith, nat_tests, parts.0) in
    rw (wide_true width (drawn_row width row) (row_columns width row narrow), fitting_rows width rows parts.1) refl

-- ---- windows

blank_sized : (area : ℕ × ℕ) → IsSized area (blank_rows area)
blank_sized area = record {
  count = length-replicate area.1 (blank_row area.0);
  wide = all_replicate (is_wide area.0) area.1 (blank_row area.0)
      (wide_true area.0 (blank_row area.0) (columns_blank area.0));
}

-- rows that are few enough, filled with blank ones
filled_sized : (area : ℕ × ℕ) (rows : DrawnRows) → length rows ≤ area.1 → list_all (is_wide area.0) rows ≡ true
    → IsSized area (rows ++ blank_rows (area.0, area.1 - length rows))
filled_sized area rows few wide =
    let blank = blank_sized (area.0, area.1 - length rows) in
    record {
      count = rw (length-append, blank.count) (omega (arith, few));
      wide = all_append (is_wide area.0) rows (blank_rows (area.0, area.1 - length rows)) wide blank.wide;
    }

text_none : (text : List ℕ) (area : ℕ × ℕ) → area.0 ≡ 0 → text_rows text area ≡ []
text_none text area none = grind (arith, nat_tests, none)

text_some : (text : List ℕ) (area : ℕ × ℕ) → 1 ≤ area.0
    → text_rows text area ≡ map (drawn_row area.0) (bottom_rows area.1 (rows_at text (wrapped area.0 text)))
text_some text area some = grind (arith, nat_tests, some)

bottom_few : (count : ℕ) (rows : DrawnRows) → length (bottom_rows count rows) ≤ count
bottom_few count rows = rw length-drop (omega arith)

le_or_lt : (i j : ℕ) → (i ≤ j) ⊎ (j < i)
le_or_lt i j = grind arith

buffer_sized : (text : List ℕ) (area : ℕ × ℕ) → IsSized area (buffer_rows text area)
unfolding buffer_rows
buffer_sized text area =
    let rows = rows_at text (wrapped area.0 text) in
    elim (le_or_lt 1 area.0) [
      | inl some ↦
          let here = text_some text area some in
          let few : length (text_rows text area) ≤ area.1 = rw (here, length-map) (bottom_few area.1 rows) in
          let wide =
          fitting_rows area.0 (bottom_rows area.1 rows)
          (all_drop (is_fitting area.0) (length rows - area.1) rows (rows_fit area.0 text some)) in
          filled_sized area (text_rows text area) few (rw here wide)
      | inr none ↦
          let here = text_none text area (omega arith) in
          let few : length (text_rows text area) ≤ area.1 = rw here (omega arith) in
          filled_sized area (text_rows text area) few (rw here refl)
    ]

grid_sized : (g : Grid) (area : ℕ × ℕ) → IsSized area (grid_rows g area)
grid_sized g area = record {
  count = rw length-map (fit_length area.1 g.rows);
  wide = all_map area.0 (grid_row area.0) (fit area.1 [] g.rows)
      (λ row. wide_true area.0 (grid_row area.0 row) (grid_columns area.0 row));
}

either_sized : (b : Bool) (area : ℕ × ℕ) (rows others : DrawnRows) → IsSized area rows → IsSized area others
    → IsSized area (if b then rows else others)
either_sized true area rows others first second = first
either_sized false area rows others first second = second

window_sized : (texts : List FlatText) (f : FlatWindows) (area : ℕ × ℕ) (win : ℕ)
    → IsSized area (window_rows texts f area win)
unfolding window_rows
window_sized texts f area win =
    either_sized (window_type f win == text_buffer) area (buffer_rows (text_of texts win) area) _
    (buffer_sized (text_of texts win) area)
    (either_sized (window_type f win == text_grid) area (grid_rows (grid_at f.grids win) area) (blank_rows area)
    (grid_sized (grid_at f.grids win) area) (blank_sized area))

-- ---- pairs

beside_count : (rows others : DrawnRows) → length rows ≡ length others → length (beside rows others) ≡ length rows
beside_count [] others same = sym same
beside_count (row ∷ rows) [] same = refl
beside_count (row ∷ rows) (other ∷ others) same = ap suc (beside_count rows others (omega (arith, same)))

beside_wide : (width more : ℕ) (rows others : DrawnRows) → length rows ≡ length others
    → list_all (is_wide width) rows ≡ true → list_all (is_wide more) others ≡ true
    → list_all (is_wide (width + more)) (beside rows others) ≡ true
beside_wide width more [] [] same left right = refl
beside_wide width more [] (other ∷ others) same left right = absurd (omega (arith, same))
beside_wide width more (row ∷ rows) [] same left right = absurd (omega (arith, same))
beside_wide width more (row ∷ rows) (other ∷ others) same left right =
    let parts = and_parts (is_wide width row) (list_all (is_wide width) rows) left in
    let others_parts = and_parts (is_wide more other) (list_all (is_wide more) others) right in
    let wide : drawn_columns (row ++ other) ≡ width + more =
    rw (columns_append, wide_is width row parts.0, wide_is more other others_parts.0) refl in
    rw (
      wide_true (width + more) (row ++ other) wide,
      beside_wide width more rows others (omega (arith, same)) parts.1 others_parts.1,
    ) refl

beside_sized : (width more total height : ℕ) (rows others : DrawnRows) → width + more ≡ total
    → IsSized (width, height) rows
    → IsSized (more, height) others → IsSized (total, height) (beside rows others)
beside_sized width more total height rows others sum left right =
    let same = left.count ∙ sym right.count in
    record {
      count = beside_count rows others same ∙ left.count;
      wide = rw (← sum) (beside_wide width more rows others same left.wide right.wide);
    }

stacked_sized : (width height more total : ℕ) (rows others : DrawnRows) → height + more ≡ total
    → IsSized (width, height) rows → IsSized (width, more) others → IsSized (width, total) (rows ++ others)
stacked_sized width height more total rows others sum upper lower = record {
  count = rw (length-append, upper.count, lower.count) sum;
  wide = all_append (is_wide width) rows others upper.wide lower.wide;
}

share_small : (a : Arrangement) (total : ℕ) → share a total ≤ total
share_small a total = grind (arith, nat_tests)

put_below : (side : ℕ) (first second : DrawnRows) → 3 ≤ side → put_together side first second ≡ first ++ second
unfolding put_together
put_below side first second low = grind (arith, nat_tests, low)

pair_sized : (side width height across down : ℕ) (first second : DrawnRows) → across ≤ width → down ≤ height
    → IsSized (if nat_le side 1 then (width - across, height) else (width, height - down)) first
    → IsSized (if nat_le side 1 then (across, height) else (width, down)) second
    → IsSized (width, height) (put_together side first second)
unfolding put_together
pair_sized zero width height across down first second less few one two =
    beside_sized across (width - across) width height second first (omega arith) two one
pair_sized (suc zero) width height across down first second less few one two =
    beside_sized (width - across) across width height first second (omega arith) one two
pair_sized (suc (suc zero)) width height across down first second less few one two =
    stacked_sized width down (height - down) height second first (omega arith) two one
pair_sized (suc (suc (suc side))) width height across down first second less few one two =
    let not_across : nat_le (suc (suc (suc side))) 1 ≡ false = grind (arith, nat_tests) in
    rw (put_below (suc (suc (suc side))) first second (omega arith))
    (stacked_sized width (height - down) down height first second (omega arith) (rw not_across at one)
    (rw not_across at two))

part_sized : (texts : List FlatText) (f : FlatWindows) (area : ℕ × ℕ) (t : Shape)
    → IsSized area (part_rows texts f area t)
part_sized texts f area (One id) = window_sized texts f area id
part_sized texts f area (Two a first second) =
    pair_sized (direction a.method) area.0 area.1 (share a area.0) (share a area.1)
    (part_rows texts f (first_area a area) first) (part_rows texts f (second_area a area) second)
    (share_small a area.0) (share_small a area.1)
    (part_sized texts f (first_area a area) first) (part_sized texts f (second_area a area) second)

tree_sized : (texts : List FlatText) (f : FlatWindows) (area : ℕ × ℕ) (tree : Option Shape)
    → IsSized area (screen_rows texts f area tree)
tree_sized texts f area None = blank_sized area
tree_sized texts f area (Some t) = part_sized texts f area t

pub screen_is_filled : ScreenIsFilled
screen_is_filled = λ texts f area. tree_sized texts f area f.tree
