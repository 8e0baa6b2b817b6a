-- THE SCREEN: each window at its place, drawn as rows of exactly its columns and of exactly its number.
use Rattle.std.specs.Prelude.{ℕ, ◌-◌, ◌==◌, not, if◌then◌else◌, Bool, List, [], ◌∷◌, ◌++◌, length, map, filter, take}
use Rattle.std.specs.Prelude.{drop, replicate, slice_set, slice_index_or, nat_lt, Option, Some, None, unwrap_or}
use Rattle.std.specs.Option.{option_map}
use Rattle.std.specs.Str.{encode_utf8_all}
use Rattle.gx_words.specs.Constants.{line_feed}
use Rattle.glk_text.specs.Characters.{question_mark}
use Rattle.glk_text.specs.Utf8.{as_scalar}
use Rattle.glk_windows.specs.Constants.{text_buffer, text_grid, left, right, above, blank_cell}
use Rattle.glk_windows.specs.Methods.{direction}
use Rattle.glk_windows.specs.declared.grid.Grid.{Grid}
use Rattle.glk_windows.specs.Grids.{fit}
use Rattle.glk_windows.specs.Tree.{Shape, One, Two, first_area, second_area}
use Rattle.glk_windows.specs.Windows.{FlatWindows, entry, grid_at}
use Rattle.glk_screen.specs.Texts.{FlatText, text_of}
use Rattle.glk_screen.specs.Wrapping.{width_of, is_replaced, columns_of, columns, wrapped, rows_at}
use Rattle.glk_screen.specs.ScreenRows.{trimmed}

-- rows of a window
abbrev pub DrawnRows : Type 0
DrawnRows = List (List ℕ)

abbrev pub blank_row : ℕ → List ℕ
blank_row width = replicate width blank_cell

abbrev pub blank_rows : ℕ × ℕ → DrawnRows
blank_rows area = replicate area.1 (blank_row area.0)

-- ---- a buffer window

-- a character as it is drawn
unfoldable pub drawn_char : ℕ → ℕ → ℕ
drawn_char width c = if is_replaced width c then question_mark else c

-- a character is drawn unless it has no column
abbrev pub is_drawn : ℕ → ℕ → Bool
is_drawn width c = not (columns_of width c == 0)

-- a row as it is drawn, which blanks fill
unfoldable pub drawn_row : ℕ → List ℕ → List ℕ
drawn_row width row = map (drawn_char width) (filter (is_drawn width) row) ++ blank_row (width - columns width row)

-- the last rows of so many, or all
abbrev pub bottom_rows : ℕ → DrawnRows → DrawnRows
bottom_rows count rows = drop (length rows - count) rows

-- The last rows of a text. A window of no columns shows nothing.
abbrev pub text_rows : List ℕ → ℕ × ℕ → DrawnRows
text_rows text area =
    if area.0 == 0 then [] else map (drawn_row area.0) (bottom_rows area.1 (rows_at text (wrapped area.0 text)))

-- those rows from the window's top, below which it is blank
unfoldable pub buffer_rows : List ℕ → ℕ × ℕ → DrawnRows
buffer_rows text area = text_rows text area ++ blank_rows (area.0, area.1 - length (text_rows text area))

-- ---- a grid window: its cells, of which each has one column

unfoldable pub drawn_cell : ℕ → ℕ
drawn_cell c = if width_of c == 1 then c else question_mark

-- a row of the grid, which blanks fill
unfoldable pub grid_row : ℕ → List ℕ → List ℕ
grid_row width row = map drawn_cell (take width row) ++ blank_row (width - length row)

abbrev pub grid_rows : Grid → ℕ × ℕ → DrawnRows
grid_rows g area = map (grid_row area.0) (fit area.1 [] g.rows)

-- ---- all windows

-- a window's type, 0 where no window has the identifier
abbrev pub window_type : FlatWindows → ℕ → ℕ
window_type f win = unwrap_or (option_map (λ e. e.kind) (entry f win)) 0

-- a window that isn't a pair
unfoldable pub window_rows : List FlatText → FlatWindows → ℕ × ℕ → ℕ → DrawnRows
window_rows texts f area win =
    if window_type f win == text_buffer then buffer_rows (text_of texts win) area else
    if window_type f win == text_grid then grid_rows (grid_at f.grids win) area else
    blank_rows area

-- cells to the right of a row, or below all rows where there is no such row
abbrev pub appended_at : DrawnRows → ℕ → List ℕ → DrawnRows
appended_at rows y cells =
    if nat_lt y (length rows) then slice_set rows y (slice_index_or rows y [] ++ cells) else rows ++ cells ∷ []

-- rows to the left of others
abbrev pub beside : DrawnRows → DrawnRows → DrawnRows
beside [] rows = rows
beside (row ∷ rows) [] = row ∷ rows
beside (row ∷ rows) (other ∷ others) = (row ++ other) ∷ beside rows others

-- a pair: its second child stands on the side that the direction names
unfoldable pub put_together : ℕ → DrawnRows → DrawnRows → DrawnRows
put_together side first second =
    if side == left then beside second first else
    if side == right then beside first second else
    if side == above then second ++ first else
    first ++ second

-- a part of the tree of so many columns and rows
abbrev pub part_rows : List FlatText → FlatWindows → ℕ × ℕ → Shape → DrawnRows
part_rows texts f area (One id) = window_rows texts f area id
part_rows texts f area (Two a first second) =
    put_together (direction a.method)
    (part_rows texts f (first_area a area) first)
    (part_rows texts f (second_area a area) second)

-- the whole screen, which is blank where there is no window
abbrev pub screen_rows : List FlatText → FlatWindows → ℕ × ℕ → Option Shape → DrawnRows
screen_rows texts f area None = blank_rows area
screen_rows texts f area (Some t) = part_rows texts f area t

-- a row as text: without trailing blanks and with a line feed
abbrev pub line_of : List ℕ → List ℕ
line_of row = encode_utf8_all (map as_scalar (trimmed row)) ++ line_feed ∷ []

-- rows as text, from the top down
abbrev pub lines_of : DrawnRows → List ℕ
lines_of [] = []
lines_of (row ∷ rows) = line_of row ++ lines_of rows

-- The screen as text in UTF-8.
unfoldable pub composed : List FlatText → FlatWindows → ℕ × ℕ → List ℕ
composed texts f area = lines_of (screen_rows texts f area f.tree)
