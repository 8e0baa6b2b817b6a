-- Grids of text grid windows (Glk 0.7.5, "Text Grid Windows"): cells in rows, and a cursor.
use Rattle.std.specs.Prelude.{ℕ, ◌+◌, ◌-◌, ◌==◌, ◌||◌, nat_lt, nat_le, Bool, if◌then◌else◌, List, [], ◌++◌, length, map}
use Rattle.std.specs.Prelude.{take, replicate, slice_set, slice_index_or}
use Rattle.std.specs.List.{list_any}
use Rattle.gx_words.specs.Constants.{line_feed}
use Rattle.glk_windows.specs.declared.grid.Grid.{Grid}
use Rattle.glk_windows.specs.Constants.{blank_cell}

abbrev pub grid_id : Grid → ℕ
grid_id g = g.id

-- a grid before it has a size
abbrev pub empty_grid : ℕ → Grid
empty_grid id = record { id = id; columns = 0; rows = []; x = 0; y = 0 }

-- the first n items, filled up to n
abbrev pub fit : {A : Type 0} → ℕ → A → List A → List A
fit n blank xs = take n xs ++ replicate (n - length xs) blank

-- a grid at a size: cells inside both sizes stay, and new ones are blank
abbrev pub sized_to : ℕ × ℕ → Grid → Grid
sized_to area g = record g { columns = area.0; rows = map (fit area.0 blank_cell) (fit area.1 [] g.rows) }

-- a size has a row more than the grid, or a cell more in one of its rows
abbrev pub grid_grows : ℕ × ℕ → Grid → Bool
grid_grows area g = nat_lt (length g.rows) area.1 || list_any (λ row. nat_lt (length row) area.0) g.rows

-- the row below; the last number of a row stays
abbrev pub row_below : ℕ → ℕ
row_below y = if y == 0xFFFFFFFF then y else y + 1

-- a character at the cursor; below the last row it is dropped
unfoldable pub put_at : Grid → ℕ → Grid
put_at g c =
    if nat_le (length g.rows) g.y || g.columns == 0 then g else
    if c == line_feed then record g { x = 0; y = row_below g.y } else
    record g { rows = slice_set g.rows g.y (slice_set (slice_index_or g.rows g.y []) g.x c); x = g.x + 1 }

-- a character is put; before it a cursor past the end of a row goes to the next one
abbrev pub put : Grid → ℕ → Grid
put g c = put_at (if nat_lt g.x g.columns then g else record g { x = 0; y = row_below g.y }) c

-- all cells become blank, and the cursor goes to the first
abbrev pub blanked : Grid → Grid
blanked g = record g { rows = map (λ row. replicate (length row) blank_cell) g.rows; x = 0; y = 0 }
