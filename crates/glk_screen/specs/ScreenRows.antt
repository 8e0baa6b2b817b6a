-- A row without its trailing blanks.
use Rattle.std.specs.Prelude.{ℕ, ◌+◌, ◌==◌, ◌&&◌, if◌then◌else◌, List, [], ◌∷◌, take}
use Rattle.glk_windows.specs.Constants.{blank_cell}

-- how many cells are left then
unfoldable pub kept : List ℕ → ℕ
kept [] = 0
kept (c ∷ cs) = if kept cs == 0 && c == blank_cell then 0 else kept cs + 1

abbrev pub trimmed : List ℕ → List ℕ
trimmed row = take (kept row) row
