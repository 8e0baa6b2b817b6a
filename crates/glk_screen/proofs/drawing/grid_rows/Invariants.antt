use Rattle.std.proofs.Common.{◌≡◌, [], map, take}
use Rattle.glk_windows.specs.Grids.{fit}
use Rattle.glk_windows.specs.Windows.{grid_at}
use Rattle.glk_screen.specs.Screen.{grid_row}
use Rattle.glk_screen.proofs.drawing.grid_rows.Given as goal

abbrev pub invariant-loop-y : goal.invariant-loop-y
invariant-loop-y l =
    l.rows.items ≡ map (grid_row l.area.0) (take l.y (fit l.area.1 [] (grid_at l.windows.grids l.win).rows))
