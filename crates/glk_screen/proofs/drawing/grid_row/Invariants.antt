use Rattle.std.proofs.Common.{◌≡◌, ◌++◌, drop, map}
use Rattle.glk_screen.specs.Screen.{drawn_cell}
use Rattle.glk_screen.proofs.drawing.grid_row.Given as goal

abbrev pub invariant-loop-c : goal.invariant-loop-c
invariant-loop-c l = l.row ++ map drawn_cell (drop l.c-index l.shown) ≡ map drawn_cell l.shown
