use Rattle.std.proofs.Common.{◌≡◌, ◌++◌, ◌-◌, drop, map}
use Rattle.std.specs.List.{filter}
use Rattle.glk_screen.specs.Wrapping.{columns}
use Rattle.glk_screen.specs.Screen.{drawn_char, is_drawn}
use Rattle.glk_screen.proofs.drawing.drawn_row.Given as goal

abbrev pub invariant-loop-c : goal.invariant-loop-c
invariant-loop-c l = record {
  cells : l.row ++ map (drawn_char l.width) (filter (is_drawn l.width) (drop l.c-index l.chars))
      ≡ map (drawn_char l.width) (filter (is_drawn l.width) l.chars);
  room : l.room - columns l.width (drop l.c-index l.chars) ≡ l.width - columns l.width l.chars;
}
