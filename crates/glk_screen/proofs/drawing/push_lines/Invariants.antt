use Rattle.std.proofs.Common.{◌≡◌, ◌++◌, drop}
use Rattle.std.specs.String.{string_bytes}
use Rattle.glk_screen.specs.Screen.{lines_of}
use Rattle.glk_screen.proofs.drawing.push_lines.Given as goal

abbrev pub invariant-loop-row : goal.invariant-loop-row
invariant-loop-row l =
    string_bytes l.text ++ lines_of (drop l.row-index l.rows) ≡ string_bytes l.fn.text ++ lines_of l.rows
