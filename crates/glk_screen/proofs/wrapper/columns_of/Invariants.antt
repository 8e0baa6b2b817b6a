use Rattle.std.proofs.Common.{◌≡◌, ◌+◌, drop}
use Rattle.glk_screen.specs.Wrapping.{drawn_columns}
use Rattle.glk_screen.proofs.wrapper.columns_of.Given as goal

abbrev pub invariant-loop-c : goal.invariant-loop-c
invariant-loop-c l = l.columns + drawn_columns (drop l.c-index l.chars) ≡ drawn_columns l.chars
