use Rattle.std.proofs.Common.{◌≡◌, ◌++◌, filter}
use Rattle.glk_text.specs.Characters.{is_printable}
use Rattle.gx_session.specs.Lines.{chars_of}
use Rattle.gx_session.proofs.lines.read_chars.Given as goal

abbrev pub invariant-loop-c : goal.invariant-loop-c
invariant-loop-c l = l.chars ++ filter is_printable l.c-iterator ≡ chars_of l.fn.line
