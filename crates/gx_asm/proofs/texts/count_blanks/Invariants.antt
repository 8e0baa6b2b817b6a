use Rattle.std.proofs.Common.{◌≡◌, take}
use Rattle.std.specs.List.{count_by}
use Rattle.gx_asm.specs.Texts.{is_blank}
use Rattle.gx_asm.proofs.texts.count_blanks.Given as goal

abbrev pub invariant-loop-b : goal.invariant-loop-b
invariant-loop-b l = l.count ≡ count_by is_blank (take l.b-index l.line)
