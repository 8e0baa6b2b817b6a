use Rattle.std.proofs.Common.{◌≡◌, ◌++◌, take}
use Rattle.gx_asm.proofs.texts.push_all.Given as goal

abbrev pub invariant-loop-b : goal.invariant-loop-b
invariant-loop-b l = l.operand_data.items ≡ l.initial.operand_data.items ++ take l.b-index l.bytes
