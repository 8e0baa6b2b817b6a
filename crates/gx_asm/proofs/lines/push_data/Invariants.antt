use Rattle.std.proofs.Common.{◌≡◌, ◌++◌, take}
use Rattle.gx_asm.specs.Instructions.{digits}
use Rattle.gx_asm.proofs.lines.push_data.Given as goal

abbrev pub invariant-loop-byte : goal.invariant-loop-byte
invariant-loop-byte l = l.text ≡ l.initial.text ++ digits (take l.byte-index l.own)
