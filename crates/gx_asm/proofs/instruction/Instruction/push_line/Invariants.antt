use Rattle.std.proofs.Common.{◌≡◌, ◌++◌, length, drop}
use Rattle.gx_asm.specs.Instructions.{all_data_len, words_of}
use Rattle.gx_asm.proofs.instruction.Instruction.push_line.Given as goal

abbrev pub invariant-loop-mode : goal.invariant-loop-mode
invariant-loop-mode l = record {
  room : length l.rest ≡ all_data_len (drop l.mode-index l.modes);
  whole : l.text ++ words_of (drop l.mode-index l.modes) l.rest ≡ l.initial.text ++ words_of l.modes l.initial.rest;
}
