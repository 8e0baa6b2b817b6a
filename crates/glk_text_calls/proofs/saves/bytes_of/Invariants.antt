use Rattle.std.proofs.Common.{◌≡◌, true, take}
use Rattle.std.specs.List.{list_all}
use Rattle.glk_text_calls.proofs.Saving.{is_byte}
use Rattle.glk_text_calls.proofs.saves.bytes_of.Given as goal

abbrev pub invariant-loop-c : goal.invariant-loop-c
invariant-loop-c l = record {
  same : l.bytes ≡ take l.c-index l.chars;
  small : list_all is_byte l.bytes ≡ true;
}
