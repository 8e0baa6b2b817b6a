-- the data of the modes so far are counted
use Rattle.std.proofs.Common.{◌≡◌, ◌≤◌, ◌*◌, ◌^◌, take}
use Rattle.gx_asm.specs.Instructions.{all_data_len}
use Rattle.gx_asm.proofs.codes.all_data_len.Given as goal

abbrev pub invariant-loop-i : goal.invariant-loop-i
invariant-loop-i l = record {
  counted : l.len ≡ all_data_len (take l.i l.modes);
  fits : l.len ≤ l.i * 2 ^ 32;
}
