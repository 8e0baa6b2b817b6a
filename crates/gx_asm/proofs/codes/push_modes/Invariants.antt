-- the pairs so far are added
use Rattle.std.proofs.Common.{◌≡◌, ◌++◌, map, take}
use Rattle.gx_asm.specs.Instructions.{nibble_of, packed_nibbles}
use Rattle.gx_asm.proofs.codes.push_modes.Given as goal

abbrev pub invariant-loop-i : goal.invariant-loop-i
invariant-loop-i l = l.code ≡ l.fn.code ++ take l.i (packed_nibbles (map nibble_of l.modes))
