use Rattle.std.proofs.Common.{◌≡◌, take}
use Rattle.glk_world.proofs.grids.trimmed.Given as goal

abbrev pub invariant-loop-c : goal.invariant-loop-c
invariant-loop-c l = l.left ≡ take l.c-index l.c-items
