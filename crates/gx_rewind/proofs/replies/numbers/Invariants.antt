-- the numbers so far are copied
use Rattle.std.proofs.Common.{◌≡◌, take}
use Rattle.gx_rewind.proofs.replies.numbers.Given as goal

abbrev pub invariant-loop-number : goal.invariant-loop-number
invariant-loop-number l = l.copy ≡ take l.number-index l.all
