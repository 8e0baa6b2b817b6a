-- the instructions so far are listed
use Rattle.std.proofs.Common.{◌-◌, length}
use Rattle.gx_asm.proofs.CodesLoops.{IsListed}
use Rattle.gx_asm.proofs.codes.list_from.Given as goal

abbrev pub invariant-loop-here : goal.invariant-loop-here
invariant-loop-here l = IsListed l.code l.ends l.at l.here l.whole l.text

abbrev pub decreases-loop-here : goal.decreases-loop-here
decreases-loop-here l = length l.code - l.here
