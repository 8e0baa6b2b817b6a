use Rattle.std.proofs.Common.{◌≡◌, ◌%◌, ◌^◌}
use Rattle.gx_play.specs.Jobs.{sum_from}
use Rattle.gx_play.proofs.figures.ram_sum.Given as goal

abbrev pub invariant-loop-index : goal.invariant-loop-index
invariant-loop-index g l = l.sum ≡ sum_from l.index l.memory l.start % 2 ^ 32
