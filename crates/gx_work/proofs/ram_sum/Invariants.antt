use Rattle.std.proofs.Common.{◌≡◌, ◌%◌, ◌^◌}
use Rattle.gx_work.specs.Laws.{ram_sum}
use Rattle.gx_work.proofs.ram_sum.Given as goal

abbrev pub invariant-loop-index : goal.invariant-loop-index
invariant-loop-index l = l.sum ≡ ram_sum l.index l.number % 2 ^ 32
