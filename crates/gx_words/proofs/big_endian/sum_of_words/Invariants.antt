use Rattle.std.proofs.Common.{◌≡◌, ◌%◌, ◌^◌}
use Rattle.gx_words.specs.Numbers.{sum_of_words}
use Rattle.gx_words.proofs.big_endian.sum_of_words.Given as goal

abbrev pub invariant-loop-index : goal.invariant-loop-index
invariant-loop-index l = l.sum ≡ sum_of_words l.index l.bytes % 2 ^ 32
