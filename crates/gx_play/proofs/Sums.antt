-- The sum of words of memory, one word more.
use Rattle.std.proofs.Common.{◌≡◌, ◌+◌, ◌*◌, ℕ, suc, List, refl, arith}
use Rattle.gx_words.specs.Numbers.{word}
use Rattle.gx_play.specs.Jobs.{sum_from}

pub sum_more : (n : ℕ) (memory : List ℕ) (at : ℕ)
    → sum_from (n + 1) memory at ≡ sum_from n memory at + word memory (at + 4 * n)
unfolding sum_from
sum_more n memory at = let e : n + 1 ≡ suc n = omega arith in rw e refl

pub sum_first : (memory : List ℕ) (at : ℕ) → sum_from 0 memory at ≡ 0
unfolding sum_from
sum_first memory at = refl

pub ruleset sums = (sum_more, sum_first)
