-- One turn of the sum of words.
use Rattle.std.proofs.Common.{◌≡◌, ◌+◌, ◌*◌, ℕ, suc, List, refl, arith, cond, eqb as nat_eq}
use Rattle.gx_words.specs.Constants.{checksum_at}
use Rattle.gx_words.specs.Numbers.{word, sum_of_words}

pub sum_more : (n : ℕ) (bytes : List ℕ) → sum_of_words (n + 1) bytes
    ≡ sum_of_words n bytes + cond (nat_eq (4 * n) checksum_at) 0 (word bytes (4 * n))
unfolding sum_of_words
sum_more n bytes = let e : n + 1 ≡ suc n = omega arith in rw e refl

pub sum_first : (bytes : List ℕ) → sum_of_words 0 bytes ≡ 0
unfolding sum_of_words
sum_first bytes = refl

pub ruleset sum_turns = (sum_more, sum_first)
