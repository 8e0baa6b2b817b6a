-- One turn of each loop over a definition.
use Rattle.std.proofs.Common.{◌≡◌, ◌+◌, ◌++◌, [], ℕ, suc, refl, arith}
use Rattle.gx_words.specs.Numbers.{bytes_of_word}
use Rattle.gx_work.specs.Work.{ram, work_word}
use Rattle.gx_work.specs.Laws.{ram_sum}

pub ram_sum_more : (n number : ℕ) → ram_sum (n + 1) number ≡ ram_sum n number + work_word number n
unfolding ram_sum
ram_sum_more n number = let e : n + 1 ≡ suc n = omega arith in rw e refl

pub ram_sum_first : (number : ℕ) → ram_sum 0 number ≡ 0
unfolding ram_sum
ram_sum_first number = refl

pub ram_more : (n number : ℕ) → ram (n + 1) number ≡ ram n number ++ bytes_of_word (work_word number n)
unfolding ram
ram_more n number = let e : n + 1 ≡ suc n = omega arith in rw e refl

pub ram_first : (number : ℕ) → ram 0 number ≡ []
unfolding ram
ram_first number = refl

pub ruleset turns = (ram_sum_more, ram_sum_first, ram_more, ram_first)
