-- One copy more in a fork, which has room for it.
use Rattle.std.proofs.Common.{◌≡◌, ◌≤◌, ◌<◌, ◌+◌, ◌-◌, ℕ, suc, List, [], ◌∷◌, ◌++◌, length, take, slice_get, Some}
use Rattle.std.proofs.Common.{sym, ap, ◌∙◌, arith}
use Rattle.std.proofs.Math.Seq.{take-suc}
use Rattle.std.proofs.lemmas.Grind.{common_steps}
use Rattle.std.proofs.lemmas.Option.{get_or_from_slice_get, slice_get_within}
use Rattle.circular_buffer.specs.Buffer.{keep_last}

pub one_more : {X : Type 0} (xs : List X) (i n : ℕ) (x : X) → length xs ≤ n → slice_get xs i ≡ Some x
    → keep_last n (take i xs ++ x ∷ []) ≡ take (i + 1) xs
one_more {X} xs i n x room is =
    let there : i < length xs = slice_get_within xs i x is in
    let next : i + 1 ≡ suc i = omega arith in
    let none : length (take i xs ++ x ∷ []) - n ≡ 0 = grind (arith, common_steps) in
    rw (none, next) (sym (take-suc xs i x there
    ∙ ap (λ (y : X). take i xs ++ y ∷ []) (get_or_from_slice_get xs i x x is)))
