-- The bytes of the front, and the zeros behind it.
use Rattle.std.proofs.Common.{◌≡◌, ◌∙◌, ap, arith, ℕ, ◌-◌, List, ◌++◌, length, take, drop, replicate, min}
use Rattle.std.proofs.lemmas.List.{drop-replicate, take_min}
use Rattle.gx_devices.proofs.last.front_of.Goals as goal

bytes_of : (most count : ℕ) (bytes : List ℕ) → count ≡ min most (length bytes) → take count bytes ≡ take most bytes
bytes_of most count bytes is = ap (λ n. take n bytes) is ∙ take_min most bytes

zeros_of : (most count fill : ℕ) (bytes : List ℕ) → count ≡ min most (length bytes)
    → drop count (replicate most fill) ≡ replicate (most - length bytes) fill
zeros_of most count fill bytes is =
    let left : most - count ≡ most - length bytes = omega arith in
    drop-replicate count most fill ∙ ap (λ n. replicate n fill) left

front_joins : (most count fill : ℕ) (bytes front : List ℕ) → count ≡ min most (length bytes) → front ≡ take count bytes
    → front ++ drop count (replicate most fill) ≡ take most bytes ++ replicate (most - length bytes) fill
front_joins most count fill bytes front is copied =
    cc (copied, bytes_of most count bytes is, zeros_of most count fill bytes is)

pub returns : goal.returns
returns c = front_joins 36 _ 0 _ _ (omega (arith, c.min-count.ensures)) c.copy_from_slice.ensures.after
