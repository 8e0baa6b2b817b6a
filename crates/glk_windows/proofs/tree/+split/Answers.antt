use Rattle.glk_windows.proofs.Placing.{first_refused, second_refused}
use Rattle.glk_windows.proofs.tree.+split.Goals as goal

pub returns-in_ok-split-in-Pair-clause-err : goal.returns-in_ok-split-in-Pair-clause-err
returns-in_ok-split-in-Pair-clause-err t c =
    let made = rw c.deref_mut.ensures.value at c.in_ok-split-in-Pair.ensures.ok in
    let kept = rw c.deref_mut-in-Pair.ensures.value at c.split-in-Pair.ensures.err in
    let there = rw c.deref_mut-in-Pair.ensures.value at c.split-in-Pair.ensures.there in
    rw c.in-Pair.is (second_refused c.split-in-Pair.result _ _ _ _ _ _ _ _ made kept there)

pub returns-in_err-split-in-Pair-clause-err : goal.returns-in_err-split-in-Pair-clause-err
returns-in_err-split-in-Pair-clause-err t c =
    let kept = rw c.deref_mut.ensures.value at c.in_err-split-in-Pair.ensures.err in
    rw c.in-Pair.is (first_refused c.from_residual.result _ _ _ _ kept)
