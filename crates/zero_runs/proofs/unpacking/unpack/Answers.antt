-- a list that is added to none
use Rattle.std.proofs.Common.{◌≡◌, ℕ, List, Ok, subst, sym, ◌∙◌}
use Rattle.zero_runs.specs.Laws.{unpacked_onto}
use Rattle.zero_runs.proofs.UnpackingTurns.{length-unpacked, onto_nothing, unpacked-none}
use Rattle.zero_runs.proofs.unpacking.unpack.Goals as goal

pub returns-then-size-eq0-clause-value : goal.returns-then-size-eq0-clause-value
returns-then-size-eq0-clause-value c = rw c.new.ensures
    (unpacked-none c.args.packed.now c.args.old.now c.args.size c.in_ok-check.ensures.ok c.if-size-eq0.true)

pub returns-clause-value : goal.returns-clause-value
returns-clause-value c =
    sym (onto_nothing c.args.packed.now c.args.old.now c.args.size)
    ∙ subst (λ (out : List ℕ). unpacked_onto out c.args.packed.now c.args.old.now c.args.size
    ≡ Ok c.push_unpacked.new.out) c.in_ok-out.ensures.value c.in_ok-push_unpacked.ensures.ok

pub returns-clause-len : goal.returns-clause-len
returns-clause-len c = length-unpacked c.args.packed.now c.args.old.now _ c.args.size (returns-clause-value c)
