-- the old bytes that are left are added behind what was expanded
use Rattle.std.proofs.Common.{◌≡◌, ◌-◌, length, arith}
use Rattle.std.proofs.lemmas.Result.{on_ok_weaker}
use Rattle.zero_runs.proofs.UnpackingTurns.{IsOk-expand, onto_fits, onto_wrote}
use Rattle.zero_runs.proofs.unpacking.push_unpacked.Goals as goal

pub push_expanded-requires : goal.push_expanded-requires
push_expanded-requires c = IsOk-expand c.args.out.now c.args.packed.now c.args.old.now c.args.size c.requires

pub overflow_sub-size : goal.overflow_sub-size
overflow_sub-size c =
    let fits = onto_fits c.args.out.now c.args.packed.now c.args.old.now c.push_expanded.new.out c.args.size
    c.requires c.in_ok-push_expanded.ensures.ok in
    omega (arith, fits.1, c.len.ensures, c.len-before.ensures)

pub returns-clause-ok : goal.returns-clause-ok
returns-clause-ok c =
    let left : c.args.size - (c.len.result - c.len-before.result)
    ≡ c.args.size - (length c.push_expanded.new.out - length c.args.out.now) =
    omega (arith, c.len.ensures, c.len-before.ensures) in
    on_ok_weaker c.push_old.result
    (λ made. onto_wrote c.args.out.now c.args.packed.now c.args.old.now c.push_expanded.new.out c.push_old.new.out
    c.args.size _ c.requires c.in_ok-push_expanded.ensures.ok left made)
    c.push_old.ensures.ok
