use Rattle.zero_runs.proofs.PackingTurns.{front_joined}
use Rattle.zero_runs.proofs.UnpackingTurns.{front_chained, old_written}
use Rattle.zero_runs.proofs.unpacking.push_old.Goals as goal

pub returns-clause-ok : goal.returns-clause-ok
returns-clause-ok c =
    let added = old_written _ _ _ _ c.args.count _ _ _ c.len.ensures c.min.ensures c.split_at.ensures.back
    c.min-2.ensures c.split_at-2.ensures.front in
    rw (added, ← c.in_ok-extend_from_slice.ensures.ok) c.push_zeros.ensures.ok

pub returns-clause-grows : goal.returns-clause-grows
returns-clause-grows c =
    front_chained c.args.out.now c.extend_from_slice.new.self c.push_zeros.new.out
    (rw c.in_ok-extend_from_slice.ensures.ok (front_joined c.args.out.now _)) c.push_zeros.ensures.grows
