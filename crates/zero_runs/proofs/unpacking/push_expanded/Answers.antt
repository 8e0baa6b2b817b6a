use Rattle.zero_runs.proofs.PackingTurns.{front_added}
use Rattle.zero_runs.proofs.UnpackingTurns.{all_written, byte_written, front_chained, none_cut, pair_written}
use Rattle.zero_runs.proofs.unpacking.push_expanded.Goals as goal

pub unreachable-requires : goal.unreachable-requires
unreachable-requires c =
    none_cut c.args.out.now c.loop-byte.out c.args.old.now c.args.packed.now _ _ _ c.in-Some.ensures.cases.0
    c.in_default-split_first.ensures.cases c.if-byte-eq0.true c.loop-byte.invariant.rest c.requires

pub loop-byte-preserved-then-byte-eq0 : goal.loop-byte-preserved-then-byte-eq0
loop-byte-preserved-then-byte-eq0 c = record {
  rest =
      rw (c.in_ok-push_old.ensures.ok, c.from.ensures)
      (pair_written _ _ _ _ _ _ _ _ c.in-Some.ensures.cases.0 c.in-Some-split_first.ensures.cases.0 c.if-byte-eq0.true
      c.loop-byte.invariant.rest);
  grows = front_chained c.args.out.now c.loop-byte.out c.push_old.new.out c.loop-byte.invariant.grows
      c.push_old.ensures.grows;
}

pub loop-byte-preserved : goal.loop-byte-preserved
loop-byte-preserved c = record {
  rest =
      rw (c.in_ok-push.ensures.ok, c.byte_or_zero.ensures, c.len.ensures)
      (byte_written _ _ _ _ _ _ c.in-Some.ensures.cases.0 c.if-byte-eq0.false c.loop-byte.invariant.rest);
  grows = rw c.in_ok-push.ensures.ok (front_added c.args.out.now c.loop-byte.out _ c.loop-byte.invariant.grows);
}

pub returns-clause-ok : goal.returns-clause-ok
returns-clause-ok c = all_written _ _ _ _ c.in_default.ensures.cases c.loop-byte.invariant.rest
