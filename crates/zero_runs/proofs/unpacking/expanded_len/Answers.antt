use Rattle.std.proofs.Common.{sym, arith}
use Rattle.zero_runs.proofs.UnpackingTurns.{pair_counted, byte_counted, cut_counted, all_counted}
use Rattle.zero_runs.proofs.unpacking.expanded_len.Goals as goal

pub returns-in_default-split_first-clause-value : goal.returns-in_default-split_first-clause-value
returns-in_default-split_first-clause-value c =
    sym (cut_counted _ _ _ _ _ c.in-Some.ensures.cases.0 c.in_default-split_first.ensures.cases c.if-byte-eq0.true
    c.loop-byte.invariant.whole)

pub loop-byte-preserved-then-byte-eq0 : goal.loop-byte-preserved-then-byte-eq0
loop-byte-preserved-then-byte-eq0 c = record {
  few = omega (
    arith,
    c.loop-byte.invariant.few,
    c.in-Some.ensures.cases.1,
    c.in-Some-split_first.ensures.cases.1,
    c.from.ensures,
  );
  whole = rw c.from.ensures (pair_counted _ _ _ _ _ _ _ c.in-Some.ensures.cases.0
      c.in-Some-split_first.ensures.cases.0 c.if-byte-eq0.true c.loop-byte.invariant.whole);
}

pub loop-byte-preserved : goal.loop-byte-preserved
loop-byte-preserved c = record {
  few = omega (arith, c.loop-byte.invariant.few, c.in-Some.ensures.cases.1);
  whole = byte_counted _ _ _ _ _ c.in-Some.ensures.cases.0 c.if-byte-eq0.false c.loop-byte.invariant.whole;
}

pub returns-clause-value : goal.returns-clause-value
returns-clause-value c = sym (all_counted _ _ _ c.in_default.ensures.cases c.loop-byte.invariant.whole)
