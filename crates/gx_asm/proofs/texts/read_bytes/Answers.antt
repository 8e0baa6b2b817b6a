use Rattle.std.proofs.Common.{sym, arith}
use Rattle.std.proofs.lemmas.Result.{err_from_is_err_and}
use Rattle.gx_asm.proofs.ReadingTurns.{pair_turn, high_fault, low_fault, half_fault, digits_end}
use Rattle.gx_asm.proofs.texts.read_bytes.Goals as goal

pub returns-in_default-split_first : goal.returns-in_default-split_first
returns-in_default-split_first c = half_fault _ _ _ _ _ c.in-Some.ensures.cases.0
    c.in_default-split_first.ensures.cases c.loop-high.invariant.said

pub returns-in_err-high : goal.returns-in_err-high
returns-in_err-high c =
    let p = err_from_is_err_and c.from_residual.result c.from_residual.ensures.1 in
    rw (p.1, p.2) (high_fault _ _ _ _ _ _ c.in_err-high.field-0.0 _ c.in-Some.ensures.cases.0
    c.in-Some-split_first.ensures.cases.0 (sym c.in_err-high.ensures.value) c.loop-high.invariant.said)

pub returns-in_err-low : goal.returns-in_err-low
returns-in_err-low c =
    let p = err_from_is_err_and c.from_residual-in_err-low.result c.from_residual-in_err-low.ensures.1 in
    rw (p.1, p.2)
    (low_fault _ _ _ _ _ _ _ c.in_err-low.field-0.0 _ c.in-Some.ensures.cases.0 c.in-Some-split_first.ensures.cases.0
    (sym c.in_ok-high.ensures.value) (sym c.in_err-low.ensures.value) c.loop-high.invariant.said)

pub loop-high-preserved : goal.loop-high-preserved
loop-high-preserved c = record {
  said =
      rw c.push.ensures.items
      (pair_turn _ _ _ _ _ _ _ _ _ c.in-Some.ensures.cases.0 c.in-Some-split_first.ensures.cases.0
      (sym c.in_ok-high.ensures.value) (sym c.in_ok-low.ensures.value) c.loop-high.invariant.said);
  few = omega (
    arith,
    c.loop-high.invariant.few,
    c.in-Some.ensures.cases.1,
    c.in-Some-split_first.ensures.cases.1,
    c.push.ensures.len,
  );
}

pub returns : goal.returns
returns c = digits_end _ _ _ c.in_default.ensures.cases c.loop-high.invariant.said
