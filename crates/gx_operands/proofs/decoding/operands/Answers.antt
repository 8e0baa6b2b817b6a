-- the first fault is that of all operands
use Rattle.std.proofs.Common.{sym, ◌∙◌}
use Rattle.std.proofs.lemmas.Result.{err_from_is_err_and}
use Rattle.gx_operands.proofs.Steps.{one_fails}
use Rattle.gx_operands.proofs.decoding.operands.Goals as goal

pub returns-in_err-operand-clause-value : goal.returns-in_err-operand-clause-value
returns-in_err-operand-clause-value g c =
    let p = err_from_is_err_and c.from_residual.result c.from_residual.ensures.1 in
    let e = c.in_err-operand.ensures.value in
    rw (p.1, p.2) (sym c.loop-i.invariant.same ∙ one_fails _ _ _ _ _ _ _ c.loop-i-test.true e.0, e.1)
