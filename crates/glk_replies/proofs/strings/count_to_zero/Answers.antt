use Rattle.std.proofs.Common.{sym, ◌∙◌, arith}
use Rattle.std.proofs.lemmas.Result.{err_from_is_err_and}
use Rattle.glk_replies.proofs.Counting.{fails}
use Rattle.glk_replies.proofs.strings.count_to_zero.Goals as goal

pub returns-in_err-try_number-clause-value : goal.returns-in_err-try_number-clause-value
returns-in_err-try_number-clause-value g c =
    let p = err_from_is_err_and c.from_residual.result c.from_residual.ensures.1 in
    let e = c.in_err-try_number.field-0.0 in
    rw (p.1, p.2) (
      sym c.loop-count.invariant.1 ∙ fails c.args.width c.loop-count.place c.loop-count.count e c.args.memory.now
          (omega (arith, c.loop-count-test.true, c.size-count-end.ensures.value))
          c.in_err-try_number.ensures.value.0,
      c.in_err-try_number.ensures.value.1,
    )
