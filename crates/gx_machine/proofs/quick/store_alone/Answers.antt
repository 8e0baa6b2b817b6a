-- the operand of a store alone
use Rattle.std.proofs.lemmas.Result.{err_from_is_err_and}
use Rattle.gx_machine.proofs.Reading.{row_fails, row_done, store_read, store_fails_1}
use Rattle.gx_machine.proofs.quick.store_alone.Goals as goal

pub returns-in_err-dest-clause-value : goal.returns-in_err-dest-clause-value
returns-in_err-dest-clause-value g c =
    let p = err_from_is_err_and c.from_residual-in_err-dest.result c.from_residual-in_err-dest.ensures.1 in
    let e = c.in_err-dest.ensures.value in
    let pair = c.in_ok-first.ensures in
    rw (p.1, p.2) (row_fails _ _ _ c.in_err-dest.field-0.0
    (store_fails_1 _ _ _ _ c.in_err-dest.field-0.0 c.requires.plain c.requires.loads c.requires.stores pair.there
    pair.value e.0) e.1)

pub returns-clause-value : goal.returns-clause-value
returns-clause-value g c =
    let pair = c.in_ok-first.ensures in
    row_done _ _ _ _ _ _ (store_read _ _ _ _ _ _ c.requires.plain c.requires.loads c.requires.stores pair.there
    pair.value c.in_ok-dest.ensures.value) c.do_store.ensures.value
