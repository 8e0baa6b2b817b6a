-- the operands of a copy, read in order
use Rattle.std.proofs.lemmas.Result.{err_from_is_err_and}
use Rattle.gx_machine.proofs.Reading.{row_fails, row_done, one_and_store_read, one_and_store_fails_1}
use Rattle.gx_machine.proofs.Reading.{one_and_store_fails_2, copy_done}
use Rattle.gx_machine.proofs.quick.copied.Goals as goal

pub returns-in_err-a-clause-value : goal.returns-in_err-a-clause-value
returns-in_err-a-clause-value g c =
    let p = err_from_is_err_and c.from_residual-in_err-a.result c.from_residual-in_err-a.ensures.1 in
    let e = c.in_err-a.ensures.value in
    let pair = c.in_ok-first.ensures in
    rw (p.1, p.2) (row_fails _ _ _ c.in_err-a.field-0.0
    (one_and_store_fails_1 _ _ _ _ c.in_err-a.field-0.0 c.requires.plain c.requires.loads c.requires.stores
    pair.there pair.value e.0) e.1)

pub returns-in_err-dest-clause-value : goal.returns-in_err-dest-clause-value
returns-in_err-dest-clause-value g c =
    let p = err_from_is_err_and c.from_residual-in_err-dest.result c.from_residual-in_err-dest.ensures.1 in
    let e = c.in_err-dest.ensures.value in
    let pair = c.in_ok-first.ensures in
    rw (p.1, p.2) (row_fails _ _ _ c.in_err-dest.field-0.0
    (one_and_store_fails_2 _ _ _ _ _ _ c.in_err-dest.field-0.0 c.requires.plain c.requires.loads c.requires.stores
    pair.there pair.value c.in_ok-a.ensures.value e.0) e.1)

pub returns-clause-value : goal.returns-clause-value
returns-clause-value g c =
    let pair = c.in_ok-first.ensures in
    row_done _ _ _ _ _ _ (one_and_store_read _ _ _ _ _ _ _ _ c.requires.plain c.requires.loads c.requires.stores
    pair.there pair.value c.in_ok-a.ensures.value c.in_ok-dest.ensures.value)
    (copy_done _ _ _ _ _ _ _ c.requires.class c.requires.plain.width c.store_on.ensures.value)
