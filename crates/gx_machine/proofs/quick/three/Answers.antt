-- the operands of three loads, read in order
use Rattle.std.proofs.lemmas.Result.{err_from_is_err_and}
use Rattle.gx_machine.proofs.Reading.{row_fails, row_done, three_read, three_fails_1, three_fails_2, three_fails_3}
use Rattle.gx_machine.proofs.quick.three.Goals as goal

pub returns-in_err-a-clause-value : goal.returns-in_err-a-clause-value
returns-in_err-a-clause-value g c =
    let p = err_from_is_err_and c.from_residual-in_err-a.result c.from_residual-in_err-a.ensures.1 in
    let e = c.in_err-a.ensures.value in
    let pair = c.in_ok-first.ensures in
    rw (p.1, p.2) (row_fails _ _ _ c.in_err-a.field-0.0
    (three_fails_1 _ _ _ _ _ c.in_err-a.field-0.0 c.requires.plain c.requires.loads c.requires.stores pair.there
    pair.value.0 pair.value.1 e.0) e.1)

pub returns-in_err-b-clause-value : goal.returns-in_err-b-clause-value
returns-in_err-b-clause-value g c =
    let p = err_from_is_err_and c.from_residual-in_err-b.result c.from_residual-in_err-b.ensures.1 in
    let e = c.in_err-b.ensures.value in
    let pair = c.in_ok-first.ensures in
    rw (p.1, p.2) (row_fails _ _ _ c.in_err-b.field-0.0
    (three_fails_2 _ _ _ _ _ _ _ c.in_err-b.field-0.0 c.requires.plain c.requires.loads c.requires.stores
    pair.there pair.value.0 pair.value.1 c.in_ok-a.ensures.value e.0) e.1)

pub returns-in_err-c-clause-value : goal.returns-in_err-c-clause-value
returns-in_err-c-clause-value g c =
    let p = err_from_is_err_and c.from_residual-in_err-c.result c.from_residual-in_err-c.ensures.1 in
    let e = c.in_err-c.ensures.value in
    let pair = c.in_ok-first.ensures in
    rw (p.1, p.2) (row_fails _ _ _ c.in_err-c.field-0.0
    (three_fails_3 _ _ _ _ _ _ _ _ _ c.in_err-c.field-0.0 c.requires.plain c.requires.loads c.requires.stores
    pair.there pair.value.0 pair.value.1 c.in_ok-a.ensures.value c.in_ok-b.ensures.value e.0) e.1)

pub returns-clause-value : goal.returns-clause-value
returns-clause-value g c =
    let pair = c.in_ok-first.ensures in
    row_done _ _ _ _ _ _ (three_read _ _ _ _ _ _ _ _ _ _ _ c.requires.plain c.requires.loads c.requires.stores
    pair.there pair.value.0 pair.value.1 c.in_ok-a.ensures.value c.in_ok-b.ensures.value c.in_ok-c.ensures.value)
    c.do_three.ensures.value
