-- the operands of arithmetic on two, read in order
use Rattle.std.proofs.Common.{refl, sym}
use Rattle.std.proofs.lemmas.Result.{err_from_is_err_and}
use Rattle.gx_machine.proofs.Reading.{row_fails, row_done, two_and_store_read, two_and_store_fails_1}
use Rattle.gx_machine.proofs.Reading.{two_and_store_fails_2, two_and_store_fails_3, calc_done, no_quotient_row}
use Rattle.gx_machine.proofs.quick.computed.Goals as goal

pub returns-in_err-a-clause-value : goal.returns-in_err-a-clause-value
returns-in_err-a-clause-value g c =
    let p = err_from_is_err_and c.from_residual-in_err-a.result c.from_residual-in_err-a.ensures.1 in
    let e = c.in_err-a.ensures.value in
    let pair = c.in_ok-first.ensures in
    rw (p.1, p.2) (row_fails _ _ _ c.in_err-a.field-0.0
    (two_and_store_fails_1 _ _ _ _ _ c.in_err-a.field-0.0 c.requires.plain c.requires.loads c.requires.stores
    pair.there pair.value.0 pair.value.1 e.0) e.1)

pub returns-in_err-b-clause-value : goal.returns-in_err-b-clause-value
returns-in_err-b-clause-value g c =
    let p = err_from_is_err_and c.from_residual-in_err-b.result c.from_residual-in_err-b.ensures.1 in
    let e = c.in_err-b.ensures.value in
    let pair = c.in_ok-first.ensures in
    rw (p.1, p.2) (row_fails _ _ _ c.in_err-b.field-0.0
    (two_and_store_fails_2 _ _ _ _ _ _ _ c.in_err-b.field-0.0 c.requires.plain c.requires.loads c.requires.stores
    pair.there pair.value.0 pair.value.1 c.in_ok-a.ensures.value e.0) e.1)

pub returns-in_err-dest-in-Some-clause-value : goal.returns-in_err-dest-in-Some-clause-value
returns-in_err-dest-in-Some-clause-value g c =
    let p = err_from_is_err_and c.from_residual-in_err-dest-in-Some.result
    c.from_residual-in_err-dest-in-Some.ensures.1 in
    let e = c.in_err-dest-in-Some.ensures.value in
    let pair = c.in_ok-first.ensures in
    rw (p.1, p.2) (row_fails _ _ _ c.in_err-dest-in-Some.field-0.0
    (two_and_store_fails_3 _ _ _ _ _ _ _ _ _ c.in_err-dest-in-Some.field-0.0 c.requires.plain c.requires.loads
    c.requires.stores pair.there pair.value.0 pair.value.1 c.in_ok-a.ensures.value c.in_ok-b.ensures.value e.0) e.1)

pub returns-in_ok-dest-in-Some-clause-value : goal.returns-in_ok-dest-in-Some-clause-value
returns-in_ok-dest-in-Some-clause-value g c =
    let pair = c.in_ok-first.ensures in
    row_done _ _ _ _ _ _ (two_and_store_read _ _ _ _ _ _ _ _ _ _ _ c.requires.plain c.requires.loads c.requires.stores
    pair.there pair.value.0 pair.value.1 c.in_ok-a.ensures.value c.in_ok-b.ensures.value
    c.in_ok-dest-in-Some.ensures.value)
    (calc_done _ _ _ _ _ _ _ _ _ c.requires.class (sym c.in-Some.ensures) c.store_on.ensures.value)

pub returns-in-None-clause-value : goal.returns-in-None-clause-value
returns-in-None-clause-value g c =
    let pair = c.in_ok-first.ensures in (
      refl,
      (
        (λ given. no_quotient_row _ _ _ _ _ _ _ _ _ _ c.requires.class c.requires.plain c.requires.loads
            c.requires.stores pair.there pair.value.0 pair.value.1 c.in_ok-a.ensures.value c.in_ok-b.ensures.value
            (sym c.in-None.ensures) _ refl c.no_quotient.ensures.value),
        (λ none. absurd (c.no_quotient.ensures.free none)),
      ),
    )
