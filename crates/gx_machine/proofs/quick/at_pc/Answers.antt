-- no instruction stands at PC
use Rattle.std.proofs.Common.{refl}
use Rattle.std.proofs.lemmas.Result.{err_from_is_err_and}
use Rattle.gx_machine.specs.Views.{machine_with}
use Rattle.gx_machine.proofs.Tries.{no_number, no_row}
use Rattle.gx_machine.proofs.quick.at_pc.Goals as goal

pub returns-in_err-number-clause-value : goal.returns-in_err-number-clause-value
returns-in_err-number-clause-value g c =
    let p = err_from_is_err_and c.from_residual.result c.from_residual.ensures.1 in
    let e = c.in_err-number.ensures.value in
    rw (p.1, p.2) (λ u word. (
      refl,
      (
        (λ given. no_number
            (machine_with c.args.state.now u) word c.in_err-number.field-0.0 e.0),
        (λ none. absurd (e.1 none)),
      ),
    ))

pub returns-in_err-place-clause-value : goal.returns-in_err-place-clause-value
returns-in_err-place-clause-value g c =
    let p = err_from_is_err_and c.from_residual-in_err-place.result c.from_residual-in_err-place.ensures.1 in
    let e = c.in_err-place.ensures.row in
    rw (p.1, p.2) (λ u word. (
      refl,
      (
        (λ given. no_row (machine_with c.args.state.now u) word _ _
            c.in_err-place.field-0.0 c.in_ok-number.ensures.value e.0),
        (λ none. absurd (e.1 none)),
      ),
    ))
