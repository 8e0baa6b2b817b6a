-- the frame has no such local
use Rattle.std.proofs.Common.{ap}
use Rattle.std.proofs.lemmas.Result.{err_from_is_err_and}
use Rattle.gx_state.specs.Flat.{HeldState}
use Rattle.gx_machine.proofs.Pops.{no_local}
use Rattle.gx_machine.proofs.quick_acts.store_on.Goals as goal

pub returns-in_err-set_local-in-Local-clause-value : goal.returns-in_err-set_local-in-Local-clause-value
returns-in_err-set_local-in-Local-clause-value g c =
    let p = err_from_is_err_and c.from_residual.result c.from_residual.ensures.1 in
    let e = c.in_err-set_local-in-Local.ensures.value in
    rw (p.1, p.2, c.in-Local.is) (
      ap (λ (h : HeldState). h.flat) e.0,
      ((λ given. no_local _ _ _ _ _ _ e.1), (λ none. absurd (e.2 none))),
    )
