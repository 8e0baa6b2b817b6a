use Rattle.std.proofs.Common.{sym}
use Rattle.std.proofs.lemmas.Result.{err_from_is_err_and}
use Rattle.gx_asm.proofs.ReadingTurns.{mode_fault}
use Rattle.gx_asm.proofs.texts.read_data.Goals as goal

pub returns-in_err-mode : goal.returns-in_err-mode
returns-in_err-mode c =
    let p = err_from_is_err_and c.from_residual-in_err-mode.result c.from_residual-in_err-mode.ensures.1 in
    rw (p.1, p.2) (mode_fault _ _ _ _ _ c.in_err-mode.field-0.0 c.in_ok-bytes.ensures c.len.ensures.value
    (sym c.in_err-mode.ensures))
