use Rattle.std.proofs.Common.{◌≡◌, true, rules}
use Rattle.std.proofs.lemmas.Result.{err_from_is_err_and}
use Rattle.glk_text_calls.specs.PuttingSaves.{takes_save}
use Rattle.glk_text_calls.proofs.Saving.{save_taken, save_refused}
use Rattle.glk_text_calls.proofs.saves.put_save.Goals as goal

pub returns-in_err-reply-clause-value : goal.returns-in_err-reply-clause-value
returns-in_err-reply-clause-value g c =
    let p = err_from_is_err_and c.from_residual.result c.from_residual.ensures.1 in
    let takes : takes_save c.args.world.now.scene c.args.stream c.args.bytes.now ≡ true = search rules in
    rw (p.1, p.2) (save_refused _ _ _ _ _ _ takes c.in_err-reply.ensures.value)

pub returns-clause-value : goal.returns-clause-value
returns-clause-value g c =
    let takes : takes_save c.args.world.now.scene c.args.stream c.args.bytes.now ≡ true = search rules in
    save_taken _ _ _ _ _ _ takes c.in_ok-reply.ensures.value

pub returns-clause-fits : goal.returns-clause-fits
returns-clause-fits g c = c.in_ok-reply.ensures.fits 0
