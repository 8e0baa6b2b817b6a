use Rattle.std.proofs.Common.{refl}
use Rattle.std.proofs.lemmas.Result.{err_from_is_err_and}
use Rattle.gx_session.specs.Configurations.{steps}
use Rattle.gx_session.specs.Holding.{held_by, asking_in}
use Rattle.gx_session.specs.Constants.{enough}
use Rattle.gx_session.proofs.Playing.{flushed, cut-send}
use Rattle.gx_session.proofs.running.send_due.Goals as goal

pub returns-in_err-flush-clause-plays : goal.returns-in_err-flush-clause-plays
returns-in_err-flush-clause-plays g c coming start entry d s =
    let p = err_from_is_err_and c.from_residual.result c.from_residual.ensures.1 in
    rw (p.1, p.2)
    ((cut-send start entry (held_by g.E.Engine.whole g.E.Engine.log c.args.run.now coming)
    (record d { sink = c.args.output.now }) c.flush.new.world c.flush.new.output steps enough (λ m text. refl)
    (asking_in g.E.Engine.whole c.args.run.now)
    c.in_err-flush.field-0.0 s c.requires c.in_err-flush.ensures.only c.in_err-flush.ensures.sends))

pub returns-clause-plays : goal.returns-clause-plays
returns-clause-plays g c coming start entry d s =
    (flushed start entry (held_by g.E.Engine.whole g.E.Engine.log c.args.run.now coming)
    (record d { sink = c.args.output.now }) c.flush.new.world c.flush.new.output steps enough
    (λ m text. refl) s c.in_ok-flush.ensures.sends)
