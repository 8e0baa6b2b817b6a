use Rattle.std.proofs.lemmas.Result.{err_from_is_err_and}
use Rattle.gx_machine.specs.SavedCopies.{restored}
use Rattle.gx_session.proofs.Answering.{give-early, flush-early, flush-on}
use Rattle.gx_session.proofs.saves.resume.Goals as goal

pub returns-in_err-go_back-clause-plays : goal.returns-in_err-go_back-clause-plays
returns-in_err-go_back-clause-plays g c coming start entry d r =
    let p = err_from_is_err_and c.from_residual.result c.from_residual.ensures.1 in
    rw (p.1, p.2)
    (give-early g.E.Engine.whole g.E.Engine.log c.args.run.now c.go_back.new.run coming
    (restored (g.E.Engine.whole c.args.run.now.engine).machine c.args.copy.now) c.args.left start entry
    (record d { sink = c.args.output.now })
    (Unit {0}) r c.in_err-go_back.field-0.0 c.in_err-go_back.ensures.memory tt c.in_err-go_back.ensures.gives)

pub returns-in_err-flush-clause-plays : goal.returns-in_err-flush-clause-plays
returns-in_err-flush-clause-plays g c coming start entry d r =
    let p = err_from_is_err_and c.from_residual-in_err-flush.result c.from_residual-in_err-flush.ensures.1 in
    rw (p.1, p.2)
    (flush-early g.E.Engine.whole g.E.Engine.log c.args.run.now c.go_back.new.run coming
    (restored (g.E.Engine.whole c.args.run.now.engine).machine c.args.copy.now) c.args.left start entry
    (record d { sink = c.args.output.now }) (Unit {0}) r c.in_ok-go_back.ensures.gives c.flush.new.world
    c.flush.new.output
    c.in_err-flush.field-0.0 c.in_err-flush.ensures.only c.in_err-flush.ensures.sends)

pub returns-clause-plays : goal.returns-clause-plays
returns-clause-plays g c coming start entry d r =
    flush-on g.E.Engine.whole g.E.Engine.log c.args.run.now c.go_back.new.run coming
    (restored (g.E.Engine.whole c.args.run.now.engine).machine c.args.copy.now) c.args.left start entry
    (record d { sink = c.args.output.now }) (Unit {0}) r c.in_ok-go_back.ensures.gives c.flush.new.world
    c.flush.new.output c.in_ok-flush.ensures.sends
