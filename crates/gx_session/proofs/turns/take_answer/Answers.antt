use Rattle.gx_session.specs.Holding.{held_by, asking_in}
use Rattle.gx_session.proofs.Asking.{given-answers}
use Rattle.gx_session.proofs.turns.take_answer.Goals as goal

pub returns-clause-plays : goal.returns-clause-plays
returns-clause-plays g c coming start entry d r =
    c.answer.ensures.plays coming start entry d
    (given-answers start entry (held_by g.E.Engine.whole g.E.Engine.log c.args.run.now coming)
    (record d { sink = c.args.output.now }) (asking_in g.E.Engine.whole c.args.run.now) c.args.wait c.args.turn
    c.in-Answer.reply c.in-Answer.is r)
