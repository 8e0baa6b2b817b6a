use Rattle.std.proofs.Common.{ap}
use Rattle.std.proofs.lemmas.Result.{err_from_is_err_and}
use Rattle.gx_machine.specs.Answer.{answer_of}
use Rattle.gx_machine.specs.Machine.{Whole}
use Rattle.gx_session.specs.Wants.{ReplyWants}
use Rattle.gx_session.proofs.Answering.{give-early, given-standing, given-leads}
use Rattle.gx_session.proofs.running.answer.Goals as goal

pub returns-in_err-give-clause-plays : goal.returns-in_err-give-clause-plays
returns-in_err-give-clause-plays g c coming start entry d r =
    let p = err_from_is_err_and c.from_residual.result c.from_residual.ensures.1 in
    rw (p.1, p.2)
    (give-early g.E.Engine.whole g.E.Engine.log c.args.run.now c.give.new.run coming
    (answer_of (g.E.Engine.whole c.args.run.now.engine).machine c.args.reply.now) c.args.left start entry
    (record d { sink = c.args.output.now })
    (ReplyWants (g.E.Engine.log c.args.run.now.engine) (g.E.Engine.whole c.args.run.now.engine).machine
    c.args.reply.now) r c.in_err-give.field-0.0 c.in_err-give.ensures.memory c.in_err-give.ensures.wants
    c.in_err-give.ensures.gives)

pub returns-clause-plays : goal.returns-clause-plays
returns-clause-plays g c coming start entry d r =
    c.send_due.ensures.plays coming start entry d
    (given-standing g.E.Engine.whole g.E.Engine.log c.args.run.now c.give.new.run coming
    (answer_of (g.E.Engine.whole c.args.run.now.engine).machine c.args.reply.now) c.args.left start entry
    (record d { sink = c.args.output.now })
    (ReplyWants (g.E.Engine.log c.args.run.now.engine)
    (g.E.Engine.whole c.args.run.now.engine).machine c.args.reply.now) r c.in_ok-give.ensures.gives)

pub send_due-requires : goal.send_due-requires
send_due-requires g c = ap (λ (w : Whole). w.asking) c.in_ok-give.ensures.gives.ok.0

pub returns-clause-leads : goal.returns-clause-leads
returns-clause-leads g c =
    given-leads g.E.Engine.whole g.E.Engine.log c.args.run.now c.give.new.run c.send_due.new.run
    (answer_of (g.E.Engine.whole c.args.run.now.engine).machine c.args.reply.now) c.args.left c.requires.fewer
    c.requires.fits.pending c.requires.room c.in_ok-give.ensures.gives
    c.send_due.ensures.same c.send_due.result c.send_due.ensures.goes
