use Rattle.std.proofs.Common.{ap, is_some}
use Rattle.gx_machine.specs.Answer.{answer_of}
use Rattle.gx_machine.specs.Machine.{Whole}
use Rattle.glk_replies.specs.Parts.{replies}
use Rattle.gx_session.proofs.Answering.{given-standing, given-leads}
use Rattle.gx_session.proofs.running.answer_put.Goals as goal

pub returns-clause-plays : goal.returns-clause-plays
returns-clause-plays g c coming start entry d r =
    c.send_due.ensures.plays coming start entry d
    (given-standing g.E.Engine.whole g.E.Engine.log c.args.run.now c.give_put.new.run coming
    (answer_of (g.E.Engine.whole c.args.run.now.engine).machine (replies 0)) c.args.left start entry
    (record d { sink = c.args.output.now })
    (Unit {0}) r
    (record { ok = (c.give_put.ensures.engine, c.give_put.ensures.same, c.give_put.ensures.logs); err = tt }))

pub send_due-requires : goal.send_due-requires
send_due-requires g c = ap (λ (w : Whole). w.asking) c.give_put.ensures.engine

pub returns-clause-leads : goal.returns-clause-leads
returns-clause-leads g c =
    given-leads g.E.Engine.whole g.E.Engine.log c.args.run.now c.give_put.new.run c.send_due.new.run
    (answer_of (g.E.Engine.whole c.args.run.now.engine).machine (replies 0)) c.args.left c.requires.fewer
    (ap is_some c.requires.asks) c.requires.room
    (record { ok = (c.give_put.ensures.engine, c.give_put.ensures.same, c.give_put.ensures.logs); err = tt })
    c.send_due.ensures.same c.send_due.result c.send_due.ensures.goes
