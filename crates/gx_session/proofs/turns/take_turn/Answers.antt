use Rattle.std.proofs.Common.{subst}
use Rattle.glk_replies.specs.declared.Turn.TheVariants as turn
use Rattle.gx_session.specs.declared.ends.Stop.TheVariants as stop
use Rattle.gx_session.specs.declared.questions.Question.{Question}
use Rattle.gx_session.specs.declared.questions.Question.TheVariants as question
use Rattle.gx_session.specs.Holding.{Handed, HeldRun, held_by, asking_in}
use Rattle.gx_session.specs.Standing.{TakesTurn, HasStopped}
use Rattle.gx_session.specs.Outcomes.{EventGives}
use Rattle.gx_session.specs.Questions.{turn_of}
use Rattle.gx_session.proofs.Asking.{called, turn-answers, turn-asks, turn-stuck, turn-exits, question-turns}
use Rattle.gx_session.proofs.Calling.{called-none, called-as, asked-none}
use Rattle.gx_session.proofs.Feeding.{fed-same, fed-lines, fed-as}
use Rattle.gx_session.proofs.turns.take_turn.Goals as goal

pub returns-in-Answer-clause-plays : goal.returns-in-Answer-clause-plays
returns-in-Answer-clause-plays g c =
    called-none g.F.Shelf.called c.args.shelf.now _
    (fed-lines g.S.Source.called g.S.Source.seen c.args.run.now.lines c.answer.new.run.lines c.args.input.now _
    c.answer.ensures.lines
    (λ x start entry d told r.
    let now : Handed g.K.Sink.called = record d {
      source = g.S.Source.seen c.args.input.now;
      sink = c.args.output.now;
      shelf = g.F.Shelf.seen c.args.shelf.now;
    } in
    asked-none (record now { sink = c.answer.new.output })
    (λ (e : Handed g.K.Sink.called). EventGives start entry
    (held_by g.E.Engine.whole g.E.Engine.log c.answer.new.run x)
    (asking_in g.E.Engine.whole c.answer.new.run) e c.answer.result)
    (c.answer.ensures.plays x start entry now
    (turn-answers start entry (held_by g.E.Engine.whole g.E.Engine.log c.args.run.now x) now
    (asking_in g.E.Engine.whole c.args.run.now) c.args.wait c.args.turn r c.in-Answer.reply c.in-Answer.is))))

pub returns-in-Wait-clause-plays : goal.returns-in-Wait-clause-plays
returns-in-Wait-clause-plays g c =
    called-none g.F.Shelf.called c.args.shelf.now _
    (fed-as g.S.Source.called g.S.Source.seen c.args.run.now.lines c.wait_for_line.new.run.lines c.args.input.now
    c.wait_for_line.new.input _ _ c.wait_for_line.ensures.plays
    (λ x y plays start entry d told r.
    let now : Handed g.K.Sink.called = record d {
      source = g.S.Source.seen c.args.input.now;
      sink = c.args.output.now;
      shelf = g.F.Shelf.seen c.args.shelf.now;
    } in
    asked-none (record now { source = g.S.Source.seen c.wait_for_line.new.input; sink = c.wait_for_line.new.output })
    (λ (e : Handed g.K.Sink.called). EventGives start entry
    (held_by g.E.Engine.whole g.E.Engine.log c.wait_for_line.new.run y)
    (asking_in g.E.Engine.whole c.wait_for_line.new.run) e c.wait_for_line.result)
    (plays turn.Wait start entry now tt
    (subst (TakesTurn start entry (held_by g.E.Engine.whole g.E.Engine.log c.args.run.now x)
    (asking_in g.E.Engine.whole c.args.run.now) now c.args.wait) c.in-Wait.is r))))

pub returns-in-Prompt-clause-plays : goal.returns-in-Prompt-clause-plays
returns-in-Prompt-clause-plays g c =
    called-none g.F.Shelf.called c.args.shelf.now _
    (fed-as g.S.Source.called g.S.Source.seen c.args.run.now.lines c.wait_for_line-in-Prompt.new.run.lines
    c.args.input.now c.wait_for_line-in-Prompt.new.input _ _ c.wait_for_line-in-Prompt.ensures.plays
    (λ x y plays start entry d told r.
    let now : Handed g.K.Sink.called = record d {
      source = g.S.Source.seen c.args.input.now;
      sink = c.args.output.now;
      shelf = g.F.Shelf.seen c.args.shelf.now;
    } in
    asked-none (record now {
      source = g.S.Source.seen c.wait_for_line-in-Prompt.new.input;
      sink = c.wait_for_line-in-Prompt.new.output;
    })
    (λ (e : Handed g.K.Sink.called). EventGives start entry
    (held_by g.E.Engine.whole g.E.Engine.log c.wait_for_line-in-Prompt.new.run y)
    (asking_in g.E.Engine.whole c.wait_for_line-in-Prompt.new.run) e c.wait_for_line-in-Prompt.result)
    (plays turn.Prompt start entry now tt
    (subst (TakesTurn start entry (held_by g.E.Engine.whole g.E.Engine.log c.args.run.now x)
    (asking_in g.E.Engine.whole c.args.run.now) now c.args.wait) c.in-Prompt.is r))))

pub returns-in-Stuck-clause-plays : goal.returns-in-Stuck-clause-plays
returns-in-Stuck-clause-plays g c =
    called-none g.F.Shelf.called c.args.shelf.now _
    (fed-same g.S.Source.called g.S.Source.seen c.args.run.now.lines c.args.input.now _
    (λ x start entry d told r.
    let now : Handed g.K.Sink.called = record d {
      source = g.S.Source.seen c.args.input.now;
      sink = c.args.output.now;
      shelf = g.F.Shelf.seen c.args.shelf.now;
    } in
    let h : HeldRun = held_by g.E.Engine.whole g.E.Engine.log c.args.run.now x in
    asked-none now (λ (e : Handed g.K.Sink.called).
    HasStopped start entry h (asking_in g.E.Engine.whole c.args.run.now) e stop.Stuck)
    (turn-stuck start entry h now (asking_in g.E.Engine.whole c.args.run.now) c.args.wait c.args.turn r c.in-Stuck.is)))

pub returns-in-Exit-clause-plays : goal.returns-in-Exit-clause-plays
returns-in-Exit-clause-plays g c =
    called-none g.F.Shelf.called c.args.shelf.now _
    (fed-same g.S.Source.called g.S.Source.seen c.args.run.now.lines c.args.input.now _
    (λ x start entry d told r.
    let now : Handed g.K.Sink.called = record d {
      source = g.S.Source.seen c.args.input.now;
      sink = c.args.output.now;
      shelf = g.F.Shelf.seen c.args.shelf.now;
    } in
    let h : HeldRun = held_by g.E.Engine.whole g.E.Engine.log c.args.run.now x in
    asked-none now (λ (e : Handed g.K.Sink.called). HasStopped start entry (record h { left = c.args.wait.left })
    (asking_in g.E.Engine.whole c.args.run.now) e stop.Exited)
    (turn-exits start entry h now (asking_in g.E.Engine.whole c.args.run.now) c.args.wait c.args.turn r c.in-Exit.is)))

pub returns-in-Load-clause-plays : goal.returns-in-Load-clause-plays
returns-in-Load-clause-plays g c =
    called-as g.F.Shelf.called c.args.shelf.now c.consult.new.shelf _ _ c.consult.ensures.plays
    (λ calls plays.
    fed-lines g.S.Source.called g.S.Source.seen c.args.run.now.lines c.consult.new.run.lines c.args.input.now _
    c.consult.ensures.lines
    (λ x start entry d told r.
    let now : Handed g.K.Sink.called = record d {
      source = g.S.Source.seen c.args.input.now;
      sink = c.args.output.now;
      shelf = g.F.Shelf.seen c.args.shelf.now;
    } in
    let q : Question = question.Load c.in-Load.name in
    let h : HeldRun = held_by g.E.Engine.whole g.E.Engine.log c.args.run.now x in
    let turns : TakesTurn start entry h (asking_in g.E.Engine.whole c.args.run.now) now c.args.wait (turn_of q) =
    subst (TakesTurn start entry h (asking_in g.E.Engine.whole c.args.run.now) now c.args.wait) c.in-Load.is r in
    plays x start entry now told
    (turn-asks start entry h now (asking_in g.E.Engine.whole c.args.run.now) c.args.wait (turn_of q) turns
    (question-turns (called start entry h now (asking_in g.E.Engine.whole c.args.run.now) c.args.wait
    (turn_of q) turns) c.args.wait turns.said q))))

pub returns-in-Store-clause-plays : goal.returns-in-Store-clause-plays
returns-in-Store-clause-plays g c =
    called-as g.F.Shelf.called c.args.shelf.now c.consult-in-Store.new.shelf _ _ c.consult-in-Store.ensures.plays
    (λ calls plays.
    fed-lines g.S.Source.called g.S.Source.seen c.args.run.now.lines c.consult-in-Store.new.run.lines c.args.input.now
    _ c.consult-in-Store.ensures.lines
    (λ x start entry d told r.
    let now : Handed g.K.Sink.called = record d {
      source = g.S.Source.seen c.args.input.now;
      sink = c.args.output.now;
      shelf = g.F.Shelf.seen c.args.shelf.now;
    } in
    let q : Question = question.Store c.in-Store.name c.in-Store.bytes in
    let h : HeldRun = held_by g.E.Engine.whole g.E.Engine.log c.args.run.now x in
    let turns : TakesTurn start entry h (asking_in g.E.Engine.whole c.args.run.now) now c.args.wait (turn_of q) =
    subst (TakesTurn start entry h (asking_in g.E.Engine.whole c.args.run.now) now c.args.wait) c.in-Store.is r in
    plays x start entry now told
    (turn-asks start entry h now (asking_in g.E.Engine.whole c.args.run.now) c.args.wait (turn_of q) turns
    (question-turns (called start entry h now (asking_in g.E.Engine.whole c.args.run.now) c.args.wait
    (turn_of q) turns) c.args.wait turns.said q))))

pub returns-in-Remove-clause-plays : goal.returns-in-Remove-clause-plays
returns-in-Remove-clause-plays g c =
    called-as g.F.Shelf.called c.args.shelf.now c.consult-in-Remove.new.shelf _ _ c.consult-in-Remove.ensures.plays
    (λ calls plays.
    fed-lines g.S.Source.called g.S.Source.seen c.args.run.now.lines c.consult-in-Remove.new.run.lines
    c.args.input.now _ c.consult-in-Remove.ensures.lines
    (λ x start entry d told r.
    let now : Handed g.K.Sink.called = record d {
      source = g.S.Source.seen c.args.input.now;
      sink = c.args.output.now;
      shelf = g.F.Shelf.seen c.args.shelf.now;
    } in
    let q : Question = question.Remove c.in-Remove.name in
    let h : HeldRun = held_by g.E.Engine.whole g.E.Engine.log c.args.run.now x in
    let turns : TakesTurn start entry h (asking_in g.E.Engine.whole c.args.run.now) now c.args.wait (turn_of q) =
    subst (TakesTurn start entry h (asking_in g.E.Engine.whole c.args.run.now) now c.args.wait) c.in-Remove.is r in
    plays x start entry now told
    (turn-asks start entry h now (asking_in g.E.Engine.whole c.args.run.now) c.args.wait (turn_of q) turns
    (question-turns (called start entry h now (asking_in g.E.Engine.whole c.args.run.now) c.args.wait
    (turn_of q) turns) c.args.wait turns.said q))))

pub returns-in-Has-clause-plays : goal.returns-in-Has-clause-plays
returns-in-Has-clause-plays g c =
    called-as g.F.Shelf.called c.args.shelf.now c.consult-in-Has.new.shelf _ _ c.consult-in-Has.ensures.plays
    (λ calls plays.
    fed-lines g.S.Source.called g.S.Source.seen c.args.run.now.lines c.consult-in-Has.new.run.lines c.args.input.now _
    c.consult-in-Has.ensures.lines
    (λ x start entry d told r.
    let now : Handed g.K.Sink.called = record d {
      source = g.S.Source.seen c.args.input.now;
      sink = c.args.output.now;
      shelf = g.F.Shelf.seen c.args.shelf.now;
    } in
    let q : Question = question.Has c.in-Has.name in
    let h : HeldRun = held_by g.E.Engine.whole g.E.Engine.log c.args.run.now x in
    let turns : TakesTurn start entry h (asking_in g.E.Engine.whole c.args.run.now) now c.args.wait (turn_of q) =
    subst (TakesTurn start entry h (asking_in g.E.Engine.whole c.args.run.now) now c.args.wait) c.in-Has.is r in
    plays x start entry now told
    (turn-asks start entry h now (asking_in g.E.Engine.whole c.args.run.now) c.args.wait (turn_of q) turns
    (question-turns (called start entry h now (asking_in g.E.Engine.whole c.args.run.now) c.args.wait
    (turn_of q) turns) c.args.wait turns.said q))))

pub returns-in-Answer-clause-keeps : goal.returns-in-Answer-clause-keeps
returns-in-Answer-clause-keeps g c d = c.answer.ensures.keeps
    (record d { source = g.S.Source.seen c.args.input.now; shelf = g.F.Shelf.seen c.args.shelf.now })

pub returns-in-Wait-clause-keeps : goal.returns-in-Wait-clause-keeps
returns-in-Wait-clause-keeps g c d = c.wait_for_line.ensures.keeps
    (record d { shelf = g.F.Shelf.seen c.args.shelf.now })

pub returns-in-Prompt-clause-keeps : goal.returns-in-Prompt-clause-keeps
returns-in-Prompt-clause-keeps g c d = c.wait_for_line-in-Prompt.ensures.keeps
    (record d { shelf = g.F.Shelf.seen c.args.shelf.now })

pub returns-in-Load-clause-keeps : goal.returns-in-Load-clause-keeps
returns-in-Load-clause-keeps g c d = c.consult.ensures.keeps (record d { source = g.S.Source.seen c.args.input.now })

pub returns-in-Store-clause-keeps : goal.returns-in-Store-clause-keeps
returns-in-Store-clause-keeps g c d = c.consult-in-Store.ensures.keeps
    (record d { source = g.S.Source.seen c.args.input.now })

pub returns-in-Remove-clause-keeps : goal.returns-in-Remove-clause-keeps
returns-in-Remove-clause-keeps g c d = c.consult-in-Remove.ensures.keeps
    (record d { source = g.S.Source.seen c.args.input.now })

pub returns-in-Has-clause-keeps : goal.returns-in-Has-clause-keeps
returns-in-Has-clause-keeps g c d = c.consult-in-Has.ensures.keeps
    (record d { source = g.S.Source.seen c.args.input.now })
