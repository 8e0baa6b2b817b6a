use Rattle.std.proofs.Common.{None, subst}
use Rattle.gx_session.specs.declared.ends.Stop.TheVariants as stop
use Rattle.gx_session.specs.Holding.{Handed, HeldRun, held_by, asking_in}
use Rattle.gx_session.specs.Standing.{Going, HasStopped, Follows}
use Rattle.gx_session.specs.Outcomes.{EventGives}
use Rattle.gx_session.proofs.Asking.{went-on, drew-on, quit-on, spent-on}
use Rattle.gx_session.proofs.Calling.{called-none, called-as, asked-none}
use Rattle.gx_session.proofs.Feeding.{fed-same, fed-lines, fed-as}
use Rattle.gx_session.proofs.events.follow.Goals as goal

pub returns-in-Went-clause-plays : goal.returns-in-Went-clause-plays
returns-in-Went-clause-plays g c =
    called-none g.F.Shelf.called c.args.shelf.now _
    (fed-same g.S.Source.called g.S.Source.seen c.args.run.now.lines c.args.input.now _
    (λ x start entry d told f.
    let now : Handed g.K.Sink.called = record d {
      source = g.S.Source.seen c.args.input.now;
      sink = c.args.output.now;
      shelf = g.F.Shelf.seen c.args.shelf.now;
    } in
    let h : HeldRun = held_by g.E.Engine.whole g.E.Engine.log c.args.run.now x in
    asked-none now (Going start entry (record h { left = c.args.left }))
    (went-on start entry h now c.args.left (subst (Follows start entry h now c.args.left) c.in-Went.is f))))

pub returns-in-Drew-clause-plays : goal.returns-in-Drew-clause-plays
returns-in-Drew-clause-plays g c =
    called-none g.F.Shelf.called c.args.shelf.now _
    (fed-same g.S.Source.called g.S.Source.seen c.args.run.now.lines c.args.input.now _
    (λ x start entry d told f.
    let now : Handed g.K.Sink.called = record d {
      source = g.S.Source.seen c.args.input.now;
      sink = c.args.output.now;
      shelf = g.F.Shelf.seen c.args.shelf.now;
    } in
    let h : HeldRun = held_by g.E.Engine.whole g.E.Engine.log c.args.run.now x in
    asked-none now (Going start entry (record h { left = c.args.left; word = None }))
    (drew-on start entry h now c.args.left (subst (Follows start entry h now c.args.left) c.in-Drew.is f))))

pub returns-in-Put-clause-plays : goal.returns-in-Put-clause-plays
returns-in-Put-clause-plays g c =
    called-none g.F.Shelf.called c.args.shelf.now _
    (fed-lines g.S.Source.called g.S.Source.seen c.args.run.now.lines c.ask_put.new.run.lines c.args.input.now _
    c.ask_put.ensures.lines
    (λ x start entry d told f.
    let now : Handed g.K.Sink.called = record d {
      source = g.S.Source.seen c.args.input.now;
      sink = c.args.output.now;
      shelf = g.F.Shelf.seen c.args.shelf.now;
    } in
    let h : HeldRun = held_by g.E.Engine.whole g.E.Engine.log c.args.run.now x in
    asked-none (record now { sink = c.ask_put.new.output })
    (λ (e : Handed g.K.Sink.called). EventGives start entry
    (held_by g.E.Engine.whole g.E.Engine.log c.ask_put.new.run x)
    (asking_in g.E.Engine.whole c.ask_put.new.run) e c.ask_put.result)
    (c.ask_put.ensures.plays x start entry now (subst (Follows start entry h now c.args.left) c.in-Put.is f))))

pub returns-in-Save-clause-plays : goal.returns-in-Save-clause-plays
returns-in-Save-clause-plays g c =
    called-none g.F.Shelf.called c.args.shelf.now _
    (fed-lines g.S.Source.called g.S.Source.seen c.args.run.now.lines c.ask_save.new.run.lines c.args.input.now _
    c.ask_save.ensures.lines
    (λ x start entry d told f.
    let now : Handed g.K.Sink.called = record d {
      source = g.S.Source.seen c.args.input.now;
      sink = c.args.output.now;
      shelf = g.F.Shelf.seen c.args.shelf.now;
    } in
    let h : HeldRun = held_by g.E.Engine.whole g.E.Engine.log c.args.run.now x in
    asked-none (record now { sink = c.ask_save.new.output })
    (λ (e : Handed g.K.Sink.called). EventGives start entry
    (held_by g.E.Engine.whole g.E.Engine.log c.ask_save.new.run x)
    (asking_in g.E.Engine.whole c.ask_save.new.run) e c.ask_save.result)
    (c.ask_save.ensures.plays x start entry now (subst (Follows start entry h now c.args.left) c.in-Save.is f))))

pub returns-in-Restore-clause-plays : goal.returns-in-Restore-clause-plays
returns-in-Restore-clause-plays g c =
    called-none g.F.Shelf.called c.args.shelf.now _
    (fed-lines g.S.Source.called g.S.Source.seen c.args.run.now.lines c.ask_restore.new.run.lines c.args.input.now _
    c.ask_restore.ensures.lines
    (λ x start entry d told f.
    let now : Handed g.K.Sink.called = record d {
      source = g.S.Source.seen c.args.input.now;
      sink = c.args.output.now;
      shelf = g.F.Shelf.seen c.args.shelf.now;
    } in
    let h : HeldRun = held_by g.E.Engine.whole g.E.Engine.log c.args.run.now x in
    asked-none (record now { sink = c.ask_restore.new.output })
    (λ (e : Handed g.K.Sink.called). EventGives start entry
    (held_by g.E.Engine.whole g.E.Engine.log c.ask_restore.new.run x)
    (asking_in g.E.Engine.whole c.ask_restore.new.run) e c.ask_restore.result)
    (c.ask_restore.ensures.plays x start entry now (subst (Follows start entry h now c.args.left) c.in-Restore.is f))))

pub returns-in-Glk-clause-plays : goal.returns-in-Glk-clause-plays
returns-in-Glk-clause-plays g c =
    called-as g.F.Shelf.called c.args.shelf.now c.ask_glk.new.shelf _ _ c.ask_glk.ensures.plays
    (λ calls fed.
    fed-as g.S.Source.called g.S.Source.seen c.args.run.now.lines c.ask_glk.new.run.lines c.args.input.now
    c.ask_glk.new.input _ _ fed
    (λ x y plays start entry d told f.
    let now : Handed g.K.Sink.called = record d {
      source = g.S.Source.seen c.args.input.now;
      sink = c.args.output.now;
      shelf = g.F.Shelf.seen c.args.shelf.now;
    } in
    let h : HeldRun = held_by g.E.Engine.whole g.E.Engine.log c.args.run.now x in
    plays start entry now told (subst (Follows start entry h now c.args.left) c.in-Glk.is f)))

pub returns-in-Quit-clause-plays : goal.returns-in-Quit-clause-plays
returns-in-Quit-clause-plays g c =
    called-none g.F.Shelf.called c.args.shelf.now _
    (fed-same g.S.Source.called g.S.Source.seen c.args.run.now.lines c.args.input.now _
    (λ x start entry d told f.
    let now : Handed g.K.Sink.called = record d {
      source = g.S.Source.seen c.args.input.now;
      sink = c.args.output.now;
      shelf = g.F.Shelf.seen c.args.shelf.now;
    } in
    let h : HeldRun = held_by g.E.Engine.whole g.E.Engine.log c.args.run.now x in
    let asking = asking_in g.E.Engine.whole c.args.run.now in
    asked-none now (λ (e : Handed g.K.Sink.called).
    HasStopped start entry (record h { left = c.args.left }) asking e stop.Ended)
    (quit-on start entry h now c.args.left asking (rw c.in-Quit.is at c.requires.asks)
    (subst (Follows start entry h now c.args.left) c.in-Quit.is f))))

pub returns-in-Spent-clause-plays : goal.returns-in-Spent-clause-plays
returns-in-Spent-clause-plays g c =
    called-none g.F.Shelf.called c.args.shelf.now _
    (fed-same g.S.Source.called g.S.Source.seen c.args.run.now.lines c.args.input.now _
    (λ x start entry d told f.
    let now : Handed g.K.Sink.called = record d {
      source = g.S.Source.seen c.args.input.now;
      sink = c.args.output.now;
      shelf = g.F.Shelf.seen c.args.shelf.now;
    } in
    let h : HeldRun = held_by g.E.Engine.whole g.E.Engine.log c.args.run.now x in
    let asking = asking_in g.E.Engine.whole c.args.run.now in
    asked-none now (λ (e : Handed g.K.Sink.called).
    HasStopped start entry (record h { left = c.args.left }) asking e stop.Spent)
    (spent-on start entry h now c.args.left asking (rw c.in-Spent.is at c.requires.asks)
    (subst (Follows start entry h now c.args.left) c.in-Spent.is f))))

pub returns-in-Put-clause-keeps : goal.returns-in-Put-clause-keeps
returns-in-Put-clause-keeps g c d = c.ask_put.ensures.keeps
    (record d { source = g.S.Source.seen c.args.input.now; shelf = g.F.Shelf.seen c.args.shelf.now })

pub returns-in-Save-clause-keeps : goal.returns-in-Save-clause-keeps
returns-in-Save-clause-keeps g c d = c.ask_save.ensures.keeps
    (record d { source = g.S.Source.seen c.args.input.now; shelf = g.F.Shelf.seen c.args.shelf.now })

pub returns-in-Restore-clause-keeps : goal.returns-in-Restore-clause-keeps
returns-in-Restore-clause-keeps g c d = c.ask_restore.ensures.keeps
    (record d { source = g.S.Source.seen c.args.input.now; shelf = g.F.Shelf.seen c.args.shelf.now })
