-- a character of what is printed is put, and else the run is as it was
use Rattle.std.proofs.Common.{[], ◌-◌, ◌≤◌, Option, subst, sym}
use Rattle.gx_state.specs.declared.effects.Effect.TheVariants.{Put}
use Rattle.gx_machine.specs.Machine.{Whole}
use Rattle.gx_machine.specs.Log.{Log}
use Rattle.gx_machine.specs.Advancing.{units_left}
use Rattle.gx_session.specs.Devices.{devices}
use Rattle.gx_session.specs.Holding.{Handed, handed, HeldRun, held_by, asking_in}
use Rattle.gx_session.specs.Standing.{Going}
use Rattle.gx_session.specs.Outcomes.{EventGives}
use Rattle.gx_session.proofs.Asking.{step-follows}
use Rattle.gx_session.proofs.Calling.{called-none, called-as, asked-none}
use Rattle.gx_session.proofs.Feeding.{fed-as, fed-lines}
use Rattle.gx_session.proofs.Playing.{redrawn}
use Rattle.gx_session.proofs.Rooms.{step-room}
use Rattle.gx_session.proofs.events.play_event.Goals as goal

pub returns-in-Some-clause-plays : goal.returns-in-Some-clause-plays
returns-in-Some-clause-plays g c =
    called-none g.F.Shelf.called c.args.shelf.now _
    (fed-lines g.S.Source.called g.S.Source.seen c.args.run.now.lines c.ask_put.new.run.lines c.args.input.now _
    c.ask_put.ensures.lines
    (λ x start entry before told f.
    let was : Handed g.K.Sink.called = handed (g.S.Source.seen c.args.input.now) c.args.output.now
    (g.F.Shelf.seen c.args.shelf.now) (g.R.Rng.stream c.args.dice.now) before in
    let now : Handed g.K.Sink.called = record was { words = g.R.Rng.stream c.draw.new.dice } in
    let h : HeldRun = held_by g.E.Engine.whole g.E.Engine.log c.args.run.now x in
    let drawn : HeldRun = record h { word = c.draw.new.word } in
    let going = redrawn start entry h was c.draw.new.word (g.R.Rng.stream c.draw.new.dice) f c.draw.ensures.is in
    let old : Whole = g.E.Engine.whole c.args.run.now.engine in
    let new : Whole = g.E.Engine.whole c.next_put.new.self in
    asked-none (record now { sink = c.ask_put.new.output })
    (λ (e : Handed g.K.Sink.called). EventGives start entry
    (held_by g.E.Engine.whole g.E.Engine.log c.ask_put.new.run x)
    (asking_in g.E.Engine.whole c.ask_put.new.run) e c.ask_put.result)
    (c.ask_put.ensures.plays x start entry now
    (step-follows start entry drawn now old.asking c.draw.result c.draw.ensures.in_hand going new
    (c.args.run.now.left - 1) (Put c.in-Some.c) (c.in-Some.ensures.value c.draw.result)
    (λ some. c.next_put.ensures.stands)
    (g.E.Engine.log c.next_put.new.self) c.next_put.ensures.logs c.next_put.ensures.backs))))

pub ask_put-requires-clause-room : goal.ask_put-requires-clause-room
ask_put-requires-clause-room g c =
    step-room (g.E.Engine.whole c.args.run.now.engine) (g.E.Engine.whole c.next_put.new.self) c.draw.result
    c.args.run.now.left (c.args.run.now.left - 1) (Put c.in-Some.c)
    (g.E.Engine.log c.args.run.now.engine) (g.E.Engine.log c.next_put.new.self) c.requires.none c.requires.room
    (c.in-Some.ensures.value c.draw.result) (λ some. c.next_put.ensures.stands) c.next_put.ensures.logs

pub play_step-requires-clause-room : goal.play_step-requires-clause-room
play_step-requires-clause-room g c = subst (λ (l : Option Log). c.args.run.now.left ≤ units_left l)
    (sym c.next_put.ensures.logs) c.requires.room

pub returns-in-Some-clause-keeps : goal.returns-in-Some-clause-keeps
returns-in-Some-clause-keeps g c =
    let k = c.ask_put.ensures.keeps (devices (g.S.Source.seen c.args.input.now) (g.K.Sink.seen c.args.output.now)
    (g.F.Shelf.seen c.args.shelf.now) (g.R.Rng.stream c.args.dice.now) [] [] []) in
    record {
      sink = k.sink;
      sink_tells = k.sink_tells;
      source = k.source;
      source_tells = k.source_tells;
      shelf = k.shelf;
      shelf_tells = k.shelf_tells;
    }

pub returns-in-None-clause-plays : goal.returns-in-None-clause-plays
returns-in-None-clause-plays g c =
    called-as g.F.Shelf.called c.args.shelf.now c.play_step.new.shelf _ _ c.play_step.ensures.plays
    (λ calls fed.
    fed-as g.S.Source.called g.S.Source.seen c.args.run.now.lines c.play_step.new.run.lines c.args.input.now
    c.play_step.new.input _ _ fed
    (λ x y plays start entry before told f.
    let d : Handed g.K.Sink.called = handed (g.S.Source.seen c.args.input.now) c.args.output.now
    (g.F.Shelf.seen c.args.shelf.now) (g.R.Rng.stream c.args.dice.now) before in
    plays start entry before told
    (subst (λ (l : Option Log). Going start entry
    (record (held_by g.E.Engine.whole g.E.Engine.log c.args.run.now x)
    { machine = (g.E.Engine.whole c.next_put.new.self).machine; log = l }) d) (sym c.next_put.ensures.logs)
    (subst (λ (w : Whole). Going start entry
    (record (held_by g.E.Engine.whole g.E.Engine.log c.args.run.now x) { machine = w.machine }) d)
    (sym (c.next_put.ensures.none c.in-None.is)) f))))
