use Rattle.std.proofs.Common.{[], ◌≡◌, None, ap, ◌∙◌, arith}
use Rattle.gx_machine.specs.Machine.{Whole}
use Rattle.gx_session.specs.Devices.{devices}
use Rattle.gx_session.specs.Holding.{Handed, handed, HeldRun, held_by}
use Rattle.gx_session.specs.Outcomes.{EventGives}
use Rattle.gx_session.proofs.Asking.{step-follows, step-wants, step-stops, fault-gives}
use Rattle.gx_session.proofs.Calling.{called-none, called-as, asked-none}
use Rattle.gx_session.proofs.Feeding.{fed-same, fed-as}
use Rattle.gx_session.proofs.Passing.{passed-asks, passed-going, passed-lower, advanced, refused-stands}
use Rattle.gx_session.proofs.Passing.{refused-wants, refused-is}
use Rattle.gx_session.proofs.Playing.{redrawn}
use Rattle.gx_session.proofs.Rooms.{advanced-room}
use Rattle.gx_session.proofs.Steps.{step-answers, same-whole}
use Rattle.gx_session.proofs.events.play_step.Goals as goal

pub follow-requires-clause-asks : goal.follow-requires-clause-asks
follow-requires-clause-asks g c =
    let a = c.in-Ok.ensures in
    (step-answers _ _ _ _ _ _ (passed-asks _ a.count _ _ _ _ _ _ c.requires.none a.passes)
    (advanced _ _ _ _ _ _ _ _ _ a)).asks

pub follow-requires-clause-fewer : goal.follow-requires-clause-fewer
follow-requires-clause-fewer g c =
    let a = c.in-Ok.ensures in
    (step-answers _ _ _ _ _ _ (passed-asks _ a.count _ _ _ _ _ _ c.requires.none a.passes)
    (advanced _ _ _ _ _ _ _ _ _ a)).no_more

pub follow-requires-clause-room : goal.follow-requires-clause-room
follow-requires-clause-room g c = advanced-room _ _ _ _ _ _ _ _ _ c.requires.none c.requires.room c.in-Ok.ensures

pub returns-in-Ok-clause-nearer : goal.returns-in-Ok-clause-nearer
returns-in-Ok-clause-nearer g c goes =
    let a = c.in-Ok.ensures in
    let nearer = (step-answers _ _ _ _ _ _ (passed-asks _ a.count _ _ _ _ _ _ c.requires.none a.passes)
    (advanced _ _ _ _ _ _ _ _ _ a)).nearer (c.follow.ensures.goes goes) in
    omega (arith, c.follow.ensures.leads.fewer goes, nearer, passed-lower _ a.count _ _ _ _ _ _ a.passes)

pub returns-in-Err-clause-no_more : goal.returns-in-Err-clause-no_more
returns-in-Err-clause-no_more g c = passed-lower _ c.in-Err.ensures.count _ _ _ _ _ _ c.in-Err.ensures.passes

pub returns-in-Ok-clause-no_more : goal.returns-in-Ok-clause-no_more
returns-in-Ok-clause-no_more g c =
    omega (
      arith,
      c.follow.ensures.leads.no_more,
      passed-lower _ c.in-Ok.ensures.count _ _ _ _ _ _ c.in-Ok.ensures.passes,
    )

pub returns-in-Err-clause-plays : goal.returns-in-Err-clause-plays
returns-in-Err-clause-plays g c =
    called-none g.F.Shelf.called c.args.shelf.now _
    (fed-same g.S.Source.called g.S.Source.seen c.args.run.now.lines c.args.input.now _
    (λ x start entry before told f.
    let was : Handed g.K.Sink.called = handed (g.S.Source.seen c.args.input.now) c.args.output.now
    (g.F.Shelf.seen c.args.shelf.now) (g.R.Rng.stream c.args.dice.now) before in
    let now : Handed g.K.Sink.called = record was { words = g.R.Rng.stream c.draw-word.new.dice } in
    let h : HeldRun = held_by g.E.Engine.whole g.E.Engine.log c.args.run.now x in
    let drawn : HeldRun = record h { word = c.draw-word.new.word } in
    let going = redrawn start entry h was c.draw-word.new.word
    (g.R.Rng.stream c.draw-word.new.dice) f c.draw-word.ensures.is in
    let a = c.in-Err.ensures in
    let mid : HeldRun = record drawn { machine = a.before.machine; left = c.advance.new.budget; log = a.log } in
    let reached = passed-going start entry now drawn c.draw-word.result a.count
    (g.E.Engine.whole c.args.run.now.engine) a.before c.args.run.now.left c.advance.new.budget
    (g.E.Engine.log c.args.run.now.engine) a.log c.draw-word.ensures.in_hand c.requires.none going a.passes in
    let none = passed-asks c.draw-word.result a.count (g.E.Engine.whole c.args.run.now.engine) a.before
    c.args.run.now.left c.advance.new.budget (g.E.Engine.log c.args.run.now.engine) a.log c.requires.none
    a.passes in
    let same : g.E.Engine.whole c.advance.new.self ≡ a.before =
    same-whole (g.E.Engine.whole c.advance.new.self) a.before c.advance.new.left c.advance.new.budget
    (refused-stands _ _ _ _ _ _ _ _ _ a) in
    let machine : (g.E.Engine.whole c.advance.new.self).machine ≡ mid.machine = ap (λ (w : Whole). w.machine) same in
    let nothing : (g.E.Engine.whole c.advance.new.self).asking ≡ None = ap (λ (w : Whole). w.asking) same ∙ none in
    let end : HeldRun = record mid {
      machine = (g.E.Engine.whole c.advance.new.self).machine;
      log = g.E.Engine.log c.advance.new.self;
    } in
    asked-none now (λ (e : Handed g.K.Sink.called).
    EventGives start entry end (g.E.Engine.whole c.advance.new.self).asking e c.faulted.result)
    (fault-gives start entry (record mid {
      machine = (g.E.Engine.whole c.advance.new.self).machine;
      log = g.E.Engine.log c.advance.new.self;
    }) (g.E.Engine.whole c.advance.new.self).asking now c.in-Err.fault _
    c.faulted.ensures.gives
    (λ wants. step-wants start entry mid now a.before.asking c.draw-word.result c.draw-word.ensures.in_hand reached
    (g.E.Engine.whole c.advance.new.self).asking (g.E.Engine.whole c.advance.new.self).machine
    (g.E.Engine.log c.advance.new.self) machine a.logs none nothing (refused-wants _ _ _ _ _ _ _ _ _ a wants))
    (λ other. step-stops start entry mid now a.before.asking c.draw-word.result c.draw-word.ensures.in_hand reached
    (g.E.Engine.whole c.advance.new.self).machine (g.E.Engine.log c.advance.new.self) c.in-Err.fault
    (g.E.Engine.whole c.advance.new.self).asking machine a.logs nothing (refused-is _ _ _ _ _ _ _ _ _ a other)
    a.backs))))

pub returns-in-Ok-clause-plays : goal.returns-in-Ok-clause-plays
returns-in-Ok-clause-plays g c =
    called-as g.F.Shelf.called c.args.shelf.now c.follow.new.shelf _ _ c.follow.ensures.plays
    (λ calls fed.
    fed-as g.S.Source.called g.S.Source.seen c.args.run.now.lines c.follow.new.run.lines c.args.input.now
    c.follow.new.input _ _ fed
    (λ x y plays start entry before told f.
    let was : Handed g.K.Sink.called = handed (g.S.Source.seen c.args.input.now) c.args.output.now
    (g.F.Shelf.seen c.args.shelf.now) (g.R.Rng.stream c.args.dice.now) before in
    let now : Handed g.K.Sink.called = record was { words = g.R.Rng.stream c.draw-word.new.dice } in
    let h : HeldRun = held_by g.E.Engine.whole g.E.Engine.log c.args.run.now x in
    let drawn : HeldRun = record h { word = c.draw-word.new.word } in
    let going = redrawn start entry h was c.draw-word.new.word
    (g.R.Rng.stream c.draw-word.new.dice) f c.draw-word.ensures.is in
    let a = c.in-Ok.ensures in
    let mid : HeldRun = record drawn { machine = a.before.machine; left = c.advance.new.budget; log = a.log } in
    let reached = passed-going start entry now drawn c.draw-word.result a.count
    (g.E.Engine.whole c.args.run.now.engine) a.before c.args.run.now.left c.advance.new.budget
    (g.E.Engine.log c.args.run.now.engine) a.log c.draw-word.ensures.in_hand c.requires.none going a.passes in
    plays start entry now told
    (step-follows start entry mid now a.before.asking c.draw-word.result c.draw-word.ensures.in_hand reached
    (g.E.Engine.whole c.advance.new.self) c.advance.new.left c.in-Ok.effect (advanced _ _ _ _ _ _ _ _ _ a) a.stands
    (g.E.Engine.log c.advance.new.self) a.logs a.backs)))

pub returns-in-Ok-clause-keeps : goal.returns-in-Ok-clause-keeps
returns-in-Ok-clause-keeps g c =
    let k = c.follow.ensures.keeps (devices (g.S.Source.seen c.args.input.now) (g.K.Sink.seen c.args.output.now)
    (g.F.Shelf.seen c.args.shelf.now) (g.R.Rng.stream c.args.dice.now) [] [] []) in
    record {
      sink = k.sink;
      sink_tells = k.sink_tells;
      source = k.source;
      source_tells = k.source_tells;
      shelf = k.shelf;
      shelf_tells = k.shelf_tells;
    }

pub returns-in-Ok-clause-room : goal.returns-in-Ok-clause-room
returns-in-Ok-clause-room g c goes = c.follow.ensures.leads.room goes
