use Rattle.std.proofs.Common.{[], ◌++◌, refl, arith}
use Rattle.std.proofs.lemmas.Result.{err_from_is_err_and}
use Rattle.gx_session.specs.declared.ends.Next.{Next}
use Rattle.gx_session.specs.Devices.{Devices, devices}
use Rattle.gx_session.specs.Holding.{Handed, handed, HeldRun, held_by, asking_in}
use Rattle.gx_session.specs.Standing.{Going, HasStopped, Early}
use Rattle.gx_session.proofs.Calling.{called-none, called-on, asked-none, asked-on, told-front, told-next}
use Rattle.gx_session.proofs.Feeding.{fed-same, fed-on}
use Rattle.gx_session.proofs.Keeping.{stays-none, stays-of, stays-on, keeps-after, keeps-ok, keeps-err}
use Rattle.gx_session.proofs.events.play_events.Goals as goal

pub loop-stop-init : goal.loop-stop-init
loop-stop-init g c = record {
  none = c.requires.none;
  room = c.requires.room;
  no_more = omega arith;
  stays = stays-none (devices (g.S.Source.seen c.args.input.now) (g.K.Sink.seen c.args.output.now)
      (g.F.Shelf.seen c.args.shelf.now) (g.R.Rng.stream c.args.dice.now) [] [] []);
  going = called-none g.F.Shelf.called c.args.shelf.now _
      (fed-same g.S.Source.called g.S.Source.seen c.args.run.now.lines c.args.input.now _
      (λ x start entry before told f. asked-none
      (handed (g.S.Source.seen c.args.input.now) c.args.output.now (g.F.Shelf.seen c.args.shelf.now)
      (g.R.Rng.stream c.args.dice.now) before)
      (Going start entry (held_by g.E.Engine.whole g.E.Engine.log c.args.run.now x)) f));
}

pub returns-in_err-stop-clause-plays : goal.returns-in_err-stop-clause-plays
returns-in_err-stop-clause-plays g c =
    let p = err_from_is_err_and c.from_residual.result c.from_residual.ensures.1 in
    rw (p.1, p.2)
    (called-on g.F.Shelf.called c.args.shelf.now c.loop-stop.shelf c.play_event.new.shelf _ _ _
    c.loop-stop.invariant.going c.in_err-stop.ensures.plays
    (λ one two first second.
    fed-on g.S.Source.called g.S.Source.seen c.args.run.now.lines c.loop-stop.run.lines c.play_event.new.run.lines
    c.args.input.now c.loop-stop.input c.play_event.new.input _ _ _ first second
    (λ x y z earlier plays start entry before told f.
    let mid : Handed g.K.Sink.called = handed (g.S.Source.seen c.loop-stop.input) c.loop-stop.output
    (g.F.Shelf.seen c.loop-stop.shelf) (g.R.Rng.stream c.loop-stop.dice) (before ++ one) in
    let h : HeldRun = held_by g.E.Engine.whole g.E.Engine.log c.loop-stop.run y in
    let going = earlier start entry before (told-front start.answers before one two told) f in
    asked-on (handed (g.S.Source.seen c.play_event.new.input) c.play_event.new.output
    (g.F.Shelf.seen c.play_event.new.shelf) (g.R.Rng.stream c.play_event.new.dice) before) one two
    (λ (e : Handed g.K.Sink.called). Early start entry
    (held_by g.E.Engine.whole g.E.Engine.log c.play_event.new.run z)
    (asking_in g.E.Engine.whole c.play_event.new.run) e c.in_err-stop.field-0.0)
    (plays start entry (before ++ one) (told-next start entry h mid before one two refl going told) going))))

pub returns-in-Stops-clause-plays : goal.returns-in-Stops-clause-plays
returns-in-Stops-clause-plays g c =
    called-on g.F.Shelf.called c.args.shelf.now c.loop-stop.shelf c.play_event.new.shelf _ _ _
    c.loop-stop.invariant.going (rw c.in-Stops.is at c.in_ok-stop.ensures.plays)
    (λ one two first second.
    fed-on g.S.Source.called g.S.Source.seen c.args.run.now.lines c.loop-stop.run.lines c.play_event.new.run.lines
    c.args.input.now c.loop-stop.input c.play_event.new.input _ _ _ first second
    (λ x y z earlier plays start entry before told f.
    let mid : Handed g.K.Sink.called = handed (g.S.Source.seen c.loop-stop.input) c.loop-stop.output
    (g.F.Shelf.seen c.loop-stop.shelf) (g.R.Rng.stream c.loop-stop.dice) (before ++ one) in
    let h : HeldRun = held_by g.E.Engine.whole g.E.Engine.log c.loop-stop.run y in
    let going = earlier start entry before (told-front start.answers before one two told) f in
    asked-on (handed (g.S.Source.seen c.play_event.new.input) c.play_event.new.output
    (g.F.Shelf.seen c.play_event.new.shelf) (g.R.Rng.stream c.play_event.new.dice) before) one two
    (λ (e : Handed g.K.Sink.called). HasStopped start entry
    (held_by g.E.Engine.whole g.E.Engine.log c.play_event.new.run z)
    (asking_in g.E.Engine.whole c.play_event.new.run) e c.in-Stops.stop)
    (plays start entry (before ++ one) (told-next start entry h mid before one two refl going told) going)))

pub loop-stop-preserved : goal.loop-stop-preserved
loop-stop-preserved g c =
    let a : Devices = devices (g.S.Source.seen c.args.input.now) (g.K.Sink.seen c.args.output.now)
    (g.F.Shelf.seen c.args.shelf.now) (g.R.Rng.stream c.args.dice.now) [] [] [] in
    let b : Devices = devices (g.S.Source.seen c.loop-stop.input) (g.K.Sink.seen c.loop-stop.output)
    (g.F.Shelf.seen c.loop-stop.shelf) (g.R.Rng.stream c.loop-stop.dice) [] [] [] in
    let e : Devices = devices (g.S.Source.seen c.play_event.new.input) (g.K.Sink.seen c.play_event.new.output)
    (g.F.Shelf.seen c.play_event.new.shelf) (g.R.Rng.stream c.play_event.new.dice) [] [] [] in
    record {
      none = (rw c.in-Goes.is at c.in_ok-stop.ensures.none) refl;
      room = (rw c.in-Goes.is at c.in_ok-stop.ensures.room) refl;
      no_more = omega (arith, c.in_ok-stop.ensures.no_more, c.loop-stop.invariant.no_more);
      stays = stays-on a b e c.loop-stop.invariant.stays (stays-of {T = Next} b e _ c.in_ok-stop.ensures.keeps);
      going = called-on g.F.Shelf.called c.args.shelf.now c.loop-stop.shelf c.play_event.new.shelf _ _ _
          c.loop-stop.invariant.going (rw c.in-Goes.is at c.in_ok-stop.ensures.plays)
          (λ one two first second.
          fed-on g.S.Source.called g.S.Source.seen c.args.run.now.lines c.loop-stop.run.lines
          c.play_event.new.run.lines c.args.input.now c.loop-stop.input c.play_event.new.input _ _ _ first second
          (λ x y z earlier plays start entry before told f.
          let mid : Handed g.K.Sink.called = handed (g.S.Source.seen c.loop-stop.input) c.loop-stop.output
          (g.F.Shelf.seen c.loop-stop.shelf) (g.R.Rng.stream c.loop-stop.dice) (before ++ one) in
          let h : HeldRun = held_by g.E.Engine.whole g.E.Engine.log c.loop-stop.run y in
          let going = earlier start entry before (told-front start.answers before one two told) f in
          asked-on (handed (g.S.Source.seen c.play_event.new.input) c.play_event.new.output
          (g.F.Shelf.seen c.play_event.new.shelf) (g.R.Rng.stream c.play_event.new.dice) before) one two
          (Going start entry (held_by g.E.Engine.whole g.E.Engine.log c.play_event.new.run z))
          (plays start entry (before ++ one) (told-next start entry h mid before one two refl going told) going)));
    }

pub returns-in_err-stop-clause-keeps : goal.returns-in_err-stop-clause-keeps
returns-in_err-stop-clause-keeps g c =
    let p = err_from_is_err_and c.from_residual.result c.from_residual.ensures.1 in
    let a : Devices = devices (g.S.Source.seen c.args.input.now) (g.K.Sink.seen c.args.output.now)
    (g.F.Shelf.seen c.args.shelf.now) (g.R.Rng.stream c.args.dice.now) [] [] [] in
    let b : Devices = devices (g.S.Source.seen c.loop-stop.input) (g.K.Sink.seen c.loop-stop.output)
    (g.F.Shelf.seen c.loop-stop.shelf) (g.R.Rng.stream c.loop-stop.dice) [] [] [] in
    let e : Devices = devices (g.S.Source.seen c.play_event.new.input) (g.K.Sink.seen c.play_event.new.output)
    (g.F.Shelf.seen c.play_event.new.shelf) (g.R.Rng.stream c.play_event.new.dice) [] [] [] in
    rw (p.1, p.2) (keeps-after a b e _ c.loop-stop.invariant.stays
    (keeps-err {T = Next} b e c.in_err-stop.field-0.0 c.in_err-stop.ensures.keeps))

pub returns-in-Stops-clause-keeps : goal.returns-in-Stops-clause-keeps
returns-in-Stops-clause-keeps g c =
    let a : Devices = devices (g.S.Source.seen c.args.input.now) (g.K.Sink.seen c.args.output.now)
    (g.F.Shelf.seen c.args.shelf.now) (g.R.Rng.stream c.args.dice.now) [] [] [] in
    let b : Devices = devices (g.S.Source.seen c.loop-stop.input) (g.K.Sink.seen c.loop-stop.output)
    (g.F.Shelf.seen c.loop-stop.shelf) (g.R.Rng.stream c.loop-stop.dice) [] [] [] in
    let e : Devices = devices (g.S.Source.seen c.play_event.new.input) (g.K.Sink.seen c.play_event.new.output)
    (g.F.Shelf.seen c.play_event.new.shelf) (g.R.Rng.stream c.play_event.new.dice) [] [] [] in
    keeps-after a b e _ c.loop-stop.invariant.stays
    (keeps-ok {T = Next} b e _ c.in-Stops.stop c.in_ok-stop.ensures.keeps)
