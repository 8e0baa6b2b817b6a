use Rattle.std.proofs.Common.{[], ◌++◌, ap}
use Rattle.std.proofs.lemmas.Result.{err_from_is_err_and}
use Rattle.gx_session.specs.declared.ends.Stop.{Stop}
use Rattle.gx_session.specs.declared.running.Running.{Running}
use Rattle.gx_session.specs.Devices.{Devices, devices}
use Rattle.gx_session.specs.Holding.{Handed, handed, held_by, asking_in}
use Rattle.gx_session.specs.Finishing.{Finished}
use Rattle.gx_session.specs.Standing.{Early}
use Rattle.gx_session.proofs.Calling.{called-on, asked-on, told-front}
use Rattle.gx_session.proofs.Feeding.{fed-coming}
use Rattle.gx_session.proofs.Keeping.{stays-of, keeps-after, keeps-ok, keeps-err}
use Rattle.gx_session.proofs.events.play_out.Goals as goal

pub returns-in_err-stop-clause-plays : goal.returns-in_err-stop-clause-plays
returns-in_err-stop-clause-plays g c =
    let p = err_from_is_err_and c.from_residual.result c.from_residual.ensures.1 in
    rw (p.1, p.2) c.in_err-stop.ensures.plays

pub returns-in_err-end-clause-plays : goal.returns-in_err-end-clause-plays
returns-in_err-end-clause-plays g c =
    let p = err_from_is_err_and c.from_residual-in_err-end.result c.from_residual-in_err-end.ensures.1 in
    rw (p.1, p.2)
    (called-on g.F.Shelf.called c.args.shelf.now c.play_events.new.shelf c.end.new.shelf _ _ _
    c.in_ok-stop.ensures.plays c.in_err-end.ensures.plays
    (λ one two first ends.
    fed-coming g.S.Source.called g.S.Source.seen c.args.run.now.lines c.play_events.new.run.lines c.end.new.run.lines
    c.args.input.now c.play_events.new.input _ _ (ap (λ (r : Running _). r.lines) c.in_err-end.ensures.same) first
    (λ x y is plays start entry before told f.
    let mid : Handed g.K.Sink.called = handed (g.S.Source.seen c.play_events.new.input) c.play_events.new.output
    (g.F.Shelf.seen c.play_events.new.shelf) (g.R.Rng.stream c.play_events.new.dice) (before ++ one) in
    let exit : Handed g.K.Sink.called = record mid
    { sink = c.end.new.output; shelf = g.F.Shelf.seen c.end.new.shelf; asked = before } in
    asked-on exit one two (λ (e : Handed g.K.Sink.called).
    Early start entry (held_by g.E.Engine.whole g.E.Engine.log c.end.new.run y)
    (asking_in g.E.Engine.whole c.end.new.run) e c.in_err-end.field-0.0)
    (ends y start entry mid c.in_ok-stop.stop
    (plays start entry before (told-front start.answers before one two told) f)))))

pub returns-clause-plays : goal.returns-clause-plays
returns-clause-plays g c =
    called-on g.F.Shelf.called c.args.shelf.now c.play_events.new.shelf c.end.new.shelf _ _ _
    c.in_ok-stop.ensures.plays c.in_ok-end.ensures.plays
    (λ one two first ends.
    fed-coming g.S.Source.called g.S.Source.seen c.args.run.now.lines c.play_events.new.run.lines c.end.new.run.lines
    c.args.input.now c.play_events.new.input _ _ (ap (λ (r : Running _). r.lines) c.in_ok-end.ensures.same) first
    (λ x y is plays start entry before told f.
    let mid : Handed g.K.Sink.called = handed (g.S.Source.seen c.play_events.new.input) c.play_events.new.output
    (g.F.Shelf.seen c.play_events.new.shelf) (g.R.Rng.stream c.play_events.new.dice) (before ++ one) in
    let exit : Handed g.K.Sink.called = record mid
    { sink = c.end.new.output; shelf = g.F.Shelf.seen c.end.new.shelf; asked = before } in
    asked-on exit one two (λ (e : Handed g.K.Sink.called).
    Finished start entry (held_by g.E.Engine.whole g.E.Engine.log c.end.new.run y)
    (asking_in g.E.Engine.whole c.end.new.run) e c.in_ok-stop.stop)
    (ends y start entry mid c.in_ok-stop.stop
    (plays start entry before (told-front start.answers before one two told) f))))

pub returns-in_err-end-clause-keeps : goal.returns-in_err-end-clause-keeps
returns-in_err-end-clause-keeps g c =
    let p = err_from_is_err_and c.from_residual-in_err-end.result c.from_residual-in_err-end.ensures.1 in
    let a : Devices = devices (g.S.Source.seen c.args.input.now) (g.K.Sink.seen c.args.output.now)
    (g.F.Shelf.seen c.args.shelf.now) (g.R.Rng.stream c.args.dice.now) [] [] [] in
    let mid : Devices = devices (g.S.Source.seen c.play_events.new.input) (g.K.Sink.seen c.play_events.new.output)
    (g.F.Shelf.seen c.play_events.new.shelf) (g.R.Rng.stream c.play_events.new.dice) [] [] [] in
    let e : Devices = record mid { sink = g.K.Sink.seen c.end.new.output; shelf = g.F.Shelf.seen c.end.new.shelf } in
    rw (p.1, p.2) (keeps-after a mid e _ (stays-of {T = Stop} a mid c.in_ok-stop.stop c.in_ok-stop.ensures.keeps)
    (keeps-err {T = Unit {0}} mid e c.in_err-end.field-0.0 (c.in_err-end.ensures.keeps mid)))

pub returns-clause-keeps : goal.returns-clause-keeps
returns-clause-keeps g c =
    let a : Devices = devices (g.S.Source.seen c.args.input.now) (g.K.Sink.seen c.args.output.now)
    (g.F.Shelf.seen c.args.shelf.now) (g.R.Rng.stream c.args.dice.now) [] [] [] in
    let mid : Devices = devices (g.S.Source.seen c.play_events.new.input) (g.K.Sink.seen c.play_events.new.output)
    (g.F.Shelf.seen c.play_events.new.shelf) (g.R.Rng.stream c.play_events.new.dice) [] [] [] in
    let e : Devices = record mid { sink = g.K.Sink.seen c.end.new.output; shelf = g.F.Shelf.seen c.end.new.shelf } in
    keeps-after a mid e _ (stays-of {T = Stop} a mid c.in_ok-stop.stop c.in_ok-stop.ensures.keeps)
    (keeps-ok {T = Unit {0}} mid e tt c.in_ok-stop.stop (c.in_ok-end.ensures.keeps mid))
