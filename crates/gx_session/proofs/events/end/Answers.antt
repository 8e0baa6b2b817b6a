use Rattle.std.proofs.Common.{Result, Ok}
use Rattle.std.proofs.lemmas.Result.{err_from_is_err_and}
use Rattle.glk_world.specs.World.{FlatWorld}
use Rattle.gx_session.specs.declared.ends.Halt.{Halt}
use Rattle.gx_session.specs.declared.ends.Halt.TheVariants as halt
use Rattle.gx_session.specs.Devices.{Devices}
use Rattle.gx_session.specs.Holding.{Handed, HeldRun, held_by, asking_in}
use Rattle.gx_session.specs.Standing.{Early}
use Rattle.gx_session.proofs.Calling.{called-none, called-as, asked-none}
use Rattle.gx_session.proofs.Ending.{closes}
use Rattle.gx_session.proofs.Keeping.{keeps-sink, stays-of, keeps-after}
use Rattle.gx_session.proofs.Playing.{flushed-end, cut-end}
use Rattle.gx_session.proofs.Screens.{screen-shown, screen-wants}
use Rattle.gx_session.proofs.events.end.Goals as goal

pub returns-in_err-end_text-clause-plays : goal.returns-in_err-end_text-clause-plays
returns-in_err-end_text-clause-plays g c =
    let p = err_from_is_err_and c.from_residual.result c.from_residual.ensures.1 in
    rw (p.1, p.2)
    (called-none g.F.Shelf.called c.args.shelf.now _
    (λ coming start entry d why done.
    let now : Handed g.K.Sink.called = record d { sink = c.args.output.now; shelf = g.F.Shelf.seen c.args.shelf.now } in
    let h : HeldRun = held_by g.E.Engine.whole g.E.Engine.log c.args.run.now coming in
    let asking = asking_in g.E.Engine.whole c.args.run.now in
    asked-none now (λ (e : Handed g.K.Sink.called).
    Early start entry (record h { world = c.end_text.new.self }) asking e halt.NoMemory)
    (screen-wants start entry h now asking why done c.end_text.new.self c.in_err-end_text.ensures.memory)))

pub returns-in_err-flush-clause-plays : goal.returns-in_err-flush-clause-plays
returns-in_err-flush-clause-plays g c =
    let p = err_from_is_err_and c.from_residual-in_err-flush.result c.from_residual-in_err-flush.ensures.1 in
    let world : FlatWorld = c.end_text.new.self in
    rw (p.1, p.2)
    (called-none g.F.Shelf.called c.args.shelf.now _
    (λ coming start entry d why done.
    let now : Handed g.K.Sink.called = record d { sink = c.args.output.now; shelf = g.F.Shelf.seen c.args.shelf.now } in
    let h : HeldRun = held_by g.E.Engine.whole g.E.Engine.log c.args.run.now coming in
    let asking = asking_in g.E.Engine.whole c.args.run.now in
    asked-none (record now { sink = c.flush.new.output })
    (λ (e : Handed g.K.Sink.called). Early start entry
    (record h { world = c.flush.new.world }) asking e c.in_err-flush.field-0.0)
    (cut-end start entry (record h { world = world }) now c.flush.new.world c.flush.new.output asking why
    (screen-shown start entry h now asking why done world c.in_ok-end_text.ensures.ok)
    c.in_err-flush.field-0.0 c.in_err-flush.ensures.only c.in_err-flush.ensures.sends)))

pub returns-clause-plays : goal.returns-clause-plays
returns-clause-plays g c =
    called-as g.F.Shelf.called c.args.shelf.now c.store_files.new.shelf _ _ c.store_files.ensures.stores
    (λ calls stores coming start entry d why done.
    let now : Handed g.K.Sink.called = record d { sink = c.args.output.now; shelf = g.F.Shelf.seen c.args.shelf.now } in
    let h : HeldRun = held_by g.E.Engine.whole g.E.Engine.log c.args.run.now coming in
    let asking = asking_in g.E.Engine.whole c.args.run.now in
    let world : FlatWorld = c.end_text.new.self in
    let sink = c.flush.new.output in
    closes start entry (record h { world = c.flush.new.world }) asking (record now { sink = sink }) why
    (flushed-end start entry (record h { world = world }) now c.flush.new.world sink asking why
    (screen-shown start entry h now asking why done world c.in_ok-end_text.ensures.ok) c.in_ok-flush.ensures.sends)
    (g.F.Shelf.seen c.store_files.new.shelf) calls c.store_files.result stores)

pub returns-clause-keeps : goal.returns-clause-keeps
returns-clause-keeps g c d =
    let a : Devices = record d { sink = g.K.Sink.seen c.args.output.now; shelf = g.F.Shelf.seen c.args.shelf.now } in
    let b : Devices = record d { sink = g.K.Sink.seen c.flush.new.output; shelf = g.F.Shelf.seen c.args.shelf.now } in
    let e : Devices = record d {
      sink = g.K.Sink.seen c.flush.new.output;
      shelf = g.F.Shelf.seen c.store_files.new.shelf;
    } in
    let ok : Result (Unit {0}) Halt = Ok tt in
    keeps-after a b e c.store_files.result
    (stays-of {T = Unit {0}} a b tt (keeps-sink a (g.K.Sink.seen c.args.output.now)
    (g.K.Sink.seen c.flush.new.output) ok c.in_ok-flush.ensures.count c.in_ok-flush.ensures.tells tt))
    (c.store_files.ensures.keeps (record d { sink = g.K.Sink.seen c.flush.new.output }))
