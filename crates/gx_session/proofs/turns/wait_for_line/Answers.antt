use Rattle.std.proofs.Common.{refl, subst, sym}
use Rattle.std.proofs.lemmas.Result.{err_from_is_err_and}
use Rattle.glk_world.specs.World.{FlatWorld}
use Rattle.glk_dispatch.specs.Turns.{Awaits}
use Rattle.glk_replies.specs.declared.Given.TheVariants as given
use Rattle.glk_dispatch.proofs.Awaited.{awaits-grids}
use Rattle.gx_session.specs.Holding.{Handed, HeldRun, held_by, asking_in}
use Rattle.gx_session.proofs.Asking.{called, turn-waits, turn-wants, wait-turns}
use Rattle.gx_session.proofs.Feeding.{fed-same, fed-as}
use Rattle.gx_session.proofs.turns.wait_for_line.Goals as goal

pub returns-in_err-show_grids-clause-plays : goal.returns-in_err-show_grids-clause-plays
returns-in_err-show_grids-clause-plays g c =
    let p = err_from_is_err_and c.from_residual.result c.from_residual.ensures.1 in
    rw (p.1, p.2)
    (fed-same g.S.Source.called g.S.Source.seen c.args.run.now.lines c.args.input.now _
    (λ x turn start entry d is r.
    let h : HeldRun = held_by g.E.Engine.whole g.E.Engine.log c.args.run.now x in
    (turn-wants start entry h (record d { source = g.S.Source.seen c.args.input.now; sink = c.args.output.now })
    (asking_in g.E.Engine.whole c.args.run.now) c.args.wait turn r is c.in_err-show_grids.ensures.memory
    (record h { world = c.show_grids.new.self }) refl refl refl refl)))

pub await_line-requires-clause-awaits : goal.await_line-requires-clause-awaits
await_line-requires-clause-awaits g c line =
    subst (λ (x : FlatWorld). Awaits x.scene (given.Line line)) (sym c.in_ok-show_grids.ensures.ok)
    (awaits-grids c.args.run.now.world.scene (given.Line line) (c.requires.awaits line))

pub returns-clause-plays : goal.returns-clause-plays
returns-clause-plays g c =
    fed-as g.S.Source.called g.S.Source.seen c.args.run.now.lines c.await_line.new.run.lines c.args.input.now
    c.await_line.new.input _ _ c.await_line.ensures.plays
    (λ x y plays turn start entry d is r.
    let h : HeldRun = held_by g.E.Engine.whole g.E.Engine.log c.args.run.now x in
    let now : Handed g.K.Sink.called = record d
    { source = g.S.Source.seen c.args.input.now; sink = c.args.output.now } in
    plays turn start entry d is
    (turn-waits start entry h now (asking_in g.E.Engine.whole c.args.run.now) c.args.wait turn r c.show_grids.new.self
    c.in_ok-show_grids.ensures.ok
    (wait-turns (called start entry h now (asking_in g.E.Engine.whole c.args.run.now) c.args.wait turn r) c.args.wait
    r.said turn is)))
