use Rattle.std.proofs.Common.{Err}
use Rattle.glk_replies.specs.declared.Turn.{Turn}
use Rattle.glk_dispatch.specs.Going.{glk_go_on}
use Rattle.gx_session.specs.Holding.{Handed, HeldRun, held_by, asking_in}
use Rattle.gx_session.specs.Configurations.{goes_on}
use Rattle.gx_session.proofs.Asking.{on-ready, given-does, given-sound, given-early, given-turns, fault-stops, fault-gives}
use Rattle.gx_session.proofs.Asking.{world-ok, world-err, world-fine}
use Rattle.gx_session.proofs.turns.go_on.Goals as goal

pub returns-in-Err-clause-plays : goal.returns-in-Err-clause-plays
returns-in-Err-clause-plays g c coming start entry d waits =
    let now : Handed g.K.Sink.called = record d { sink = c.args.output.now } in
    let h : HeldRun = held_by g.E.Engine.whole g.E.Engine.log c.args.run.now coming in
    let asking = asking_in g.E.Engine.whole c.args.run.now in
    let ready = on-ready start entry h now asking c.args.given c.args.wait waits in
    let value = c.in-Err.ensures.value in
    let told = glk_go_on h.world.scene c.state.result.now.flat c.args.wait.room c.args.given in
    (fault-gives start entry (record h { world = c.go_on.new.world }) asking now c.in-Err.fault _
    c.faulted.ensures.gives
    (λ wants. given-early start entry h now asking c.args.given c.args.wait waits c.go_on.new.world
    c.state.result.now.flat c.state.ensures (value.1.1 wants).0
    (world-fine {X = Turn} h.world told (value.1.1 wants).1))
    (λ other. fault-stops start entry h now (goes_on c.args.given c.args.wait) ready c.in-Err.fault c.go_on.new.world
    asking (value.0 other) waits.asking_is
    (given-does start entry h now asking c.args.given c.args.wait waits c.state.result.now.flat
    (Err c.in-Err.fault) c.state.ensures (world-err {X = Turn} h.world told c.in-Err.fault (value.1.0 other)))
    (given-sound start entry h now asking c.args.given c.args.wait waits c.state.result.now.flat
    (Err c.in-Err.fault) c.state.ensures (world-err {X = Turn} h.world told c.in-Err.fault (value.1.0 other))
    c.requires.awaits tt)))

pub returns-in-Ok-clause-plays : goal.returns-in-Ok-clause-plays
returns-in-Ok-clause-plays g c coming start entry d waits =
    let now : Handed g.K.Sink.called = record d { sink = c.args.output.now } in
    let h : HeldRun = held_by g.E.Engine.whole g.E.Engine.log c.args.run.now coming in
    let asking = asking_in g.E.Engine.whole c.args.run.now in
    let w = world-ok {X = Turn} h.world c.go_on.new.world
    (glk_go_on h.world.scene c.state.result.now.flat c.args.wait.room c.args.given) c.in-Ok.turn
    c.in-Ok.ensures.value in
    c.take_answer.ensures.plays coming start entry d
    (given-turns start entry h now asking c.args.given c.args.wait waits c.go_on.new.world w.0 c.in-Ok.turn
    c.state.result.now.flat w.2 c.state.ensures w.1 c.requires.awaits c.in-Ok.ensures.answers)
