use Rattle.std.proofs.Common.{refl, sym, ◌∙◌, Ok, Err}
use Rattle.gx_state.specs.declared.effects.Effect.TheVariants.{Glk}
use Rattle.glk_replies.specs.declared.Turn.{Turn}
use Rattle.glk_dispatch.specs.Calls.{glk_call}
use Rattle.gx_session.specs.Holding.{Handed, HeldRun, held_by, asking_in}
use Rattle.gx_session.specs.Outcomes.{EventGives}
use Rattle.gx_session.specs.Configurations.{steps}
use Rattle.gx_session.proofs.Asking.{asks-now, call-does, call-grows, call-takes, call-turns, asking-early}
use Rattle.gx_session.proofs.Asking.{asking-sound, fault-stops, fault-gives, world-ok, world-err}
use Rattle.gx_session.proofs.Calling.{called-none, called-as, asked-none}
use Rattle.gx_session.proofs.Feeding.{fed-same, fed-as}
use Rattle.gx_session.proofs.turns.ask_glk.Goals as goal

pub returns-in-Err-clause-plays : goal.returns-in-Err-clause-plays
returns-in-Err-clause-plays g c =
    called-none g.F.Shelf.called c.args.shelf.now _
    (fed-same g.S.Source.called g.S.Source.seen c.args.run.now.lines c.args.input.now _
    (λ x start entry d told f.
    let now : Handed g.K.Sink.called = record d {
      source = g.S.Source.seen c.args.input.now;
      sink = c.args.output.now;
      shelf = g.F.Shelf.seen c.args.shelf.now;
    } in
    let h : HeldRun = held_by g.E.Engine.whole g.E.Engine.log c.args.run.now x in
    let asking = asking_in g.E.Engine.whole c.args.run.now in
    let does = Glk c.args.selector c.args.args.now c.args.wait.room in
    let a = asks-now start entry h now c.args.wait.left does f refl in
    let value = c.in-Err.ensures.value in
    let made = glk_call h.world.scene c.state.result.now.flat c.args.wait.room c.args.selector c.as_slice.result.now in
    asked-none now (λ (e : Handed g.K.Sink.called).
    EventGives start entry (record h { world = c.call.new.world }) asking e c.faulted.result)
    (fault-gives start entry (record h { world = c.call.new.world }) asking now c.in-Err.fault _ c.faulted.ensures.gives
    (λ wants. asking-early start entry h now c.args.wait.left does a c.call.new.world asking c.requires.asks
    (call-grows start entry h now c.args.wait.left does a c.args.selector c.args.args.now c.as_slice.result.now
    c.args.wait c.state.result.now.flat refl c.state.ensures c.as_slice.ensures.value (value.1.1 wants).0
    (value.1.1 wants).1))
    (λ other. fault-stops start entry h now steps a.going c.in-Err.fault c.call.new.world asking (value.0 other)
    (c.requires.asks ∙ sym a.asking_is)
    (call-does start entry h now c.args.wait.left does a c.args.selector c.args.args.now c.as_slice.result.now
    c.args.wait c.state.result.now.flat (Err c.in-Err.fault) refl refl c.state.ensures c.as_slice.ensures.value
    (world-err {X = Turn} h.world made c.in-Err.fault (value.1.0 other)))
    (asking-sound start entry h now c.args.wait.left does a tt (λ begins. absurd begins))))))

pub returns-in-Ok-clause-plays : goal.returns-in-Ok-clause-plays
returns-in-Ok-clause-plays g c =
    called-as g.F.Shelf.called c.args.shelf.now c.take_turn.new.shelf _ _ c.take_turn.ensures.plays
    (λ calls fed.
    fed-as g.S.Source.called g.S.Source.seen c.args.run.now.lines c.take_turn.new.run.lines c.args.input.now
    c.take_turn.new.input _ _ fed
    (λ x y plays start entry d told f.
    let now : Handed g.K.Sink.called = record d {
      source = g.S.Source.seen c.args.input.now;
      sink = c.args.output.now;
      shelf = g.F.Shelf.seen c.args.shelf.now;
    } in
    let h : HeldRun = held_by g.E.Engine.whole g.E.Engine.log c.args.run.now x in
    let does = Glk c.args.selector c.args.args.now c.args.wait.room in
    let a = asks-now start entry h now c.args.wait.left does f refl in
    let w = world-ok {X = Turn} h.world c.call.new.world
    (glk_call h.world.scene c.state.result.now.flat c.args.wait.room c.args.selector c.as_slice.result.now)
    c.in-Ok.turn c.in-Ok.ensures.value in
    plays start entry now told
    (call-turns start entry h now c.args.wait.left does a (asking_in g.E.Engine.whole c.args.run.now) c.call.new.world
    w.0 c.args.wait c.in-Ok.turn c.requires.asks w.2
    (call-does start entry h now c.args.wait.left does a c.args.selector c.args.args.now c.as_slice.result.now
    c.args.wait c.state.result.now.flat (Ok (w.0, c.in-Ok.turn)) refl refl c.state.ensures
    c.as_slice.ensures.value w.1) tt (λ begins. absurd begins)
    (call-takes start entry h now c.args.wait.left does a c.args.selector c.args.args.now c.as_slice.result.now
    c.args.wait c.state.result.now.flat w.0 c.in-Ok.turn refl c.state.ensures c.as_slice.ensures.value w.1))))
