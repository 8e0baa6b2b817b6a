use Rattle.std.proofs.Common.{refl, sym, ◌∙◌, Ok, Err}
use Rattle.gx_state.specs.declared.effects.Effect.TheVariants.{Put}
use Rattle.gx_machine.specs.Answer.{answer_of}
use Rattle.glk_text_calls.specs.Output.{putting}
use Rattle.gx_session.specs.Wants.{ReplyWants}
use Rattle.gx_session.specs.Holding.{Handed, HeldRun, held_by, asking_in}
use Rattle.gx_session.specs.Configurations.{steps}
use Rattle.gx_session.proofs.Asking.{asks-now, put-does, put-grows, put-takes, asking-early, asking-resumes}
use Rattle.gx_session.proofs.Asking.{asking-sound}
use Rattle.gx_session.proofs.Asking.{fault-stops, fault-gives, world-ok, world-err}
use Rattle.gx_session.proofs.turns.ask_any_put.Goals as goal

pub returns-in-Err-clause-plays : goal.returns-in-Err-clause-plays
returns-in-Err-clause-plays g c coming start entry d f =
    let now : Handed g.K.Sink.called = record d { sink = c.args.output.now } in
    let h : HeldRun = held_by g.E.Engine.whole g.E.Engine.log c.args.run.now coming in
    let asking = asking_in g.E.Engine.whole c.args.run.now in
    let a = asks-now start entry h now c.args.left (Put c.args.c) f refl in
    let value = c.in-Err.ensures.value in
    (fault-gives start entry (record h { world = c.put.new.world }) asking now c.in-Err.fault _ c.faulted.ensures.gives
    (λ wants. asking-early start entry h now c.args.left (Put c.args.c) a c.put.new.world asking c.requires.asks
    (put-grows start entry h now c.args.left (Put c.args.c) a c.args.c c.state.result.now.flat refl c.state.ensures
    (value.1.1 wants).0 (value.1.1 wants).1))
    (λ other. fault-stops start entry h now steps a.going c.in-Err.fault c.put.new.world asking (value.0 other)
    (c.requires.asks ∙ sym a.asking_is)
    (put-does start entry h now c.args.left (Put c.args.c) a c.args.c c.state.result.now.flat
    (Err c.in-Err.fault) refl c.state.ensures
    (world-err h.world (putting h.world.scene c.state.result.now.flat c.args.c) c.in-Err.fault (value.1.0 other)))
    (asking-sound start entry h now c.args.left (Put c.args.c) a tt (λ begins. absurd begins))))

pub returns-in-Ok-clause-plays : goal.returns-in-Ok-clause-plays
returns-in-Ok-clause-plays g c coming start entry d f =
    let now : Handed g.K.Sink.called = record d { sink = c.args.output.now } in
    let h : HeldRun = held_by g.E.Engine.whole g.E.Engine.log c.args.run.now coming in
    let a = asks-now start entry h now c.args.left (Put c.args.c) f refl in
    let w = world-ok h.world c.put.new.world (putting h.world.scene c.state.result.now.flat c.args.c) c.in-Ok.reply
    c.in-Ok.ensures.value in
    c.answer.ensures.plays coming start entry d
    (asking-resumes start entry h now c.args.left (Put c.args.c) a (asking_in g.E.Engine.whole c.args.run.now)
    c.put.new.world w.0 (answer_of h.machine c.in-Ok.reply)
    (ReplyWants h.log h.machine c.in-Ok.reply) c.requires.asks w.2
    (put-does start entry h now c.args.left (Put c.args.c) a c.args.c c.state.result.now.flat
    (Ok (w.0, c.in-Ok.reply)) refl c.state.ensures w.1) tt (λ begins. absurd begins)
    (put-takes start entry h now c.args.left (Put c.args.c) a c.args.c c.state.result.now.flat w.0 c.in-Ok.reply refl
    c.state.ensures w.1))
