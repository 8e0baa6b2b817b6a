use Rattle.std.proofs.Common.{refl, ◌∙◌, sym, Ok, Err}
use Rattle.gx_state.specs.declared.effects.Effect.TheVariants.{Save}
use Rattle.gx_machine.specs.Answer.{answer_of}
use Rattle.gx_session.specs.Wants.{ReplyWants}
use Rattle.gx_session.specs.Holding.{Handed, HeldRun, held_by, asking_in}
use Rattle.gx_session.specs.Saving.{saving}
use Rattle.gx_session.specs.Configurations.{steps}
use Rattle.gx_session.proofs.Asking.{asks-now, saving-does, save-begun, save-takes, asking-early, asking-resumes}
use Rattle.gx_session.proofs.Asking.{asking-sound}
use Rattle.gx_session.proofs.Asking.{fault-stops, fault-gives, world-ok, world-err}
use Rattle.gx_session.proofs.saves.ask_save.Goals as goal

pub returns-in-Err-clause-plays : goal.returns-in-Err-clause-plays
returns-in-Err-clause-plays g c coming start entry d f =
    let now : Handed g.K.Sink.called = record d { sink = c.args.output.now } in
    let h : HeldRun = held_by g.E.Engine.whole g.E.Engine.log c.args.run.now coming in
    let asking = asking_in g.E.Engine.whole c.args.run.now in
    let a = asks-now start entry h now c.args.left (Save c.args.stream) f refl in
    let value = c.in-Err.ensures.value in
    (fault-gives start entry (record h { world = c.save.new.world }) asking now c.in-Err.fault _ c.faulted.ensures.gives
    (λ wants. asking-early start entry h now c.args.left (Save c.args.stream) a c.save.new.world asking
    c.requires.asks (save-begun start entry h now c.args.left (Save c.args.stream) a c.args.stream refl
    (value.1 wants)))
    (λ other. fault-stops start entry h now steps a.going c.in-Err.fault c.save.new.world asking (value.0 other).0
    (c.requires.asks ∙ sym a.asking_is)
    (saving-does start entry h now c.args.left (Save c.args.stream) a c.args.stream (Err c.in-Err.fault) refl
    (world-err h.world (saving h.world.scene h.machine.flat c.args.stream) c.in-Err.fault (value.0 other).1))
    (asking-sound start entry h now c.args.left (Save c.args.stream) a tt
    (c.in-Err.ensures.read_back (λ e. other cc)))))

pub returns-in-Ok-clause-plays : goal.returns-in-Ok-clause-plays
returns-in-Ok-clause-plays g c coming start entry d f =
    let now : Handed g.K.Sink.called = record d { sink = c.args.output.now } in
    let h : HeldRun = held_by g.E.Engine.whole g.E.Engine.log c.args.run.now coming in
    let a = asks-now start entry h now c.args.left (Save c.args.stream) f refl in
    let w = world-ok h.world c.save.new.world (saving h.world.scene h.machine.flat c.args.stream) c.in-Ok.reply
    c.in-Ok.ensures.value in
    c.answer.ensures.plays coming start entry d
    (asking-resumes start entry h now c.args.left (Save c.args.stream) a (asking_in g.E.Engine.whole c.args.run.now)
    c.save.new.world w.0 (answer_of h.machine c.in-Ok.reply)
    (ReplyWants h.log h.machine c.in-Ok.reply) c.requires.asks w.2
    (saving-does start entry h now c.args.left (Save c.args.stream) a c.args.stream
    (Ok (w.0, c.in-Ok.reply)) refl w.1) tt (c.in-Ok.ensures.read_back (λ e. cc))
    (save-takes start entry h now c.args.left (Save c.args.stream) a c.args.stream w.0 c.in-Ok.reply refl w.1))
