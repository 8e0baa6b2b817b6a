use Rattle.std.proofs.Common.{refl, subst, sym, ◌∙◌, Option, Some, None, Ok, Err}
use Rattle.gx_state.specs.Copies.{Copy}
use Rattle.gx_state.specs.declared.effects.Effect.TheVariants.{Restore}
use Rattle.gx_state.specs.declared.effects.Reply.{Reply}
use Rattle.gx_machine.specs.Answer.{answer_of}
use Rattle.gx_machine.specs.SavedCopies.{restored}
use Rattle.glk_replies.specs.Parts.{replies}
use Rattle.gx_session.specs.Constants.{failed}
use Rattle.gx_session.specs.Wants.{ReplyWants}
use Rattle.gx_session.specs.Holding.{Handed, HeldRun, held_by, asking_in}
use Rattle.gx_session.specs.Standing.{ResumesWithReply}
use Rattle.gx_session.specs.Saving.{restoring}
use Rattle.gx_session.specs.Configurations.{steps}
use Rattle.gx_session.proofs.Asking.{asks-now, restoring-does, restore-reads, restore-takes, asking-early}
use Rattle.gx_session.proofs.Asking.{asking-here, asking-sound, asking-resumes, fault-stops, fault-gives, world-ok, world-err}
use Rattle.gx_session.proofs.Sound.{reads-so}
use Rattle.gx_session.proofs.saves.ask_restore.Goals as goal

pub returns-in-Err-clause-plays : goal.returns-in-Err-clause-plays
returns-in-Err-clause-plays g c coming start entry d f =
    let now : Handed g.K.Sink.called = record d { sink = c.args.output.now } in
    let h : HeldRun = held_by g.E.Engine.whole g.E.Engine.log c.args.run.now coming in
    let asking = asking_in g.E.Engine.whole c.args.run.now in
    let a = asks-now start entry h now c.args.left (Restore c.args.stream) f refl in
    let value = c.in-Err.ensures.value in
    let told = restoring h.world.scene h.machine.flat c.args.stream in
    (fault-gives start entry (record h { world = c.read.new.world }) asking now c.in-Err.fault _ c.faulted.ensures.gives
    (λ wants. asking-early start entry h now c.args.left
    (Restore c.args.stream) a c.read.new.world asking c.requires.asks
    (restore-reads start entry h now c.args.left (Restore c.args.stream) a c.args.stream refl (value.1.1 wants).0
    (value.1.1 wants).1))
    (λ other. fault-stops start entry h now steps a.going c.in-Err.fault c.read.new.world asking (value.0 other)
    (c.requires.asks ∙ sym a.asking_is)
    (restoring-does start entry h now c.args.left (Restore c.args.stream) a c.args.stream (Err c.in-Err.fault) refl
    (world-err {X = Option Copy} h.world told c.in-Err.fault (value.1.0 other)))
    (asking-sound start entry h now c.args.left (Restore c.args.stream) a
    (reads-so (asking-here start entry h now c.args.left (Restore c.args.stream) a) c.args.stream (Err c.in-Err.fault)
    (world-err {X = Option Copy} h.world told c.in-Err.fault (value.1.0 other)) tt) (λ begins. absurd begins))))

pub returns-in-Ok-None-clause-plays : goal.returns-in-Ok-None-clause-plays
returns-in-Ok-None-clause-plays g c coming start entry d f =
    let now : Handed g.K.Sink.called = record d { sink = c.args.output.now } in
    let h : HeldRun = held_by g.E.Engine.whole g.E.Engine.log c.args.run.now coming in
    let a = asks-now start entry h now c.args.left (Restore c.args.stream) f refl in
    let w = world-ok {X = Option Copy} h.world c.read.new.world (restoring h.world.scene h.machine.flat c.args.stream)
    None (rw c.in-Ok-None.field-0-is at c.in-Ok-None.ensures.value) in
    c.answer.ensures.plays coming start entry d
    (subst (λ (r : Reply). ResumesWithReply start entry (record h { world = c.read.new.world })
    (asking_in g.E.Engine.whole c.args.run.now) now c.args.left r) (sym c.failed-reply.ensures)
    (asking-resumes start entry h now c.args.left (Restore c.args.stream) a
    (asking_in g.E.Engine.whole c.args.run.now) c.read.new.world w.0 (answer_of h.machine (replies failed))
    (ReplyWants h.log h.machine (replies failed)) c.requires.asks w.2
    (restoring-does start entry h now c.args.left (Restore c.args.stream) a c.args.stream (Ok (w.0, None)) refl w.1)
    (reads-so (asking-here start entry h now c.args.left (Restore c.args.stream) a) c.args.stream (Ok (w.0, None)) w.1
    tt) (λ begins. absurd begins)
    (restore-takes start entry h now c.args.left (Restore c.args.stream) a c.args.stream w.0 None refl w.1)))

pub returns-in-Ok-Some-clause-plays : goal.returns-in-Ok-Some-clause-plays
returns-in-Ok-Some-clause-plays g c coming start entry d f =
    let now : Handed g.K.Sink.called = record d { sink = c.args.output.now } in
    let h : HeldRun = held_by g.E.Engine.whole g.E.Engine.log c.args.run.now coming in
    let a = asks-now start entry h now c.args.left (Restore c.args.stream) f refl in
    let w = world-ok {X = Option Copy} h.world c.read.new.world (restoring h.world.scene h.machine.flat c.args.stream)
    (Some c.in-Ok-Some.copy) (rw c.in-Ok-Some.field-0-is at c.in-Ok-Some.ensures.value) in
    c.resume.ensures.plays coming start entry d
    (asking-resumes start entry h now c.args.left (Restore c.args.stream) a
    (asking_in g.E.Engine.whole c.args.run.now) c.read.new.world w.0 (restored h.machine c.in-Ok-Some.copy)
    (Unit {0}) c.requires.asks w.2
    (restoring-does start entry h now c.args.left (Restore c.args.stream) a c.args.stream
    (Ok (w.0, Some c.in-Ok-Some.copy)) refl w.1)
    (reads-so (asking-here start entry h now c.args.left (Restore c.args.stream) a) c.args.stream
    (Ok (w.0, Some c.in-Ok-Some.copy)) w.1 (rw c.in-Ok-Some.field-0-is at c.in-Ok-Some.ensures.back))
    (λ begins. absurd begins)
    (restore-takes start entry h now c.args.left (Restore c.args.stream) a c.args.stream w.0
    (Some c.in-Ok-Some.copy) refl w.1))
