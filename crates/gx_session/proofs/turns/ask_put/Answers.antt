-- a character that comes to a text buffer window alone is answered at once
use Rattle.std.proofs.Common.{ℕ, ◌<◌, refl, subst, sym, Ok, IsOk}
use Rattle.gx_state.specs.Flat.{sp_of}
use Rattle.gx_state.specs.declared.effects.Effect.TheVariants.{Put}
use Rattle.gx_machine.specs.Answer.{answer_of}
use Rattle.gx_machine.specs.Machine.{FlatMachine}
use Rattle.gx_machine.specs.WaysBack.{HasWaysBack}
use Rattle.glk_world.specs.World.{FlatWorld, on_world}
use Rattle.glk_world.specs.Each.{ShowsEach}
use Rattle.glk_text_calls.specs.Output.{putting}
use Rattle.glk_replies.specs.Parts.{replies}
use Rattle.gx_session.specs.Configurations.{steps}
use Rattle.gx_session.specs.Holding.{Handed, HeldRun, held_by, asking_in}
use Rattle.gx_session.specs.Standing.{Follows}
use Rattle.gx_session.proofs.Asking.{asks-now, put-does, put-grows, asking-early, asking-resumes, world-ok}
use Rattle.gx_session.proofs.Playing.{here}
use Rattle.gx_session.proofs.Puts.{effect-live}
use Rattle.gx_session.proofs.turns.ask_put.Goals as goal

pub returns-in-Err-clause-plays : goal.returns-in-Err-clause-plays
returns-in-Err-clause-plays g c coming start entry d f =
    let now : Handed g.K.Sink.called = record d { sink = c.args.output.now } in
    let h : HeldRun = held_by g.E.Engine.whole g.E.Engine.log c.args.run.now coming in
    let asking = asking_in g.E.Engine.whole c.args.run.now in
    let a = asks-now start entry h now c.args.left (Put c.args.c) f refl in
    (asking-early start entry h now c.args.left (Put c.args.c) a c.put_text.new.world asking c.requires.asks
    (put-grows start entry h now c.args.left (Put c.args.c) a c.args.c h.machine.flat refl refl
    c.in-Err.ensures.memory (c.in-Err.ensures.fine h.machine.flat)))

pub returns-in-Ok-true-clause-plays : goal.returns-in-Ok-true-clause-plays
returns-in-Ok-true-clause-plays g c coming start entry d f =
    let now : Handed g.K.Sink.called = record d { sink = c.args.output.now } in
    let h : HeldRun = held_by g.E.Engine.whole g.E.Engine.log c.args.run.now coming in
    let a = asks-now start entry h now c.args.left (Put c.args.c) f refl in
    let made = c.in-Ok-true.ensures.put (rw c.in-Ok-true.field-0-test refl) h.machine.flat in
    let w = world-ok h.world c.put_text.new.world (putting h.world.scene h.machine.flat c.args.c) (replies 0) made in
    let fine : IsOk (on_world h.world (putting h.world.scene h.machine.flat c.args.c)) = rw made refl in
    let backs : HasWaysBack h.machine = subst (λ (m : FlatMachine). HasWaysBack m) (sym (f.stands refl)) f.backs in
    c.answer_puts.ensures.plays coming start entry d f.word f.drawn
    (subst (λ (m : FlatMachine). 0 < sp_of m.flat) (sym (f.stands refl))
    (effect-live (here start entry (record h { machine = f.before; log = f.recorded }) now steps f.going.now) (Put c.args.c)
    (f.effect (λ e. cc)))) backs
    (asking-resumes start entry h now c.args.left (Put c.args.c) a (asking_in g.E.Engine.whole c.args.run.now)
    c.put_text.new.world w.0 (answer_of h.machine (replies 0)) (Unit {0}) c.requires.asks w.2
    (put-does start entry h now c.args.left (Put c.args.c) a c.args.c h.machine.flat
    (Ok (w.0, replies 0)) refl refl w.1) tt (λ begins. absurd begins)
    (λ u. put-grows start entry h now c.args.left (Put c.args.c) a c.args.c h.machine.flat refl refl
    (c.in-Ok-true.ensures.grows (rw c.in-Ok-true.field-0-test refl)) fine))

pub answer_puts-requires-clause-shows : goal.answer_puts-requires-clause-shows
answer_puts-requires-clause-shows g c chars =
    subst (λ (stream : ℕ). ShowsEach c.put_text.new.world stream chars)
    (sym (c.in-Ok-true.ensures.current (rw c.in-Ok-true.field-0-test refl)))
    (c.in-Ok-true.ensures.shows (rw c.in-Ok-true.field-0-test refl) chars)

pub returns-in-Ok-false-clause-plays : goal.returns-in-Ok-false-clause-plays
returns-in-Ok-false-clause-plays g c coming start entry d f =
    let now : Handed g.K.Sink.called = record d { sink = c.args.output.now } in
    let h : HeldRun = held_by g.E.Engine.whole g.E.Engine.log c.args.run.now coming in
    c.ask_any_put.ensures.plays coming start entry d
    (subst (λ (w : FlatWorld). Follows start entry (record h { world = w }) now c.args.left (Put c.args.c))
    (sym (c.in-Ok-false.ensures.other (rw c.in-Ok-false.field-0-test refl))) f)
