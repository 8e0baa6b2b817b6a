-- characters that are put behind one another: each is an event, and the text is sent behind the last
use Rattle.std.proofs.Common.{◌≡◌, ◌≢◌, ℕ, ◌∙◌, ◌-◌, ◌++◌, List, [], length, ap, subst, sym, refl, arith}
use Rattle.std.proofs.lemmas.Result.{err_from_is_err_and}
use Rattle.gx_machine.specs.Machine.{FlatMachine, Whole}
use Rattle.gx_machine.specs.Answer.{answer_of}
use Rattle.gx_machine.specs.Log.{logged}
use Rattle.glk_world.specs.World.{after}
use Rattle.glk_world.specs.Putting.{put_chars}
use Rattle.glk_replies.specs.Parts.{replies}
use Rattle.gx_session.specs.Configurations.{steps}
use Rattle.gx_session.specs.Holding.{Handed, HeldRun, held_by, asking_in}
use Rattle.gx_session.specs.Standing.{Standing}
use Rattle.gx_session.proofs.Asking.{resumed-on, resumed-early}
use Rattle.gx_session.proofs.Puts.{puts-held, puts-live, puts-backs, puts-standing, some-are, given-held}
use Rattle.gx_session.proofs.running.answer_run.Goals as goal

pub send_due-requires : goal.send_due-requires
send_due-requires g c = ap (λ (w : Whole). w.asking) c.give_puts.ensures.engine

pub returns-then-is_empty-clause-plays : goal.returns-then-is_empty-clause-plays
returns-then-is_empty-clause-plays g c coming start entry d word drawn live backs r =
    c.answer_put.ensures.plays coming start entry d r

pub returns-in_err-show_puts-clause-plays : goal.returns-in_err-show_puts-clause-plays
returns-in_err-show_puts-clause-plays g c =
    let p = err_from_is_err_and c.from_residual.result c.from_residual.ensures.1 in
    rw (p.1, p.2) (λ coming start entry d word drawn live backs r.
    let h : HeldRun = held_by g.E.Engine.whole g.E.Engine.log c.args.run.now coming in
    let asking = asking_in g.E.Engine.whole c.args.run.now in
    resumed-early start entry h (record d { sink = c.args.output.now }) asking c.args.left
    (answer_of h.machine (replies 0)) (Unit {0}) r tt (record h { world = c.show_puts.new.world }) refl refl refl refl
    asking refl)

pub returns-clause-plays : goal.returns-clause-plays
returns-clause-plays g c coming start entry d word drawn live backs r =
    let now : Handed g.K.Sink.called = record d { sink = c.args.output.now } in
    let h : HeldRun = held_by g.E.Engine.whole g.E.Engine.log c.args.run.now coming in
    let asking = asking_in g.E.Engine.whole c.args.run.now in
    let m : FlatMachine = answer_of h.machine (replies 0) in
    let p = c.more_puts-behind.ensures in
    let chars : c.more_puts-behind.new.chars.items ≡ p.chars =
    p.added ∙ ap (λ (cs : List ℕ). cs ++ p.chars) c.new-chars.ensures in
    let some : p.chars ≢ [] = subst (λ (cs : List ℕ). cs ≢ []) chars
    (some-are c.more_puts-behind.new.chars.items c.if-is_empty.ensures) in
    let one : HeldRun = record h { machine = m; left = c.args.left; log = logged h.log h.machine } in
    let first : Standing start entry one now steps = resumed-on start entry h now asking c.args.left m (Unit {0}) r in
    let all : Standing start entry (puts-held one p.chars c.more_puts-behind.result) now steps =
    puts-standing start entry now word p.chars one c.more_puts-behind.result drawn first (p.puts some)
    (c.requires.shows p.chars) c.requires.free (omega (arith, p.few, c.requires.bytes))
    (puts-live h.machine p.chars c.more_puts-behind.result live (p.puts some) some)
    (puts-backs h.machine p.chars c.more_puts-behind.result backs (p.puts some) some)
    (omega (arith, p.few, c.requires.units))
    (ap (λ l. logged l h.machine) (p.unrecorded some)) in
    let shown : c.show_puts.new.world ≡ after h.world (put_chars h.world.scene h.world.scene.current p.chars) =
    c.in_ok-show_puts.ensures.ok
    ∙ ap (λ (cs : List ℕ). after h.world (put_chars h.world.scene h.world.scene.current cs))
    (c.as_slice.ensures.value ∙ chars) in
    let count : c.args.left - c.len.result ≡ c.args.left - length p.chars =
    ap (λ (n : ℕ). c.args.left - n) (c.len.ensures.value ∙ ap length chars) in
    c.send_due.ensures.plays coming start entry d
    (subst (λ (x : HeldRun). Standing start entry x now steps)
    (sym (given-held g.E.Engine.whole g.E.Engine.log c.args.run.now c.give_puts.new.run coming p.chars
    c.more_puts-behind.result c.args.left (c.args.left - c.len.result) c.show_puts.new.world
    c.give_puts.ensures.same c.give_puts.ensures.engine c.give_puts.ensures.logs shown count)) all)
