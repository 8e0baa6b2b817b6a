use Rattle.std.proofs.Common.{◌≡◌, ℕ, List, Result, Ok, Err, refl, subst, sym}
use Rattle.std.proofs.lemmas.Result.{err_from_is_err_and}
use Rattle.gx_session.specs.declared.ends.Halt.{Halt}
use Rattle.gx_session.specs.declared.lines.NoLine.{NoLine}
use Rattle.gx_session.specs.declared.lines.NoLine.TheVariants as no
use Rattle.gx_session.specs.Devices.{Devices}
use Rattle.gx_session.specs.Holding.{Handed, held_by, asking_in}
use Rattle.gx_session.specs.Outcomes.{EventGives}
use Rattle.gx_session.proofs.Consulting.{text-refused, line-came, no-line-came}
use Rattle.gx_session.proofs.Counting.{well-of}
use Rattle.gx_session.proofs.Feeding.{fed-same, fed-coming}
use Rattle.gx_session.proofs.Keeping.{keeps-sink, stays-of, stays-source, keeps-after}
use Rattle.gx_session.proofs.turns.await_line.Goals as goal

pub returns-in_err-flush-clause-plays : goal.returns-in_err-flush-clause-plays
returns-in_err-flush-clause-plays g c =
    let p = err_from_is_err_and c.from_residual.result c.from_residual.ensures.1 in
    rw (p.1, p.2)
    (fed-same g.S.Source.called g.S.Source.seen c.args.run.now.lines c.args.input.now _
    (λ x turn start entry d is waits. text-refused start entry
    (held_by g.E.Engine.whole g.E.Engine.log c.args.run.now x) (asking_in g.E.Engine.whole c.args.run.now)
    (record d { source = g.S.Source.seen c.args.input.now; sink = c.args.output.now }) turn c.args.wait waits
    c.flush.new.world c.flush.new.output c.in_err-flush.field-0.0 c.in_err-flush.ensures.only
    c.in_err-flush.ensures.sends))

pub returns-in-Ok-clause-plays : goal.returns-in-Ok-clause-plays
returns-in-Ok-clause-plays g c =
    fed-coming g.S.Source.called g.S.Source.seen c.args.run.now.lines c.next.new.self c.take_line.new.run.lines
    c.args.input.now c.next.new.source _ _ c.take_line.ensures.lines c.in-Ok.ensures.takes
    (λ x y is takes turn start entry d wait waits.
    let now : Handed g.K.Sink.called = record d
    { source = g.S.Source.seen c.args.input.now; sink = c.args.output.now } in
    c.take_line.ensures.plays y start entry (record d { source = g.S.Source.seen c.next.new.source })
    (line-came start entry (held_by g.E.Engine.whole g.E.Engine.log c.args.run.now x)
    (asking_in g.E.Engine.whole c.args.run.now) now turn c.args.wait waits c.flush.new.world c.flush.new.output
    c.in_ok-flush.ensures.sends
    wait c.next.new.self.held y c.next.new.self.ended (g.S.Source.seen c.next.new.source) is.told c.in-Ok.line
    takes.line takes.reads (c.in-Ok.ensures.few waits.now.few)))

pub returns-in-Err-clause-plays : goal.returns-in-Err-clause-plays
returns-in-Err-clause-plays g c =
    fed-coming g.S.Source.called g.S.Source.seen c.args.run.now.lines c.next.new.self c.next.new.self c.args.input.now
    c.next.new.source _ _ refl c.in-Err.ensures.takes
    (λ x y is takes turn start entry d wait waits.
    let now : Handed g.K.Sink.called = record d
    { source = g.S.Source.seen c.args.input.now; sink = c.args.output.now } in
    subst (EventGives start entry _ _ _) (sym c.without_line.ensures)
    (no-line-came start entry (held_by g.E.Engine.whole g.E.Engine.log c.args.run.now x)
    (asking_in g.E.Engine.whole c.args.run.now) now turn c.args.wait waits c.flush.new.world c.flush.new.output
    c.in_ok-flush.ensures.sends
    wait c.next.new.self.held y c.next.new.self.ended (g.S.Source.seen c.next.new.source) is.told c.in-Err.none
    takes.line takes.reads (c.in-Err.ensures.few waits.now.few)))

pub returns-in-Ok-clause-keeps : goal.returns-in-Ok-clause-keeps
returns-in-Ok-clause-keeps g c d =
    let a : Devices = record d { source = g.S.Source.seen c.args.input.now; sink = g.K.Sink.seen c.args.output.now } in
    let b : Devices = record d { source = g.S.Source.seen c.args.input.now; sink = g.K.Sink.seen c.flush.new.output } in
    let e : Devices = record d {
      source = g.S.Source.seen c.next.new.source;
      sink = g.K.Sink.seen c.flush.new.output;
    } in
    let f : Devices = record d {
      source = g.S.Source.seen c.next.new.source;
      sink = g.K.Sink.seen c.take_line.new.output;
    } in
    let ok : Result (Unit {0}) Halt = Ok tt in
    let taken : Result (List ℕ) NoLine = Ok c.in-Ok.line in
    keeps-after a b f c.take_line.result
    (stays-of {T = Unit {0}} a b tt (keeps-sink a (g.K.Sink.seen c.args.output.now)
    (g.K.Sink.seen c.flush.new.output) ok c.in_ok-flush.ensures.count c.in_ok-flush.ensures.tells tt))
    (keeps-after b e f c.take_line.result
    (stays-source b (g.S.Source.seen c.args.input.now) (g.S.Source.seen c.next.new.source)
    (well-of (g.S.Source.seen c.args.input.now).calls (g.S.Source.seen c.next.new.source).calls
    (taken ≡ Err no.Failed) c.in-Ok.ensures.count (λ e. cc)) c.in-Ok.ensures.tells)
    (c.take_line.ensures.keeps (record d { source = g.S.Source.seen c.next.new.source })))
