use Rattle.std.proofs.Common.{[], ◌∷◌, ◌++◌, refl, subst, sym, Result, Ok}
use Rattle.std.proofs.lemmas.Result.{err_from_is_err_and}
use Rattle.gx_outside.specs.Shelves.{Trace}
use Rattle.glk_replies.specs.declared.Given.{Given}
use Rattle.gx_session.specs.declared.ends.Halt.{Halt}
use Rattle.gx_session.specs.Devices.{Devices}
use Rattle.gx_session.specs.Holding.{Handed, HeldRun, held_by, asking_in}
use Rattle.gx_session.specs.Standing.{IsInCall, Early}
use Rattle.gx_session.specs.Outcomes.{halt_of_shelf}
use Rattle.gx_session.specs.Questions.{turn_of, request_for, AreTold}
use Rattle.gx_session.specs.Configurations.{goes_on}
use Rattle.gx_session.proofs.Calling.{called-none, called-as, asked-none}
use Rattle.gx_session.proofs.Consulting.{text-refused, shelf-refused, shelf-answered}
use Rattle.gx_session.proofs.Keeping.{keeps-sink, stays-of, stays-shelf, keeps-after}
use Rattle.gx_session.proofs.turns.consult.Goals as goal

pub returns-in_err-flush-clause-plays : goal.returns-in_err-flush-clause-plays
returns-in_err-flush-clause-plays g c =
    let p = err_from_is_err_and c.from_residual.result c.from_residual.ensures.1 in
    rw (p.1, p.2)
    (called-none g.F.Shelf.called c.args.shelf.now _
    (λ coming start entry d told waits.
    let now : Handed g.K.Sink.called = record d { sink = c.args.output.now; shelf = g.F.Shelf.seen c.args.shelf.now } in
    let h : HeldRun = held_by g.E.Engine.whole g.E.Engine.log c.args.run.now coming in
    let asking = asking_in g.E.Engine.whole c.args.run.now in
    asked-none (record now { sink = c.flush.new.output })
    (λ (e : Handed g.K.Sink.called). Early start entry
    (record h { world = c.flush.new.world }) asking e c.in_err-flush.field-0.0)
    (text-refused start entry h asking now (turn_of c.args.question) c.args.wait waits c.flush.new.world
    c.flush.new.output
    c.in_err-flush.field-0.0 c.in_err-flush.ensures.only c.in_err-flush.ensures.sends)))

pub returns-in_err-given-clause-plays : goal.returns-in_err-given-clause-plays
returns-in_err-given-clause-plays g c =
    let p = err_from_is_err_and c.from_residual-in_err-given.result c.from_residual-in_err-given.ensures.1 in
    rw (p.1, p.2)
    (called-as g.F.Shelf.called c.args.shelf.now c.ask.new.shelf _ _ c.in_err-given.ensures.asks
    (λ calls once coming start entry d told waits.
    let now : Handed g.K.Sink.called = record d { sink = c.args.output.now; shelf = g.F.Shelf.seen c.args.shelf.now } in
    let h : HeldRun = held_by g.E.Engine.whole g.E.Engine.log c.args.run.now coming in
    let asking = asking_in g.E.Engine.whole c.args.run.now in
    let shelf = g.F.Shelf.seen c.ask.new.shelf in
    let exit : Handed g.K.Sink.called = record now { sink = c.flush.new.output; shelf = shelf } in
    let fault = c.in_err-given.field-0.0 in
    subst (λ (t : Trace). Early start entry (record h { world = c.flush.new.world }) asking
    (record exit { asked = d.asked ++ t }) (halt_of_shelf fault)) (sym once)
    (shelf-refused start entry h asking now (turn_of c.args.question) c.args.wait waits c.flush.new.world
    c.flush.new.output c.in_ok-flush.ensures.sends
    shelf c.args.question refl fault (subst (AreTold start.answers d.asked) once told))))

pub returns-clause-plays : goal.returns-clause-plays
returns-clause-plays g c =
    called-as g.F.Shelf.called c.args.shelf.now c.ask.new.shelf _ _ c.in_ok-given.ensures.asks
    (λ calls once coming start entry d told waits.
    let now : Handed g.K.Sink.called = record d { sink = c.args.output.now; shelf = g.F.Shelf.seen c.args.shelf.now } in
    let h : HeldRun = held_by g.E.Engine.whole g.E.Engine.log c.args.run.now coming in
    let h1 : HeldRun = record h { world = c.flush.new.world } in
    let asking = asking_in g.E.Engine.whole c.args.run.now in
    let shelf = g.F.Shelf.seen c.ask.new.shelf in
    let mid : Handed g.K.Sink.called = record now { sink = c.flush.new.output; shelf = shelf } in
    let answered =
    shelf-answered start entry h asking now (turn_of c.args.question) c.args.wait waits c.flush.new.world
    c.flush.new.output c.in_ok-flush.ensures.sends
    shelf c.args.question refl once.0 (subst (AreTold start.answers d.asked) once.1 told) in
    c.go_on.ensures.plays coming start entry (record mid { asked = d.asked ++ calls })
    (subst (λ (t : Trace). IsInCall start entry h1 asking (record mid { asked = d.asked ++ t })
    (goes_on c.in_ok-given.given c.args.wait)) (sym once.1)
    (subst (λ (x : Given). IsInCall start entry h1 asking
    (record mid { asked = d.asked ++ (request_for c.args.question, Ok once.0) ∷ [] }) (goes_on x c.args.wait))
    (sym once.2) answered)))

pub returns-clause-keeps : goal.returns-clause-keeps
returns-clause-keeps g c d =
    let a : Devices = record d { sink = g.K.Sink.seen c.args.output.now; shelf = g.F.Shelf.seen c.args.shelf.now } in
    let b : Devices = record d { sink = g.K.Sink.seen c.flush.new.output; shelf = g.F.Shelf.seen c.args.shelf.now } in
    let e : Devices = record d { sink = g.K.Sink.seen c.flush.new.output; shelf = g.F.Shelf.seen c.ask.new.shelf } in
    let f : Devices = record d { sink = g.K.Sink.seen c.go_on.new.output; shelf = g.F.Shelf.seen c.ask.new.shelf } in
    let ok : Result (Unit {0}) Halt = Ok tt in
    keeps-after a b f c.go_on.result
    (stays-of {T = Unit {0}} a b tt (keeps-sink a (g.K.Sink.seen c.args.output.now)
    (g.K.Sink.seen c.flush.new.output) ok c.in_ok-flush.ensures.count c.in_ok-flush.ensures.tells tt))
    (keeps-after b e f c.go_on.result (stays-shelf b (g.F.Shelf.seen c.args.shelf.now)
    (g.F.Shelf.seen c.ask.new.shelf) c.in_ok-given.ensures.cause c.in_ok-given.ensures.tells)
    (c.go_on.ensures.keeps (record d { shelf = g.F.Shelf.seen c.ask.new.shelf })))
