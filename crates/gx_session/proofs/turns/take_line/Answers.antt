use Rattle.std.proofs.Common.{ap, subst, sym}
use Rattle.std.proofs.lemmas.Result.{err_from_is_err_and}
use Rattle.glk_world.specs.World.{FlatWorld}
use Rattle.glk_dispatch.specs.Turns.{Awaits}
use Rattle.glk_replies.specs.declared.Given.TheVariants as given
use Rattle.gx_session.specs.declared.running.Running.{Running}
use Rattle.gx_session.proofs.Lining.{awaits-shown, line-refused, line-shown}
use Rattle.gx_session.proofs.turns.take_line.Goals as goal

pub returns-in_err-show_line-clause-plays : goal.returns-in_err-show_line-clause-plays
returns-in_err-show_line-clause-plays g c coming start entry d r =
    let p = err_from_is_err_and c.from_residual.result c.from_residual.ensures.1 in
    rw (p.1, p.2)
    (line-refused g.E.Engine.whole g.E.Engine.log c.args.run.now c.show_line.new.run coming c.args.line c.args.wait
    start entry (record d { sink = c.args.output.now }) r c.in_err-show_line.field-0.0
    c.in_err-show_line.ensures.memory c.in_err-show_line.ensures.echo c.in_err-show_line.ensures.err)

pub go_on-requires-clause-awaits : goal.go_on-requires-clause-awaits
go_on-requires-clause-awaits g c =
    subst (λ (x : FlatWorld). Awaits x.scene (given.Line c.args.line))
    (sym (ap (λ (r : Running _). r.world) c.in_ok-show_line.ensures.shown))
    (awaits-shown c.args.run.now.world c.args.line (given.Line c.args.line) c.args.run.now.echo c.requires.awaits)

pub returns-clause-plays : goal.returns-clause-plays
returns-clause-plays g c coming start entry d r =
    c.go_on.ensures.plays coming start entry d
    (line-shown g.E.Engine.whole g.E.Engine.log c.args.run.now c.show_line.new.run coming c.args.line c.args.wait
    start entry (record d { sink = c.args.output.now }) r c.in_ok-show_line.ensures.shown)
