-- A line is refused by a look, or there is no memory for what it gives.
use Rattle.std.proofs.Common.{IsTrue}
use Rattle.std.proofs.lemmas.Result.{err_from_is_err_and}
use Rattle.glk_event_calls.specs.Events.{met_grows}
use Rattle.glk_event_calls.proofs.Lines.{met_refused, met_wanted, echo_grows}
use Rattle.glk_event_calls.proofs.events.met.Goals as goal

pub returns-in_err-places-clause-value : goal.returns-in_err-places-clause-value
returns-in_err-places-clause-value g c =
    let p = err_from_is_err_and c.from_residual.result c.from_residual.ensures.1 in
    rw (p.1, p.2)
    (met_refused (IsTrue (met_grows c.args.world.now.scene c.args.at c.args.request.now c.args.line.now))
    c.args.world.now c.args.state.now.flat c.args.room c.args.at c.args.request.now c.args.line.now
    c.in_err-places.field-0.0 c.in_err-places.ensures.value)

pub returns-in_err-chars-clause-value : goal.returns-in_err-chars-clause-value
returns-in_err-chars-clause-value g c =
    let p = err_from_is_err_and c.from_residual-in_err-chars.result c.from_residual-in_err-chars.ensures.1 in
    rw (p.1, p.2)
    (met_wanted c.args.world.now c.args.world.now c.args.state.now.flat c.args.room c.args.at c.args.request.now
    c.args.line.now c.in_ok-places.ensures.value
    (echo_grows c.args.world.now.scene c.args.at c.args.request.now c.args.line.now c.in_err-chars.ensures.memory))

pub returns-in_err-reply-clause-value : goal.returns-in_err-reply-clause-value
returns-in_err-reply-clause-value g c =
    let p = err_from_is_err_and c.from_residual-in_err-reply.result c.from_residual-in_err-reply.ensures.1 in
    rw (p.1, p.2)
    (met_wanted c.args.world.now c.args.world.now c.args.state.now.flat c.args.room c.args.at c.args.request.now
    c.args.line.now c.in_ok-places.ensures.value c.in_err-reply.ensures.memory)
