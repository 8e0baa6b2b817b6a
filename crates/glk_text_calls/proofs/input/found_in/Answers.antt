use Rattle.std.proofs.Common.{◌≡◌, ◌<◌, ◌≤◌, ◌+◌, ◌*◌, length, arith}
use Rattle.std.proofs.lemmas.Result.{err_from_is_err_and}
use Rattle.glk_text_calls.proofs.Reading.{width_some, found_refused, found_there}
use Rattle.glk_text_calls.proofs.input.found_in.Goals as goal

pub returns-in_err-can_read : goal.returns-in_err-can_read
returns-in_err-can_read g c =
    let p = err_from_is_err_and c.from_residual.result c.from_residual.ensures.1 in
    let at : c.args.places.at + c.from.result * c.from-2.result ≡ c.args.places.at + c.args.places.width * c.args.i =
    cc in
    rw (p.1, p.2) (found_refused c.args.state.now.flat c.args.places c.args.i
    (c.args.places.at + c.from.result * c.from-2.result) c.from-3.result c.in_err-can_read.field-0.0
    c.if-places-i.false at c.from-3.ensures c.in_err-can_read.ensures.value)

pub returns : goal.returns
returns g c =
    let at : c.args.places.at + c.from.result * c.from-2.result ≡ c.args.places.at + c.args.places.width * c.args.i =
    cc in
    let some : 0 < c.args.places.width = width_some c.args.places.width c.requires.width in
    let there : c.args.places.at + c.from.result * c.from-2.result + c.args.places.width
    ≤ length c.args.state.now.flat.memory = omega (arith, c.in_ok-can_read.ensures.there, c.from-3.ensures, some) in
    found_there c.args.state.now.flat c.args.places c.args.i
    (c.args.places.at + c.from.result * c.from-2.result) _ c.number.result c.memory.result.now c.if-places-i.false at
    there (omega (arith, c.in_ok-can_read.ensures.low, c.from-3.ensures, some)) c.memory.ensures.value
    c.number.ensures.value
