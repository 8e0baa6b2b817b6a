use Rattle.std.proofs.Common.{◌≢◌, [], ◌≤◌, length, refl, arith}
use Rattle.std.proofs.lemmas.Result.{err_from_is_err_and}
use Rattle.glk_text_calls.proofs.Puts.{put_refused, put_wanted, put_ends, put_ends_fit, some_counted}
use Rattle.glk_text_calls.proofs.saves.put_bytes.Goals as goal

pub returns-in_err-can_lay-clause-value : goal.returns-in_err-can_lay-clause-value
returns-in_err-can_lay-clause-value g c =
    let p = err_from_is_err_and c.from_residual.result c.from_residual.ensures.1 in
    rw (p.1, p.2) (put_refused _ _ _ _ _ _ _ c.places-places.ensures.value (omega (arith, c.requires.few))
    c.requires.there c.in_err-can_lay.ensures.value)

pub returns-in_err-put_bytes-clause-value : goal.returns-in_err-put_bytes-clause-value
returns-in_err-put_bytes-clause-value g c =
    let p = err_from_is_err_and c.from_residual-in_err-put_bytes.result c.from_residual-in_err-put_bytes.ensures.1 in
    rw (p.1, p.2) (put_wanted {wants = c.args.bytes.now ≢ []} _ _ _ _ _ _ _ c.in_err-put_bytes.ensures.memory
    c.places-places.ensures.value
    (omega (arith, c.requires.few)) c.requires.there c.in_ok-can_lay.ensures.value)

pub returns-clause-value : goal.returns-clause-value
returns-clause-value g c =
    let few : c.places-places.result.count ≤ length c.args.bytes.now =
    omega (arith, c.requires.few, c.places-places.ensures.count) in
    put_ends c.args.world.now c.put_bytes.new.self c.args.state.now.flat c.args.stream (length c.args.bytes.now)
    c.args.bytes.now c.places-places.result c.filled_bytes.result
    (λ some. some_counted c.places-places.result.count c.args.bytes.now some few) c.places-places.ensures.value refl
    c.requires.there c.in_ok-can_lay.ensures.value c.in_ok-put_bytes.ensures.ok c.filled_bytes.ensures

pub returns-clause-fits : goal.returns-clause-fits
returns-clause-fits g c =
    put_ends_fit c.args.state.now.flat c.args.world.now.scene c.args.stream (length c.args.bytes.now) 0
    c.args.bytes.now c.places-places.result c.filled_bytes.result c.places-places.ensures.value
    (omega (arith, c.requires.few, c.places-places.ensures.count)) c.in_ok-can_lay.ensures.value c.filled_bytes.ensures
