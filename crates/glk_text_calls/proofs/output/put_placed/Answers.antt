use Rattle.std.proofs.Common.{◌≡◌, false, true, ◌∷◌, [], refl, rules}
use Rattle.std.proofs.lemmas.Result.{err_from_is_err_and}
use Rattle.glk_streams.specs.Streams as streams
use Rattle.glk_text_calls.proofs.Puts.{put_nowhere, put_refused, one_wanted, one_ends, put_ends_fit}
use Rattle.glk_text_calls.proofs.output.put_placed.Goals as goal

pub returns-then-not-has-clause-value : goal.returns-then-not-has-clause-value
returns-then-not-has-clause-value g c =
    let gone : streams.has c.args.world.now.scene.streams c.args.stream ≡ false = search rules in
    rw c.reply.ensures (put_nowhere _ _ _ _ gone)

pub returns-in_err-can_lay-clause-value : goal.returns-in_err-can_lay-clause-value
returns-in_err-can_lay-clause-value g c =
    let p = err_from_is_err_and c.from_residual.result c.from_residual.ensures.1 in
    let there : streams.has c.args.world.now.scene.streams c.args.stream ≡ true = search rules in
    rw (p.1, p.2)
    (put_refused _ _ _ _ _ _ _ c.places-places.ensures.value refl there c.in_err-can_lay.ensures.value)

pub returns-in_err-put-clause-value : goal.returns-in_err-put-clause-value
returns-in_err-put-clause-value g c =
    let p = err_from_is_err_and c.from_residual-in_err-put.result c.from_residual-in_err-put.ensures.1 in
    let there : streams.has c.args.world.now.scene.streams c.args.stream ≡ true = search rules in
    rw (p.1, p.2) (one_wanted _ _ _ _ _ c.places-places.ensures.value there _ c.in_ok-can_lay.ensures.value
    c.in_err-put.ensures.memory)

pub returns-clause-value : goal.returns-clause-value
returns-clause-value g c =
    let there : streams.has c.args.world.now.scene.streams c.args.stream ≡ true = search rules in
    one_ends c.args.world.now c.args.state.now.flat c.args.stream c.args.c c.places-places.result
    c.places-places.ensures.value there c.put.new.self c.filled.result c.in_ok-can_lay.ensures.value
    c.in_ok-put.ensures.ok c.filled.ensures

pub returns-clause-fits : goal.returns-clause-fits
returns-clause-fits g c =
    put_ends_fit c.args.state.now.flat c.args.world.now.scene c.args.stream 1 0 (c.args.c ∷ []) c.places-places.result
    c.filled.result c.places-places.ensures.value c.places-places.ensures.count c.in_ok-can_lay.ensures.value
    c.filled.ensures
