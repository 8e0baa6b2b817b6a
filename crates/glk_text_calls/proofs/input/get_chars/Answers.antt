use Rattle.std.proofs.Common.{◌≡◌, rules}
use Rattle.std.proofs.lemmas.Result.{err_from_is_err_and}
use Rattle.glk_text_calls.proofs.Reading.{ending_len, width_read}
use Rattle.glk_streams.specs.Streams as streams
use Rattle.glk_text_calls.specs.Input.{read_on}
use Rattle.glk_text_calls.proofs.Gets.{same_buffer, kept_count, get_unread, get_refused, get_ends, get_fits}
use Rattle.glk_text_calls.proofs.input.get_chars.Goals as goal

pub returns-in_err-count-clause-value : goal.returns-in_err-count-clause-value
returns-in_err-count-clause-value g c =
    let p = err_from_is_err_and c.from_residual.result c.from_residual.ensures.1 in
    let same : c.streams.result.now ≡ c.args.world.now.scene.streams = search rules in
    rw (p.1, p.2) (get_unread c.args.world.now c.args.state.now.flat c.args.stream c.args.stops c.args.most
    c.args.width c.args.at c.places_read-places.result c.streams.result.now same c.places_read-places.ensures.value _
    c.in_err-count.ensures.value)

pub returns-in_err-can_lay-clause-value : goal.returns-in_err-can_lay-clause-value
returns-in_err-can_lay-clause-value g c =
    let p = err_from_is_err_and c.from_residual-in_err-can_lay.result c.from_residual-in_err-can_lay.ensures.1 in
    let same : c.streams.result.now ≡ c.args.world.now.scene.streams = search rules in
    let ends : c.from-2.result ≡ ending_len c.args.stops = search rules in
    rw (p.1, p.2) (get_refused c.args.world.now c.args.state.now.flat c.args.stream c.args.stops c.args.most
    c.args.width c.args.at c.places_read-places.result c.streams.result.now same c.places_read-places.ensures.value
    c.in_ok-count.field-0.count c.in_ok-count.field-0.position c.in_ok-count.ensures.value _ (same_buffer _ c.args.at
    c.args.width c.in_ok-count.field-0.count _ c.args.stops c.from.ensures ends) _ c.in_err-can_lay.ensures.value)

pub reply_read-requires-clause-len : goal.reply_read-requires-clause-len
reply_read-requires-clause-len g c =
    let s = streams.stream c.streams.result.now c.args.stream in
    kept_count (read_on c.args.most c.args.stops c.args.state.now.flat c.places_read-places.result s 0 s.position)
    c.in_ok-count.field-0.chars c.in_ok-count.field-0.count c.in_ok-count.field-0.position
    c.in_ok-count.ensures.value c.in_ok-count.ensures.chars

pub returns-clause-value : goal.returns-clause-value
returns-clause-value g c =
    let same : c.streams.result.now ≡ c.args.world.now.scene.streams = search rules in
    let ends : c.from-2.result ≡ ending_len c.args.stops = search rules in
    get_ends c.args.world.now c.args.state.now.flat c.args.stream c.args.stops c.args.most c.args.width c.args.at
    c.places_read-places.result c.streams.result.now same c.places_read-places.ensures.value
    c.in_ok-count.field-0.count c.in_ok-count.field-0.position c.in_ok-count.ensures.value _ (same_buffer _ c.args.at
    c.args.width c.in_ok-count.field-0.count _ c.args.stops c.from.ensures ends) c.in_ok-can_lay.ensures.value
    c.in_ok-count.field-0.chars c.reply_read.result c.in_ok-count.ensures.chars c.reply_read.ensures
    c.pass.new.self c.pass.ensures

pub returns-clause-fits : goal.returns-clause-fits
returns-clause-fits g c =
    let same : c.streams.result.now ≡ c.args.world.now.scene.streams = search rules in
    let ends : c.from-2.result ≡ ending_len c.args.stops = search rules in
    get_fits c.args.world.now c.args.state.now.flat c.args.stream c.args.stops c.args.most c.args.width c.args.at
    c.places_read-places.result c.streams.result.now same c.places_read-places.ensures.value
    c.in_ok-count.field-0.count c.in_ok-count.field-0.position c.in_ok-count.ensures.value _ (same_buffer _ c.args.at
    c.args.width c.in_ok-count.field-0.count _ c.args.stops c.from.ensures ends) c.in_ok-can_lay.ensures.value
    c.in_ok-count.field-0.chars c.reply_read.result c.in_ok-count.ensures.chars c.reply_read.ensures
    c.requires.width

pub read_on-requires-clause-width : goal.read_on-requires-clause-width
read_on-requires-clause-width g c = width_read
    c.args.world.now.scene c.args.stream c.args.most c.places_read-places.result c.places_read-places.ensures.value
