use Rattle.std.proofs.Common.{◌≡◌, rules}
use Rattle.std.proofs.lemmas.Result.{err_from_is_err_and}
use Rattle.glk_text_calls.proofs.Gets.{rest_unread, rest_ends}
use Rattle.glk_text_calls.proofs.saves.take_chars.Goals as goal

pub returns-in_err-count : goal.returns-in_err-count
returns-in_err-count g c =
    let p = err_from_is_err_and c.from_residual.result c.from_residual.ensures.1 in
    let same : c.streams.result.now ≡ c.args.world.now.scene.streams = search rules in
    rw (p.1, p.2) (rest_unread c.args.world.now c.args.state.now.flat c.args.stream c.args.most c.args.places
    c.streams.result.now same c.requires.there c.requires.reads c.requires.most c.requires.places _
    c.in_err-count.ensures.value)

pub returns : goal.returns
returns g c =
    let same : c.streams.result.now ≡ c.args.world.now.scene.streams = search rules in
    rest_ends c.args.world.now c.args.state.now.flat c.args.stream c.args.most c.args.places c.streams.result.now same
    c.requires.there c.requires.reads c.requires.most c.requires.places c.in_ok-count.field-0.count
    c.in_ok-count.field-0.position c.in_ok-count.ensures.value c.pass.new.self c.pass.ensures
    c.in_ok-count.field-0.chars c.bytes_read.result c.in_ok-count.ensures.chars c.in_ok-count.ensures.memory
    c.bytes_read.ensures
