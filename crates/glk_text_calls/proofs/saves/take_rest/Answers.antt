use Rattle.std.proofs.Common.{rules}
use Rattle.std.proofs.lemmas.Result.{err_from_is_err_and}
use Rattle.glk_text_calls.specs.PuttingSaves.{take_rest}
use Rattle.glk_text_calls.proofs.Reading.{width_read}
use Rattle.glk_text_calls.proofs.Gets.{rest_lost}
use Rattle.glk_text_calls.proofs.saves.take_rest.Goals as goal

pub returns-then-not-has : goal.returns-then-not-has
unfolding take_rest
returns-then-not-has g c = search rules

pub returns-in_err-bytes : goal.returns-in_err-bytes
returns-in_err-bytes g c =
    let p = err_from_is_err_and c.from_residual.result c.from_residual.ensures.1 in
    rw (p.1, p.2) (rest_lost c.args.world.now c.args.world.now c.args.state.now.flat c.args.stream
    c.in_err-bytes.ensures.memory)

pub take_chars-requires-clause-width : goal.take_chars-requires-clause-width
take_chars-requires-clause-width g c = width_read
    c.args.world.now.scene c.args.stream c.rest_len-most.result c.places_read-places.result
    c.places_read-places.ensures.value
