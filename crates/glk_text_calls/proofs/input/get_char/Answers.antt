use Rattle.glk_text_calls.proofs.Reading.{width_read}
use Rattle.glk_text_calls.proofs.input.get_char.Goals as goal

pub found_in-requires-clause-width : goal.found_in-requires-clause-width
found_in-requires-clause-width g c = width_read
    c.args.world.now.scene c.arg-stream.result 1 c.places_read.result c.places_read.ensures.value
