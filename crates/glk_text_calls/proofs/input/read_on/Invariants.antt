use Rattle.glk_streams.specs.Streams as streams
use Rattle.glk_text_calls.proofs.Reading.{IsReading}
use Rattle.glk_text_calls.proofs.input.read_on.Given as goal

abbrev pub invariant-loop-i : goal.invariant-loop-i
invariant-loop-i g l =
    IsReading l.most l.stops l.state.flat l.places (streams.stream l.all l.stream) l.i l.position l.chars
