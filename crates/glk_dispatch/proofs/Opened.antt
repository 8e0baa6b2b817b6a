-- The definitions that the proofs of one call open together.
use Rattle.glk_dispatch.specs.Going.{glk_go_on, go_grows}
use Rattle.glk_dispatch.specs.ObjectCalls.{window_calls, stream_calls}
use Rattle.glk_dispatch.specs.TextCalls.{text_calls, event_calls, unicode_calls}
use Rattle.glk_dispatch.specs.Turns.{Awaits}

unfoldable pub going_on : Unit {0}
unfolding glk_go_on go_grows Awaits
going_on = tt

unfoldable pub parts_of_table : Unit {0}
unfolding window_calls stream_calls text_calls event_calls unicode_calls
parts_of_table = tt
