-- The definitions that the proofs of one call open together.
use Rattle.glk_replies.specs.Parts.{give}
use Rattle.glk_event_calls.specs.Events.{select, met, met_grows}

unfoldable pub selecting : Unit {0}
unfolding select give
selecting = tt

unfoldable pub meeting : Unit {0}
unfolding met met_grows
meeting = tt
