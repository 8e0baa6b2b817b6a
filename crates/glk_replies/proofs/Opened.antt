-- The definitions that the proofs of one call open together.
use Rattle.glk_replies.specs.Parts.{give, give_each, can_push, pushes_for_each, writes_for_each}

unfoldable pub giving : Unit {0}
unfolding give can_push
giving = tt

unfoldable pub giving_each : Unit {0}
unfolding give_each can_push
giving_each = tt

unfoldable pub adding_each : Unit {0}
unfolding pushes_for_each writes_for_each
adding_each = tt
