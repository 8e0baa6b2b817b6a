-- The definitions that the proof of one call opens together.
use Rattle.gx_state.specs.Returns.{popped_stub, stub_to, printing_on}
use Rattle.ops_print.specs.Asks.{mode_after}
use Rattle.ops_print.specs.Items.{item, item_printed, character_printed}
use Rattle.ops_print.specs.Stubs.{inner_ended}

-- a character of a string or number that is dropped
unfoldable pub dropping : Unit {0}
unfolding item item_printed character_printed
dropping = tt

-- one step of printing, and the mode behind it
unfoldable pub stepping : Unit {0}
unfolding item item_printed mode_after
stepping = tt

-- the end of a string or number
unfoldable pub ending : Unit {0}
unfolding inner_ended popped_stub stub_to printing_on
ending = tt
