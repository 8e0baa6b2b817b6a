-- The definitions that the proof of one call opens together.
use Rattle.gx_operands.specs.Stores.{settled}
use Rattle.ops_game.specs.GameRows.{saveundo}

unfoldable pub saving : Unit {0}
unfolding saveundo settled
saving = tt
