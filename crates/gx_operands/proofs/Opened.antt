-- The definitions that the proofs of one call open together.
use Rattle.gx_rows.specs.Modes.{addressing}
use Rattle.gx_operands.specs.Instructions.{load, load_by, destination, destination_by}

unfoldable pub loading : Unit {0}
unfolding load addressing load_by
loading = tt

unfoldable pub pointing : Unit {0}
unfolding destination addressing destination_by
pointing = tt
