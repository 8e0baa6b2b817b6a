-- The definitions that the proofs of one call open together.
use Rattle.gx_strings.specs.Items.{next_item, plain_item, number_item}

unfoldable pub each_item : Unit {0}
unfolding next_item plain_item number_item
each_item = tt
