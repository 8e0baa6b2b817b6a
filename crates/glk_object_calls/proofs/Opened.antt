-- The definitions that the proofs of one call open together.
use Rattle.glk_world.specs.Calls.{with_reference}
use Rattle.glk_object_calls.specs.References.{fileref_create_from_fileref}

unfoldable pub creating_from_fileref : Unit {0}
unfolding fileref_create_from_fileref with_reference
creating_from_fileref = tt
