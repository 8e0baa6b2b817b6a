-- The copy that the fields of a FlatCopy stand for.
use Rattle.gx_state.specs.Copies.{Copy}
use Rattle.gx_state.specs.declared.flat_copies.FlatCopy.TheInside.{Inside}

abbrev pub copy_in : Inside → Copy
copy_in c = record { memory = c.memory; stack = c.stack; heap = record { start = c.heap; blocks = c.blocks } }
