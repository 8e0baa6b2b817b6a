-- The copy that the fields of a Moment stand for.
use Rattle.gx_state.specs.Copies.{Copy}
use Rattle.gx_state.specs.declared.copies.Moment.TheInside.{Inside}

abbrev pub copy_in : {A : Type 0} → Inside A → Copy
copy_in m = record { memory = m.parts.value.memory; stack = m.parts.value.stack; heap = m.parts.value.heap.heap }
