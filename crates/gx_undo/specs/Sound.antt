-- What contracts see of an Undo, and what holds of it.
use Rattle.std.specs.Prelude.{◌≤◌, length}
use Rattle.gx_undo.specs.Undo.{FlatUndo}
use Rattle.gx_undo.specs.declared.Undo.TheInside.{Inside}

abbrev pub flat_of : {A : Type 0} → Inside A → FlatUndo
flat_of u = record { copies = u.ring.items; depth = u.ring.capacity }

-- no more are kept than the depth
abbrev pub IsSound : {A : Type 0} → Inside A → Type 0
IsSound u = length u.ring.items ≤ u.ring.capacity
