-- What the rows cost beside their own steps: a search costs the probes that it begins (Glulx 3.1.2,
-- "Searching"). One without an end costs more than any budget has, and is never done.
use Rattle.std.specs.Prelude.{ℕ, ◌==◌, if◌then◌else◌}
use Rattle.gx_rows.specs.Numbers as numbers
use Rattle.gx_rows.specs.declared.instructions.Class.{Class}
use Rattle.gx_rows.specs.declared.instructions.Class.TheVariants as class
use Rattle.gx_state.specs.Flat.{FlatState}
use Rattle.gx_operands.specs.Instructions.{Instruction}
use Rattle.ops_memory.specs.declared.searches.Method.TheVariants.{Linear, Binary, Linked}
use Rattle.ops_memory.specs.Searching.{search_by}

-- how many probes a row begins
abbrev pub probes_of : Class → FlatState → Instruction → ℕ
probes_of class.Memory f i = if i.row.number == numbers.linearsearch then (search_by Linear f i).probes else
    if i.row.number == numbers.binarysearch then (search_by Binary f i).probes else
    if i.row.number == numbers.linkedsearch then (search_by Linked f i).probes else 0
probes_of c f i = 0
