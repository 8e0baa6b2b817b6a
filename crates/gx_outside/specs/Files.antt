-- Files by name.
use Rattle.std.specs.Prelude.{ℕ, List, Option, None, if◌then◌else◌}
use Rattle.std.specs.Str.{bytes_eq}

-- what stands under each name, a name being its bytes in UTF-8
abbrev pub Files : Type 0
Files = List ℕ → Option (List ℕ)

-- one name holds these bytes, or none; the others stand
abbrev pub with_file : Files → List ℕ → Option (List ℕ) → Files
with_file files name bytes other = if bytes_eq other name then bytes else files other

-- an empty shelf
abbrev pub no_files : Files
no_files name = None
