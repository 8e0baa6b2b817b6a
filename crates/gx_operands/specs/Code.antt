-- Where the bytes of an instruction lie.
use Rattle.std.specs.Prelude.{◌≡◌, ◌≤◌, ℕ, Bool, true}
use Rattle.gx_state.specs.Flat.{FlatState}

-- where they are said to lie in ROM, all bytes before an address do
abbrev pub IsInRom : Bool → FlatState → ℕ → Type 0
IsInRom rom f end = rom ≡ true → end ≤ f.story.header.ramstart
