-- The numbers of references. The constants of the same names in code are tied to these.
use Rattle.std.specs.Prelude.{ℕ}

-- a reference that pushes what it is given on the stack ("The Dispatch Layer"): -1
abbrev pub on_stack : ℕ
on_stack = 0xFFFFFFFF
