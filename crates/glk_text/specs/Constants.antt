-- The character that stands in the definitions by name. The constant of the same name in code is tied to it.
use Rattle.std.specs.Prelude.{ℕ}

-- what is read where no well-formed character begins (the Unicode Standard, "Specials": REPLACEMENT CHARACTER)
abbrev pub replacement : ℕ
replacement = 0xFFFD
