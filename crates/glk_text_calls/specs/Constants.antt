-- The numbers of characters that are got (Glk 0.7.5). The constants of the same names in code are tied to these.
use Rattle.std.specs.Prelude.{ℕ}

-- what get_char_stream answers at the end of a stream ("How To Read"): -1
abbrev pub no_character : ℕ
no_character = 0xFFFFFFFF
