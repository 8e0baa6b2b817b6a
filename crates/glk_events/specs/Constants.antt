-- The keys that stand for what is no character (Glk 0.7.5, "Character Input"). The constants of code, RETURN
-- for return_key and so on, are tied to these.
use Rattle.std.specs.Prelude.{ℕ}

-- keycode_Return, keycode_Unknown
abbrev pub return_key : ℕ
return_key = 0xFFFFFFFA

abbrev pub unknown_key : ℕ
unknown_key = 0xFFFFFFFF
