-- The numbers that stand in the definitions by name. The constants of the same names in code are tied to them.
use Rattle.std.specs.Prelude.{ℕ}

-- the last identifier that an object is given (Glk 0.7.5, "Opaque Objects"), which the standard leaves open
abbrev pub last_identifier : ℕ
last_identifier = 0xFFFFFFFE

-- the selector of glk_fileref_create_by_prompt (Glk 0.7.5, "The Dispatch Layer")
abbrev pub prompt_selector : ℕ
prompt_selector = 0x62
