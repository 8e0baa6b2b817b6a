-- The types of call stubs, each its DestType (Glulx 3.1.2, "Call Stubs"). The constants of the same names in code are
-- tied to these.
use Rattle.std.specs.Prelude.{ℕ}

-- where the value that is returned goes
abbrev pub to_nowhere : ℕ
to_nowhere = 0

abbrev pub to_memory : ℕ
to_memory = 1

abbrev pub to_local : ℕ
to_local = 2

abbrev pub to_stack : ℕ
to_stack = 3

-- what goes on once a string or a function in the midst of printing has ended
abbrev pub resume_compressed : ℕ
resume_compressed = 0x10

abbrev pub resume_code : ℕ
resume_code = 0x11

abbrev pub resume_number : ℕ
resume_number = 0x12

abbrev pub resume_c_string : ℕ
resume_c_string = 0x13

abbrev pub resume_unicode : ℕ
resume_unicode = 0x14
