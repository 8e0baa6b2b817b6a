-- The numbers that the standard fixes, and those that it leaves to an interpreter (Glulx 3.1.2). The constants of the
-- same names in code are tied to these.
use Rattle.std.specs.Prelude.{ℕ}

-- the largest memory and the largest stack in bytes, which the standard leaves open
abbrev pub ceiling : ℕ
ceiling = 0x10000000

abbrev pub stack_limit : ℕ
stack_limit = 0x01000000

-- the addresses of the header's words, and its length ("The Header")
abbrev pub magic_at : ℕ
magic_at = 0x00

abbrev pub version_at : ℕ
version_at = 0x04

abbrev pub ramstart_at : ℕ
ramstart_at = 0x08

abbrev pub extstart_at : ℕ
extstart_at = 0x0C

abbrev pub endmem_at : ℕ
endmem_at = 0x10

abbrev pub stack_size_at : ℕ
stack_size_at = 0x14

abbrev pub start_function_at : ℕ
start_function_at = 0x18

abbrev pub table_at : ℕ
table_at = 0x1C

abbrev pub checksum_at : ℕ
checksum_at = 0x20

abbrev pub header_len : ℕ
header_len = 0x24

-- the letters Glul
abbrev pub magic : ℕ
magic = 0x476C756C

-- the I/O systems ("Output")
abbrev pub null_system : ℕ
null_system = 0

abbrev pub filter_system : ℕ
filter_system = 1

abbrev pub glk_system : ℕ
glk_system = 2

-- the types of functions and strings ("Typable Objects")
abbrev pub stack_function : ℕ
stack_function = 0xC0

abbrev pub locals_function : ℕ
locals_function = 0xC1

abbrev pub c_string : ℕ
c_string = 0xE0

abbrev pub compressed_string : ℕ
compressed_string = 0xE1

abbrev pub unicode_string : ℕ
unicode_string = 0xE2

-- a line feed (Glk 0.7.5, "Output")
abbrev pub line_feed : ℕ
line_feed = 0x0A
