-- The numbers of strings (Glulx 3.1.2). The constants of the same names in code are tied to these.
use Rattle.std.specs.Prelude.{ℕ}

-- the types of the nodes of a decoding table, each its first byte ("The String-Decoding Table")
abbrev pub branch : ℕ
branch = 0x00

abbrev pub string_terminator : ℕ
string_terminator = 0x01

abbrev pub single_character : ℕ
single_character = 0x02

abbrev pub c_style_string : ℕ
c_style_string = 0x03

abbrev pub single_unicode_character : ℕ
single_unicode_character = 0x04

abbrev pub c_style_unicode_string : ℕ
c_style_unicode_string = 0x05

abbrev pub indirect_reference : ℕ
indirect_reference = 0x08

abbrev pub double_indirect_reference : ℕ
double_indirect_reference = 0x09

abbrev pub indirect_reference_with_arguments : ℕ
indirect_reference_with_arguments = 0x0A

abbrev pub double_indirect_reference_with_arguments : ℕ
double_indirect_reference_with_arguments = 0x0B

-- the last of the types that are those of functions ("Typable Objects")
abbrev pub last_function : ℕ
last_function = 0xDF
