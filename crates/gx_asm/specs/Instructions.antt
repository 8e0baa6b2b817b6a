-- AN INSTRUCTION AS IT IS WRITTEN, in a text and in bytes (Glulx 3.1.2, "Instruction Format"), and what it means that a
-- text spells a code.
--
-- In a text an instruction is a line: its name, then each operand behind one blank, and a line feed. An operand is `z`
-- for a constant zero, `sp` for the top of the stack, or a sign and its data in hexadecimal digits: # for a constant, @
-- for an address, % for a local, ! for a RAM address. In bytes it is its number in the shortest form, the modes of its
-- operands, two in a byte with the low nibble first and a spare nibble 0, and their data.
use Rattle.std.specs.Prelude.{◌≡◌, ℕ, ◌+◌, ◌*◌, ◌/◌, ◌%◌, ◌<◌, ◌==◌, nat_lt, if◌then◌else◌, Bool, true, false, List, []}
use Rattle.std.specs.Prelude.{◌∷◌, ◌++◌, length, map, take, drop, codes, All}
use Rattle.std.specs.List.{flat_map}
use Rattle.gx_words.specs.Constants.{line_feed}
use Rattle.gx_rows.specs.declared.instructions.Row.{Row}
use Rattle.gx_rows.specs.declared.modes.Addressing.{Addressing}
use Rattle.gx_rows.specs.declared.modes.Addressing.TheVariants.{Zero, Constant, Memory, Top, Local, Ram}
use Rattle.gx_rows.specs.declared.modes.Kind.{Kind}
use Rattle.gx_rows.specs.declared.modes.Kind.TheVariants.{Load, Store}
use Rattle.gx_rows.specs.Modes as modes
use Rattle.gx_rows.specs.Opcodes.{shortest, spelled}
use Rattle.gx_rows.specs.Table.{row_at, row_count}
use Rattle.gx_asm.specs.Names.{name_at}

-- the place of an instruction in the table, the modes of its operands, and their data, one after another
pub record WrittenInstruction : Type 0 where
  pub place : ℕ
  pub modes : List Addressing
  pub operand_data : List ℕ

abbrev pub operand_count : Row → ℕ
operand_count row = row.loads + row.stores

-- how many bytes of data an operand has by its mode, and all of them
abbrev pub data_len : Addressing → ℕ
data_len Zero = 0
data_len (Constant n) = n
data_len (Memory n) = n
data_len Top = 0
data_len (Local n) = n
data_len (Ram n) = n

unfoldable pub all_data_len : List Addressing → ℕ
all_data_len [] = 0
all_data_len (mode ∷ rest) = data_len mode + all_data_len rest

-- a constant is no place for a store
abbrev pub fits_kind : Kind → Addressing → Bool
fits_kind Load mode = true
fits_kind Store Zero = true
fits_kind Store (Constant n) = false
fits_kind Store (Memory n) = true
fits_kind Store Top = true
fits_kind Store (Local n) = true
fits_kind Store (Ram n) = true

-- these are modes for the operands of a row from an index on
abbrev pub AreModes : Row → ℕ → List Addressing → Type 0
AreModes row i [] = Unit {0}
AreModes row i (mode ∷ rest) =
    modes.HasWidth mode × (fits_kind (modes.kind_of row i) mode ≡ true) × AreModes row (i + 1) rest

-- there is such an instruction
pub record IsWritten (w : WrittenInstruction) : Type 0 where
  pub place : w.place < row_count
  pub count : length w.modes ≡ operand_count (row_at w.place)
  pub modes : AreModes (row_at w.place) 0 w.modes
  pub operand_data : length w.operand_data ≡ all_data_len w.modes
  pub bytes : All (λ b. b < 256) w.operand_data

-- ---- its bytes

-- one of three numbers by a width of 1, 2 or 4 bytes
abbrev pub by_width : ℕ → ℕ → ℕ → ℕ → ℕ
by_width n one two four = if n == 1 then one else if n == 2 then two else four

-- the nibble of a mode
abbrev pub nibble_of : Addressing → ℕ
nibble_of Zero = modes.constant_zero
nibble_of (Constant n) = by_width n modes.constant_byte modes.constant_short modes.constant_word
nibble_of (Memory n) = by_width n modes.address_byte modes.address_short modes.address_word
nibble_of Top = modes.stack_top
nibble_of (Local n) = by_width n modes.local_byte modes.local_short modes.local_word
nibble_of (Ram n) = by_width n modes.ram_byte modes.ram_short modes.ram_word

-- nibbles, two in a byte
unfoldable pub packed_nibbles : List ℕ → List ℕ
packed_nibbles [] = []
packed_nibbles (low ∷ []) = low ∷ []
packed_nibbles (low ∷ high ∷ rest) = (low + 16 * high) ∷ packed_nibbles rest

abbrev pub opcode_number : WrittenInstruction → ℕ
opcode_number w = (row_at w.place).number

unfoldable pub bytes_of : WrittenInstruction → List ℕ
bytes_of w =
    spelled (opcode_number w) (shortest (opcode_number w)) ++ packed_nibbles (map nibble_of w.modes) ++ w.operand_data

-- ---- its line

abbrev pub blank : ℕ
blank = 0x20

-- the signs of operands: # @ % !
abbrev pub constant_sign : ℕ
constant_sign = 0x23

abbrev pub memory_sign : ℕ
memory_sign = 0x40

abbrev pub local_sign : ℕ
local_sign = 0x25

abbrev pub ram_sign : ℕ
ram_sign = 0x21

-- the digit 0 to 9, a to f of a number below 16, and the two digits of each byte
abbrev pub digit : ℕ → ℕ
digit n = if nat_lt n 10 then 0x30 + n else 0x57 + n

abbrev pub digits_of_byte : ℕ → List ℕ
digits_of_byte b = digit (b / 16) ∷ digit (b % 16) ∷ []

abbrev pub digits : List ℕ → List ℕ
digits bytes = flat_map digits_of_byte bytes

-- the word of an operand with its data
abbrev pub operand_word : Addressing → List ℕ → List ℕ
operand_word Zero bytes = codes "z"
operand_word (Constant n) bytes = constant_sign ∷ digits bytes
operand_word (Memory n) bytes = memory_sign ∷ digits bytes
operand_word Top bytes = codes "sp"
operand_word (Local n) bytes = local_sign ∷ digits bytes
operand_word (Ram n) bytes = ram_sign ∷ digits bytes

-- the words of operands, each behind a blank and with its part of the data
unfoldable pub words_of : List Addressing → List ℕ → List ℕ
words_of [] bytes = []
words_of (mode ∷ rest) bytes =
    blank ∷ operand_word mode (take (data_len mode) bytes) ++ words_of rest (drop (data_len mode) bytes)

unfoldable pub instruction_line : WrittenInstruction → List ℕ
instruction_line w = name_at w.place ++ words_of w.modes w.operand_data ++ line_feed ∷ []

-- SPELLED: there are instructions of which the text is the lines, in order, and the code the bytes.
pub record Spells (text code : List ℕ) : Type 0 where
  pub instructions : List WrittenInstruction
  pub each : All IsWritten instructions
  pub lines : text ≡ flat_map instruction_line instructions
  pub bytes : code ≡ flat_map bytes_of instructions
