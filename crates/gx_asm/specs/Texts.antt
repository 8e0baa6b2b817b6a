-- THE CODE OF A TEXT, or why it has none. The first bad line decides.
use Rattle.std.specs.Prelude.{ℕ, ◌+◌, ◌-◌, ◌*◌, ◌==◌, ◌&&◌, ◌||◌, not, nat_le, if◌then◌else◌, Bool, true, false, List}
use Rattle.std.specs.Prelude.{[], ◌∷◌, ◌++◌, length, codes, Result, Ok, Err, slice_index}
use Rattle.std.specs.List.{slice_split}
use Rattle.std.specs.Option.{ok_or}
use Rattle.std.specs.Str.{bytes_eq}
use Rattle.gx_words.specs.Results.{◌>>=◌}
use Rattle.gx_rows.specs.declared.instructions.Row.{Row}
use Rattle.gx_rows.specs.declared.modes.Addressing.{Addressing}
use Rattle.gx_rows.specs.declared.modes.Addressing.TheVariants.{Zero, Constant, Memory, Top, Local, Ram}
use Rattle.gx_rows.specs.declared.modes.Kind.{Kind}
use Rattle.gx_rows.specs.Modes.{kind_of}
use Rattle.gx_rows.specs.Table.{row_at}
use Rattle.gx_asm.specs.declared.faults.AsmFault.{AsmFault}
use Rattle.gx_asm.specs.declared.faults.AsmFault.TheVariants as of_text
use Rattle.gx_asm.specs.declared.faults.LineFault.{LineFault}
use Rattle.gx_asm.specs.declared.faults.LineFault.TheVariants as of_line
use Rattle.gx_asm.specs.Names.{place_named}
use Rattle.gx_asm.specs.Instructions.{WrittenInstruction, operand_count, fits_kind, bytes_of, blank}
use Rattle.gx_words.specs.Constants.{line_feed}
use Rattle.gx_asm.specs.Instructions.{constant_sign}
use Rattle.gx_asm.specs.Instructions.{memory_sign, local_sign, ram_sign}

-- nothing is amiss, or a fault
abbrev pub required : {E : Type 0} → Bool → E → Result (Unit {0}) E
required true fault = Ok _
required false fault = Err fault

-- ---- an operand

-- what a digit 0 to 9, a to f is worth
abbrev pub digit_value : ℕ → Result ℕ LineFault
digit_value d =
    if nat_le 0x30 d && nat_le d 0x39 then Ok (d - 0x30) else
    if nat_le 0x61 d && nat_le d 0x66 then Ok (d - 0x57) else
    Err of_line.BadOperand

-- the bytes that digits spell, by two
unfoldable pub bytes_spelled : List ℕ → Result (List ℕ) LineFault
bytes_spelled [] = Ok []
bytes_spelled (d ∷ []) = Err of_line.BadOperand
bytes_spelled (high ∷ low ∷ rest) = do
  h ← digit_value high
  l ← digit_value low
  bytes ← bytes_spelled rest
  Ok ((16 * h + l) ∷ bytes)

-- the mode of a sign and 1, 2 or 4 bytes of data
abbrev pub mode_with : ℕ → ℕ → Result Addressing LineFault
mode_with sign n =
    if not (n == 1 || n == 2 || n == 4) then Err of_line.BadOperand else
    if sign == constant_sign then Ok (Constant n) else
    if sign == memory_sign then Ok (Memory n) else
    if sign == local_sign then Ok (Local n) else
    if sign == ram_sign then Ok (Ram n) else
    Err of_line.BadOperand

-- the mode and the data of a sign and digits
unfoldable pub data_in : Kind → List ℕ → Result (Addressing × List ℕ) LineFault
data_in kind [] = Err of_line.BadOperand
data_in kind (sign ∷ rest) = do
  bytes ← bytes_spelled rest
  mode ← mode_with sign (length bytes)
  _ ← required (fits_kind kind mode) of_line.BadOperand
  Ok (mode, bytes)

-- those of an operand's word
unfoldable pub operand_in : Kind → List ℕ → Result (Addressing × List ℕ) LineFault
operand_in kind word =
    if bytes_eq word (codes "z") then Ok (Zero, []) else
    if bytes_eq word (codes "sp") then Ok (Top, []) else
    data_in kind word

-- those of the words of a row's operands from an index on
unfoldable pub operands_in : Row → ℕ → List (List ℕ) → Result (List Addressing × List ℕ) LineFault
operands_in row i [] = Ok ([], [])
operands_in row i (word ∷ words) = do
  operand ← operand_in (kind_of row i) word
  rest ← operands_in row (i + 1) words
  Ok (operand.0 ∷ rest.0, operand.1 ++ rest.1)

-- ---- a line

abbrev pub is_blank : ℕ → Bool
is_blank b = b == blank

-- the place of the instruction that has a name and so many operands
abbrev pub place_in : List ℕ → ℕ → Result ℕ LineFault
place_in name count = do
  place ← ok_or (place_named name) of_line.BadName
  _ ← required (count == operand_count (row_at place)) of_line.Count
  Ok place

-- the instruction whose name and operands these words are
unfoldable pub instruction_in_words : List (List ℕ) → Result WrittenInstruction LineFault
instruction_in_words [] = Err of_line.BadName
instruction_in_words (name ∷ words) = do
  place ← place_in name (length words)
  operands ← operands_in (row_at place) 0 words
  Ok (record { place = place; modes = operands.0; operand_data = operands.1 })

-- that of a line, whose words stand between its blanks
unfoldable pub instruction_in : List ℕ → Result WrittenInstruction LineFault
instruction_in line = instruction_in_words (slice_split is_blank line)

-- ---- a text

abbrev pub is_line_feed : ℕ → Bool
is_line_feed b = b == line_feed

-- the fault of a line by its number
abbrev pub in_line : ℕ → LineFault → AsmFault
in_line line of_line.BadName = of_text.BadName line
in_line line of_line.Count = of_text.Count line
in_line line of_line.BadOperand = of_text.BadOperand line

abbrev pub at_line : ℕ → Result WrittenInstruction LineFault → Result WrittenInstruction AsmFault
at_line line (Ok w) = Ok w
at_line line (Err fault) = Err (in_line line fault)

-- The code of the lines from a number on. What stands behind the last line feed is no line.
unfoldable pub code_of : ℕ → List (List ℕ) → Result (List ℕ) AsmFault
code_of number [] = Ok []
code_of number (last ∷ []) = Ok []
code_of number (line ∷ next ∷ rest) = do
  w ← at_line number (instruction_in line)
  code ← code_of (number + 1) (next ∷ rest)
  Ok (bytes_of w ++ code)

-- the text isn't empty, and its last byte is no line feed
abbrev pub lacks_line_feed : List ℕ → Bool
lacks_line_feed text = not (length text == 0) && not (slice_index text (length text - 1) == line_feed)

unfoldable pub assembled : List ℕ → Result (List ℕ) AsmFault
assembled text = if lacks_line_feed text then Err of_text.Cut else code_of 1 (slice_split is_line_feed text)
