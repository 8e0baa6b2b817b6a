-- THE TEXT OF A CODE, or why it has none. The first bad instruction decides, and in it the first of its parts: number,
-- modes, data.
use Rattle.std.specs.Prelude.{ℕ, zero, suc, ◌+◌, ◌/◌, ◌%◌, ◌==◌, ◌&&◌, ◌||◌, nat_lt, if◌then◌else◌, Bool, false, List}
use Rattle.std.specs.Prelude.{[], ◌∷◌, ◌++◌, length, take, drop, Result, Ok, Err}
use Rattle.std.specs.Option.{ok_or}
use Rattle.gx_words.specs.Results.{◌>>=◌}
use Rattle.gx_rows.specs.declared.instructions.Row.{Row}
use Rattle.gx_rows.specs.declared.modes.Addressing.{Addressing}
use Rattle.gx_rows.specs.declared.modes.Kind.{Kind}
use Rattle.gx_rows.specs.Modes.{addressing, kind_of}
use Rattle.gx_rows.specs.Numbers as numbers
use Rattle.gx_rows.specs.Opcodes.{opcode_of, shortest}
use Rattle.gx_rows.specs.Table.{place_of, row_at}
use Rattle.gx_asm.specs.declared.faults.ListFault.{ListFault}
use Rattle.gx_asm.specs.declared.faults.ListFault.TheVariants as of_code
use Rattle.gx_asm.specs.Instructions.{WrittenInstruction, operand_count, all_data_len, fits_kind, opcode_number}
use Rattle.gx_asm.specs.Instructions.{bytes_of, instruction_line}
use Rattle.gx_asm.specs.Texts.{required}

-- ---- the modes

-- how many bytes the modes of so many operands have
abbrev pub modes_len : ℕ → ℕ
modes_len count = (count + 1) / 2

-- the nibbles of bytes, the low one of each first
unfoldable pub nibbles : List ℕ → List ℕ
nibbles [] = []
nibbles (b ∷ rest) = (b % 16) ∷ (b / 16) ∷ nibbles rest

-- the mode of a nibble, for an operand of a kind
unfoldable pub mode_in : ℕ → Kind → ℕ → Result Addressing ListFault
mode_in at kind nibble = do
  mode ← ok_or (addressing nibble) (of_code.BadMode at)
  _ ← required (fits_kind kind mode) (of_code.BadMode at)
  Ok mode

-- the modes of a row's operands from an index on; a nibble past them has to be 0
unfoldable pub modes_from : ℕ → Row → ℕ → List ℕ → Result (List Addressing) ListFault
modes_from at row i [] = Ok []
modes_from at row i (nibble ∷ rest) =
    if nat_lt i (operand_count row) then (do
      mode ← mode_in at (kind_of row i) nibble
      modes ← modes_from at row (i + 1) rest
      Ok (mode ∷ modes)) else (do
        _ ← required (nibble == 0) (of_code.BadMode at)
        modes_from at row (i + 1) rest)

-- ---- an instruction

-- so many bytes at the head of others
abbrev pub front : ℕ → ℕ → List ℕ → Result (List ℕ) ListFault
front at n bytes = if nat_lt (length bytes) n then Err (of_code.Cut at) else Ok (take n bytes)

-- the instruction at the head of a code, whose place is `at`
unfoldable pub instruction_at : ℕ → List ℕ → Result WrittenInstruction ListFault
instruction_at at code = do
  opcode ← ok_or (opcode_of code) (of_code.Cut at)
  _ ← required (opcode.1 == shortest opcode.0) (of_code.Spelling at)
  place ← ok_or (place_of opcode.0) (of_code.BadOpcode at)
  pairs ← front at (modes_len (operand_count (row_at place))) (drop opcode.1 code)
  modes ← modes_from at (row_at place) 0 (nibbles pairs)
  bytes ← front at (all_data_len modes) (drop (opcode.1 + modes_len (operand_count (row_at place))) code)
  Ok (record { place = place; modes = modes; operand_data = bytes })

-- ---- a code

-- quit and return end a listing of a story
abbrev pub ends_listing : WrittenInstruction → Bool
ends_listing w = opcode_number w == numbers.quit || opcode_number w == numbers.return

-- The text of the instructions from a place on: of all of them, or up to the first that ends, which has to be there.
-- `fuel` is no smaller than their length.
unfoldable pub text_from : ℕ → Bool → ℕ → List ℕ → Result (List ℕ) ListFault
text_from fuel ends at [] = if ends then Err (of_code.Cut at) else Ok []
text_from zero ends at (b ∷ rest) = Ok []
text_from (suc fuel) ends at (b ∷ rest) = do
  w ← instruction_at at (b ∷ rest)
  if ends && ends_listing w then Ok (instruction_line w) else (do
    text ← text_from fuel ends (at + length (bytes_of w)) (drop (length (bytes_of w)) (b ∷ rest))
    Ok (instruction_line w ++ text))

unfoldable pub listed : List ℕ → Result (List ℕ) ListFault
listed code = text_from (length code) false 0 code
