-- THE LAWS OF SPELLING: text, code and what a machine sees of it (Glulx 3.1.2, "Instruction Format").
use Rattle.std.specs.Prelude.{◌≡◌, ◌↔◌, ℕ, ◌+◌, ◌<◌, ◌≤◌, true, List, length, get_or, take, drop, All, Some, Ok}
use Rattle.gx_words.specs.Numbers.{number}
use Rattle.gx_rows.specs.declared.modes.Addressing.TheVariants.{Zero}
use Rattle.gx_rows.specs.Modes.{addressing}
use Rattle.gx_rows.specs.Opcodes.{shortest}
use Rattle.gx_rows.specs.Table.{row_of, row_at}
use Rattle.gx_state.specs.Flat.{FlatState}
use Rattle.gx_operands.specs.declared.cursor.Cursor.{Cursor}
use Rattle.gx_operands.specs.Instructions.{opcode, nibble, datum}
use Rattle.gx_asm.specs.Codes.{listed, modes_len}
use Rattle.gx_asm.specs.Instructions.{WrittenInstruction, IsWritten, Spells, operand_count, data_len, all_data_len}
use Rattle.gx_asm.specs.Instructions.{opcode_number}
use Rattle.gx_asm.specs.Instructions.{bytes_of}
use Rattle.gx_asm.specs.Stories.{wrapped_code, wrapped_story, IsListedBack}
use Rattle.gx_asm.specs.Texts.{assembled}
use Rattle.gx_story.specs.Stories.{accepted, is_checked}
use Rattle.gx_play.specs.Constants.{most_text}

-- ---- an instruction and its operands, by their index

-- where its modes stand, and where the data of an operand does
abbrev pub modes_at : FlatState → WrittenInstruction → ℕ
modes_at f w = f.pc + shortest (opcode_number w)

abbrev pub data_at : FlatState → WrittenInstruction → ℕ → ℕ
data_at f w k = modes_at f w + modes_len (operand_count (row_at w.place)) + all_data_len (take k w.modes)

-- WHAT A MACHINE SEES at PC: an operand by its index, which has this mode and, where the mode has data, these.
pub record SeesOperand (f : FlatState) (w : WrittenInstruction) (k : ℕ) : Type 0 where
  pub mode : addressing (nibble f.memory (modes_at f w) k) ≡ Some (get_or w.modes k Zero)
  pub operand_data : let n = data_len (get_or w.modes k Zero) in 0 < n → (p : Cursor) → p.at ≡ data_at f w k
      → (let bytes = take n (drop (all_data_len (take k w.modes)) w.operand_data) in
      datum f.memory p n ≡ Ok (number n bytes 0, record p { at = p.at + n }))

-- The instruction: its number, its row, its operands, and no byte of memory more.
pub record SeesInstruction (f : FlatState) (w : WrittenInstruction) : Type 0 where
  pub opcode_is : opcode f ≡ Ok (opcode_number w, modes_at f w)
  pub row_is : row_of (opcode_number w) ≡ Some (row_at w.place)
  pub operands : (k : ℕ) → k < length w.modes → SeesOperand f w k
  pub end : data_at f w (length w.modes) ≡ f.pc + length (bytes_of w)

-- A text is assembled to a code, and the bytes of a code are listed as a text, exactly where the text spells the code.
-- The story of a code is accepted with its right checksum, and listed as its instructions up to the first quit or
-- return. A machine at which an instruction's bytes stand in memory sees that instruction.
pub record IsSpelling : Type 0 where
  pub assembles : (text code : List ℕ) → (assembled text ≡ Ok code) ↔ Spells text code
  pub lists : (code text : List ℕ) → All (λ b. b < 256) code → (listed code ≡ Ok text) ↔ Spells text code
  pub wraps : (code : List ℕ) → length code ≤ most_text
      → (accepted (wrapped_code code) ≡ Ok (wrapped_story code)) × (is_checked (wrapped_story code) ≡ true)
  pub lists_back : (code : List ℕ) → IsListedBack code
  pub decodes : (f : FlatState) (w : WrittenInstruction) → IsWritten w
      → take (length (bytes_of w)) (drop f.pc f.memory) ≡ bytes_of w → SeesInstruction f w
