-- A code is no longer than the text that spells it.
use Rattle.std.proofs.Common.{◌≡◌, ℕ, suc, ◌+◌, ◌*◌, ◌/◌, ◌<◌, ◌≤◌, nat_lt, true, List, [], ◌∷◌, ◌++◌, length, map}
use Rattle.std.proofs.Common.{take, drop, codes, All, refl, ap, ◌∙◌, arith, length-append, length-drop}
use Rattle.std.specs.List.{flat_map, list_all}
use Rattle.std.proofs.lemmas.Bool.Decides.{nat_tests}
use Rattle.std.proofs.lemmas.List.{length-map, length-take-le}
use Rattle.std.proofs.lemmas.List.Sums.{AllPass-from_list_all}
use Rattle.gx_rows.specs.declared.modes.Addressing.{Addressing}
use Rattle.gx_rows.specs.declared.modes.Addressing.TheVariants.{Zero, Constant, Memory, Top, Local, Ram}
use Rattle.gx_rows.specs.Opcodes.{shortest, spelled}
use Rattle.gx_rows.specs.Table.{row_count}
use Rattle.gx_asm.specs.Names.{instruction_names, names, name_at}
use Rattle.gx_asm.specs.Instructions.{WrittenInstruction, IsWritten, Spells, data_len, all_data_len, nibble_of}
use Rattle.gx_asm.specs.Instructions.{packed_nibbles, opcode_number, bytes_of, digits, operand_word, words_of}
use Rattle.gx_asm.specs.Instructions.{instruction_line}
use Rattle.gx_words.specs.Constants.{line_feed}
use Rattle.gx_asm.proofs.BytesOpcodes.{length-opcode, number_small}
use Rattle.gx_asm.proofs.Nibbles.{length-packed}

-- ---- words

two-digits : (bytes : List ℕ) → length (digits bytes) ≡ 2 * length bytes
two-digits [] = refl
two-digits (b ∷ rest) = let more = two-digits rest in omega (arith, more)

-- a word is longer than its data
word-long : (mode : Addressing) (bytes : List ℕ) → length bytes ≡ data_len mode
    → data_len mode < length (operand_word mode bytes)
word-long Zero bytes size = let one : length (codes "z") ≡ 1 = refl in omega (arith, one)
word-long (Constant n) bytes size = let two = two-digits bytes in omega (arith, two, size)
word-long (Memory n) bytes size = let two = two-digits bytes in omega (arith, two, size)
word-long Top bytes size = let two : length (codes "sp") ≡ 2 = refl in omega (arith, two)
word-long (Local n) bytes size = let two = two-digits bytes in omega (arith, two, size)
word-long (Ram n) bytes size = let two = two-digits bytes in omega (arith, two, size)

words-long : (modes : List Addressing) (bytes : List ℕ) → length bytes ≡ all_data_len modes
    → 2 * length modes + all_data_len modes ≤ length (words_of modes bytes)
unfolding words_of all_data_len
words-long [] bytes size = omega arith
words-long (mode ∷ rest) bytes size =
    let n = data_len mode in
    let front = length-take-le n bytes (omega (arith, size)) in
    let word = word-long mode (take n bytes) front in
    let more = words-long rest (drop n bytes) (omega (arith, size, length-drop n bytes)) in
    let sum = length-append (operand_word mode (take n bytes)) (words_of rest (drop n bytes)) in
    omega (arith, word, more, sum)

-- ---- names and numbers

all-named : list_all (λ (name : List ℕ). nat_lt 0 (length name)) names ≡ true
unfolding instruction_names
all-named = refl

names-counted : length names ≡ row_count
unfolding instruction_names
names-counted = refl

name-long : (place : ℕ) → place < row_count → 0 < length (name_at place)
name-long place there =
    let some = AllPass-from_list_all (λ (name : List ℕ). nat_lt 0 (length name)) names all-named place []
    (omega (arith, names-counted, there)) in
    grind (arith, nat_tests, some)

number-short : (number : ℕ) → number < 0x4000 → shortest number ≤ 2
number-short number small = grind (arith, nat_tests)

-- ---- instructions

counted : (number modes operand_data name words : List ℕ) (short count all : ℕ) → length number ≡ short → short ≤ 2
    → length modes ≡ (count + 1) / 2 → length operand_data ≡ all
    → 0 < length name → 2 * count + all ≤ length words
    → length (number ++ modes ++ operand_data) ≤ length (name ++ words ++ line_feed ∷ [])
counted number modes operand_data name words short count all size few pairs bytes some long =
    omega (
      arith,
      length-append (number ++ modes) operand_data,
      length-append number modes,
      length-append (name ++ words) (line_feed ∷ []),
      length-append name words,
    )

bytes-short : (w : WrittenInstruction) → IsWritten w → length (bytes_of w) ≤ length (instruction_line w)
unfolding bytes_of instruction_line
bytes-short w is =
    let small = number_small w.place is.place in
    counted (spelled (opcode_number w) (shortest (opcode_number w)))
    (packed_nibbles (map nibble_of w.modes)) w.operand_data (name_at w.place) (words_of w.modes w.operand_data)
    (shortest (opcode_number w)) (length w.modes) (all_data_len w.modes) (length-opcode (opcode_number w) small)
    (number-short (opcode_number w) small)
    (length-packed (map nibble_of w.modes) ∙ ap (λ (n : ℕ). (n + 1) / 2) (length-map w.modes nibble_of)) is.operand_data
    (name-long w.place is.place) (words-long w.modes w.operand_data is.operand_data)

all-short : (ws : List WrittenInstruction) → All IsWritten ws
    → length (flat_map bytes_of ws) ≤ length (flat_map instruction_line ws)
all-short [] each = omega arith
all-short (w ∷ rest) each =
    let first = bytes-short w (each 0 w (omega arith)) in
    let more = all-short rest (λ i d less. each (suc i) d (omega (arith, less))) in
    let bytes = length-append (bytes_of w) (flat_map bytes_of rest) in
    let lines = length-append (instruction_line w) (flat_map instruction_line rest) in
    omega (arith, first, more, bytes, lines)

-- A CODE IS NO LONGER than its text.
pub not-longer : (text code : List ℕ) → Spells text code → length code ≤ length text
not-longer text code s =
    let all = all-short s.instructions s.each in
    let code-is = ap length s.bytes in
    let text-is = ap length s.lines in
    omega (arith, all, code-is, text-is)
