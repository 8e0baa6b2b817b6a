-- An instruction whose bytes stand at PC is seen as the one that was written.
use Rattle.std.proofs.Common.{nat_lt, None}
use Rattle.std.proofs.Common.{◌≡◌, ℕ, zero, suc, ◌+◌, ◌-◌, ◌*◌, ◌/◌, ◌%◌, ◌<◌, ◌≤◌, ◌==◌, nat_le, if◌then◌else◌, true}
use Rattle.std.proofs.Common.{List, [], ◌∷◌, ◌++◌, length, get_or, map, take, drop, inl, inr, Some, Ok, refl, ap, sym}
use Rattle.std.proofs.Common.{subst, ◌∙◌, arith, length-append, length-drop}
use Rattle.std.specs.List.{position_or_len, slice_get}
use Rattle.std.proofs.lemmas.Bool.{cases_lt, le-leb, le-ltb, lt-ltb}
use Rattle.std.proofs.lemmas.Bool.Decides.{nat_tests}
use Rattle.std.proofs.lemmas.List.{length-take, length-take-le, length-map, get_or-take, get_or-drop}
use Rattle.std.proofs.lemmas.List.{get_or-append-add, get_or_append_left, get_or-map, take_all}
use Rattle.std.proofs.lemmas.List.Folds.{find_at}
use Rattle.std.proofs.lemmas.Option.{slice_get-get_or}
use Rattle.gx_words.specs.Numbers.{IsWidth, byte, number}
use Rattle.gx_pages.specs.Memory.{number_in}
use Rattle.gx_rows.specs.declared.instructions.Row.{Row}
use Rattle.gx_rows.specs.declared.modes.Addressing.{Addressing}
use Rattle.gx_rows.specs.declared.modes.Addressing.TheVariants.{Zero, Constant, Memory, Top, Local, Ram}
use Rattle.gx_rows.specs.Modes.{HasWidth, addressing}
use Rattle.gx_rows.specs.Opcodes.{shortest, spelled}
use Rattle.gx_rows.specs.Table.{table, row_count, row_of, row_at, place_of}
use Rattle.gx_rows.proofs.Places.{rows_counted}
use Rattle.gx_state.specs.Flat.{FlatState}
use Rattle.gx_operands.specs.declared.cursor.Cursor.{Cursor}
use Rattle.gx_operands.specs.Instructions.{opcode, nibble, datum}
use Rattle.gx_asm.specs.Codes.{modes_len}
use Rattle.gx_asm.specs.Instructions.{WrittenInstruction, IsWritten, AreModes, operand_count, data_len, all_data_len}
use Rattle.gx_asm.specs.Instructions.{nibble_of, packed_nibbles, opcode_number, bytes_of}
use Rattle.gx_asm.proofs.BytesOpcodes.{number_small, place_of_row, length-opcode}
use Rattle.gx_asm.proofs.Nibbles.{addressing_of, nibble_small, length-packed}
use Rattle.gx_play.specs.Spelling.{modes_at, data_at, SeesInstruction}

-- ---- bytes that stand in memory

abbrev StandAt : List ℕ → ℕ → List ℕ → Type 0
StandAt memory at bytes = take (length bytes) (drop at memory) ≡ bytes

-- an operand's mode, how many bytes of data stand before its own, and these
abbrev mode_at : WrittenInstruction → ℕ → Addressing
mode_at w k = get_or w.modes k Zero

abbrev data_before : WrittenInstruction → ℕ → ℕ
data_before w k = all_data_len (take k w.modes)

abbrev data_of : WrittenInstruction → ℕ → List ℕ
data_of w k = take (data_len (mode_at w k)) (drop (data_before w k) w.operand_data)

-- each of them, and all inside
record Stands (memory : List ℕ) (at : ℕ) (bytes : List ℕ) : Type 0 where
  inside : 0 < length bytes → at + length bytes ≤ length memory
  same : (i : ℕ) → i < length bytes → byte memory (at + i) ≡ byte bytes i

stands : (memory : List ℕ) (at : ℕ) (bytes : List ℕ) → StandAt memory at bytes → Stands memory at bytes
stands memory at bytes is =
    let size : length (take (length bytes) (drop at memory)) ≡ length bytes = ap length is in
    record {
      inside = λ some. omega (arith, size, length-take (length bytes) (drop at memory), length-drop at memory);
      same = λ i within. sym (get_or-take (length bytes) (drop at memory) i 0 within ∙ get_or-drop at memory i 0)
          ∙ ap (λ (b : List ℕ). byte b i) is;
    }

-- those in front, and those behind
in-front : (memory : List ℕ) (at : ℕ) (a b : List ℕ) → Stands memory at (a ++ b) → Stands memory at a
in-front memory at a b s =
    let size = length-append a b in
    record {
      inside = λ some. let all = s.inside (omega (arith, size)) in omega (arith, all, size);
      same = λ i within. s.same i (omega (arith, size, within)) ∙ get_or_append_left a b 0 i within;
    }

behind : (memory : List ℕ) (at : ℕ) (a b : List ℕ) → Stands memory at (a ++ b) → Stands memory (at + length a) b
behind memory at a b s =
    let size = length-append a b in
    record {
      inside = λ some. let all = s.inside (omega (arith, size)) in omega (arith, all, size);
      same = λ i within.
          let place : at + length a + i ≡ at + (length a + i) = omega arith in
          ap (byte memory) place ∙ s.same (length a + i) (omega (arith, size, within)) ∙ get_or-append-add a b i 0;
    }

-- a part of them
within : (memory : List ℕ) (at from count : ℕ) (bytes : List ℕ) → from + count ≤ length bytes → Stands memory at bytes
    → Stands memory (at + from) (take count (drop from bytes))
within memory at from count bytes fits s =
    let size : length (take count (drop from bytes)) ≡ count =
    length-take-le count (drop from bytes) (omega (arith, length-drop from bytes)) in
    record {
      inside = λ some. let all = s.inside (omega (arith, size)) in omega (arith, all, size);
      same = λ i inside.
          let place : at + from + i ≡ at + (from + i) = omega arith in
          ap (byte memory) place ∙ s.same (from + i) (omega (arith, size, inside))
          ∙ sym (get_or-take count (drop from bytes) i 0 (omega (arith, size, inside)) ∙ get_or-drop from bytes i 0);
    }

-- ---- numbers

by-width : (P : ℕ → Type 0) → P 1 → P 2 → P 4 → (n : ℕ) → IsWidth n → P n
by-width P one two four n (inl e) = subst P (sym e) one
by-width P one two four n (inr (inl e)) = subst P (sym e) two
by-width P one two four n (inr (inr e)) = subst P (sym e) four

module _ (memory : List ℕ) (at : ℕ) (bytes : List ℕ) (s : Stands memory at bytes) where
  first : 0 < length bytes → byte memory at ≡ byte bytes 0
  first some = let place : at ≡ at + 0 = omega arith in ap (byte memory) place ∙ s.same 0 some

  later : (i : ℕ) → i < length bytes → byte memory (at + i) ≡ byte bytes i
  later i within = s.same i within

  number-same : (n : ℕ) → IsWidth n → length bytes ≡ n → number n memory at ≡ number n bytes 0
  number-same = by-width (λ n. length bytes ≡ n → number n memory at ≡ number n bytes 0)
      (λ size. first (omega (arith, size)))
      (λ size. rw (first (omega (arith, size)), later 1 (omega (arith, size))) refl)
      (λ size.
      let third : at + 2 + 1 ≡ at + 3 = omega arith in
      rw (
        third,
        first (omega (arith, size)),
        later 1 (omega (arith, size)),
        later 2 (omega (arith, size)),
        later 3 (omega (arith, size)),
      ) refl)

  number-read : (n : ℕ) → IsWidth n → length bytes ≡ n → 0 < n → number_in n memory at ≡ Ok (number n bytes 0)
  unfolding number_in
  number-read n width size some =
      let all = s.inside (omega (arith, size, some)) in
      let fits : nat_le (at + n) (length memory) ≡ true = le-leb (at + n) (length memory) (omega (arith, all, size)) in
      rw (fits, number-same n width size) refl

-- ---- the row

same-place : (p place : ℕ) → (if nat_lt p row_count then Some p else None) ≡ Some place → p ≡ place
same-place p place h = grind (arith, nat_tests)

row-found : (place : ℕ) → place < row_count → row_of (row_at place).number ≡ Some (row_at place)
unfolding row_of place_of row_at
row-found place there =
    let n = (row_at place).number in
    let is = place_of_row place there in
    let first = same-place (position_or_len (λ (row : Row). row.number == n) table) place is in
    find_at (λ (row : Row). row.number == n) table ∙ ap (slice_get table) first
    ∙ slice_get-get_or table place _ (omega (arith, rows_counted, there))

-- ---- the number

module _ (f : FlatState) (n : ℕ) where
  opcode-one : n < 0x80 → Stands f.memory f.pc (spelled n (shortest n)) → opcode f ≡ Ok (n, f.pc + shortest n)
  unfolding opcode
  opcode-one small s =
      let short = lt-ltb n 0x80 small in
      let t : Stands f.memory f.pc ((n + 0) % 256 ∷ []) = rw short at s in
      let read = number-read f.memory f.pc ((n + 0) % 256 ∷ []) t 1 (inl refl) refl (omega arith) in
      let value : (n + 0) % 256 ≡ n = omega (arith, small) in
      rw (read, value, short) refl

  opcode-two : 0x80 ≤ n → n < 0x4000 → Stands f.memory f.pc (spelled n (shortest n))
      → opcode f ≡ Ok (n, f.pc + shortest n)
  unfolding opcode
  opcode-two large small s =
      let long = le-ltb n 0x80 large in
      let short = lt-ltb n 0x4000 small in
      let bytes : List ℕ = ((n + 0x8000) / 256 % 256) ∷ ((n + 0x8000) % 256) ∷ [] in
      let t : Stands f.memory f.pc bytes = rw (long, short) at s in
      let head = in-front f.memory f.pc (((n + 0x8000) / 256 % 256) ∷ []) (((n + 0x8000) % 256) ∷ []) t in
      let one = number-read f.memory f.pc (((n + 0x8000) / 256 % 256) ∷ []) head 1 (inl refl) refl (omega arith) in
      let two = number-read f.memory f.pc bytes t 2 (inr (inl refl)) refl (omega arith) in
      let from = le-ltb ((n + 0x8000) / 256 % 256) 0x80 (omega (arith, small)) in
      let to = lt-ltb ((n + 0x8000) / 256 % 256) 0xC0 (omega (arith, small)) in
      let value : (n + 0x8000) / 256 % 256 * 256 + (n + 0x8000) % 256 ≡ n + 0x8000 = omega (arith, small) in
      let less : n + 0x8000 - 0x8000 ≡ n = omega arith in
      rw (one, from, to, two, value, less, long, short) refl

  opcode-seen : n < 0x4000 → Stands f.memory f.pc (spelled n (shortest n)) → opcode f ≡ Ok (n, f.pc + shortest n)
  opcode-seen small s = elim (cases_lt n 0x80) [
    | inl less ↦ opcode-one less s
    | inr more ↦ opcode-two more small s
  ]

-- ---- the modes

-- the nibble of an index among those that are packed
nibble-packed : (ns : List ℕ) (k : ℕ) → ((n i : ℕ) → i < length ns → get_or ns i n < 16) → k < length ns
    → (if k % 2 == 0 then byte (packed_nibbles ns) (k / 2) % 16 else byte (packed_nibbles ns) (k / 2) / 16)
    ≡ get_or ns k 0
unfolding packed_nibbles
nibble-packed [] k small there = absurd (omega arith)
nibble-packed (low ∷ []) zero small there = let less = small 0 0 there in omega (arith, less)
nibble-packed (low ∷ []) (suc k) small there = absurd (omega arith)
nibble-packed (low ∷ high ∷ rest) zero small there =
    let one = small 0 0 (omega arith) in
    let two = small 0 1 (omega arith) in
    omega (arith, one, two)
nibble-packed (low ∷ high ∷ rest) (suc zero) small there =
    let one = small 0 0 (omega arith) in
    let two = small 0 1 (omega arith) in
    omega (arith, one, two)
nibble-packed (low ∷ high ∷ rest) (suc (suc k)) small there =
    let even : suc (suc k) % 2 ≡ k % 2 = omega arith in
    let half : suc (suc k) / 2 ≡ suc (k / 2) = omega arith in
    rw (even, half) (nibble-packed rest k (λ n i less. small n (suc (suc i)) (omega (arith, less)))
    (omega (arith, there)))

-- the modes of a row's operands have widths
has-width : (row : Row) (i : ℕ) (modes : List Addressing) (k : ℕ) → AreModes row i modes
    → HasWidth (get_or modes k Zero)
has-width row i [] k are = tt
has-width row i (mode ∷ rest) zero are = are.0
has-width row i (mode ∷ rest) (suc k) are = has-width row (i + 1) rest k are.2

all-small : (row : Row) (i : ℕ) (modes : List Addressing) (n k : ℕ) → AreModes row i modes
    → k < length (map nibble_of modes) → get_or (map nibble_of modes) k n < 16
all-small row i modes n k are there =
    let size = length-map modes nibble_of in
    let less = nibble_small (get_or modes k Zero) (has-width row i modes k are) in
    let is = get_or-map nibble_of modes k Zero n (omega (arith, size, there)) in
    omega (arith, is, less)

-- ---- the data

-- what stands before an operand's data and they themselves are all there
data-fits : (modes : List Addressing) (k : ℕ) → k < length modes
    → all_data_len (take k modes) + data_len (get_or modes k Zero) ≤ all_data_len modes
unfolding all_data_len
data-fits [] k there = absurd (omega arith)
data-fits (mode ∷ rest) zero there = omega arith
data-fits (mode ∷ rest) (suc k) there = let more = data-fits rest k (omega (arith, there)) in omega (arith, more)

width-of : (mode : Addressing) → HasWidth mode → 0 < data_len mode → IsWidth (data_len mode)
width-of Zero has some = absurd (omega (arith, some))
width-of (Constant n) has some = has
width-of (Memory n) has some = has
width-of Top has some = absurd (omega (arith, some))
width-of (Local n) has some = has
width-of (Ram n) has some = has

-- ---- the instruction

module _ (f : FlatState) (w : WrittenInstruction) (is : IsWritten w) where
  abbrev row : Row
  row = row_at w.place

  abbrev nibbles : List ℕ
  nibbles = map nibble_of w.modes

  modes-size : length (packed_nibbles nibbles) ≡ modes_len (operand_count row)
  modes-size = let size = length-map w.modes nibble_of in let count = is.count in
      length-packed nibbles ∙ ap (λ (n : ℕ). (n + 1) / 2) (size ∙ count)

  number-size : length (spelled (opcode_number w) (shortest (opcode_number w))) ≡ shortest (opcode_number w)
  number-size = length-opcode (opcode_number w) (number_small w.place is.place)

  module _ (number-stands : Stands f.memory f.pc (spelled (opcode_number w) (shortest (opcode_number w))))
      (modes-stand : Stands f.memory (modes_at f w) (packed_nibbles nibbles))
      (data-stand : Stands f.memory (modes_at f w + modes_len (operand_count row)) w.operand_data) where
    mode-seen : (k : ℕ) → k < length w.modes → addressing (nibble f.memory (modes_at f w) k) ≡ Some (mode_at w k)
    mode-seen k there =
        let size = length-map w.modes nibble_of in
        let bytes = length-packed nibbles in
        let byte-is = modes-stand.same (k / 2) (omega (arith, bytes, size, there)) in
        let packed-is = nibble-packed nibbles k (λ n i less. all-small row 0 w.modes n i is.modes less)
        (omega (arith, size, there)) in
        let mode-is = get_or-map nibble_of w.modes k Zero 0 there in
        let seen : nibble f.memory (modes_at f w) k ≡ nibble_of (mode_at w k) =
        ap (λ (b : ℕ). if k % 2 == 0 then b % 16 else b / 16) byte-is ∙ packed-is ∙ mode-is in
        ap addressing seen ∙ addressing_of (mode_at w k) (has-width row 0 w.modes k is.modes)

    data-seen : (k : ℕ) → k < length w.modes → 0 < data_len (mode_at w k) → (p : Cursor) → p.at ≡ data_at f w k
        → datum f.memory p (data_len (mode_at w k))
        ≡ Ok (number (data_len (mode_at w k)) (data_of w k) 0, record p { at = p.at + data_len (mode_at w k) })
    unfolding datum
    data-seen k there some p place =
        let n = data_len (mode_at w k) in
        let fits = data-fits w.modes k there in
        let all = is.operand_data in
        let room : data_before w k + n ≤ length w.operand_data = omega (arith, fits, all) in
        let part = within f.memory (modes_at f w + modes_len (operand_count row))
        (data_before w k) n w.operand_data room data-stand in
        let size : length (data_of w k) ≡ n = length-take-le n (drop (data_before w k) w.operand_data)
        (omega (arith, room, length-drop (data_before w k) w.operand_data)) in
        let read = number-read f.memory (data_at f w k) (data_of w k) part n
        (width-of (mode_at w k) (has-width row 0 w.modes k is.modes) some) size some in
        rw (place, read) refl

    end-seen : data_at f w (length w.modes) ≡ f.pc + length (bytes_of w)
    unfolding bytes_of
    end-seen =
        let whole : data_before w (length w.modes) ≡ all_data_len w.modes =
        ap all_data_len (take_all (length w.modes) w.modes (omega arith)) in
        let sizes = length-append (spelled (opcode_number w) (shortest (opcode_number w)) ++ packed_nibbles nibbles)
        w.operand_data in
        let front = length-append (spelled (opcode_number w) (shortest (opcode_number w))) (packed_nibbles nibbles) in
        let all = is.operand_data in
        omega (arith, whole, sizes, front, all, number-size, modes-size)

    seen : SeesInstruction f w
    seen = record {
      opcode_is = opcode-seen f (opcode_number w) (number_small w.place is.place) number-stands;
      row_is = row-found w.place is.place;
      operands = λ k there. record { mode = mode-seen k there; operand_data = data-seen k there };
      end = end-seen;
    }

  pub decodes : StandAt f.memory f.pc (bytes_of w) → SeesInstruction f w
  unfolding bytes_of
  decodes stand =
      let number-bytes : List ℕ = spelled (opcode_number w) (shortest (opcode_number w)) in
      let all : Stands f.memory f.pc ((number-bytes ++ packed_nibbles nibbles) ++ w.operand_data) =
      stands f.memory f.pc ((number-bytes ++ packed_nibbles nibbles) ++ w.operand_data) stand in
      let front = in-front f.memory f.pc (number-bytes ++ packed_nibbles nibbles) w.operand_data all in
      let place : f.pc + length (number-bytes ++ packed_nibbles nibbles)
      ≡ modes_at f w + modes_len (operand_count row) =
      ap (λ (n : ℕ). f.pc + n) (length-append number-bytes (packed_nibbles nibbles))
      ∙ omega (arith, number-size, modes-size) in
      seen (in-front f.memory f.pc number-bytes (packed_nibbles nibbles) front)
      (subst (λ (n : ℕ). Stands f.memory (f.pc + n) (packed_nibbles nibbles)) number-size
      (behind f.memory f.pc number-bytes (packed_nibbles nibbles) front))
      (subst (λ (at : ℕ). Stands f.memory at w.operand_data) place
      (behind f.memory f.pc (number-bytes ++ packed_nibbles nibbles) w.operand_data all))
