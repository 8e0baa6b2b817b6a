-- What the loops over nibbles, modes, data and instructions keep.
use Rattle.std.proofs.Common.{◌≡◌, ◌≢◌, ◌≤◌, ◌<◌, ◌+◌, ◌-◌, ◌*◌, ◌/◌, ◌%◌, ◌==◌, ◌&&◌, ℕ, zero, suc, Bool, true}
use Rattle.std.proofs.Common.{false, nat_lt, if◌then◌else◌, List, [], ◌∷◌, ◌++◌, append_assoc, length, length-append}
use Rattle.std.proofs.Common.{length-drop, map, take, drop, drop-cons, take_all, take-suc, get_or, slice_index, refl}
use Rattle.std.proofs.Common.{sym, ◌∙◌, ap, subst, arith, Option, Some, None, ok_or, Result, Ok, Err, IsOk, IfOk, All}
use Rattle.std.proofs.lemmas.Bool.Decides.{nat_tests}
use Rattle.std.proofs.lemmas.List.{get_or-map, length-map, drop_all}
use Rattle.std.proofs.lemmas.List.Elements.{All-from_get_or}
use Rattle.gx_words.specs.Results.{◌>>=◌, Is, Gives}
use Rattle.gx_rows.specs.declared.instructions.Row.{Row}
use Rattle.gx_rows.specs.declared.modes.Addressing.{Addressing}
use Rattle.gx_rows.specs.declared.modes.Kind.{Kind}
use Rattle.gx_rows.specs.Modes.{addressing, kind_of}
use Rattle.gx_rows.specs.Opcodes.{opcode_of, shortest, spelled}
use Rattle.gx_rows.specs.Table.{RowFits, place_of, row_at, row_count}
use Rattle.gx_asm.specs.declared.faults.ListFault.{ListFault}
use Rattle.gx_asm.specs.declared.faults.ListFault.TheVariants as of_code
use Rattle.gx_asm.specs.Instructions.{WrittenInstruction, IsWritten, operand_count, data_len, all_data_len, fits_kind}
use Rattle.gx_asm.specs.Instructions.{nibble_of, packed_nibbles, opcode_number, bytes_of, instruction_line}
use Rattle.gx_asm.specs.Texts.{required}
use Rattle.gx_asm.specs.Views.{seen_instruction}
use Rattle.gx_asm.specs.declared.instruction.Instruction.{Instruction}
use Rattle.gx_asm.specs.Codes.{front, instruction_at, ends_listing, mode_in, modes_from, modes_len, nibbles, text_from}
use Rattle.gx_asm.proofs.Nibbles.{all_data_len_small, length-nibbles, length-packed, modes_read}
use Rattle.gx_asm.proofs.BytesOpcodes.{length-opcode, number_small}
use Rattle.gx_asm.proofs.CodesRead.{bytes_some, read_by, read_from}
use Rattle.gx_asm.proofs.CodesText.{IsSoFar, begun, turn_bad, turn_last, turn_more, turns_cut, turns_whole}

-- ---- nibbles and bytes

nibbles_of : (pairs : List ℕ) (k : ℕ) → k < length pairs
    → (slice_index (nibbles pairs) (2 * k) ≡ slice_index pairs k % 16)
    × (slice_index (nibbles pairs) (2 * k + 1) ≡ slice_index pairs k / 16)
unfolding nibbles
nibbles_of [] k within = absurd (omega arith)
nibbles_of (b ∷ rest) zero within = (refl, refl)
nibbles_of (b ∷ rest) (suc k) within =
    let low : 2 * suc k ≡ suc (suc (2 * k)) = omega arith in
    let high : 2 * suc k + 1 ≡ suc (suc (2 * k + 1)) = omega arith in
    let others = nibbles_of rest k (omega arith) in
    (rw low others.0, rw high others.1)

pub nibble_low : (pairs : List ℕ) (i : ℕ) → i / 2 < length pairs → i % 2 ≡ 0
    → slice_index (nibbles pairs) i ≡ slice_index pairs (i / 2) % 16
nibble_low pairs i within even =
    let twice : 2 * (i / 2) ≡ i = omega arith in
    subst (λ (k : ℕ). slice_index (nibbles pairs) k ≡ slice_index pairs (i / 2) % 16) twice
    (nibbles_of pairs (i / 2) within).0

pub nibble_high : (pairs : List ℕ) (i : ℕ) → i / 2 < length pairs → i % 2 ≢ 0
    → slice_index (nibbles pairs) i ≡ slice_index pairs (i / 2) / 16
nibble_high pairs i within odd =
    let twice : 2 * (i / 2) + 1 ≡ i = omega arith in
    subst (λ (k : ℕ). slice_index (nibbles pairs) k ≡ slice_index pairs (i / 2) / 16) twice
    (nibbles_of pairs (i / 2) within).1

pub ruleset nibble_at = (nibble_low, nibble_high)

packed_at : (ns : List ℕ) (i : ℕ) → 2 * i < length ns
    → slice_index (packed_nibbles ns) i ≡ slice_index ns (2 * i) + 16 * slice_index ns (2 * i + 1)
unfolding packed_nibbles
packed_at [] i within = absurd (omega arith)
packed_at (low ∷ []) zero within = omega arith
packed_at (low ∷ []) (suc i) within = absurd (omega arith)
packed_at (low ∷ high ∷ rest) zero within = refl
packed_at (low ∷ high ∷ rest) (suc i) within =
    let first : 2 * suc i ≡ suc (suc (2 * i)) = omega arith in
    let second : suc (suc (2 * i)) + 1 ≡ suc (suc (2 * i + 1)) = omega arith in
    rw (first, second) (packed_at rest i (omega arith))

pub pair_whole : (modes : List Addressing) (i : ℕ) (d : Addressing) → 2 * i + 1 < length modes
    → slice_index (packed_nibbles (map nibble_of modes)) i ≡ nibble_of (get_or modes (2 * i) d) + 16
    * nibble_of (get_or modes (2 * i + 1) d)
pair_whole modes i d within =
    let low = get_or-map nibble_of modes (2 * i) d 0 (omega arith) in
    let high = get_or-map nibble_of modes (2 * i + 1) d 0 within in
    omega (arith, packed_at (map nibble_of modes) i (omega (arith, length-map modes nibble_of)), low, high)

past_zero : (ns : List ℕ) (i : ℕ) → length ns ≤ i → slice_index ns i ≡ 0
past_zero [] i past = refl
past_zero (n ∷ ns) zero past = absurd (omega arith)
past_zero (n ∷ ns) (suc i) past = past_zero ns i (omega arith)

pub pair_half : (modes : List Addressing) (i : ℕ) (d : Addressing) → 2 * i + 1 ≡ length modes
    → slice_index (packed_nibbles (map nibble_of modes)) i ≡ nibble_of (get_or modes (2 * i) d)
pair_half modes i d last =
    let low = get_or-map nibble_of modes (2 * i) d 0 (omega arith) in
    let high = past_zero (map nibble_of modes) (2 * i + 1) (omega (arith, length-map modes nibble_of)) in
    omega (arith, packed_at (map nibble_of modes) i (omega (arith, length-map modes nibble_of)), low, high)

pub ruleset pair_at = (pair_whole, pair_half)

pub length-pairs : (modes : List Addressing) → length (packed_nibbles (map nibble_of modes)) ≡ (length modes + 1) / 2
length-pairs modes = length-packed (map nibble_of modes) ∙ ap (λ (n : ℕ). (n + 1) / 2) (length-map modes nibble_of)

pub pairs_all : (modes : List Addressing) (i : ℕ) → (length modes + 1) / 2 ≤ i
    → take i (packed_nibbles (map nibble_of modes)) ≡ packed_nibbles (map nibble_of modes)
pairs_all modes i past = take_all i (packed_nibbles (map nibble_of modes)) (omega (arith, length-pairs modes))

-- a pair more
pub pair_more : (modes : List Addressing) (i pair : ℕ) (start code next : List ℕ) → next ≡ code ++ pair ∷ []
    → code ≡ start ++ take i (packed_nibbles (map nibble_of modes))
    → i < (length modes + 1) / 2 → pair ≡ slice_index (packed_nibbles (map nibble_of modes)) i
    → next ≡ start ++ take (i + 1) (packed_nibbles (map nibble_of modes))
pair_more modes i pair start code next pushed so_far within is =
    let pairs = packed_nibbles (map nibble_of modes) in
    let more : suc i ≡ i + 1 = omega arith in
    let step = take-suc pairs i 0 (omega (arith, length-pairs modes)) in
    pushed ∙ ap (λ (l : List ℕ). l ++ pair ∷ []) so_far ∙ append_assoc start (take i pairs) (pair ∷ [])
    ∙ ap (λ (n : ℕ). start ++ (take i pairs ++ n ∷ [])) is ∙ ap (λ (l : List ℕ). start ++ l) (sym step)
    ∙ ap (λ (k : ℕ). start ++ take k pairs) more

pub ruleset pair_turns = (length-pairs, pairs_all, pair_more)

-- ---- how long data and instructions are

pub data_begun : 0 ≡ all_data_len []
unfolding all_data_len
data_begun = refl

pub data_more : (modes : List Addressing) (i : ℕ) (d : Addressing) → i < length modes
    → all_data_len (take (i + 1) modes) ≡ all_data_len (take i modes) + data_len (get_or modes i d)
unfolding all_data_len
data_more [] i d within = absurd (omega arith)
data_more (m ∷ rest) zero d within = omega arith
data_more (m ∷ rest) (suc i) d within =
    let next : suc i + 1 ≡ suc (i + 1) = omega arith in
    rw next (omega (arith, data_more rest i d (omega arith)))

pub data_whole : (modes : List Addressing) (i : ℕ) → length modes ≤ i → all_data_len (take i modes) ≡ all_data_len modes
data_whole modes i past = ap all_data_len (take_all i modes past)

pub ruleset data_turns = (data_begun, data_more, data_whole)

pub length_bytes : (w : WrittenInstruction) → w.place < row_count
    → length (bytes_of w) ≡ shortest (opcode_number w) + (length w.modes + 1) / 2 + length w.operand_data
unfolding bytes_of
length_bytes w placed =
    let opcode = spelled (opcode_number w) (shortest (opcode_number w)) in
    let pairs = packed_nibbles (map nibble_of w.modes) in
    omega (
      arith,
      length-append (opcode ++ pairs) w.operand_data,
      length-append opcode pairs,
      length-opcode (opcode_number w) (number_small w.place placed),
      length-pairs w.modes,
    )

-- ---- the modes of a row

abbrev pub behind : List Addressing → Result (List Addressing) ListFault → Result (List Addressing) ListFault
behind done (Ok modes) = Ok (done ++ modes)
behind done (Err fault) = Err fault

bound : (mode : Addressing) (r : Result (List Addressing) ListFault)
    → (r >>= (λ modes. Ok (mode ∷ modes))) ≡ behind (mode ∷ []) r
bound mode (Ok modes) = refl
bound mode (Err fault) = refl

behind_none : (r : Result (List Addressing) ListFault) → r ≡ behind [] r
behind_none (Ok modes) = refl
behind_none (Err fault) = refl

behind_twice : (a b : List Addressing) (r : Result (List Addressing) ListFault)
    → behind a (behind b r) ≡ behind (a ++ b) r
behind_twice a b (Ok modes) = ap (λ (l : List Addressing). Ok l) (sym (append_assoc a b modes))
behind_twice a b (Err fault) = refl

step_more : (at : ℕ) (row : Row) (i n : ℕ) (rest : List ℕ) (mode : Addressing) → i < operand_count row
    → mode_in at (kind_of row i) n ≡ Ok mode
    → modes_from at row i (n ∷ rest) ≡ behind (mode ∷ []) (modes_from at row (i + 1) rest)
unfolding modes_from
step_more at row i n rest mode within is =
    let here : nat_lt i (operand_count row) ≡ true = grind (arith, nat_tests) in
    rw (here, is) (bound mode (modes_from at row (i + 1) rest))

step_bad : (at : ℕ) (row : Row) (i n : ℕ) (rest : List ℕ) (e : ListFault) → i < operand_count row
    → mode_in at (kind_of row i) n ≡ Err e
    → modes_from at row i (n ∷ rest) ≡ Err e
unfolding modes_from
step_bad at row i n rest e within is =
    let here : nat_lt i (operand_count row) ≡ true = grind (arith, nat_tests) in
    rw (here, is) refl

step_spare : (at : ℕ) (row : Row) (i n : ℕ) (rest : List ℕ) → operand_count row ≤ i → n ≡ 0
    → modes_from at row i (n ∷ rest) ≡ modes_from at row (i + 1) rest
unfolding modes_from
step_spare at row i n rest past spare =
    let here : nat_lt i (operand_count row) ≡ false = grind (arith, nat_tests) in
    let none : (n == 0) ≡ true = grind (arith, nat_tests) in
    rw (here, none) refl

step_spoilt : (at : ℕ) (row : Row) (i n : ℕ) (rest : List ℕ) → operand_count row ≤ i → n ≢ 0
    → modes_from at row i (n ∷ rest) ≡ Err (of_code.BadMode at)
unfolding modes_from
step_spoilt at row i n rest past spare =
    let here : nat_lt i (operand_count row) ≡ false = grind (arith, nat_tests) in
    let some : (n == 0) ≡ false = grind (arith, nat_tests) in
    rw (here, some) refl

-- these are the modes of the first so many nibbles
pub record AreSoFar (at : ℕ) (row : Row) (pairs : List ℕ) (i : ℕ) (done : List Addressing) : Type 0 where
  pub same : modes_from at row 0 (nibbles pairs) ≡ behind done (modes_from at row i (drop i (nibbles pairs)))
  pub counted : length done ≤ i

pub modes_begun : (at : ℕ) (row : Row) (pairs : List ℕ) → AreSoFar at row pairs 0 []
modes_begun at row pairs = record { same = behind_none _; counted = omega arith }

next_nibble : (pairs : List ℕ) (i n : ℕ) → i < 2 * length pairs → n ≡ slice_index (nibbles pairs) i
    → drop i (nibbles pairs) ≡ n ∷ drop (i + 1) (nibbles pairs)
next_nibble pairs i n within is =
    let next : suc i ≡ i + 1 = omega arith in
    drop-cons (nibbles pairs) i 0 (omega (arith, length-nibbles pairs))
    ∙ ap (λ (k : ℕ). slice_index (nibbles pairs) i ∷ drop k (nibbles pairs)) next
    ∙ ap (λ (m : ℕ). m ∷ drop (i + 1) (nibbles pairs)) (sym is)

pub mode_more : (at : ℕ) (row : Row) (pairs : List ℕ) (i n : ℕ) (done : List Addressing) (mode : Addressing)
    → AreSoFar at row pairs i done
    → i < 2 * length pairs → n ≡ slice_index (nibbles pairs) i → i < operand_count row
    → mode_in at (kind_of row i) n ≡ Ok mode
    → AreSoFar at row pairs (i + 1) (done ++ mode ∷ [])
mode_more at row pairs i n done mode so_far within is here read = record {
  same = so_far.same ∙ ap (λ (l : List ℕ). behind done (modes_from at row i l)) (next_nibble pairs i n within is)
      ∙ ap (behind done) (step_more at row i n (drop (i + 1) (nibbles pairs)) mode here read)
      ∙ behind_twice done (mode ∷ []) (modes_from at row (i + 1) (drop (i + 1) (nibbles pairs)));
  counted = omega (arith, so_far.counted, length-append done (mode ∷ []));
}

pub mode_bad : (at : ℕ) (row : Row) (pairs : List ℕ) (i n : ℕ) (done : List Addressing) (e : ListFault)
    → AreSoFar at row pairs i done
    → i < 2 * length pairs → n ≡ slice_index (nibbles pairs) i → i < operand_count row
    → mode_in at (kind_of row i) n ≡ Err e
    → modes_from at row 0 (nibbles pairs) ≡ Err e
mode_bad at row pairs i n done e so_far within is here read =
    so_far.same ∙ ap (λ (l : List ℕ). behind done (modes_from at row i l)) (next_nibble pairs i n within is)
    ∙ ap (behind done) (step_bad at row i n (drop (i + 1) (nibbles pairs)) e here read)

pub spare_more : (at : ℕ) (row : Row) (pairs : List ℕ) (i n : ℕ) (done : List Addressing) → AreSoFar at row pairs i done
    → i < 2 * length pairs → n ≡ slice_index (nibbles pairs) i → operand_count row ≤ i → n ≡ 0
    → AreSoFar at row pairs (i + 1) done
spare_more at row pairs i n done so_far within is past none = record {
  same = so_far.same ∙ ap (λ (l : List ℕ). behind done (modes_from at row i l)) (next_nibble pairs i n within is)
      ∙ ap (behind done) (step_spare at row i n (drop (i + 1) (nibbles pairs)) past none);
  counted = omega (arith, so_far.counted);
}

pub spare_bad : (at : ℕ) (row : Row) (pairs : List ℕ) (i n : ℕ) (done : List Addressing) → AreSoFar at row pairs i done
    → i < 2 * length pairs → n ≡ slice_index (nibbles pairs) i → operand_count row ≤ i → n ≢ 0
    → modes_from at row 0 (nibbles pairs) ≡ Err (of_code.BadMode at)
spare_bad at row pairs i n done so_far within is past some =
    so_far.same ∙ ap (λ (l : List ℕ). behind done (modes_from at row i l)) (next_nibble pairs i n within is)
    ∙ ap (behind done) (step_spoilt at row i n (drop (i + 1) (nibbles pairs)) past some)

append_none : {X : Type 0} (l : List X) → l ++ [] ≡ l
append_none [] = refl
append_none {X} (x ∷ xs) = ap (λ (l : List X). x ∷ l) (append_none xs)

none_left : (at : ℕ) (row : Row) (i : ℕ) → modes_from at row i [] ≡ Ok []
unfolding modes_from
none_left at row i = refl

pub modes_whole : (at : ℕ) (row : Row) (pairs : List ℕ) (i : ℕ) (done : List Addressing)
    → AreSoFar at row pairs i done → 2 * length pairs ≤ i
    → modes_from at row 0 (nibbles pairs) ≡ Ok done
modes_whole at row pairs i done so_far past =
    so_far.same ∙ ap (λ (l : List ℕ). behind done (modes_from at row i l))
    (drop_all i (nibbles pairs) (omega (arith, length-nibbles pairs)))
    ∙ ap (behind done) (none_left at row i) ∙ ap (λ (l : List Addressing). Ok l) (append_none done)

pub modes_small : (at : ℕ) (row : Row) (pairs : List ℕ) (modes : List Addressing) → RowFits row
    → length pairs ≡ modes_len (operand_count row)
    → modes_from at row 0 (nibbles pairs) ≡ Ok modes → all_data_len modes ≤ 32
modes_small at row pairs modes fits paired is =
    let count = operand_count row in
    let read = modes_read at row count 0 pairs modes refl (omega arith) (omega (arith, paired)) is in
    omega (arith, fits.count, read.counted, all_data_len_small row 0 modes read.are)

pub ruleset mode_turns = (modes_begun, mode_more, mode_bad, spare_more, spare_bad, modes_whole, modes_small)

-- ---- an instruction

same_pair : (p q : ℕ × ℕ) → Some p ≡ Some q → p ≡ q
same_pair p q h = cc

-- the forms of an opcode
abbrev opened : (none one two short cut : Bool) (a b c : ℕ) → Option (ℕ × ℕ)
opened none one two short cut a b c =
    if none then None else if one then Some (a, 1) else if two then (if short then None else Some (b, 2))
    else (if cut then None else Some (c, 4))

within_by : (n a b c : ℕ) (none one two short cut : Bool) (q : ℕ × ℕ)
    → (none ≡ false → 1 ≤ n) → (short ≡ false → 2 ≤ n) → (cut ≡ false → 4 ≤ n)
    → opened none one two short cut a b c ≡ Some q
    → q.1 ≤ n
within_by n a b c true one two short cut q some pair four h = absurd (cc)
within_by n a b c false true two short cut q some pair four h = let size : 1 ≡ q.1 =
    ap (λ (p : ℕ × ℕ). p.1) (same_pair (a, 1) q h) in omega (arith, size, some refl)
within_by n a b c false false true true cut q some pair four h = absurd (cc)
within_by n a b c false false true false cut q some pair four h = let size : 2 ≡ q.1 =
    ap (λ (p : ℕ × ℕ). p.1) (same_pair (b, 2) q h) in omega (arith, size, pair refl)
within_by n a b c false false false short true q some pair four h = absurd (cc)
within_by n a b c false false false short false q some pair four h = let size : 4 ≡ q.1 =
    ap (λ (p : ℕ × ℕ). p.1) (same_pair (c, 4) q h) in omega (arith, size, four refl)

pub opcode_within : (code : List ℕ) (number size : ℕ) → opcode_of code ≡ Some (number, size) → size ≤ length code
unfolding opcode_of
opcode_within code number size h =
    within_by (length code) _ _ _ (length code == 0) _ _ (nat_lt (length code) 2) (nat_lt (length code) 4)
    (number, size)
    (λ e. grind (arith, nat_tests)) (λ e. grind (arith, nat_tests)) (λ e. grind (arith, nat_tests)) h

pub read_cut : (at : ℕ) (code : List ℕ) → opcode_of code ≡ None → instruction_at at code ≡ Err (of_code.Cut at)
unfolding instruction_at
read_cut at code none = rw none refl

pub read_long : (at : ℕ) (code : List ℕ) (number size : ℕ) → opcode_of code ≡ Some (number, size)
    → size ≢ shortest number → instruction_at at code ≡ Err (of_code.Spelling at)
unfolding instruction_at
read_long at code number size opened long =
    let other : (size == shortest number) ≡ false = grind (arith, nat_tests) in
    rw (opened, other) refl

pub read_unknown : (at : ℕ) (code : List ℕ) (number size : ℕ) → opcode_of code ≡ Some (number, size)
    → size ≡ shortest number → place_of number ≡ None
    → instruction_at at code ≡ Err (of_code.BadOpcode at)
unfolding instruction_at
read_unknown at code number size opened short none =
    let same : (size == shortest number) ≡ true = grind (arith, nat_tests) in
    rw (opened, same, none) refl

pub read_half : (at : ℕ) (code : List ℕ) (number size place : ℕ) (e : ListFault)
    → opcode_of code ≡ Some (number, size) → size ≡ shortest number → place_of number ≡ Some place
    → front at (modes_len (operand_count (row_at place))) (drop size code) ≡ Err e → instruction_at at code ≡ Err e
unfolding instruction_at
read_half at code number size place e opened short placed bad =
    let same : (size == shortest number) ≡ true = grind (arith, nat_tests) in
    rw (opened, same, placed, bad) refl

pub read_spoilt : (at : ℕ) (code : List ℕ) (number size place : ℕ) (pairs : List ℕ) (e : ListFault)
    → opcode_of code ≡ Some (number, size) → size ≡ shortest number → place_of number ≡ Some place
    → front at (modes_len (operand_count (row_at place))) (drop size code) ≡ Ok pairs
    → modes_from at (row_at place) 0 (nibbles pairs) ≡ Err e
    → instruction_at at code ≡ Err e
unfolding instruction_at
read_spoilt at code number size place pairs e opened short placed first bad =
    let same : (size == shortest number) ≡ true = grind (arith, nat_tests) in
    rw (opened, same, placed, first, bad) refl

pub read_part : (at : ℕ) (code : List ℕ) (number size place : ℕ) (pairs : List ℕ) (modes : List Addressing)
    (e : ListFault)
    → opcode_of code ≡ Some (number, size) → size ≡ shortest number → place_of number ≡ Some place
    → front at (modes_len (operand_count (row_at place))) (drop size code) ≡ Ok pairs
    → modes_from at (row_at place) 0 (nibbles pairs) ≡ Ok modes
    → front at (all_data_len modes) (drop (size + modes_len (operand_count (row_at place))) code) ≡ Err e
    → instruction_at at code ≡ Err e
unfolding instruction_at
read_part at code number size place pairs modes e opened short placed first by bad =
    let same : (size == shortest number) ≡ true = grind (arith, nat_tests) in
    rw (opened, same, placed, first, by, bad) refl

pub read_written : (at : ℕ) (code : List ℕ) (w : WrittenInstruction) → All (λ b. b < 256) code
    → instruction_at at code ≡ Ok w → IsWritten w
read_written at code w small is = (read_from at code w small is).written

pub are_written : (at : ℕ) (code : List ℕ) (r : Result Instruction ListFault) → All (λ b. b < 256) code
    → Is seen_instruction r (instruction_at at code) → IfOk r (λ i. IsWritten (seen_instruction i))
are_written at code (Ok i) small is = read_written at code (seen_instruction i) small is
are_written at code (Err e) small is = tt

pub ruleset reading = (
  opcode_within,
  read_cut,
  read_long,
  read_unknown,
  read_half,
  read_spoilt,
  read_part,
  read_by,
  read_written,
)

-- ---- the loop of a listing

pub whole_rest : (code : List ℕ) (at : ℕ) → take (length code - at) (drop at code) ≡ drop at code
whole_rest code at = take_all (length code - at) (drop at code) (omega (arith, length-drop at code))

pub below_256 : (bytes : List ℕ) → ((k : ℕ) → k < length bytes → slice_index bytes k < 256) → All (λ b. b < 256) bytes
below_256 bytes h = All-from_get_or (λ b. b < 256) bytes 0 h

-- The instructions from a place up to another are listed; `text` is their text where it is whole.
pub record IsListed (code : List ℕ) (ends : Bool) (from at : ℕ) (whole : Bool) (text : List ℕ) : Type 0 where
  pub done : List ℕ
  pub so_far : IsSoFar code ends from at done
  pub kept : whole ≡ true → text ≡ done
  pub begins : from ≤ at
  pub started : whole ≡ false → from < at

pub listing_begun : (code : List ℕ) (ends : Bool) (from : ℕ) → from ≤ length code → IsListed code ends from from true []
listing_begun code ends from within = record {
  done = [];
  so_far = begun code ends from within;
  kept = λ _. refl;
  begins = omega arith;
  started = λ e. absurd (cc);
}

pub listing_more : (code : List ℕ) (ends : Bool) (from at : ℕ) (whole more : Bool) (text next : List ℕ)
    (w : WrittenInstruction)
    → IsListed code ends from at whole text → at < length code → All (λ b. b < 256) code
    → instruction_at at (drop at code) ≡ Ok w
    → (ends && ends_listing w) ≡ false → (more ≡ true → (whole ≡ true) × (next ≡ text ++ instruction_line w))
    → IsListed code ends from (at + length (bytes_of w)) more next
listing_more code ends from at whole more text next w is before small read goes added =
    record {
      done = is.done ++ instruction_line w;
      so_far = turn_more code ends from at is.done w is.so_far before small read goes;
      kept = λ m. (added m).1 ∙ ap (λ (l : List ℕ). l ++ instruction_line w) (is.kept (added m).0);
      begins = omega (arith, is.begins);
      started = λ _. omega (arith, is.begins, bytes_some w);
    }

given : (defined : Result (List ℕ) ListFault) (done text : List ℕ) (whole : Bool) → defined ≡ Ok done
    → (whole ≡ true → text ≡ done)
    → Gives of_code.NoMemory (λ (t : List ℕ). t) (if whole then Ok text else Err of_code.NoMemory) defined
given defined done text true is kept = is ∙ ap (λ (l : List ℕ). Ok l) (sym (kept refl))
given defined done text false is kept = (λ other. absurd (other refl), λ _. subst IsOk (sym is) refl)

pub listing_last : (code : List ℕ) (ends : Bool) (from at : ℕ) (whole more : Bool) (text next : List ℕ)
    (w : WrittenInstruction)
    → IsListed code ends from at whole text → at < length code → instruction_at at (drop at code) ≡ Ok w
    → (ends && ends_listing w) ≡ true → (more ≡ true → (whole ≡ true) × (next ≡ text ++ instruction_line w))
    → Gives of_code.NoMemory (λ (t : List ℕ). t) (if more then Ok next else Err of_code.NoMemory)
    (text_from (length code) ends from (drop from code))
listing_last code ends from at whole more text next w is before read last added =
    given _ (is.done ++ instruction_line w) next more (turn_last code ends from at is.done w is.so_far before read last)
    (λ m. (added m).1 ∙ ap (λ (l : List ℕ). l ++ instruction_line w) (is.kept (added m).0))

pub listing_bad : (code : List ℕ) (ends : Bool) (from at : ℕ) (whole : Bool) (text : List ℕ) (e : ListFault)
    → IsListed code ends from at whole text → at < length code → instruction_at at (drop at code) ≡ Err e
    → text_from (length code) ends from (drop from code) ≡ Err e
listing_bad code ends from at whole text e is before bad = turn_bad code ends from at is.done e is.so_far before bad

pub listing_whole : (code : List ℕ) (ends : Bool) (from at : ℕ) (whole : Bool) (text : List ℕ)
    → IsListed code ends from at whole text → ends ≡ false → length code ≤ at
    → Gives of_code.NoMemory (λ (t : List ℕ). t) (if whole then Ok text else Err of_code.NoMemory)
    (text_from (length code) ends from (drop from code))
listing_whole code true from at whole text is all past = absurd (cc)
listing_whole code false from at whole text is all past =
    given _ is.done text whole (turns_whole code from at is.done is.so_far past) is.kept

pub listing_cut : (code : List ℕ) (ends : Bool) (from at : ℕ) (whole : Bool) (text : List ℕ)
    → IsListed code ends from at whole text → ends ≡ true → length code ≤ at
    → text_from (length code) ends from (drop from code) ≡ Err (of_code.Cut at)
listing_cut code false from at whole text is all past = absurd (cc)
listing_cut code true from at whole text is all past =
    let end : length code ≡ at = omega (arith, is.so_far.within) in
    turns_cut code from at is.done is.so_far past ∙ ap (λ (n : ℕ). Err (of_code.Cut n)) end

-- ---- no definition wants memory

abbrev NoWant : {A : Type 0} → Result A ListFault → Type 0
NoWant r = (e : ListFault) → r ≡ Err e → e ≢ of_code.NoMemory

cut_not : (at : ℕ) → of_code.Cut at ≢ of_code.NoMemory
cut_not at h = cc

spelling_not : (at : ℕ) → of_code.Spelling at ≢ of_code.NoMemory
spelling_not at h = cc

opcode_not : (at : ℕ) → of_code.BadOpcode at ≢ of_code.NoMemory
opcode_not at h = cc

mode_not : (at : ℕ) → of_code.BadMode at ≢ of_code.NoMemory
mode_not at h = cc

same_fault : {A : Type 0} (a b : ListFault) → ◌≡◌ {A = Result A ListFault} (Err a) (Err b) → a ≡ b
same_fault a b h = cc

ok_wants : {A : Type 0} (x : A) → NoWant (Ok x)
ok_wants x e h = absurd (cc)

err_wants : {A : Type 0} (fault : ListFault) → fault ≢ of_code.NoMemory → (e : ListFault)
    → ◌≡◌ {A = Result A ListFault} (Err fault) (Err e) → e ≢ of_code.NoMemory
err_wants {A} fault other e h k = other (same_fault {A = A} fault e h ∙ k)

bind_wants : {A B : Type 0} (m : Result A ListFault) (f : A → Result B ListFault) → NoWant m
    → ((x : A) → NoWant (f x)) → NoWant (m >>= f)
bind_wants (Ok x) f first next e h k = next x e h k
bind_wants {A} {B} (Err fault) f first next e h k =
    first e (ap (λ (g : ListFault). Err g) (same_fault {A = B} fault e h)) k

ok_or_wants : {A : Type 0} (o : Option A) (fault : ListFault) → fault ≢ of_code.NoMemory → NoWant (ok_or o fault)
ok_or_wants (Some x) fault other e h = absurd (cc)
ok_or_wants {A} None fault other e h = err_wants {A = A} fault other e h

allowed_wants : (b : Bool) (fault : ListFault) → fault ≢ of_code.NoMemory → NoWant (required b fault)
allowed_wants true fault other e h = absurd (cc)
allowed_wants false fault other e h = err_wants {A = Unit {0}} fault other e h

cond_wants : {A : Type 0} (b : Bool) (x y : Result A ListFault) → NoWant x → NoWant y → NoWant (if b then x else y)
cond_wants true x y first second = first
cond_wants false x y first second = second

front_wants : (at n : ℕ) (bytes : List ℕ) → NoWant (front at n bytes)
front_wants at n bytes = cond_wants (nat_lt (length bytes) n) (Err (of_code.Cut at)) (Ok (take n bytes))
    (err_wants {A = List ℕ} (of_code.Cut at) (cut_not at)) (ok_wants (take n bytes))

mode_wants : (at : ℕ) (kind : Kind) (n : ℕ) → NoWant (mode_in at kind n)
unfolding mode_in
mode_wants at kind n =
    bind_wants (ok_or (addressing n) (of_code.BadMode at)) _
    (ok_or_wants (addressing n) (of_code.BadMode at) (mode_not at)) (λ mode.
    bind_wants (required (fits_kind kind mode) (of_code.BadMode at)) _
    (allowed_wants (fits_kind kind mode) (of_code.BadMode at) (mode_not at)) (λ _.
    ok_wants mode))

modes_want : (at : ℕ) (row : Row) (i : ℕ) (nibbles : List ℕ) → NoWant (modes_from at row i nibbles)
unfolding modes_from
modes_want at row i [] = ok_wants []
modes_want at row i (n ∷ rest) = cond_wants (nat_lt i (operand_count row)) _ _
    (bind_wants (mode_in at (kind_of row i) n) _ (mode_wants at (kind_of row i) n) (λ mode.
    bind_wants (modes_from at row (i + 1) rest) _ (modes_want at row (i + 1) rest) (λ modes. ok_wants (mode ∷ modes))))
    (bind_wants (required (n == 0) (of_code.BadMode at)) _ (allowed_wants (n == 0) (of_code.BadMode at) (mode_not at))
    (λ _. modes_want at row (i + 1) rest))

pub instruction_wants : (at : ℕ) (code : List ℕ) (e : ListFault) → instruction_at at code ≡ Err e → e ≢ of_code.NoMemory
unfolding instruction_at
instruction_wants at code =
    bind_wants (ok_or (opcode_of code) (of_code.Cut at)) _
    (ok_or_wants (opcode_of code) (of_code.Cut at) (cut_not at)) (λ o.
    bind_wants (required (o.1 == shortest o.0) (of_code.Spelling at)) _
    (allowed_wants (o.1 == shortest o.0) (of_code.Spelling at) (spelling_not at)) (λ _.
    bind_wants (ok_or (place_of o.0) (of_code.BadOpcode at)) _
    (ok_or_wants (place_of o.0) (of_code.BadOpcode at) (opcode_not at)) (λ place.
    bind_wants (front at (modes_len (operand_count (row_at place))) (drop o.1 code)) _ (front_wants at _ _) (λ pairs.
    bind_wants (modes_from at (row_at place) 0 (nibbles pairs)) _ (modes_want at (row_at place) 0 (nibbles pairs))
    (λ modes.
    bind_wants (front at (all_data_len modes) (drop (o.1 + modes_len (operand_count (row_at place))) code)) _
    (front_wants at _ _) (λ bytes.
    ok_wants (record { place = place; modes = modes; operand_data = bytes })))))))

-- a fault of a listing is no want of memory
pub fault_given : (defined : Result (List ℕ) ListFault) (e : ListFault) → e ≢ of_code.NoMemory → defined ≡ Err e
    → (e ≢ of_code.NoMemory → defined ≡ Err e) × (e ≡ of_code.NoMemory → IsOk defined)
fault_given defined e other is = (λ _. is, λ want. absurd (other want))

pub cut_given : (defined : Result (List ℕ) ListFault) (at : ℕ) → defined ≡ Err (of_code.Cut at)
    → (of_code.Cut at ≢ of_code.NoMemory → defined ≡ Err (of_code.Cut at))
    × (of_code.Cut at ≡ of_code.NoMemory → IsOk defined)
cut_given defined at is = fault_given defined (of_code.Cut at) (cut_not at) is

pub ruleset listing_turns = (
  listing_begun,
  listing_more,
  listing_last,
  listing_bad,
  listing_whole,
  listing_cut,
  cut_given,
)
