-- An instruction read from the bytes of a code, and read back from its own bytes.
use Rattle.std.proofs.Common.{◌≡◌, ◌≤◌, ◌<◌, ◌+◌, ◌-◌, ◌/◌, ◌==◌, ℕ, Bool, true, false, nat_lt, if◌then◌else◌, List}
use Rattle.std.proofs.Common.{◌++◌, append_assoc, length, length-append, length-drop, length-take-le, map, take, drop}
use Rattle.std.proofs.Common.{take-add, take-append-drop, refl, sym, ◌∙◌, ap, subst, arith, Some, ok_or, Result, Ok}
use Rattle.std.proofs.Common.{Err, All}
use Rattle.std.proofs.lemmas.Bool.Decides.{nat_tests}
use Rattle.std.proofs.lemmas.List.{length-map}
use Rattle.std.proofs.lemmas.List.Elements.{All-take, All-drop}
use Rattle.std.proofs.Math.Seq.{drop-append_seam, take-append_seam}
use Rattle.gx_rows.specs.declared.modes.Addressing.{Addressing}
use Rattle.gx_rows.specs.Opcodes.{opcode_of, shortest, spelled}
use Rattle.gx_rows.specs.Table.{place_of, row_at, row_count}
use Rattle.gx_asm.specs.declared.faults.ListFault.{ListFault}
use Rattle.gx_asm.specs.declared.faults.ListFault.TheVariants as of_code
use Rattle.gx_asm.specs.Texts.{required}
use Rattle.gx_asm.specs.Instructions.{WrittenInstruction, IsWritten, operand_count, all_data_len, nibble_of}
use Rattle.gx_asm.specs.Instructions.{packed_nibbles, opcode_number, bytes_of}
use Rattle.gx_asm.specs.Codes.{front, instruction_at, modes_from, modes_len, nibbles}
use Rattle.gx_asm.proofs.Nibbles.{bind_ok, ok_or_ok, allowed_ok, AreRead, modes_read, modes_written, length-packed}
use Rattle.gx_asm.proofs.Nibbles.{same_number}
use Rattle.gx_asm.proofs.BytesOpcodes.{IsThere, length-opcode, number_small, opcode_read, opcode_there, place_found}
use Rattle.gx_asm.proofs.BytesOpcodes.{place_of_row, spelled_some}

-- ---- bytes at the head of others

front_ok : (at n : ℕ) (bytes l : List ℕ) → front at n bytes ≡ Ok l → (n ≤ length bytes) × (take n bytes ≡ l)
front_ok at n bytes l h = by (nat_lt (length bytes) n) refl h where
  by : (less : Bool) → nat_lt (length bytes) n ≡ less → (if less then Err (of_code.Cut at) else Ok (take n bytes))
      ≡ Ok l → (n ≤ length bytes) × (take n bytes ≡ l)
  by true e k = absurd (cc)
  by false e k = let within : n ≤ length bytes = grind (arith, nat_tests) in let same : take n bytes ≡ l = cc in
      (within, same)

front_there : (at : ℕ) (bytes rest : List ℕ) → front at (length bytes) (bytes ++ rest) ≡ Ok bytes
front_there at bytes rest =
    let less : nat_lt (length (bytes ++ rest)) (length bytes) ≡ false = grind (arith, nat_tests, length-append) in
    rw (less, take-append_seam bytes rest) refl

front_behind : (at n s : ℕ) (before bytes rest : List ℕ) → length before ≡ s → length bytes ≡ n
    → front at n (drop s (before ++ (bytes ++ rest))) ≡ Ok bytes
front_behind at n s before bytes rest first size =
    subst (λ (n : ℕ). front at n (drop s (before ++ (bytes ++ rest))) ≡ Ok bytes) size
    (subst (λ (s : ℕ). front at (length bytes) (drop s (before ++ (bytes ++ rest))) ≡ Ok bytes) first
    (subst (λ (l : List ℕ). front at (length bytes) l ≡ Ok bytes) (sym (drop-append_seam before (bytes ++ rest)))
    (front_there at bytes rest)))

-- ---- an instruction is read back

pub read_by : (at : ℕ) (code : List ℕ) (number size place : ℕ) (pairs bytes : List ℕ) (modes : List Addressing)
    → opcode_of code ≡ Some (number, size) → size ≡ shortest number → place_of number ≡ Some place
    → front at (modes_len (operand_count (row_at place))) (drop size code) ≡ Ok pairs
    → modes_from at (row_at place) 0 (nibbles pairs) ≡ Ok modes
    → front at (all_data_len modes) (drop (size + modes_len (operand_count (row_at place))) code) ≡ Ok bytes
    → instruction_at at code ≡ Ok (record { place = place; modes = modes; operand_data = bytes })
unfolding instruction_at
read_by at code number size place pairs bytes modes opened short placed first by last =
    let same : (size == shortest number) ≡ true = grind (arith, nat_tests) in
    rw (opened, same, placed, first, by, last) refl

regrouped : (a b c d : List ℕ) → a ++ b ++ c ++ d ≡ a ++ (b ++ (c ++ d))
regrouped a b c d = append_assoc (a ++ b) c d ∙ append_assoc a b (c ++ d)

pub reads_back : (at : ℕ) (w : WrittenInstruction) (rest : List ℕ) → IsWritten w
    → instruction_at at (bytes_of w ++ rest) ≡ Ok w
unfolding bytes_of
reads_back at w rest is =
    let small = number_small w.place is.place in
    let opcode = spelled (opcode_number w) (shortest (opcode_number w)) in
    let pairs = packed_nibbles (map nibble_of w.modes) in
    let size = length-opcode (opcode_number w) small in
    let counted : length (map nibble_of w.modes) ≡ operand_count (row_at w.place) =
    length-map w.modes nibble_of ∙ is.count in
    let paired : length pairs ≡ modes_len (operand_count (row_at w.place)) =
    length-packed (map nibble_of w.modes) ∙ ap (λ (n : ℕ). (n + 1) / 2) counted in
    let head : length (opcode ++ pairs) ≡ shortest (opcode_number w) + modes_len (operand_count (row_at w.place)) =
    length-append opcode pairs ∙ omega (arith, size, paired) in
    let first = front_behind at (modes_len (operand_count (row_at w.place))) (shortest (opcode_number w)) opcode pairs
    (w.operand_data ++ rest) size paired in
    let last = front_behind at (all_data_len w.modes)
    (shortest (opcode_number w) + modes_len (operand_count (row_at w.place)))
    (opcode ++ pairs) w.operand_data rest head is.operand_data in
    let by = modes_written at (row_at w.place) (operand_count (row_at w.place)) 0 w.modes refl
    (omega (arith, is.count)) is.modes in
    let together : opcode ++ pairs ++ (w.operand_data ++ rest) ≡ opcode ++ (pairs ++ (w.operand_data ++ rest)) =
    append_assoc opcode pairs (w.operand_data ++ rest) in
    subst (λ (code : List ℕ). instruction_at at code ≡ Ok w) (sym (regrouped opcode pairs w.operand_data rest))
    (read_by at (opcode ++ (pairs ++ (w.operand_data ++ rest))) (opcode_number w)
    (shortest (opcode_number w)) w.place pairs w.operand_data w.modes
    (opcode_read (opcode_number w) (pairs ++ (w.operand_data ++ rest)) small) refl
    (place_of_row w.place is.place) first by
    (subst (λ (code : List ℕ). front at (all_data_len w.modes)
    (drop (shortest (opcode_number w) + modes_len (operand_count (row_at w.place))) code) ≡ Ok w.operand_data)
    together last))

-- ---- what is read stands there

pub record IsRead (code : List ℕ) (w : WrittenInstruction) : Type 0 where
  pub written : IsWritten w
  pub within : length (bytes_of w) ≤ length code
  pub bytes : take (length (bytes_of w)) code ≡ bytes_of w

stands : (code bytes : List ℕ) (n : ℕ) → bytes ≡ take n code → n ≤ length code → (length bytes ≤ length code)
    × (take (length bytes) code ≡ bytes)
stands code bytes n is within =
    let size : length bytes ≡ n = ap length is ∙ length-take-le n code within in
    (omega (arith, size), ap (λ (k : ℕ). take k code) size ∙ sym is)

-- the parts of a list
parts : (a b c : ℕ) (code : List ℕ) → take (a + b + c) code
    ≡ take a code ++ take b (drop a code) ++ take c (drop (a + b) code)
parts a b c code = take-add (a + b) c code ∙ ap (λ (l : List ℕ). l ++ take c (drop (a + b) code)) (take-add a b code)

read_of : (code : List ℕ) (number size place : ℕ) (pairs bytes : List ℕ) (modes : List Addressing)
    → All (λ b. b < 256) code → IsThere code number size → size ≡ shortest number → place < row_count
    → (row_at place).number ≡ number
    → (modes_len (operand_count (row_at place)) ≤ length (drop size code))
    × (take (modes_len (operand_count (row_at place))) (drop size code) ≡ pairs)
    → AreRead (row_at place) (operand_count (row_at place)) 0 pairs modes
    → (all_data_len modes ≤ length (drop (size + modes_len (operand_count (row_at place))) code))
    × (take (all_data_len modes) (drop (size + modes_len (operand_count (row_at place))) code) ≡ bytes)
    → IsRead code (record { place = place; modes = modes; operand_data = bytes })
unfolding bytes_of
read_of code number size place pairs bytes modes small opcode short placed numbered first read last =
    let n = modes_len (operand_count (row_at place)) in
    let length-behind : length (drop (size + n) code) ≡ length code - (size + n) = length-drop (size + n) code in
    let length-bytes : length bytes ≡ all_data_len modes =
    ap length (sym last.1) ∙ length-take-le (all_data_len modes) (drop (size + n) code) last.0 in
    let long : size + n ≤ length code = omega (arith, first.0, length-drop size code, opcode.within) in
    let whole : size + n + all_data_len modes ≤ length code = omega (arith, last.0, length-behind, long) in
    let head : spelled (row_at place).number (shortest (row_at place).number) ≡ take size code =
    ap (λ (m : ℕ). spelled m (shortest m)) numbered ∙ ap (λ (s : ℕ). spelled number s) (sym short)
    ∙ sym opcode.spelled in
    let same : spelled (row_at place).number (shortest (row_at place).number) ++ packed_nibbles (map nibble_of modes)
    ++ bytes ≡ take (size + n + all_data_len modes) code =
    rw (head, read.same, sym first.1, sym last.1) (sym (parts size n (all_data_len modes) code)) in
    let there = stands code _ (size + n + all_data_len modes) same whole in
    record {
      written = record {
        place = placed;
        count = omega (arith, read.counted);
        modes = read.are;
        operand_data = length-bytes;
        bytes = subst (All (λ b. b < 256)) last.1
            (All-take (λ b. b < 256) (all_data_len modes) _ (All-drop (λ b. b < 256) (size + n) code small));
      };
      within = there.0;
      bytes = there.1;
    }

same_written : (v w : WrittenInstruction) → ◌≡◌ {A = Result WrittenInstruction ListFault} (Ok v) (Ok w) → v ≡ w
same_written v w e = cc

pub read_from : (at : ℕ) (code : List ℕ) (w : WrittenInstruction) → All (λ b. b < 256) code
    → instruction_at at code ≡ Ok w → IsRead code w
unfolding instruction_at
read_from at code w small h =
    let o = bind_ok (ok_or (opcode_of code) (of_code.Cut at)) _ w h in
    let s = bind_ok (required (o.0.1 == shortest o.0.0) (of_code.Spelling at)) _ w o.2 in
    let p = bind_ok (ok_or (place_of o.0.0) (of_code.BadOpcode at)) _ w s.2 in
    let f = bind_ok (front at (modes_len (operand_count (row_at p.0))) (drop o.0.1 code)) _ w p.2 in
    let m = bind_ok (modes_from at (row_at p.0) 0 (nibbles f.0)) _ w f.2 in
    let d = bind_ok (front at (all_data_len m.0) (drop (o.0.1 + modes_len (operand_count (row_at p.0))) code)) _ w
    m.2 in
    let short : o.0.1 ≡ shortest o.0.0 = same_number _ _ (allowed_ok _ _ _ s.1) in
    let placed = place_found o.0.0 p.0 (ok_or_ok _ _ _ p.1) in
    let below : o.0.0 < 0x4000 = subst (λ (n : ℕ). n < 0x4000) placed.1 (number_small p.0 placed.0) in
    let opcode = opcode_there code o.0.0 o.0.1 small short below (ok_or_ok _ _ _ o.1) in
    let first = front_ok at _ _ f.0 f.1 in
    let paired : length f.0 ≡ (operand_count (row_at p.0) - 0 + 1) / 2 =
    ap length (sym first.1) ∙ length-take-le _ _ first.0 ∙ ap (λ (n : ℕ). (n + 1) / 2) (omega arith) in
    let read = modes_read at (row_at p.0) (operand_count (row_at p.0)) 0 f.0 m.0 refl (omega arith) paired m.1 in
    let is = read_of code o.0.0 o.0.1 p.0 f.0 d.0 m.0 small opcode short placed.0 placed.1 first read
    (front_ok at _ _ d.0 d.1) in
    subst (IsRead code) (same_written _ w d.2) is

-- an instruction has bytes
pub bytes_some : (w : WrittenInstruction) → 0 < length (bytes_of w)
unfolding bytes_of
bytes_some w =
    let some = spelled_some (opcode_number w) (shortest (opcode_number w)) in
    omega (
      arith,
      some,
      length-append (spelled (opcode_number w) (shortest (opcode_number w)) ++ packed_nibbles (map nibble_of w.modes))
          w.operand_data,
      length-append (spelled (opcode_number w) (shortest (opcode_number w))) (packed_nibbles (map nibble_of w.modes)),
    )

pub split : (code : List ℕ) (w : WrittenInstruction) → IsRead code w
    → code ≡ bytes_of w ++ drop (length (bytes_of w)) code
split code w is = sym (take-append-drop (length (bytes_of w)) code)
    ∙ ap (λ (l : List ℕ). l ++ drop (length (bytes_of w)) code) is.bytes
