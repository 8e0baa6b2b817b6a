-- The bytes of opcodes, and the places of their numbers in the table.
use Rattle.std.proofs.Common.{◌≡◌, ◌≤◌, ◌<◌, ◌+◌, ◌-◌, ◌*◌, ◌/◌, ◌%◌, ◌^◌, ◌==◌, ◌&&◌, ℕ, zero, suc, Bool, true}
use Rattle.std.proofs.Common.{false, nat_lt, if◌then◌else◌, List, [], ◌∷◌, ◌++◌, length, take, get_or, refl, sym, ◌∙◌}
use Rattle.std.proofs.Common.{ap, subst, inl, inr, arith, Some, None, All}
use Rattle.std.specs.List.{list_all, position_or_len}
use Rattle.std.proofs.lemmas.Bool.{cases_lt}
use Rattle.std.proofs.lemmas.Bool.Decides.{nat_tests}
use Rattle.std.proofs.lemmas.List.Sums.{AllPass-from_list_all, passes_at_first}
use Rattle.gx_words.specs.Numbers.{word, bytes_of_word}
use Rattle.gx_rows.specs.declared.instructions.Row.{Row}
use Rattle.gx_rows.specs.declared.instructions.Class.TheVariants.{Flow}
use Rattle.gx_rows.specs.Opcodes.{opcode_of, shortest, spelled}
use Rattle.gx_rows.specs.Table.{table, row_count, row_at, place_of}

-- ---- places

-- the row that `row_at` has for a place behind the table
abbrev none : Row
none = record { number = 0; loads = 0; stores = 0; store_first = false; width = 4; class = Flow; act = 0 }

rows_counted : length table ≡ row_count
unfolding table
rows_counted = refl

equal : (m n : ℕ) → (m == n) ≡ true → m ≡ n
equal m n h = grind (arith, nat_tests)

both : (a b : Bool) → (a && b) ≡ true → (a ≡ true) × (b ≡ true)
both true b h = (refl, h)
both false b h = absurd (cc)

within_ok : (p place : ℕ) → (if nat_lt p row_count then Some p else None) ≡ Some place
    → (p ≡ place) × (place < row_count)
within_ok p place h = grind (arith, nat_tests)

within_is : (p place : ℕ) → p ≡ place → place < row_count → (if nat_lt p row_count then Some p else None) ≡ Some place
within_is p place is within = grind (arith, nat_tests)

-- the row at the place of a number has that number
pub place_found : (number place : ℕ) → place_of number ≡ Some place
    → (place < row_count) × ((row_at place).number ≡ number)
unfolding place_of row_at
place_found number place h =
    let p = position_or_len (λ row. row.number == number) table in
    let is = within_ok p place h in
    let there : p < length table = omega (arith, rows_counted, is.0, is.1) in
    let passes = passes_at_first (λ row. row.number == number) table none there in
    (is.1, subst (λ i. (row_at i).number ≡ number) is.0 (equal _ _ passes))

-- each number stands first at its own row
are_first : ℕ → List Row → Bool
are_first i [] = true
are_first i (row ∷ rows) = (position_or_len (λ other. other.number == row.number) table == i) && are_first (i + 1) rows

all_first : are_first 0 table ≡ true
unfolding are_first table
all_first = refl

first_at : (i place : ℕ) (rows : List Row) (d : Row) → are_first i rows ≡ true → place < length rows
    → position_or_len (λ other. other.number == (get_or rows place d).number) table ≡ i + place
unfolding are_first
first_at i place [] d all within = absurd (omega arith)
first_at i zero (row ∷ rows) d all within =
    let here = both _ (are_first (i + 1) rows) all in
    equal _ _ here.0 ∙ omega arith
first_at i (suc place) (row ∷ rows) d all within =
    let rest = both (position_or_len (λ other. other.number == row.number) table == i) (are_first (i + 1) rows) all in
    first_at (i + 1) place rows d rest.1 (omega arith) ∙ omega arith

pub place_of_row : (place : ℕ) → place < row_count → place_of (row_at place).number ≡ Some place
unfolding place_of row_at
place_of_row place within =
    let first = first_at 0 place table none all_first (omega (arith, rows_counted)) in
    within_is _ place (first ∙ omega arith) within

-- no number is great
all_small : list_all (λ row. nat_lt row.number 0x4000) table ≡ true
unfolding table
all_small = refl

below : (m n : ℕ) → nat_lt m n ≡ true → m < n
below m n h = grind (arith, nat_tests)

pub number_small : (place : ℕ) → place < row_count → (row_at place).number < 0x4000
unfolding row_at
number_small place within =
    let pass = AllPass-from_list_all (λ row. nat_lt row.number 0x4000) table all_small place none
    (omega (arith, rows_counted)) in
    below _ _ pass

-- ---- opcodes

opcode_one : (b : ℕ) (rest : List ℕ) → b < 0x80 → opcode_of (b ∷ rest) ≡ Some (b, 1)
unfolding opcode_of
opcode_one b rest h =
    let e : (length (b ∷ rest) == 0) ≡ false = grind (arith, nat_tests) in
    let t : nat_lt b 0x80 ≡ true = grind (arith, nat_tests) in
    rw (e, t) refl

opcode_two : (b c : ℕ) (rest : List ℕ) → 0x80 ≤ b → b < 0xC0 → opcode_of (b ∷ c ∷ rest) ≡ Some (b * 256 + c - 0x8000, 2)
unfolding opcode_of
opcode_two b c rest h k =
    let e : (length (b ∷ c ∷ rest) == 0) ≡ false = grind (arith, nat_tests) in
    let t : nat_lt b 0x80 ≡ false = grind (arith, nat_tests) in
    let u : nat_lt b 0xC0 ≡ true = grind (arith, nat_tests) in
    let v : nat_lt (length (b ∷ c ∷ rest)) 2 ≡ false = grind (arith, nat_tests) in
    rw (e, t, u, v) refl

opcode_cut : (b : ℕ) → 0x80 ≤ b → b < 0xC0 → opcode_of (b ∷ []) ≡ None
unfolding opcode_of
opcode_cut b h k =
    let t : nat_lt b 0x80 ≡ false = grind (arith, nat_tests) in
    let u : nat_lt b 0xC0 ≡ true = grind (arith, nat_tests) in
    rw (t, u) refl

opcode_four : (b : ℕ) (rest : List ℕ) → 0xC0 ≤ b
    → opcode_of (b ∷ rest) ≡ (if nat_lt (length (b ∷ rest)) 4 then None else Some (word (b ∷ rest) 0 - 0xC0000000, 4))
unfolding opcode_of
opcode_four b rest h =
    let e : (length (b ∷ rest) == 0) ≡ false = grind (arith, nat_tests) in
    let t : nat_lt b 0x80 ≡ false = grind (arith, nat_tests) in
    let u : nat_lt b 0xC0 ≡ false = grind (arith, nat_tests) in
    rw (e, t, u) refl

-- the shortest forms

spelled_one : (number : ℕ) → number < 0x80 → (spelled number (shortest number) ≡ number ∷ []) × (shortest number ≡ 1)
spelled_one number h =
    let s : shortest number ≡ 1 = grind (arith, nat_tests) in
    let b : (number + 0) % 256 ≡ number = omega arith in
    (subst (λ (k : ℕ). spelled number k ≡ number ∷ []) (sym s) (ap (λ (n : ℕ). n ∷ []) b), s)

spelled_two : (number : ℕ) → 0x80 ≤ number → number < 0x4000
    → (spelled number (shortest number) ≡ ((number + 0x8000) / 256 % 256) ∷ ((number + 0x8000) % 256) ∷ [])
    × (shortest number ≡ 2)
spelled_two number h k =
    let s : shortest number ≡ 2 = grind (arith, nat_tests) in (
      subst (λ (k : ℕ). spelled number k ≡ ((number + 0x8000) / 256 % 256) ∷ ((number + 0x8000) % 256) ∷ [])
          (sym s) refl,
      s,
    )

pub length-opcode : (number : ℕ) → number < 0x4000 → length (spelled number (shortest number)) ≡ shortest number
length-opcode number small = elim (cases_lt number 0x80) [
  | inl less ↦ let one = spelled_one number less in ap length one.0 ∙ sym one.1
  | inr more ↦ let two = spelled_two number more small in ap length two.0 ∙ sym two.1
]

pub spelled_some : (number size : ℕ) → 0 < length (spelled number size)
spelled_some number size = some_bytes (size == 1) (size == 2) _ where
  some_bytes : (one two : Bool) (v : ℕ) → 0
      < length (if one then (v % 256) ∷ [] else if two then (v / 2 ^ 8 % 256) ∷ (v % 256) ∷ [] else bytes_of_word v)
  some_bytes true two v = omega arith
  some_bytes false true v = omega arith
  some_bytes false false v = omega arith

read_two : (number : ℕ) (rest : List ℕ) → 0x80 ≤ number → number < 0x4000
    → opcode_of ((((number + 0x8000) / 256 % 256) ∷ ((number + 0x8000) % 256) ∷ []) ++ rest) ≡ Some (number, 2)
read_two number rest h k =
    let value : (number + 0x8000) / 256 % 256 * 256 + (number + 0x8000) % 256 - 0x8000 ≡ number = omega arith in
    opcode_two _ _ rest (omega arith) (omega arith) ∙ ap (λ (n : ℕ). Some (n, 2)) value

-- the shortest form of a number is read back
pub opcode_read : (number : ℕ) (rest : List ℕ) → number < 0x4000
    → opcode_of (spelled number (shortest number) ++ rest) ≡ Some (number, shortest number)
opcode_read number rest small = elim (cases_lt number 0x80) [
  | inl less ↦
      let one = spelled_one number less in
      subst (λ (l : List ℕ). opcode_of (l ++ rest) ≡ Some (number, shortest number)) (sym one.0)
      (opcode_one number rest less ∙ ap (λ (k : ℕ). Some (number, k)) (sym one.1))
  | inr more ↦
      let two = spelled_two number more small in
      subst (λ (l : List ℕ). opcode_of (l ++ rest) ≡ Some (number, shortest number)) (sym two.0)
      (read_two number rest more small ∙ ap (λ (k : ℕ). Some (number, k)) (sym two.1))
]

-- what is read in its shortest form stands there
pub record IsThere (code : List ℕ) (number size : ℕ) : Type 0 where
  pub within : size ≤ length code
  pub spelled : take size code ≡ spelled number size

there_one : (b : ℕ) (rest : List ℕ) → b < 0x80 → IsThere (b ∷ rest) b 1
there_one b rest h =
    let e : b ≡ (b + 0) % 256 = omega arith in
    record { within = omega arith; spelled = ap (λ (n : ℕ). n ∷ []) e }

pair_same : (a b c d : ℕ) → a ≡ c → b ≡ d → a ∷ b ∷ [] ≡ c ∷ d ∷ []
pair_same a b c d e f = cc

there_two : (b c : ℕ) (rest : List ℕ) → 0x80 ≤ b → b < 0xC0 → c < 256 → IsThere (b ∷ c ∷ rest) (b * 256 + c - 0x8000) 2
there_two b c rest low high small =
    let e : b ≡ (b * 256 + c - 0x8000 + 0x8000) / 256 % 256 = omega arith in
    let f : c ≡ (b * 256 + c - 0x8000 + 0x8000) % 256 = omega arith in
    record { within = omega arith; spelled = pair_same _ _ _ _ e f }

some_pair : (p q : ℕ × ℕ) → Some p ≡ Some q → p ≡ q
some_pair p q h = cc

there : (code : List ℕ) (p q : ℕ × ℕ) → Some p ≡ Some q → IsThere code p.0 p.1 → IsThere code q.0 q.1
there code p q h is = subst (λ (r : ℕ × ℕ). IsThere code r.0 r.1) (some_pair p q h) is

no_opcode : (code : List ℕ) (q : ℕ × ℕ) → None ≡ Some q → IsThere code q.0 q.1
no_opcode code q h = absurd (cc)

of_some : (cut : Bool) (p q : ℕ × ℕ) → (if cut then None else Some p) ≡ Some q → p ≡ q
of_some true p q h = absurd (cc)
of_some false p q h = some_pair p q h

of_four : (b : ℕ) (rest : List ℕ) (number size : ℕ) → 0xC0 ≤ b → opcode_of (b ∷ rest) ≡ Some (number, size) → 4 ≡ size
of_four b rest number size above h =
    ap (λ (p : ℕ × ℕ). p.1) (of_some (nat_lt (length (b ∷ rest)) 4) (word (b ∷ rest) 0 - 0xC0000000, 4) (number, size)
    (sym (opcode_four b rest above) ∙ h))

not_four : (code : List ℕ) (number size : ℕ) → 4 ≡ size → size ≡ shortest number → number < 0x4000
    → IsThere code number size
not_four code number size four short small =
    let below : shortest number < 4 = grind (arith, nat_tests) in
    absurd (omega arith)

pub opcode_there : (code : List ℕ) (number size : ℕ) → All (λ b. b < 256) code → size ≡ shortest number
    → number < 0x4000 → opcode_of code ≡ Some (number, size) → IsThere code number size
unfolding opcode_of
opcode_there [] number size bytes short small h = no_opcode [] (number, size) h
opcode_there (b ∷ []) number size bytes short small h = elim (cases_lt b 0x80) [
  | inl less ↦ there (b ∷ []) (b, 1) (number, size) (sym (opcode_one b [] less) ∙ h) (there_one b [] less)
  | inr more ↦ elim (cases_lt b 0xC0) [
    | inl below ↦ no_opcode (b ∷ []) (number, size) (sym (opcode_cut b more below) ∙ h)
    | inr above ↦ not_four (b ∷ []) number size (of_four b [] number size above h) short small
  ]
]
opcode_there (b ∷ c ∷ rest) number size bytes short small h = elim (cases_lt b 0x80) [
  | inl less ↦ there (b ∷ c ∷ rest) (b, 1) (number, size) (sym (opcode_one b (c ∷ rest) less) ∙ h)
      (there_one b (c ∷ rest) less)
  | inr more ↦ elim (cases_lt b 0xC0) [
    | inl below ↦ there (b ∷ c ∷ rest) (b * 256 + c - 0x8000, 2) (number, size)
        (sym (opcode_two b c rest more below) ∙ h) (there_two b c rest more below (bytes 1 0 (omega arith)))
    | inr above ↦ not_four (b ∷ c ∷ rest) number size (of_four b (c ∷ rest) number size above h) short small
  ]
]
