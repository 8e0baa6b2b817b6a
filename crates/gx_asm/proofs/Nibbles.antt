-- The nibbles of modes, and the modes of nibbles.
use Rattle.std.proofs.Common.{◌≡◌, ◌≤◌, ◌<◌, ◌+◌, ◌-◌, ◌*◌, ◌/◌, ◌%◌, ◌==◌, ℕ, Bool, true, false, nat_lt}
use Rattle.std.proofs.Common.{if◌then◌else◌, List, [], ◌∷◌, length, map, refl, sym, ap, subst, inl, inr, arith}
use Rattle.std.proofs.Common.{Option, Some, None, Result, Ok, Err}
use Rattle.std.specs.Option.{ok_or}
use Rattle.std.proofs.lemmas.Bool.{cases_lt}
use Rattle.std.proofs.lemmas.Bool.Decides.{nat_tests}
use Rattle.gx_words.specs.Numbers.{IsWidth}
use Rattle.gx_words.specs.Results.{◌>>=◌}
use Rattle.gx_rows.specs.declared.instructions.Row.{Row}
use Rattle.gx_rows.specs.declared.modes.Addressing.{Addressing}
use Rattle.gx_rows.specs.declared.modes.Addressing.TheVariants.{Zero, Constant, Memory, Top, Local, Ram}
use Rattle.gx_rows.specs.declared.modes.Kind.{Kind}
use Rattle.gx_rows.specs.Modes.{addressing, HasWidth, kind_of}
use Rattle.gx_asm.specs.declared.faults.ListFault.TheVariants as of_code
use Rattle.gx_asm.specs.Texts.{required}
use Rattle.gx_asm.specs.Instructions.{AreModes, operand_count, data_len, all_data_len, fits_kind, nibble_of}
use Rattle.gx_asm.specs.Instructions.{packed_nibbles}
use Rattle.gx_asm.specs.Codes.{modes_from, mode_in, nibbles}

-- ---- steps that may fail

pub bind_ok : {A B E : Type 0} (m : Result A E) (f : A → Result B E) (y : B) → (m >>= f) ≡ Ok y
    → (x : A) × (m ≡ Ok x) × (f x ≡ Ok y)
bind_ok (Ok x) f y h = (x, refl, h)
bind_ok (Err e) f y h = absurd (cc)

pub ok_or_ok : {A E : Type 0} (o : Option A) (e : E) (x : A) → ok_or o e ≡ Ok x → o ≡ Some x
ok_or_ok (Some x) e y h = cc
ok_or_ok None e y h = absurd (cc)

pub allowed_ok : {E : Type 0} (b : Bool) (e : E) (u : Unit {0}) → required b e ≡ Ok u → b ≡ true
allowed_ok true e u h = refl
allowed_ok false e u h = absurd (cc)

-- ---- the mode of a nibble

at_width : (P : ℕ → Type 0) → P 1 → P 2 → P 4 → (n : ℕ) → IsWidth n → P n
at_width P one two four n (inl e) = subst P (sym e) one
at_width P one two four n (inr (inl e)) = subst P (sym e) two
at_width P one two four n (inr (inr e)) = subst P (sym e) four

pub addressing_of : (mode : Addressing) → HasWidth mode → addressing (nibble_of mode) ≡ Some mode
unfolding addressing
addressing_of Zero has = refl
addressing_of (Constant n) has = at_width (λ n. addressing (nibble_of (Constant n)) ≡ Some (Constant n)) refl refl
    refl n has
addressing_of (Memory n) has = at_width (λ n. addressing (nibble_of (Memory n)) ≡ Some (Memory n)) refl refl refl n has
addressing_of Top has = refl
addressing_of (Local n) has = at_width (λ n. addressing (nibble_of (Local n)) ≡ Some (Local n)) refl refl refl n has
addressing_of (Ram n) has = at_width (λ n. addressing (nibble_of (Ram n)) ≡ Some (Ram n)) refl refl refl n has

pub nibble_small : (mode : Addressing) → HasWidth mode → nibble_of mode < 16
nibble_small Zero has = omega arith
nibble_small (Constant n) has = at_width (λ n. nibble_of (Constant n) < 16) (omega arith) (omega arith)
    (omega arith) n has
nibble_small (Memory n) has = at_width (λ n. nibble_of (Memory n) < 16) (omega arith) (omega arith) (omega arith) n has
nibble_small Top has = omega arith
nibble_small (Local n) has = at_width (λ n. nibble_of (Local n) < 16) (omega arith) (omega arith) (omega arith) n has
nibble_small (Ram n) has = at_width (λ n. nibble_of (Ram n) < 16) (omega arith) (omega arith) (omega arith) n has

-- a mode is that of a nibble
record IsOf (n : ℕ) (mode : Addressing) : Type 0 where
  width : HasWidth mode
  nibble : nibble_of mode ≡ n

some_same : (m mode : Addressing) → Some m ≡ Some mode → m ≡ mode
some_same m mode h = cc

-- one nibble more
or_else : (n k : ℕ) (b : Bool) (m : Addressing) (others : Option Addressing) (mode : Addressing)
    → (b ≡ true → n ≡ k) → IsOf k m → (others ≡ Some mode → IsOf n mode)
    → (if b then Some m else others) ≡ Some mode → IsOf n mode
or_else n k true m others mode same here rest is =
    subst (λ n. IsOf n mode) (sym (same refl)) (subst (IsOf k) (some_same m mode is) here)
or_else n k false m others mode same here rest is = rest is

pub same_number : (n k : ℕ) → (n == k) ≡ true → n ≡ k
same_number n k h = grind (arith, nat_tests)

no_mode : (n : ℕ) (mode : Addressing) → None ≡ Some mode → IsOf n mode
no_mode n mode h = absurd (cc)

of_width_1 : IsWidth 1
of_width_1 = inl refl

of_width_2 : IsWidth 2
of_width_2 = inr (inl refl)

of_width_4 : IsWidth 4
of_width_4 = inr (inr refl)

is_of : (n : ℕ) (mode : Addressing) → addressing n ≡ Some mode → IsOf n mode
unfolding addressing
is_of n mode =
    or_else n 0x0 (n == 0x0) Zero _ mode (same_number n 0x0) (record { width = tt; nibble = refl }) (
    or_else n 0x1 (n == 0x1) (Constant 1) _ mode (same_number n 0x1) (record { width = of_width_1; nibble = refl }) (
    or_else n 0x2 (n == 0x2) (Constant 2) _ mode (same_number n 0x2) (record { width = of_width_2; nibble = refl }) (
    or_else n 0x3 (n == 0x3) (Constant 4) _ mode (same_number n 0x3) (record { width = of_width_4; nibble = refl }) (
    or_else n 0x5 (n == 0x5) (Memory 1) _ mode (same_number n 0x5) (record { width = of_width_1; nibble = refl }) (
    or_else n 0x6 (n == 0x6) (Memory 2) _ mode (same_number n 0x6) (record { width = of_width_2; nibble = refl }) (
    or_else n 0x7 (n == 0x7) (Memory 4) _ mode (same_number n 0x7) (record { width = of_width_4; nibble = refl }) (
    or_else n 0x8 (n == 0x8) Top _ mode (same_number n 0x8) (record { width = tt; nibble = refl }) (
    or_else n 0x9 (n == 0x9) (Local 1) _ mode (same_number n 0x9) (record { width = of_width_1; nibble = refl }) (
    or_else n 0xA (n == 0xA) (Local 2) _ mode (same_number n 0xA) (record { width = of_width_2; nibble = refl }) (
    or_else n 0xB (n == 0xB) (Local 4) _ mode (same_number n 0xB) (record { width = of_width_4; nibble = refl }) (
    or_else n 0xD (n == 0xD) (Ram 1) _ mode (same_number n 0xD) (record { width = of_width_1; nibble = refl }) (
    or_else n 0xE (n == 0xE) (Ram 2) _ mode (same_number n 0xE) (record { width = of_width_2; nibble = refl }) (
    or_else n 0xF (n == 0xF) (Ram 4) _ mode (same_number n 0xF) (record { width = of_width_4; nibble = refl }) (
    no_mode n mode))))))))))))))

-- ---- the mode of an operand

pub mode_read : (at : ℕ) (kind : Kind) (n : ℕ) (mode : Addressing) → mode_in at kind n ≡ Ok mode
    → HasWidth mode × (nibble_of mode ≡ n) × (fits_kind kind mode ≡ true)
unfolding mode_in
mode_read at kind n mode h =
    let found = bind_ok (ok_or (addressing n) (of_code.BadMode at)) _ mode h in
    let fit = bind_ok (required (fits_kind kind found.0) (of_code.BadMode at)) _ mode found.2 in
    let of = is_of n found.0 (ok_or_ok _ _ _ found.1) in
    let same : found.0 ≡ mode = cc in
    let fits = allowed_ok _ _ _ fit.1 in
    subst (λ m. HasWidth m × (nibble_of m ≡ n) × (fits_kind kind m ≡ true)) same (of.width, of.nibble, fits)

pub mode_written : (at : ℕ) (kind : Kind) (mode : Addressing) → HasWidth mode → fits_kind kind mode ≡ true
    → mode_in at kind (nibble_of mode) ≡ Ok mode
unfolding mode_in
mode_written at kind mode has fits = rw (addressing_of mode has, fits) refl

-- ---- the modes of operands

low_of : (n m : ℕ) → n < 16 → m < 16 → (n + 16 * m) % 16 ≡ n
low_of n m h k = omega arith

high_of : (n m : ℕ) → n < 16 → m < 16 → (n + 16 * m) / 16 ≡ m
high_of n m h k = omega arith

pub modes_written : (at : ℕ) (row : Row) (count i : ℕ) (modes : List Addressing) → operand_count row ≡ count
    → i + length modes ≡ count → AreModes row i modes
    → modes_from at row i (nibbles (packed_nibbles (map nibble_of modes))) ≡ Ok modes
unfolding modes_from nibbles packed_nibbles
modes_written at row count i [] is counted are = refl
modes_written at row count i (m ∷ []) is counted are =
    let small = nibble_small m are.0 in
    let low : nibble_of m % 16 ≡ nibble_of m = omega (arith, small) in
    let high : nibble_of m / 16 ≡ 0 = omega (arith, small) in
    let here : nat_lt i (operand_count row) ≡ true = grind (arith, nat_tests) in
    let past : nat_lt (i + 1) (operand_count row) ≡ false = grind (arith, nat_tests) in
    rw (low, high, here, past, mode_written at (kind_of row i) m are.0 are.1) refl
modes_written at row count i (m ∷ n ∷ rest) is counted are =
    let low = low_of (nibble_of m) (nibble_of n) (nibble_small m are.0) (nibble_small n are.2.0) in
    let high = high_of (nibble_of m) (nibble_of n) (nibble_small m are.0) (nibble_small n are.2.0) in
    let here : nat_lt i (operand_count row) ≡ true = grind (arith, nat_tests) in
    let next : nat_lt (i + 1) (operand_count row) ≡ true = grind (arith, nat_tests) in
    rw (
      low,
      high,
      here,
      next,
      mode_written at (kind_of row i) m are.0 are.1,
      mode_written at (kind_of row (i + 1)) n are.2.0 are.2.1,
      modes_written at row count (i + 1 + 1) rest is (omega arith) are.2.2,
    ) refl

-- the modes of an instruction, and the bytes that they have
pub record AreRead (row : Row) (count i : ℕ) (pairs : List ℕ) (modes : List Addressing) : Type 0 where
  pub are : AreModes row i modes
  pub counted : i + length modes ≡ count
  pub same : packed_nibbles (map nibble_of modes) ≡ pairs

of_pair : (b low high : ℕ) → low ≡ b % 16 → high ≡ b / 16 → low + 16 * high ≡ b
of_pair b low high l h = omega arith

read_none : (row : Row) (count i : ℕ) (modes : List Addressing) → i ≡ count → [] ≡ modes → AreRead row count i [] modes
unfolding packed_nibbles
read_none row count i modes past none =
    subst (AreRead row count i []) none (record { are = tt; counted = omega arith; same = refl })

-- the last operand, with a spare nibble
read_one : (row : Row) (count i b : ℕ) (m : Addressing) (modes : List Addressing) → i + 1 ≡ count
    → HasWidth m × (nibble_of m ≡ b % 16) × (fits_kind (kind_of row i) m ≡ true) → (b / 16 == 0) ≡ true → m ∷ [] ≡ modes
    → AreRead row count i (b ∷ []) modes
unfolding packed_nibbles
read_one row count i b m modes last is spare same =
    let none : b / 16 ≡ 0 = same_number (b / 16) 0 spare in
    let whole : nibble_of m ≡ b = omega (arith, is.1, none) in
    subst (AreRead row count i (b ∷ [])) same (record {
      are = (is.0, is.2, tt);
      counted = omega arith;
      same = ap (λ n. n ∷ []) whole;
    })

-- two operands and those behind them
read_two : (row : Row) (count i b : ℕ) (rest : List ℕ) (m n : Addressing) (others modes : List Addressing)
    → HasWidth m × (nibble_of m ≡ b % 16) × (fits_kind (kind_of row i) m ≡ true)
    → HasWidth n × (nibble_of n ≡ b / 16) × (fits_kind (kind_of row (i + 1)) n ≡ true)
    → AreRead row count (i + 1 + 1) rest others → m ∷ n ∷ others ≡ modes
    → AreRead row count i (b ∷ rest) modes
unfolding packed_nibbles
read_two row count i b rest m n others modes low high read same =
    let whole = of_pair b (nibble_of m) (nibble_of n) low.1 high.1 in
    subst (AreRead row count i (b ∷ rest)) same (record {
      are = (low.0, low.2, (high.0, high.2, read.are));
      counted = omega (arith, read.counted);
      same = rw (whole, read.same) refl;
    })

modes_past : (at : ℕ) (row : Row) (i : ℕ) (n : ℕ) (modes : List Addressing) → operand_count row ≤ i
    → modes_from at row i (n ∷ []) ≡ Ok modes
    → ((n == 0) ≡ true) × ([] ≡ modes)
unfolding modes_from
modes_past at row i n modes past h =
    let beyond : nat_lt i (operand_count row) ≡ false = grind (arith, nat_tests) in
    let h1 = rw beyond at h in
    let spare = bind_ok (required (n == 0) (of_code.BadMode at)) _ modes h1 in
    let none : [] ≡ modes = cc in
    (allowed_ok _ _ _ spare.1, none)

-- a mode before the last operand
record IsHead (at : ℕ) (row : Row) (i n : ℕ) (rest : List ℕ) (modes : List Addressing) : Type 0 where
  mode : Addressing
  others : List Addressing
  is : HasWidth mode × (nibble_of mode ≡ n) × (fits_kind (kind_of row i) mode ≡ true)
  left : modes_from at row (i + 1) rest ≡ Ok others
  same : mode ∷ others ≡ modes

modes_head : (at : ℕ) (row : Row) (i n : ℕ) (rest : List ℕ) (modes : List Addressing) → i < operand_count row
    → modes_from at row i (n ∷ rest) ≡ Ok modes
    → IsHead at row i n rest modes
unfolding modes_from
modes_head at row i n rest modes within h =
    let here : nat_lt i (operand_count row) ≡ true = grind (arith, nat_tests) in
    let h1 = rw here at h in
    let first = bind_ok (mode_in at (kind_of row i) n) _ modes h1 in
    let next = bind_ok (modes_from at row (i + 1) rest) _ modes first.2 in
    record {
      mode = first.0;
      others = next.0;
      is = mode_read at (kind_of row i) n first.0 first.1;
      left = next.1;
      same = cc;
    }

joined : (m n : Addressing) (others left modes : List Addressing) → n ∷ others ≡ left → m ∷ left ≡ modes
    → m ∷ n ∷ others ≡ modes
joined m n others left modes e f = cc

alone : (m : Addressing) (left modes : List Addressing) → [] ≡ left → m ∷ left ≡ modes → m ∷ [] ≡ modes
alone m left modes e f = cc

pub modes_read : (at : ℕ) (row : Row) (count i : ℕ) (pairs : List ℕ) (modes : List Addressing)
    → operand_count row ≡ count → i ≤ count
    → length pairs ≡ (count - i + 1) / 2 → modes_from at row i (nibbles pairs) ≡ Ok modes
    → AreRead row count i pairs modes
unfolding modes_from nibbles
modes_read at row count i [] modes is within long h = read_none row count i modes (omega arith) (cc)
modes_read at row count i (b ∷ []) modes is within long h =
    let first = modes_head at row i (b % 16) (b / 16 ∷ []) modes (omega arith) h in
    elim (cases_lt (i + 1) count) [
      | inl more ↦
          let second = modes_head at row (i + 1) (b / 16) [] first.others (omega arith) first.left in
          let read = modes_read at row count (i + 1 + 1) [] second.others is (omega arith) (omega arith) second.left in
          read_two row count i b [] first.mode second.mode second.others modes first.is second.is read
          (joined _ _ _ _ _ second.same first.same)
      | inr last ↦
          let past = modes_past at row (i + 1) (b / 16) first.others (omega arith) first.left in
          read_one row count i b first.mode modes (omega arith) first.is past.0 (alone _ _ _ past.1 first.same)
    ]
modes_read at row count i (b ∷ c ∷ rest) modes is within long h =
    let first = modes_head at row i (b % 16) (b / 16 ∷ nibbles (c ∷ rest)) modes (omega arith) h in
    let second = modes_head at row (i + 1) (b / 16) (nibbles (c ∷ rest)) first.others (omega arith) first.left in
    let read = modes_read at row count (i + 1 + 1) (c ∷ rest) second.others is (omega arith)
    (omega arith) second.left in
    read_two row count i b (c ∷ rest) first.mode second.mode second.others modes first.is second.is read
    (joined _ _ _ _ _ second.same first.same)

-- ---- how long they are

pub length-packed : (ns : List ℕ) → length (packed_nibbles ns) ≡ (length ns + 1) / 2
unfolding packed_nibbles
length-packed [] = refl
length-packed (n ∷ []) = refl
length-packed (n ∷ m ∷ rest) = omega (arith, length-packed rest)

pub length-nibbles : (bytes : List ℕ) → length (nibbles bytes) ≡ 2 * length bytes
unfolding nibbles
length-nibbles [] = refl
length-nibbles (b ∷ rest) = omega (arith, length-nibbles rest)

data_len_small : (mode : Addressing) → HasWidth mode → data_len mode ≤ 4
data_len_small Zero has = omega arith
data_len_small (Constant n) has = at_width (λ n. n ≤ 4) (omega arith) (omega arith) (omega arith) n has
data_len_small (Memory n) has = at_width (λ n. n ≤ 4) (omega arith) (omega arith) (omega arith) n has
data_len_small Top has = omega arith
data_len_small (Local n) has = at_width (λ n. n ≤ 4) (omega arith) (omega arith) (omega arith) n has
data_len_small (Ram n) has = at_width (λ n. n ≤ 4) (omega arith) (omega arith) (omega arith) n has

pub all_data_len_small : (row : Row) (i : ℕ) (modes : List Addressing) → AreModes row i modes
    → all_data_len modes ≤ 4 * length modes
unfolding all_data_len
all_data_len_small row i [] are = omega arith
all_data_len_small row i (m ∷ rest) are =
    omega (arith, data_len_small m are.0, all_data_len_small row (i + 1) rest are.2)
