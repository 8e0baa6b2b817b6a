-- A quotient toward zero has a place in a word, and with its remainder it is a division in the
-- standard's words.
use Rattle.std.proofs.Common.{◌≡◌, ◌≢◌, ◌⊎◌, inl, inr, ◌<◌, ◌≤◌, ◌-◌, ◌/◌, ◌^◌, ℕ, zero, suc, false, arith, refl}
use Rattle.std.proofs.Common.{subst, sym, lit<}
use Rattle.std.proofs.Math.Nat.{div-le_self, div-le_of_le-mul}
use Rattle.std.proofs.lemmas.Bool.{cases_lt, lt-ltb, le-ltb}
use Rattle.std.proofs.lemmas.Bool.Decides.{nat_tests}
use Rattle.std.proofs.lemmas.Int.{ints, to_z-of_z, quot-rem, rem_below}
use Rattle.std.specs.Prelude.{ℤ, pos, negsuc, ◌≤ℤ◌, int_div, int_rem, unsigned_abs, FitsSigned, neg_ℤ}
use Rattle.std.specs.Int.{w32, cast_unsigned}
use Rattle.std.specs.Int.Signed.{mag_rem}
use Rattle.ops_calc.specs.Arithmetic.{has_no_quotient, signed}
use Rattle.ops_calc.specs.Laws.{IsDivision, IsQuotient, IsRemainder}

rem_positive : (a b : ℤ) → pos 0 ≤ℤ a → pos 0 ≤ℤ int_rem a b
rem_positive (pos a) b h = omega (arith, ints)
rem_positive (negsuc a) b h = absurd (omega (arith, ints))

rem_negative : (a b : ℤ) → a ≤ℤ pos 0 → int_rem a b ≤ℤ pos 0
rem_negative (pos a) b h = omega (arith, ints)
rem_negative (negsuc a) b h = omega (arith, ints)

division : (a b : ℤ) → 0 < unsigned_abs b → IsDivision a b (int_div a b) (int_rem a b)
division a b some = record {
  whole = quot-rem a b;
  nearer = rem_below a b some;
  positive = rem_positive a b;
  negative = rem_negative a b;
}

-- ---- a word by its sign

signed_cases : (v : ℕ) → v < 2 ^ 32 → ((signed v ≡ pos v) × (v < 2 ^ 31))
    ⊎ ((signed v ≡ negsuc (2 ^ 32 - suc v)) × (2 ^ 31 ≤ v))
signed_cases v small =
    elim (cases_lt v (2 ^ 31)) [
      | inl low ↦ let test = lt-ltb v (2 ^ 31) low in inl (rw test refl, low)
      | inr high ↦ let test = le-ltb v (2 ^ 31) high in inr (rw test refl, high)
    ]

divides : (a b : ℕ) → has_no_quotient a b ≡ false → (b ≢ 0) × (a ≡ 0x80000000 → b ≢ 0xFFFFFFFF)
divides a b test = (grind (arith, nat_tests), grind (arith, nat_tests))

-- ---- the quotient's place

negated_fits : (q : ℕ) → q ≤ 2 ^ 31 → FitsSigned w32 (neg_ℤ (pos q))
negated_fits zero h = record { sfits = lit< tt }
negated_fits (suc q) h = record { sfits = omega arith }

both_negative : (m k : ℕ) → m < 2 ^ 31 → (k ≡ 0 → m ≢ 2 ^ 31 - 1) → suc m / suc k < 2 ^ 31
both_negative m zero small other = omega (arith, div-le_self (suc m) 1, other refl)
both_negative m (suc k) small other = omega
    (arith, div-le_of_le-mul (suc (suc k)) {m = suc m} {n = 2 ^ 30} (omega arith))

quotient_fits : (a b : ℕ) → a < 2 ^ 32 → b < 2 ^ 32 → has_no_quotient a b ≡ false
    → FitsSigned w32 (int_div (signed a) (signed b))
quotient_fits a b p q test =
    let some = divides a b test in
    elim (signed_cases a p) [
      | inl x ↦ let is_a = x.0 in elim (signed_cases b q) [
        | inl y ↦ let is_b = y.0 in rw (is_a, is_b) (record { sfits = omega (arith, div-le_self a b, x.1) })
        | inr y ↦ let is_b = y.0 in rw (is_a, is_b)
            (negated_fits (a / suc (2 ^ 32 - suc b)) (omega (arith, div-le_self a (suc (2 ^ 32 - suc b)), x.1)))
      ]
      | inr x ↦ let is_a = x.0 in elim (signed_cases b q) [
        | inl y ↦ let is_b = y.0 in rw (is_a, is_b)
            (negated_fits (suc (2 ^ 32 - suc a) / b) (omega (arith, div-le_self (suc (2 ^ 32 - suc a)) b, x.1)))
        | inr y ↦ let is_b = y.0 in rw (is_a, is_b)
            (record {
              sfits = both_negative (2 ^ 32 - suc a) (2 ^ 32 - suc b) (omega (arith, x.1))
                  (λ none least. some.1 (omega (arith, x.1)) (omega (arith, y.1)));
            })
      ]
    ]

divisor_some : (b : ℕ) → b < 2 ^ 32 → b ≢ 0 → 0 < unsigned_abs (signed b)
divisor_some b q other =
    elim (signed_cases b q) [
      | inl y ↦ let is_b = y.0 in rw is_b (omega arith)
      | inr y ↦ let is_b = y.0 in rw is_b (omega arith)
    ]

pub quotient_law : (a b found : ℕ) → a < 2 ^ 32 → b < 2 ^ 32 → has_no_quotient a b ≡ false
    → found ≡ cast_unsigned w32 (int_div (signed a) (signed b)) → IsQuotient a b found
quotient_law a b found p q test is =
    let back = to_z-of_z w32 (int_div (signed a) (signed b)) (quotient_fits a b p q test) in
    let law = division (signed a) (signed b) (divisor_some b q (divides a b test).0) in
    rw is (
      int_rem (signed a) (signed b),
      subst
          (λ (z : ℤ). IsDivision (signed a) (signed b) z (int_rem (signed a) (signed b))) (sym back) law,
    )

remainder_fits : (a b : ℤ) → FitsSigned w32 a → FitsSigned w32 (int_rem a b)
remainder_fits a b fits = record { sfits = omega (arith, mag_rem a b, fits.sfits) }

word_fits : (v : ℕ) → v < 2 ^ 32 → FitsSigned w32 (signed v)
word_fits v small =
    elim (signed_cases v small) [
      | inl x ↦ let is = x.0 in rw is (record { sfits = omega (arith, x.1) })
      | inr x ↦ let is = x.0 in rw is (record { sfits = omega (arith, x.1) })
    ]

pub remainder_law : (a b found : ℕ) → a < 2 ^ 32 → b < 2 ^ 32 → has_no_quotient a b ≡ false
    → found ≡ cast_unsigned w32 (int_rem (signed a) (signed b)) → IsRemainder a b found
remainder_law a b found p q test is =
    let back = to_z-of_z w32 (int_rem (signed a) (signed b)) (remainder_fits (signed a) (signed b) (word_fits a p)) in
    let law = division (signed a) (signed b) (divisor_some b q (divides a b test).0) in
    rw is (
      int_div (signed a) (signed b),
      subst
          (λ (z : ℤ). IsDivision (signed a) (signed b) (int_div (signed a) (signed b)) z) (sym back) law,
    )
