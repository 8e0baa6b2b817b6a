-- One byte of two keys that are compared.
use Rattle.std.proofs.Common.{◌≡◌, ◌≢◌, inl, inr, ◌==◌, ◌||◌, ◌≤◌, ◌<◌, ◌+◌, ℕ, true, List, length, get_or, take}
use Rattle.std.proofs.Common.{drop, refl, ap, sym, ◌∙◌, arith}
use Rattle.std.specs.Ordering.{nat_cmp, is_eq, ordering_then}
use Rattle.std.specs.Str.{bytes_eq}
use Rattle.std.proofs.lemmas.Map.Text.{is_eq-slice_cmp}
use Rattle.std.specs.declared.cmp.Ordering.{Ordering}
use Rattle.std.specs.Cmp.Lexicographic.{slice_cmp}
use Rattle.std.proofs.lemmas.List.{length-take, length-drop, drop_more}
use Rattle.std.proofs.lemmas.Bool.{or_cases, and_parts, both_ways, not-true, cond_both, eqb-true, leb-true}
use Rattle.gx_words.specs.Numbers.{bytes_of_number}
use Rattle.gx_search.specs.declared.asks.Ask.{Ask}
use Rattle.gx_search.specs.Constants.{key_indirect}
use Rattle.gx_search.specs.Keys.{has_option, has_size, is_inside, sought_key, key_address, key_at, can_probe}
use Rattle.std.proofs.lemmas.Bool.Decides.{nat_tests}
use Rattle.std.proofs.lemmas.Slice.Eq.{bytes_eq-Decides}

-- ---- the bytes of a key

length_bytes : (m : List ℕ) (at n : ℕ) → is_inside m at n ≡ true → length (take n (drop at m)) ≡ n
length_bytes m at n there =
    elim (or_cases _ _ there) [
      | inl none ↦ let none : n ≡ 0 = eqb-true _ _ none in rw none refl
      | inr fits ↦
          let fits : at + n ≤ length m = leb-true _ _ fits in
          omega (arith, length-take n (drop at m), length-drop at m)
    ]

length_number : (n v : ℕ) → (n == 1 || n == 2 || n == 4) ≡ true → length (bytes_of_number n v) ≡ n
length_number n v width = grind (arith, nat_tests)

pub sought_length : (m : List ℕ) (q : Ask) (at : ℕ) → can_probe m q at ≡ true → has_size q ≡ true
    → length (sought_key m q) ≡ q.key_size
sought_length m q at there sized =
    cond_both (has_option q key_indirect) _ _ (λ (key : List ℕ). length key ≡ q.key_size)
    (λ indirect. elim (or_cases _ _ (and_parts _ _ there).0) [
      | inl direct ↦ absurd (both_ways _ (not-true _ direct) indirect)
      | inr inside ↦ length_bytes m q.key q.key_size inside
    ])
    (λ direct. elim (or_cases _ _ sized) [
      | inl indirect ↦ absurd (both_ways _ direct indirect)
      | inr width ↦ length_number q.key_size q.key width
    ])

pub key_length : (m : List ℕ) (q : Ask) (at : ℕ) → can_probe m q at ≡ true → length (key_at m q at) ≡ q.key_size
key_length m q at there = length_bytes m (key_address q at) q.key_size (and_parts _ _ there).1

-- ---- the order

then_apart : (x y : ℕ) (o : Ordering) → x ≢ y → ordering_then (nat_cmp x y) o ≡ nat_cmp x y
then_apart x y o apart = grind (arith, nat_tests)

then_same : (x y : ℕ) (o : Ordering) → x ≡ y → ordering_then (nat_cmp x y) o ≡ o
then_same x y o same = grind (arith, nat_tests)

pub bytes_apart : (xs ys : List ℕ) (i : ℕ) (o : Ordering) → i < length xs → i < length ys
    → get_or xs i 0 ≢ get_or ys i 0
    → slice_cmp nat_cmp (drop i xs) (drop i ys) ≡ o → nat_cmp (get_or xs i 0) (get_or ys i 0) ≡ o
bytes_apart xs ys i o h k apart whole =
    let first = drop_more xs i 0 h in
    let second = drop_more ys i 0 k in
    let here : slice_cmp nat_cmp (drop i xs) (drop i ys) ≡ nat_cmp (get_or xs i 0) (get_or ys i 0) =
    rw (first, second) (then_apart _ _ _ apart) in
    sym here ∙ whole

pub bytes_same : (xs ys : List ℕ) (i : ℕ) (o : Ordering) → i < length xs → i < length ys → get_or xs i 0 ≡ get_or ys i 0
    → slice_cmp nat_cmp (drop i xs) (drop i ys) ≡ o → slice_cmp nat_cmp (drop (i + 1) xs) (drop (i + 1) ys) ≡ o
bytes_same xs ys i o h k same whole =
    let first = drop_more xs i 0 h in
    let second = drop_more ys i 0 k in
    let here : slice_cmp nat_cmp (drop i xs) (drop i ys) ≡ slice_cmp nat_cmp (drop (i + 1) xs) (drop (i + 1) ys) =
    rw (first, second) (then_same _ _ _ same) in
    sym here ∙ whole

-- equal keys have equal last bytes
pub last_is : (xs ys : List ℕ) (i : ℕ) → bytes_eq xs ys ≡ true → get_or xs i 0 ≡ get_or ys i 0
last_is xs ys i same = ap (λ (zs : List ℕ). get_or zs i 0) ((bytes_eq-Decides xs ys).0 same)

-- the order tells equal keys from others
pub equal_is : (xs ys : List ℕ) → is_eq (slice_cmp nat_cmp xs ys) ≡ bytes_eq xs ys
equal_is xs ys = is_eq-slice_cmp xs ys
