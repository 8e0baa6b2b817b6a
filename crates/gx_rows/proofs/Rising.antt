-- Rows whose keys rise, and what a binary search for a key finds in them.
use Rattle.std.proofs.Common.{◌≡◌, ◌≢◌, ◌<◌, ◌≤◌, ◌&&◌, ◌==◌, ℕ, zero, suc, Bool, true, false, nat_lt, List, [], ◌∷◌}
use Rattle.std.proofs.Common.{length, get_or, refl, sym, ◌∙◌, ap, eq-eqb, arith, ◌⊎◌, inl, inr, All, MatchOption}
use Rattle.std.proofs.Common.{Option, Some, None, Result, Ok, Err}
use Rattle.std.specs.List.{HoldsAt, find, slice_get, position_or_len}
use Rattle.std.specs.List.Sorted.{IsNonDecreasingBy, IsBinarySearchResult, IsSearchInRange, IsPartitionPoint}
use Rattle.std.specs.Ordering.{nat_cmp, ordering_index}
use Rattle.std.specs.Option.{option_and_then}
use Rattle.std.specs.Result.{result_ok}
use Rattle.std.specs.declared.cmp.Ordering.TheVariants.{Less, Equal, Greater}
use Rattle.std.proofs.lemmas.Bool.Decides.{nat_tests}
use Rattle.std.proofs.lemmas.List.Folds.{find_at}
use Rattle.std.proofs.lemmas.List.Sums.{position_or_len_is}
use Rattle.std.proofs.lemmas.Option.{slice_get_past}
use Rattle.gx_rows.specs.Keys.{is_rising, IsOnly}

both : (a b : Bool) → (a && b) ≡ true → (a ≡ true) × (b ≡ true)
both true b h = (refl, h)
both false b h = absurd (cc)

-- what the search compares
is_equal : (m n : ℕ) → nat_cmp m n ≡ Equal → m ≡ n
is_equal m n h = grind (arith, nat_tests)

is_less : (m n : ℕ) → nat_cmp m n ≡ Less → m < n
is_less m n h = grind (arith, nat_tests)

is_greater : (m n : ℕ) → nat_cmp m n ≡ Greater → n < m
is_greater m n h = grind (arith, nat_tests)

keeps_order : (m n key : ℕ) → m ≤ n → ordering_index (nat_cmp m key) ≤ ordering_index (nat_cmp n key)
keeps_order m n key h = grind (arith, nat_tests)

not_equal : (m n : ℕ) → m ≢ n → (m == n) ≡ false
not_equal m n h = grind (arith, nat_tests)

le_or_lt : (i j : ℕ) → (i ≤ j) ⊎ (j < i)
le_or_lt i j = grind arith

module _ {T : Type 0} (key_of : T → ℕ) where
  rest_is_rising : (row : T) (rest : List T) → is_rising key_of (row ∷ rest) ≡ true → is_rising key_of rest ≡ true
  rest_is_rising row [] up = refl
  rest_is_rising row (next ∷ rest) up = (both (nat_lt (key_of row) (key_of next)) (is_rising key_of (next ∷ rest)) up).1

  first_is_least : (row : T) (rest : List T) (i : ℕ) (d : T) → is_rising key_of (row ∷ rest) ≡ true
      → i < length rest → key_of row < key_of (get_or rest i d)
  first_is_least row [] i d up within = absurd (omega arith)
  first_is_least row (next ∷ rest) zero d up within =
      let less = (both (nat_lt (key_of row) (key_of next)) (is_rising key_of (next ∷ rest)) up).0 in
      grind (arith, nat_tests, less)
  first_is_least row (next ∷ rest) (suc i) d up within =
      let p = both (nat_lt (key_of row) (key_of next)) (is_rising key_of (next ∷ rest)) up in
      let later = first_is_least next rest i d p.1 (omega arith) in grind (arith, nat_tests, p.0, later)

  below_later : (rows : List T) (i j : ℕ) (d : T) → is_rising key_of rows ≡ true → i < j → j < length rows
      → key_of (get_or rows i d) < key_of (get_or rows j d)
  below_later [] i j d up less within = absurd (omega arith)
  below_later (row ∷ rest) i zero d up less within = absurd (omega arith)
  below_later (row ∷ rest) zero (suc j) d up less within = first_is_least row rest j d up (omega arith)
  below_later (row ∷ rest) (suc i) (suc j) d up less within =
      below_later rest i j d (rest_is_rising row rest up) (omega arith) (omega arith)

  same_place : (rows : List T) (i j : ℕ) (d : T) → is_rising key_of rows ≡ true → i < length rows → j < length rows
      → key_of (get_or rows i d) ≡ key_of (get_or rows j d) → i ≡ j
  same_place rows i j d up low high same = grind (arith, below_later rows i j d up, below_later rows j i d up)

  ordered : (rows : List T) (key : ℕ) → is_rising key_of rows ≡ true
      → IsNonDecreasingBy (λ row. ordering_index (nat_cmp (key_of row) key)) rows
  ordered rows key up i j d le within =
      keeps_order (key_of (get_or rows i d)) (key_of (get_or rows j d)) key (grind (arith, below_later rows i j d up))

  -- what stands at the two answers of a search
  is_only : (rows : List T) (key i : ℕ) → is_rising key_of rows ≡ true → i < length rows
      → HoldsAt (λ row. nat_cmp (key_of row) key ≡ Equal) rows i → IsOnly key_of rows key i
  is_only rows key i up within at = record {
    within = within;
    here = λ d. is_equal _ _ (at d);
    alone = λ j d inside same. same_place rows j i d up inside within (same ∙ sym (is_equal _ _ (at d)));
  }

  none_has : (rows : List T) (key i : ℕ) → is_rising key_of rows ≡ true
      → (IsNonDecreasingBy (λ row. ordering_index (nat_cmp (key_of row) key)) rows
      → IsPartitionPoint (λ row. nat_cmp (key_of row) key ≡ Less)
      (λ row. nat_cmp (key_of row) key ≡ Greater) rows i)
      → All (λ row. key_of row ≢ key) rows
  none_has rows key i up split j d within same =
      let parts = split (ordered rows key up) in
      elim (le_or_lt i j) [
        | inl le ↦ let more : key < key_of (get_or rows j d) =
            is_greater (key_of (get_or rows j d)) key (parts.1 j d le within) in omega (arith, more, same)
        | inr lt ↦ let less : key_of (get_or rows j d) < key =
            is_less (key_of (get_or rows j d)) key (parts.0 j d (omega arith) lt) in omega (arith, less, same)
      ]

  pub one : (rows : List T) (key : ℕ) (r : Result ℕ ℕ) → is_rising key_of rows ≡ true
      → IsSearchInRange r (length rows) → IsBinarySearchResult (λ row. nat_cmp (key_of row) key) rows r
      → MatchOption (result_ok r) (All (λ row. key_of row ≢ key) rows) (IsOnly key_of rows key)
  one rows key (Ok i) up within at = is_only rows key i up within at
  one rows key (Err i) up within split = none_has rows key i up split

  -- the first row with the key is the one row
  first_is : (rows : List T) (key : ℕ) (place : Option ℕ)
      → MatchOption place (All (λ row. key_of row ≢ key) rows) (IsOnly key_of rows key)
      → option_and_then (slice_get rows) place ≡ find (λ row. key_of row == key) rows
  first_is [] key None none = refl
  first_is (row ∷ rest) key None none =
      let rows = row ∷ rest in
      let past : position_or_len (λ row. key_of row == key) rows ≡ length rows =
      position_or_len_is (λ row. key_of row == key) rows (length rows) row (omega arith)
      (λ k lt. not_equal _ _ (none k row lt)) (λ lt. absurd (omega (arith, lt))) in
      sym (slice_get_past rows (length rows) (omega arith)) ∙ ap (slice_get rows) (sym past)
      ∙ sym (find_at (λ row. key_of row == key) rows)
  first_is [] key (Some i) only = absurd (omega (arith, only.within))
  first_is (row ∷ rest) key (Some i) only =
      let rows = row ∷ rest in
      let before : (k : ℕ) → k < i → (key_of (get_or rows k row) == key) ≡ false =
      λ k lt. not_equal _ _ (λ same. let e : k ≡ i = only.alone k row (omega (arith, only.within)) same in
      omega (arith, e)) in
      let here : position_or_len (λ row. key_of row == key) rows ≡ i =
      position_or_len_is (λ row. key_of row == key) rows i row (omega (arith, only.within)) before
      (λ lt. eq-eqb _ _ (only.here row)) in
      ap (slice_get rows) (sym here) ∙ sym (find_at (λ row. key_of row == key) rows)

  pub first : (rows : List T) (key : ℕ) (r : Result ℕ ℕ) → is_rising key_of rows ≡ true
      → IsSearchInRange r (length rows) → IsBinarySearchResult (λ row. nat_cmp (key_of row) key) rows r
      → option_and_then (slice_get rows) (result_ok r) ≡ find (λ row. key_of row == key) rows
  first rows key r up within at = first_is rows key (result_ok r) (one rows key r up within at)
