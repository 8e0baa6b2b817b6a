-- Identifiers that rise: what a search by halving finds, and what keeps them rising.
use Rattle.std.proofs.Common.{if◌then◌else◌, ◌≡◌, ◌≢◌, ◌<◌, ◌≤◌, ◌==◌, ◌+◌, ℕ, zero, suc, Bool, true, false, List, []}
use Rattle.std.proofs.Common.{◌∷◌, ◌++◌, length, map, get_or, set, refl, arith, ◌⊎◌, inl, inr, Ok, Err}
use Rattle.std.specs.List.{filter}
use Rattle.std.specs.List.Sorted.{IsNonDecreasingBy, IsBinarySearchResult, IsPartitionPoint}
use Rattle.std.specs.Ordering.{nat_cmp, ordering_index}
use Rattle.std.specs.declared.cmp.Ordering.TheVariants.{Less, Equal, Greater}
use Rattle.std.proofs.lemmas.Bool.Decides.{nat_tests}
use Rattle.glk_objects.specs.Objects.{IsAboveAll, IsBelowAll, AreRising, IsSplit, object_place, at, with, all_but, next}

is_equal : (m n : ℕ) → nat_cmp m n ≡ Equal → m ≡ n
is_equal m n h = grind (arith, nat_tests)

is_less : (m n : ℕ) → nat_cmp m n ≡ Less → m < n
is_less m n h = grind (arith, nat_tests)

is_greater : (m n : ℕ) → nat_cmp m n ≡ Greater → n < m
is_greater m n h = grind (arith, nat_tests)

keeps_order : (m n id : ℕ) → m ≤ n → ordering_index (nat_cmp m id) ≤ ordering_index (nat_cmp n id)
keeps_order m n id h = grind (arith, nat_tests)

le_or_lt : (i j : ℕ) → (i ≤ j) ⊎ (j < i)
le_or_lt i j = grind arith

module _ {T : Type 0} (id_of : T → ℕ) where
  below_at : (xs : List T) (id i : ℕ) (d : T) → IsBelowAll id_of xs id → i < length xs → id < id_of (get_or xs i d)
  below_at [] id i d below within = absurd (omega arith)
  below_at (x ∷ xs) id zero d below within = below.0
  below_at (x ∷ xs) id (suc i) d below within = below_at xs id i d below.1 (omega arith)

  below_later : (xs : List T) (i j : ℕ) (d : T) → AreRising id_of xs → i < j → j < length xs
      → id_of (get_or xs i d) < id_of (get_or xs j d)
  below_later [] i j d up less within = absurd (omega arith)
  below_later (x ∷ xs) i zero d up less within = absurd (omega arith)
  below_later (x ∷ xs) zero (suc j) d up less within = below_at xs (id_of x) j d up.0 (omega arith)
  below_later (x ∷ xs) (suc i) (suc j) d up less within = below_later xs i j d up.1 (omega arith) (omega arith)

  ordered : (xs : List T) (id : ℕ) → AreRising id_of xs
      → IsNonDecreasingBy (λ x. ordering_index (nat_cmp (id_of x) id)) xs
  ordered xs id up i j d le within =
      keeps_order (id_of (get_or xs i d)) (id_of (get_or xs j d)) id (grind (arith, below_later xs i j d up))

  place_is : (xs : List T) (id i : ℕ) → AreRising id_of xs → i < length xs → ((d : T) → id_of (get_or xs i d) ≡ id)
      → object_place id_of xs id ≡ i
  unfolding object_place
  place_is [] id i up within here = absurd (omega arith)
  place_is (x ∷ xs) id zero up within here = let same = here x in grind (arith, nat_tests, same)
  place_is (x ∷ xs) id (suc i) up within here =
      let less = below_at xs (id_of x) i x up.0 (omega arith) in
      let rest = place_is xs id i up.1 (omega arith) here in
      let same = here x in
      grind (arith, nat_tests, less, rest, same)

  place_none : (xs : List T) (id : ℕ) → ((i : ℕ) (d : T) → i < length xs → id_of (get_or xs i d) ≢ id)
      → object_place id_of xs id ≡ length xs
  unfolding object_place
  place_none [] id none = refl
  place_none (x ∷ xs) id none =
      let rest = place_none xs id (λ i d within. none (suc i) d (omega arith)) in
      let other = none 0 x (omega arith) in
      grind (arith, nat_tests, rest, other)

  -- what stands on both sides of the place that a search answers where it finds nothing
  parted_split : (xs : List T) (id i : ℕ) → AreRising id_of xs → i ≤ length xs
      → (IsNonDecreasingBy (λ x. ordering_index (nat_cmp (id_of x) id)) xs
      → IsPartitionPoint (λ x. nat_cmp (id_of x) id ≡ Less) (λ x. nat_cmp (id_of x) id ≡ Greater) xs i)
      → IsSplit id_of xs id i
  parted_split xs id i up within parted =
      let parts = parted (ordered xs id up) in
      record {
        within = within;
        up_to = λ j d lt. let less : id_of (get_or xs j d) < id = is_less _ _ (parts.0 j d (omega arith) lt) in
            omega (arith, less);
        above = λ j d le lt. is_greater _ _ (parts.1 j d le lt);
      }

  found_split : (xs : List T) (id i : ℕ) → AreRising id_of xs → i < length xs → ((d : T) → id_of (get_or xs i d) ≡ id)
      → IsSplit id_of xs id (i + 1)
  found_split xs id i up within here = record {
    within = omega arith;
    up_to = λ j d lt. grind (arith, below_later xs j i d up, here d);
    above = λ j d le lt. grind (arith, below_later xs i j d up, here d);
  }

  pub found_at : (xs : List T) (id i : ℕ) → AreRising id_of xs → i < length xs
      → IsBinarySearchResult (λ x. nat_cmp (id_of x) id) xs (Ok i) → object_place id_of xs id ≡ i
  found_at xs id i up within at = place_is xs id i up within (λ d. is_equal _ _ (at d))

  pub not_found : (xs : List T) (id i : ℕ) → AreRising id_of xs → i ≤ length xs
      → IsBinarySearchResult (λ x. nat_cmp (id_of x) id) xs (Err i) → object_place id_of xs id ≡ length xs
  not_found xs id i up within parted =
      let split = parted_split xs id i up within parted in
      place_none xs id (λ j d lt same. elim (le_or_lt i j) [
        | inl le ↦ omega (arith, split.above j d le lt, same)
        | inr less ↦ let under : id_of (get_or xs j d) < id =
            is_less _ _ ((parted (ordered xs id up)).0 j d (omega arith) less) in omega (arith, under, same)
      ])

  pub split_found : (xs : List T) (id i : ℕ) → AreRising id_of xs → i < length xs
      → IsBinarySearchResult (λ x. nat_cmp (id_of x) id) xs (Ok i) → IsSplit id_of xs id (i + 1)
  split_found xs id i up within at = found_split xs id i up within (λ d. is_equal _ _ (at d))

  pub split_missed : (xs : List T) (id i : ℕ) → AreRising id_of xs → i ≤ length xs
      → IsBinarySearchResult (λ x. nat_cmp (id_of x) id) xs (Err i) → IsSplit id_of xs id i
  split_missed xs id i up within parted = parted_split xs id i up within parted

  -- the next identifier stands behind those up to a number
  pub next_at : (xs : List T) (id count : ℕ) → IsSplit id_of xs id count → (d : T) → count < length xs
      → next id_of xs id ≡ id_of (get_or xs count d)
  unfolding next
  next_at [] id count split d within = absurd (omega arith)
  next_at (x ∷ xs) id zero split d within = let more = split.above 0 d (omega arith) (omega arith) in
      grind (arith, nat_tests, more)
  next_at (x ∷ xs) id (suc count) split d within =
      let fewer = split.up_to 0 d (omega arith) in
      let rest : IsSplit id_of xs id count = record {
        within = omega (arith, split.within);
        up_to = λ i e lt. split.up_to (suc i) e (omega arith);
        above = λ i e le lt. split.above (suc i) e (omega arith) (omega arith);
      } in
      let later = next_at xs id count rest d (omega arith) in
      grind (arith, nat_tests, fewer, later)

  pub next_past : (xs : List T) (id count : ℕ) → IsSplit id_of xs id count → length xs ≤ count → next id_of xs id ≡ 0
  unfolding next
  next_past [] id count split past = refl
  next_past (x ∷ xs) id zero split past = absurd (omega arith)
  next_past (x ∷ xs) id (suc count) split past =
      let fewer = split.up_to 0 x (omega arith) in
      let rest : IsSplit id_of xs id count = record {
        within = omega (arith, split.within);
        up_to = λ i e lt. split.up_to (suc i) e (omega arith);
        above = λ i e le lt. split.above (suc i) e (omega arith) (omega arith);
      } in
      let later = next_past xs id count rest (omega arith) in
      grind (arith, nat_tests, fewer, later)

  -- what keeps identifiers rising
  pub below_end : (xs : List T) (id : ℕ) (new : T) → IsBelowAll id_of xs id → id < id_of new
      → IsBelowAll id_of (xs ++ new ∷ []) id
  below_end [] id new below less = (less, tt)
  below_end (x ∷ xs) id new below less = (below.0, below_end xs id new below.1 less)

  pub rises_end : (xs : List T) (new : T) → AreRising id_of xs → IsAboveAll id_of xs (id_of new)
      → AreRising id_of (xs ++ new ∷ [])
  rises_end [] new up above = (tt, tt)
  rises_end (x ∷ xs) new up above = (below_end xs (id_of x) new up.0 above.0, rises_end xs new up.1 above.1)

  pub below_set : (xs : List T) (id i : ℕ) (new : T) → IsBelowAll id_of xs id → i < length xs
      → ((d : T) → id_of new ≡ id_of (get_or xs i d)) → IsBelowAll id_of (set xs i new) id
  below_set [] id i new below within same = below
  below_set (x ∷ xs) id zero new below within same = let e = same x in (grind (arith, e, below.0), below.1)
  below_set (x ∷ xs) id (suc i) new below within same = (below.0, below_set xs id i new below.1 (omega arith) same)

  pub rises_set : (xs : List T) (i : ℕ) (new : T) → AreRising id_of xs → i < length xs
      → ((d : T) → id_of new ≡ id_of (get_or xs i d)) → AreRising id_of (set xs i new)
  rises_set [] i new up within same = up
  rises_set (x ∷ xs) zero new up within same = let e = same x in (rw e up.0, up.1)
  rises_set (x ∷ xs) (suc i) new up within same =
      (below_set xs (id_of x) i new up.0 (omega arith) same, rises_set xs i new up.1 (omega arith) same)

  pub below_with : (xs : List T) (id : ℕ) (new : T) → IsBelowAll id_of xs id → IsBelowAll id_of (with id_of xs new) id
  unfolding with
  below_with [] id new below = tt
  below_with (x ∷ xs) id new below = grind (arith, nat_tests, below_with xs id new below.1, below.0, below.1)

  pub below_without : (xs : List T) (id gone : ℕ) → IsBelowAll id_of xs id → IsBelowAll id_of (all_but id_of xs gone) id
  unfolding all_but
  below_without [] id gone below = tt
  below_without (x ∷ xs) id gone below =
      elim (id_of x == gone) as (λ b. IsBelowAll id_of (if b then xs else x ∷ all_but id_of xs gone) id) [
        | true ↦ below.1
        | false ↦ (below.0, below_without xs id gone below.1)
      ]

  pub rises_without : (xs : List T) (gone : ℕ) → AreRising id_of xs → AreRising id_of (all_but id_of xs gone)
  unfolding all_but
  rises_without [] gone up = tt
  rises_without (x ∷ xs) gone up =
      elim (id_of x == gone) as (λ b. AreRising id_of (if b then xs else x ∷ all_but id_of xs gone)) [
        | true ↦ up.1
        | false ↦ (below_without xs (id_of x) gone up.0, rises_without xs gone up.1)
      ]

  pub below_filter : (test : T → Bool) (xs : List T) (id : ℕ) → IsBelowAll id_of xs id
      → IsBelowAll id_of (filter test xs) id
  below_filter test [] id below = tt
  below_filter test (x ∷ xs) id below =
      elim (test x) as (λ b. IsBelowAll id_of (if b then x ∷ filter test xs else filter test xs) id) [
        | true ↦ (below.0, below_filter test xs id below.1)
        | false ↦ below_filter test xs id below.1
      ]

  pub below_map : (f : T → T) → ((x : T) → id_of (f x) ≡ id_of x) → (xs : List T) (id : ℕ) → IsBelowAll id_of xs id
      → IsBelowAll id_of (map f xs) id
  below_map f same [] id below = tt
  below_map f same (x ∷ xs) id below =
      (let e = same x in let less = below.0 in omega (arith, e, less), below_map f same xs id below.1)

  pub rises_filter : (test : T → Bool) (xs : List T) → AreRising id_of xs → AreRising id_of (filter test xs)
  rises_filter test [] up = tt
  rises_filter test (x ∷ xs) up =
      elim (test x) as (λ b. AreRising id_of (if b then x ∷ filter test xs else filter test xs)) [
        | true ↦ (below_filter test xs (id_of x) up.0, rises_filter test xs up.1)
        | false ↦ rises_filter test xs up.1
      ]

pub ruleset nexts = (next_at, next_past)

pub ruleset rising = (rises_end, rises_set, rises_without, rises_filter)
