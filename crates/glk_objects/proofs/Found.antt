-- What is found by an identifier after a change of the objects.
use Rattle.std.proofs.Common.{◌≡◌, ◌≢◌, ◌<◌, ◌==◌, ◌&&◌, ◌||◌, ℕ, Bool, true, false, if◌then◌else◌, List, [], ◌∷◌, ◌++◌}
use Rattle.std.proofs.Common.{map, refl, sym, arith}
use Rattle.std.specs.List.{filter}
use Rattle.std.proofs.lemmas.Bool.Decides.{nat_tests}
use Rattle.glk_objects.specs.Objects.{IsAboveAll, IsBelowAll, AreRising, has, at, with, all_but}

module _ {T : Type 0} (id_of : T → ℕ) (none : T) where
  -- an object of this identifier takes the place of another
  pub has_with : (xs : List T) (new : T) (s : ℕ) → has id_of (with id_of xs new) s ≡ has id_of xs s
  unfolding with
  has_with [] new s = refl
  has_with (x ∷ xs) new s = grind (arith, nat_tests, has_with xs new s)

  pub at_with : (xs : List T) (new : T) (s : ℕ) → s ≢ id_of new
      → at id_of none (with id_of xs new) s ≡ at id_of none xs s
  unfolding with at
  at_with [] new s other = refl
  at_with (x ∷ xs) new s other = grind (arith, nat_tests, at_with xs new s other)

  pub at_with_here : (xs : List T) (new : T) → has id_of xs (id_of new) ≡ true
      → at id_of none (with id_of xs new) (id_of new) ≡ new
  unfolding with at
  at_with_here [] new there = absurd (cc)
  at_with_here (x ∷ xs) new there = grind (arith, nat_tests, at_with_here xs new)

  -- one is added at the end
  pub has_end : (xs : List T) (new : T) (s : ℕ) → has id_of (xs ++ new ∷ []) s ≡ (has id_of xs s || id_of new == s)
  has_end [] new s = grind (arith, nat_tests)
  has_end (x ∷ xs) new s = grind (arith, nat_tests, has_end xs new s)

  pub at_end : (xs : List T) (new : T) (s : ℕ) → has id_of xs s ≡ true
      → at id_of none (xs ++ new ∷ []) s ≡ at id_of none xs s
  unfolding at
  at_end [] new s there = absurd (cc)
  at_end (x ∷ xs) new s there = grind (arith, nat_tests, at_end xs new s)

  pub at_new : (xs : List T) (new : T) (s : ℕ) → has id_of xs s ≡ false
      → at id_of none (xs ++ new ∷ []) s ≡ (if id_of new == s then new else none)
  unfolding at
  at_new [] new s gone = refl
  at_new (x ∷ xs) new s gone = grind (arith, nat_tests, at_new xs new s)

  -- some are left
  pub has_below : (xs : List T) (n s : ℕ) → IsBelowAll id_of xs n → has id_of xs s ≡ true → n < s
  has_below [] n s below there = absurd (cc)
  has_below (x ∷ xs) n s below there = grind (arith, nat_tests, has_below xs n s below.1, below.0)

  pub has_above : (xs : List T) (n s : ℕ) → IsAboveAll id_of xs n → has id_of xs s ≡ true → s < n
  has_above [] n s above there = absurd (cc)
  has_above (x ∷ xs) n s above there = grind (arith, nat_tests, has_above xs n s above.1, above.0)

  pub has_filter : (test : T → Bool) (xs : List T) (s : ℕ) → has id_of (filter test xs) s ≡ true → has id_of xs s ≡ true
  has_filter test [] s there = absurd (cc)
  has_filter test (x ∷ xs) s there = grind (arith, nat_tests, has_filter test xs s)

  pub at_filter : (test : T → Bool) (xs : List T) (s : ℕ) → AreRising id_of xs → has id_of (filter test xs) s ≡ true
      → at id_of none (filter test xs) s ≡ at id_of none xs s
  unfolding at
  at_filter test [] s up there = refl
  at_filter test (x ∷ xs) s up there =
      grind (arith, nat_tests, at_filter test xs s up.1, has_filter test xs s, has_below xs (id_of x) s up.0)

  -- the test speaks of identifiers alone
  pub at_chosen : (test : ℕ → Bool) (xs : List T) (s : ℕ)
      → at id_of none (filter (λ x. test (id_of x)) xs) s ≡ (if test s then at id_of none xs s else none)
  unfolding at
  at_chosen test [] s = grind (arith, nat_tests)
  at_chosen test (x ∷ xs) s = grind (arith, nat_tests, at_chosen test xs s)

  pub has_chosen : (test : ℕ → Bool) (xs : List T) (s : ℕ)
      → has id_of (filter (λ x. test (id_of x)) xs) s ≡ (test s && has id_of xs s)
  has_chosen test [] s = grind (arith, nat_tests)
  has_chosen test (x ∷ xs) s = grind (arith, nat_tests, has_chosen test xs s)

  pub has_without : (xs : List T) (gone s : ℕ) → has id_of (all_but id_of xs gone) s ≡ true → has id_of xs s ≡ true
  unfolding all_but
  has_without [] gone s there = absurd (cc)
  has_without (x ∷ xs) gone s there = grind (arith, nat_tests, has_without xs gone s)

  pub at_without : (xs : List T) (gone s : ℕ) → AreRising id_of xs → has id_of (all_but id_of xs gone) s ≡ true
      → at id_of none (all_but id_of xs gone) s ≡ at id_of none xs s
  unfolding all_but at
  at_without [] gone s up there = refl
  at_without (x ∷ xs) gone s up there =
      grind (arith, nat_tests, at_without xs gone s up.1, has_without xs gone s, has_below xs (id_of x) s up.0)

  -- each is changed, and keeps its identifier
  pub at_map : (f : T → T) → ((x : T) → id_of (f x) ≡ id_of x) → f none ≡ none → (xs : List T) (s : ℕ)
      → at id_of none (map f xs) s ≡ f (at id_of none xs s)
  unfolding at
  at_map f same stays [] s = sym stays
  at_map f same stays (x ∷ xs) s = grind (arith, nat_tests, at_map f same stays xs s, same x)

  pub has_map : (f : T → T) → ((x : T) → id_of (f x) ≡ id_of x) → (xs : List T) (s : ℕ)
      → has id_of (map f xs) s ≡ has id_of xs s
  has_map f same [] s = refl
  has_map f same (x ∷ xs) s = grind (arith, nat_tests, has_map f same xs s, same x)

  pub below_with : (xs : List T) (new : T) (n : ℕ) → IsBelowAll id_of xs n → IsBelowAll id_of (with id_of xs new) n
  unfolding with
  below_with [] new n below = tt
  below_with (x ∷ xs) new n below = elim (id_of x == id_of new) as
      (λ b. (id_of x == id_of new) ≡ b → IsBelowAll id_of (if b then new ∷ xs else x ∷ with id_of xs new) n) [
        | true ↦ λ same. ((let less = below.0 in grind (arith, nat_tests, same, less)), below.1)
        | false ↦ λ other. (below.0, below_with xs new n below.1)
      ] refl

  pub rises_with : (xs : List T) (new : T) → AreRising id_of xs → AreRising id_of (with id_of xs new)
  unfolding with
  rises_with [] new up = tt
  rises_with (x ∷ xs) new up = elim (id_of x == id_of new) as
      (λ b. (id_of x == id_of new) ≡ b → AreRising id_of (if b then new ∷ xs else x ∷ with id_of xs new)) [
        | true ↦ λ same. (let e : id_of x ≡ id_of new = grind (arith, nat_tests, same) in rw (← e) up.0, up.1)
        | false ↦ λ other. (below_with xs new (id_of x) up.0, rises_with xs new up.1)
      ] refl
