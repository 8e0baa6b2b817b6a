-- Going on from one object to the next meets each of them once, in order.
use Rattle.std.proofs.Common.{zero, suc, ◌≡◌, ◌<◌, ◌≤◌, ◌+◌, ◌==◌, ◌∙◌, ℕ, false, List, [], ◌∷◌, length, map, refl, ap}
use Rattle.std.proofs.Common.{arith}
use Rattle.std.proofs.lemmas.Bool.Decides.{nat_tests}
use Rattle.glk_objects.specs.Objects.{IsBelowAll, AreRising, next, met_from}

module _ {T : Type 0} (id_of : T → ℕ) where
  next_here : (x : T) (xs : List T) (id : ℕ) → id < id_of x → next id_of (x ∷ xs) id ≡ id_of x
  unfolding next
  next_here x xs id less = grind (arith, nat_tests, less)

  next_later : (x : T) (xs : List T) (id : ℕ) → id_of x ≤ id → next id_of (x ∷ xs) id ≡ next id_of xs id
  unfolding next
  next_later x xs id past = grind (arith, nat_tests, past)

  -- `xs` are those behind an identifier: from there on, nothing else is met
  meets_rest : (all xs : List T) (most id : ℕ) → length xs ≤ most → IsBelowAll id_of xs id → AreRising id_of xs
      → ((k : ℕ) → id ≤ k → next id_of all k ≡ next id_of xs k) → met_from id_of most all id ≡ map id_of xs
  unfolding met_from next
  meets_rest all [] zero id few below up same = refl
  meets_rest all [] (suc most) id few below up same = rw (same id (omega arith)) refl
  meets_rest all (x ∷ xs) zero id few below up same = absurd (omega arith)
  meets_rest all (x ∷ xs) (suc most) id few below up same =
      let here : next id_of all id ≡ id_of x = same id (omega arith) ∙ next_here x xs id below.0 in
      let some : (id_of x == 0) ≡ false = let more = below.0 in grind (arith, nat_tests, more) in
      let rest : met_from id_of most all (id_of x) ≡ map id_of xs =
      meets_rest all xs most (id_of x) (omega arith) up.0 up.1
      (λ k le. let more = below.0 in same k (omega arith) ∙ next_later x xs k le) in
      rw (here, some) (ap (λ (ids : List ℕ). id_of x ∷ ids) rest)

  pub meets_each : (xs : List T) (more : ℕ) → IsBelowAll id_of xs 0 → AreRising id_of xs
      → met_from id_of (length xs + more) xs 0 ≡ map id_of xs
  meets_each xs more first up = meets_rest xs xs (length xs + more) 0 (omega arith) first up (λ k le. refl)
