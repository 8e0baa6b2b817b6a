-- What keeps a number above all identifiers.
use Rattle.std.proofs.Common.{◌≡◌, ◌<◌, ◌≤◌, ◌==◌, ℕ, Bool, true, false, if◌then◌else◌, List, [], ◌∷◌, ◌++◌, map, arith}
use Rattle.std.proofs.Common.{refl}
use Rattle.std.specs.List.{filter}
use Rattle.std.proofs.lemmas.Bool.Decides.{nat_tests}
use Rattle.glk_objects.specs.Objects.{IsAboveAll, has, at, with, all_but}

module _ {T : Type 0} (id_of : T → ℕ) where
  pub above_more : (xs : List T) (n m : ℕ) → IsAboveAll id_of xs n → n ≤ m → IsAboveAll id_of xs m
  above_more [] n m above le = tt
  above_more (x ∷ xs) n m above le = (let less = above.0 in omega arith, above_more xs n m above.1 le)

  pub above_end : (xs : List T) (new : T) (n : ℕ) → IsAboveAll id_of xs n → id_of new < n
      → IsAboveAll id_of (xs ++ new ∷ []) n
  above_end [] new n above less = (less, tt)
  above_end (x ∷ xs) new n above less = (above.0, above_end xs new n above.1 less)

  with_step : (x new : T) (n : ℕ) → (id_of x == id_of new) ≡ true → id_of x < n → id_of new < n
  with_step x new n same less = grind (arith, nat_tests, same, less)

  pub above_with : (xs : List T) (new : T) (n : ℕ) → IsAboveAll id_of xs n → IsAboveAll id_of (with id_of xs new) n
  unfolding with
  above_with [] new n above = tt
  above_with (x ∷ xs) new n above = elim (id_of x == id_of new) as
      (λ b. (id_of x == id_of new) ≡ b → IsAboveAll id_of (if b then new ∷ xs else x ∷ with id_of xs new) n) [
        | true ↦ λ same. (with_step x new n same above.0, above.1)
        | false ↦ λ other. (above.0, above_with xs new n above.1)
      ] refl

  pub above_without : (xs : List T) (gone n : ℕ) → IsAboveAll id_of xs n → IsAboveAll id_of (all_but id_of xs gone) n
  unfolding all_but
  above_without [] gone n above = tt
  above_without (x ∷ xs) gone n above =
      elim (id_of x == gone) as (λ b. IsAboveAll id_of (if b then xs else x ∷ all_but id_of xs gone) n) [
        | true ↦ above.1
        | false ↦ (above.0, above_without xs gone n above.1)
      ]

  pub above_filter : (test : T → Bool) (xs : List T) (n : ℕ) → IsAboveAll id_of xs n
      → IsAboveAll id_of (filter test xs) n
  above_filter test [] n above = tt
  above_filter test (x ∷ xs) n above =
      elim (test x) as (λ b. IsAboveAll id_of (if b then x ∷ filter test xs else filter test xs) n) [
        | true ↦ (above.0, above_filter test xs n above.1)
        | false ↦ above_filter test xs n above.1
      ]

  pub above_map : (f : T → T) → ((x : T) → id_of (f x) ≡ id_of x) → (xs : List T) (n : ℕ) → IsAboveAll id_of xs n
      → IsAboveAll id_of (map f xs) n
  above_map f same [] n above = tt
  above_map f same (x ∷ xs) n above =
      (let e = same x in let less = above.0 in omega (arith, e, less), above_map f same xs n above.1)

  -- what isn't there is none
  pub at_absent : (none : T) (xs : List T) (id : ℕ) → has id_of xs id ≡ false → at id_of none xs id ≡ none
  unfolding at
  at_absent none [] id gone = refl
  at_absent none (x ∷ xs) id gone = grind (arith, nat_tests, at_absent none xs id)

pub ruleset above = (above_more, above_end, above_with, above_without, above_filter, above_map)
