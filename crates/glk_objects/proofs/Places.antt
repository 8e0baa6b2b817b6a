-- An object at its place.
use Rattle.std.proofs.Common.{zero, suc, ◌≡◌, ◌≢◌, ◌<◌, ◌≤◌, ◌+◌, ℕ, true, List, [], ◌∷◌, length, get_or, set, drop}
use Rattle.std.proofs.Common.{drop-cons, refl, arith}
use Rattle.std.proofs.lemmas.Grind.{common_steps}
use Rattle.std.proofs.lemmas.Bool.Decides.{nat_tests}
use Rattle.std.specs.List.{remove}
use Rattle.glk_objects.specs.Objects.{object_place, has, at, with, all_but}

module _ {T : Type 0} (id_of : T → ℕ) where
  pub place_within : (xs : List T) (id : ℕ) → has id_of xs id ≡ true → object_place id_of xs id < length xs
  unfolding object_place
  place_within [] id h = absurd (grind arith)
  place_within (x ∷ xs) id h = grind (arith, common_steps, nat_tests, place_within xs id)

  pub has_within : (xs : List T) (id : ℕ) → object_place id_of xs id < length xs → has id_of xs id ≡ true
  unfolding object_place
  has_within [] id h = absurd (grind arith)
  has_within (x ∷ xs) id h = grind (arith, common_steps, nat_tests, has_within xs id)

  pub get_at_place : (none : T) (xs : List T) (id : ℕ) (d : T) → object_place id_of xs id < length xs
      → get_or xs (object_place id_of xs id) d ≡ at id_of none xs id
  unfolding object_place at
  get_at_place none [] id d h = absurd (grind arith)
  get_at_place none (x ∷ xs) id d h = grind (arith, common_steps, nat_tests, get_at_place none xs id d)

  pub set_at_place : (xs : List T) (id : ℕ) (new : T) → id_of new ≡ id
      → set xs (object_place id_of xs id) new ≡ with id_of xs new
  unfolding object_place with
  set_at_place [] id new h = grind arith
  set_at_place (x ∷ xs) id new h = grind (arith, common_steps, nat_tests, set_at_place xs id new)

  pub id_at : (none : T) (xs : List T) (id : ℕ) → has id_of xs id ≡ true → id_of (at id_of none xs id) ≡ id
  unfolding at
  id_at none [] id h = absurd (grind arith)
  id_at none (x ∷ xs) id h = grind (arith, common_steps, nat_tests, id_at none xs id)

  pub remove_at_place : (xs : List T) (id : ℕ) → object_place id_of xs id < length xs
      → remove xs (object_place id_of xs id) ≡ all_but id_of xs id
  unfolding object_place all_but
  remove_at_place [] id h = absurd (grind arith)
  remove_at_place (x ∷ xs) id h = grind (arith, common_steps, nat_tests, remove_at_place xs id)

  pub none_at : (none : T) (xs : List T) (id : ℕ) → length xs ≤ object_place id_of xs id → at id_of none xs id ≡ none
  unfolding object_place at
  none_at none [] id h = refl
  none_at none (x ∷ xs) id h = grind (arith, common_steps, nat_tests, none_at none xs id)

  pub without_past : (xs : List T) (id : ℕ) → length xs ≤ object_place id_of xs id → all_but id_of xs id ≡ xs
  unfolding object_place all_but
  without_past [] id h = refl
  without_past (x ∷ xs) id h = grind (arith, common_steps, nat_tests, without_past xs id)

  -- one turn of the walk to an object
  pub walk_more : (xs : List T) (i id : ℕ) (d : T) → i < length xs → id_of (get_or xs i d) ≢ id
      → object_place id_of (drop i xs) id ≡ object_place id_of (drop (i + 1) xs) id + 1
  unfolding object_place
  walk_more xs i id d within other = rw (drop-cons xs i d) (grind (arith, common_steps, nat_tests))

  pub walk_here : (xs : List T) (i id : ℕ) (d : T) → i < length xs → id_of (get_or xs i d) ≡ id
      → object_place id_of (drop i xs) id ≡ 0
  unfolding object_place
  walk_here xs i id d within same = rw (drop-cons xs i d) (grind (arith, common_steps, nat_tests))

  pub walk_past : (xs : List T) (n id : ℕ) → length xs ≤ n → object_place id_of (drop n xs) id ≡ 0
  unfolding object_place
  walk_past [] n id h = grind (arith, common_steps)
  walk_past (x ∷ xs) zero id h = absurd (grind (arith, common_steps))
  walk_past (x ∷ xs) (suc n) id h = walk_past xs n id (omega arith)

pub ruleset places =
    (place_within, has_within, get_at_place, set_at_place, id_at, remove_at_place, none_at, without_past)

pub ruleset walks = (walk_more, walk_here, walk_past)
