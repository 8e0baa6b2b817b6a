-- Rows of a grid: one turn of each loop over them.
use Rattle.std.proofs.Common.{◌≡◌, ◌<◌, ◌≤◌, ◌+◌, ◌-◌, ℕ, zero, suc, List, [], ◌∷◌, ◌++◌, length, get_or, set, take}
use Rattle.std.proofs.Common.{drop, map, replicate, refl, ap, arith, append_assoc, IsTrue, nat_lt, Bool, true, false}
use Rattle.std.proofs.Common.{◌||◌, ◌⊎◌, inl, inr}
use Rattle.std.specs.List.{list_any}
use Rattle.std.proofs.lemmas.Grind.{common_steps}
use Rattle.std.proofs.lemmas.Bool.Decides.{nat_tests}
use Rattle.std.proofs.lemmas.List.{append-nil, replicate_more}
use Rattle.std.proofs.lemmas.List.Edits.{map_over_more}
use Rattle.std.proofs.lemmas.List.Folds.{list_any_at}
use Rattle.glk_windows.specs.Grids.{fit}

pub set_past : {A : Type 0} (xs : List A) (i : ℕ) (x : A) → length xs ≤ i → set xs i x ≡ xs
set_past [] i x h = refl
set_past (y ∷ xs) zero x h = absurd (omega arith)
set_past (y ∷ xs) (suc i) x h = ap (λ (r : List _). y ∷ r) (set_past xs i x (omega arith))

pub fill_more : (xs : List (List ℕ)) (n i : ℕ) → n ≤ i
    → (xs ++ replicate (i - n) []) ++ [] ∷ [] ≡ xs ++ replicate (i + 1 - n) []
fill_more xs n i h =
    let e2 : i + 1 - n ≡ (i - n) + 1 = omega arith in rw (append_assoc, replicate_more, e2) refl

pub over_more : {A : Type 0} (f : A → A) (xs ys : List A) (i : ℕ) (d v : A) → i < length xs
    → ys ≡ map f (take i xs) ++ drop i xs → v ≡ f (get_or ys i d)
    → set ys i v ≡ map f (take (i + 1) xs) ++ drop (i + 1) xs
over_more f xs ys i d v h is made =
    let fits : length ys ≡ length xs = grind (arith, common_steps) in
    rw made (map_over_more f xs ys i (get_or ys i d) h is (grind (arith, common_steps)))

-- an item that the loop has still before it is that of the list
pub ahead : {A : Type 0} (f : A → A) (xs ys : List A) (i : ℕ) (d : A) → i < length xs
    → ys ≡ map f (take i xs) ++ drop i xs → get_or ys i d ≡ get_or xs i d
ahead f xs ys i d h is = grind (arith, common_steps)

-- a row that is too short is one of the list
pub short_row : (n : ℕ) (f : List ℕ → List ℕ) (xs ys : List (List ℕ)) (i : ℕ) (d : List ℕ) → i < length xs
    → ys ≡ map f (take i xs) ++ drop i xs → length (get_or ys i d) < n
    → IsTrue (list_any (λ row. nat_lt (length row) n) xs)
short_row n f xs ys i d h is short =
    let same = ahead f xs ys i d h is in
    list_any_at (λ row. nat_lt (length row) n) xs i d h (grind (arith, nat_tests, same, short))

any_take : {A : Type 0} (p : A → Bool) (n : ℕ) (xs : List A) → list_any p (take n xs) ≡ true → list_any p xs ≡ true
any_take p zero xs h = cc
any_take p (suc n) [] h = h
any_take p (suc n) (x ∷ xs) h =
    elim (p x) as (λ b. (b || list_any p (take n xs)) ≡ true → (b || list_any p xs) ≡ true) [
      | true ↦ λ _. refl
      | false ↦ λ k. any_take p n xs k
    ] h

le_or_lt : (i j : ℕ) → (i ≤ j) ⊎ (j < i)
le_or_lt i j = grind arith

-- a row that is too short after so many rows are there was too short, or is a new one
pub short_fit : (n columns : ℕ) (xs ys : List (List ℕ)) → ys ≡ fit n [] xs
    → IsTrue (list_any (λ row. nat_lt (length row) columns) ys)
    → (length xs < n) ⊎ IsTrue (list_any (λ row. nat_lt (length row) columns) xs)
short_fit n columns xs ys is short = elim (le_or_lt n (length xs)) [
  | inl enough ↦
      let none : n - length xs ≡ 0 = omega arith in
      let same : ys ≡ take n xs = rw (is, none) (append-nil (take n xs)) in
      inr (any_take (λ row. nat_lt (length row) columns) n xs (rw same at short))
  | inr more ↦ inl more
]

pub ruleset fit_more = (over_more, short_row)

pub ruleset clear_more = over_more
