-- Lists of windows and of grids: one turn of each loop over them.
use Rattle.std.proofs.Common.{◌≡◌, ◌<◌, ◌≤◌, ◌+◌, ℕ, zero, suc, Bool, true, false, List, [], ◌∷◌, ◌++◌, length, get_or}
use Rattle.std.proofs.Common.{set, take, drop, drop-cons, map, refl, arith, append_assoc, IsTrue, Option}
use Rattle.std.specs.List.{filter}
use Rattle.std.specs.List.Sorted.{IsStrictlyIncreasing}
use Rattle.std.proofs.lemmas.Grind.{common_steps}
use Rattle.std.proofs.lemmas.List.{append-nil}
use Rattle.std.proofs.lemmas.List.Folds.{list_any_at}
use Rattle.glk_objects.specs.Objects.{IsAboveAll, IsBelowAll, AreRising}
use Rattle.glk_objects.proofs.Places.{places}
use Rattle.glk_objects.proofs.Rising.{rises_filter, rising}
use Rattle.glk_windows.specs.declared.entries.Entry.{Entry}
use Rattle.glk_windows.specs.declared.grid.Grid.{Grid}
use Rattle.glk_windows.specs.Tree.{Shape, is_among}
use Rattle.glk_windows.specs.Grids.{grid_grows}
use Rattle.glk_windows.specs.Windows.{entry_id, sizes_in}
use Rattle.glk_windows.specs.Changes.{some_grow, chosen}
use Rattle.glk_windows.proofs.Fitting.{over_more, ahead}

-- what a test chooses of the items from a place on
pub chosen_past : {A : Type 0} (f : A → ℕ) (p : A → Bool) (xs : List A) (n : ℕ) (out : List ℕ) → length xs ≤ n
    → out ++ map f (filter p (drop n xs)) ≡ out
chosen_past f p [] n out h = grind (arith, common_steps, append-nil)
chosen_past f p (x ∷ xs) zero out h = absurd (grind (arith, common_steps))
chosen_past f p (x ∷ xs) (suc n) out h = chosen_past f p xs n out (omega arith)

pub chosen_here : {A : Type 0} (f : A → ℕ) (p : A → Bool) (xs : List A) (i : ℕ) (d : A) (out : List ℕ) → i < length xs
    → p (get_or xs i d) ≡ true
    → (out ++ f (get_or xs i d) ∷ []) ++ map f (filter p (drop (i + 1) xs)) ≡ out ++ map f (filter p (drop i xs))
chosen_here f p xs i d out within test = let e : i + 1 ≡ suc i = omega arith in
    rw (e, drop-cons xs i d, append_assoc, test) refl

pub chosen_not : {A : Type 0} (f : A → ℕ) (p : A → Bool) (xs : List A) (i : ℕ) (d : A) (out : List ℕ) → i < length xs
    → p (get_or xs i d) ≡ false → out ++ map f (filter p (drop (i + 1) xs)) ≡ out ++ map f (filter p (drop i xs))
chosen_not f p xs i d out within test = let e : i + 1 ≡ suc i = omega arith in rw (e, drop-cons xs i d, test) refl

pub ruleset gathers = (chosen_past, chosen_here, chosen_not)

-- an item with the same identifier in an item's place leaves identifiers rising
module _ {T : Type 0} (id_of : T → ℕ) where
  pub below_write : (xs : List T) (id i : ℕ) (new d : T) → IsBelowAll id_of xs id → i < length xs
      → id_of new ≡ id_of (get_or xs i d) → IsBelowAll id_of (set xs i new) id
  below_write [] id i new d below within same = absurd (omega arith)
  below_write (x ∷ xs) id zero new d below within same = (grind (arith, same, below.0), below.1)
  below_write (x ∷ xs) id (suc i) new d below within same =
      (below.0, below_write xs id i new d below.1 (omega arith) same)

  pub rises_write : (xs : List T) (i : ℕ) (new d : T) → AreRising id_of xs → i < length xs
      → id_of new ≡ id_of (get_or xs i d) → AreRising id_of (set xs i new)
  rises_write [] i new d up within same = absurd (omega arith)
  rises_write (x ∷ xs) zero new d up within same = (rw same up.0, up.1)
  rises_write (x ∷ xs) (suc i) new d up within same =
      (below_write xs (id_of x) i new d up.0 (omega arith) same, rises_write xs i new d up.1 (omega arith) same)

  -- an identifier above a new one and those before it
  pub above_end : (xs : List T) (id later : ℕ) (new : T) → IsAboveAll id_of xs id → id_of new ≡ id → id < later
      → IsAboveAll id_of (xs ++ new ∷ []) later
  above_end [] id later new above same less = (grind (arith, same), tt)
  above_end (x ∷ xs) id later new above same less =
      (omega (arith, above.0), above_end xs id later new above.1 same less)

pub above_new : (xs ys : List Entry) (id later : ℕ) (new : Entry) → ys ≡ xs ++ new ∷ [] → IsAboveAll entry_id xs id
    → new.id ≡ id → id < later → IsAboveAll entry_id ys later
above_new xs ys id later new is above same less = rw is (above_end entry_id xs id later new above same less)

-- identifiers of windows in order of creation rise
increasing : (xs : List Entry) → AreRising entry_id xs → IsStrictlyIncreasing (map entry_id xs)
increasing [] up k within = absurd (omega arith)
increasing (x ∷ []) up k within = absurd (omega arith)
increasing (x ∷ y ∷ ys) up zero within = up.0.0
increasing (x ∷ y ∷ ys) up (suc k) within =
    let e : suc k + 1 ≡ suc (k + 1) = omega arith in rw e (increasing (y ∷ ys) up.1 k (omega arith))

pub ids_rise : (ids found : List ℕ) (xs : List Entry) → found ≡ map entry_id (chosen ids xs) → AreRising entry_id xs
    → IsStrictlyIncreasing found
ids_rise ids found xs is up =
    rw is (increasing (chosen ids xs) (rises_filter entry_id (λ e. is_among ids e.id) xs up))

-- the grid that is too small is one of the list
pub small_grid : (tree : Option Shape) (screen : ℕ × ℕ) (f : Grid → Grid) (xs ys : List Grid) (i : ℕ) (d : Grid)
    → i < length xs → ys ≡ map f (take i xs) ++ drop i xs
    → IsTrue (grid_grows (sizes_in tree screen (get_or ys i d).id) (get_or ys i d)) → IsTrue (some_grow tree screen xs)
small_grid tree screen f xs ys i d h is small =
    let same = ahead f xs ys i d h is in
    list_any_at (λ g. grid_grows (sizes_in tree screen g.id) g) xs i d h (rw same at small)

pub ruleset forgets = (over_more, rises_write)

pub ruleset fits = (over_more, rises_write, small_grid)

-- the lemmas of one grid in place of another
pub ruleset replaces = (places, rising)
