-- The sizes of windows tile the screen.
use Rattle.std.proofs.Common.{◌≡◌, ◌≤◌, ◌+◌, ◌-◌, ◌*◌, ◌==◌, ◌||◌, ℕ, Bool, true, false}
use Rattle.std.proofs.Common.{Option, Some, None, unwrap_or, List, [], ◌∷◌, ◌++◌, sum_by, ◌⊎◌, inl, inr, refl, sym, ap}
use Rattle.std.proofs.Common.{◌∙◌, arith}
use Rattle.std.proofs.lemmas.Bool.Decides.{nat_tests}
use Rattle.std.proofs.lemmas.List.Folds.{list_any-append}
use Rattle.std.proofs.lemmas.List.Sums.{sum_by-append, sum_by-cons}
use Rattle.glk_windows.specs.declared.tree.Arrangement.{Arrangement}
use Rattle.glk_windows.specs.Methods.{is_across}
use Rattle.glk_windows.specs.Tree.{Shape, One, Two, ids_in, is_among, share, first_area, second_area, area_in}
use Rattle.glk_windows.specs.Windows.{sizes_in}
use Rattle.glk_windows.specs.Laws.{leaves, AreDistinct, cells, PairsDivide, LeavesTile}

-- ---- a pair divides its place

share_within : (a : Arrangement) (total : ℕ) → share a total ≤ total
share_within a total = grind (arith, nat_tests)

pub pairs_divide : PairsDivide
pairs_divide a area = record {
  across = λ is. rw is (let within = share_within a area.0 in omega arith, refl, refl);
  down = λ is. rw is (let within = share_within a area.1 in omega arith, refl, refl);
}

-- cells side by side
shared : (m n k : ℕ) → (m + n) * k ≡ m * k + n * k
shared m n k = grind arith

shared' : (m n k : ℕ) → k * (m + n) ≡ k * m + k * n
shared' m n k = grind arith

pub there_or_not : (b : Bool) → (b ≡ true) ⊎ (b ≡ false)
there_or_not true = inl refl
there_or_not false = inr refl

pair_cells : (a : Arrangement) (area : ℕ × ℕ) → cells (first_area a area) + cells (second_area a area) ≡ cells area
pair_cells a area = elim (there_or_not (is_across a.method)) [
  | inl is ↦ let within = share_within a area.0 in
      let whole : area.0 - share a area.0 + share a area.0 ≡ area.0 = omega arith in
      rw is (sym (shared (area.0 - share a area.0) (share a area.0) area.1) ∙ ap (λ (n : ℕ). n * area.1) whole)
  | inr is ↦ let within = share_within a area.1 in
      let whole : area.1 - share a area.1 + share a area.1 ≡ area.1 = omega arith in
      rw is (sym (shared' (area.1 - share a area.1) (share a area.1) area.0) ∙ ap (λ (n : ℕ). area.0 * n) whole)
]

-- ---- what stands in which part of a tree

pub among_append : (xs ys : List ℕ) (id : ℕ) → is_among (xs ++ ys) id ≡ (is_among xs id || is_among ys id)
among_append xs ys id = list_any-append (λ (other : ℕ). other == id) xs ys

-- an identifier that isn't there has no place
absent : (tree : Shape) (area : ℕ × ℕ) (win : ℕ) → is_among (ids_in tree) win ≡ false → area_in tree area win ≡ None
absent (One id) area win gone = grind (arith, nat_tests, gone)
absent (Two a first second) area win gone =
    let parts = among_append (ids_in first) (ids_in second) win in
    let other : (a.id == win) ≡ false = grind (arith, gone, parts) in
    let not_first : is_among (ids_in first) win ≡ false = grind (arith, gone, parts) in
    let not_second : is_among (ids_in second) win ≡ false = grind (arith, gone, parts) in
    rw (other, absent first (first_area a area) win not_first) (absent second (second_area a area) win not_second)

-- one that is there has one
pub record HasPlace (found : Option (ℕ × ℕ)) : Type 0 where
  pub size : ℕ × ℕ
  pub is : found ≡ Some size

present : (tree : Shape) (area : ℕ × ℕ) (win : ℕ) → is_among (ids_in tree) win ≡ true → HasPlace (area_in tree area win)
present (One id) area win there = let here : (id == win) ≡ true = grind (arith, nat_tests, there) in record {
  size = area;
  is = rw here refl;
}
present (Two a first second) area win there = elim (there_or_not (a.id == win)) [
  | inl here ↦ record { size = area; is = rw here refl }
  | inr other ↦ elim (there_or_not (is_among (ids_in first) win)) [
    | inl in_first ↦ let found = present first (first_area a area) win in_first in
        record { size = found.size; is = rw (other, found.is) refl }
    | inr gone ↦ let parts = among_append (ids_in first) (ids_in second) win in
        let in_second : is_among (ids_in second) win ≡ true = grind (arith, there, parts, other, gone) in
        let found = present second (second_area a area) win in_second in
        record { size = found.size; is = rw (other, absent first (first_area a area) win gone) found.is }
  ]
]

-- ---- the sum over the windows that aren't pairs

-- each of some windows is in a part of the tree
abbrev AreAmong : List ℕ → List ℕ → Type 0
AreAmong ids [] = Unit {0}
AreAmong ids (win ∷ wins) = (is_among ids win ≡ true) × AreAmong ids wins

sum_same : (f g : ℕ → ℕ) (ids wins : List ℕ) → AreAmong ids wins → ((win : ℕ) → is_among ids win ≡ true → f win ≡ g win)
    → sum_by f wins ≡ sum_by g wins
sum_same f g ids [] among same = refl
sum_same f g ids (win ∷ wins) among same =
    sum_by-cons f win wins ∙ ap (λ (n : ℕ). n + sum_by f wins) (same win among.0)
    ∙ ap (λ (n : ℕ). g win + n) (sum_same f g ids wins among.1 same) ∙ sym (sum_by-cons g win wins)

among_more : (ids more wins : List ℕ) → AreAmong ids wins
    → ((win : ℕ) → is_among ids win ≡ true → is_among more win ≡ true) → AreAmong more wins
among_more ids more [] among also = tt
among_more ids more (win ∷ wins) among also = (also win among.0, among_more ids more wins among.1 also)

among_end : (ids wins ends : List ℕ) → AreAmong ids wins → AreAmong ids ends → AreAmong ids (wins ++ ends)
among_end ids [] ends among rest = rest
among_end ids (win ∷ wins) ends among rest = (among.0, among_end ids wins ends among.1 rest)

among_both : (xs ys : List ℕ) (id : ℕ) (wins ends : List ℕ) → AreAmong xs wins → AreAmong ys ends
    → AreAmong (id ∷ (xs ++ ys)) (wins ++ ends)
among_both xs ys id wins ends among rest =
    among_end (id ∷ (xs ++ ys)) wins ends
    (among_more xs (id ∷ (xs ++ ys)) wins among
    (λ win there. let parts = among_append xs ys win in grind (arith, there, parts)))
    (among_more ys (id ∷ (xs ++ ys)) ends rest
    (λ win there. let parts = among_append xs ys win in grind (arith, there, parts)))

not_own : (id win : ℕ) (ids : List ℕ) → is_among ids id ≡ false → is_among ids win ≡ true → (id == win) ≡ false
not_own id win ids gone there = elim (there_or_not (id == win)) [
  | inl here ↦ let same : id ≡ win = grind (arith, nat_tests, here) in absurd (let e = rw same at gone in cc)
  | inr other ↦ other
]

not_there : (xs ys : List ℕ) (win : ℕ) → ((id : ℕ) → is_among xs id ≡ true → is_among ys id ≡ false)
    → is_among ys win ≡ true → is_among xs win ≡ false
not_there xs ys win apart there = elim (there_or_not (is_among xs win)) [
  | inl also ↦ absurd (let e = apart win also in cc)
  | inr gone ↦ gone
]

among_leaves : (tree : Shape) → AreAmong (ids_in tree) (leaves tree)
among_leaves (One id) = (grind (arith, nat_tests), tt)
among_leaves (Two a first second) =
    among_both (ids_in first) (ids_in second) a.id (leaves first) (leaves second) (among_leaves first)
    (among_leaves second)

-- ---- identifiers that stand once

pub record AreApart (xs ys : List ℕ) : Type 0 where
  pub first : AreDistinct xs
  pub second : AreDistinct ys
  pub apart : (id : ℕ) → is_among xs id ≡ true → is_among ys id ≡ false

pub apart_of : (xs ys : List ℕ) → AreDistinct (xs ++ ys) → AreApart xs ys
apart_of [] ys distinct = record { first = tt; second = distinct; apart = λ id there. absurd (cc) }
apart_of (x ∷ xs) ys distinct =
    let rest = apart_of xs ys distinct.1 in
    let parts = among_append xs ys x in
    let own = distinct.0 in
    record {
      first = (grind (arith, own, parts), rest.first);
      second = rest.second;
      apart = λ id there. elim (there_or_not (x == id)) [
        | inl here ↦ let same : x ≡ id = grind (arith, nat_tests, here) in rw (← same) (grind (arith, own, parts))
        | inr other ↦ rest.apart id (grind (arith, there, other))
      ];
    }

size_of : Option (ℕ × ℕ) → ℕ
size_of found = cells (unwrap_or found (0, 0))

pub leaves_fill : (tree : Shape) (area : ℕ × ℕ) → AreDistinct (ids_in tree)
    → sum_by (λ win. cells (sizes_in (Some tree) area win)) (leaves tree) ≡ cells area
leaves_fill (One id) area distinct = let here : (id == id) ≡ true = grind (arith, nat_tests) in rw here (omega arith)
leaves_fill (Two a first second) area distinct =
    let parts = apart_of (ids_in first) (ids_in second) distinct.1 in
    let f : ℕ → ℕ = λ win. cells (sizes_in (Some (Two a first second)) area win) in
    let g : ℕ → ℕ = λ win. cells (sizes_in (Some first) (first_area a area) win) in
    let h : ℕ → ℕ = λ win. cells (sizes_in (Some second) (second_area a area) win) in
    let own : (win : ℕ) → is_among (ids_in first ++ ids_in second) win ≡ true → (a.id == win) ≡ false =
    λ win there. not_own a.id win (ids_in first ++ ids_in second) distinct.0 there in
    let one : (win : ℕ) → is_among (ids_in first) win ≡ true → f win ≡ g win = λ win there.
    let found = present first (first_area a area) win there in
    let whole : is_among (ids_in first ++ ids_in second) win ≡ true =
    among_append (ids_in first) (ids_in second) win ∙ rw there refl in
    rw (own win whole, found.is) refl in
    let other : (win : ℕ) → is_among (ids_in second) win ≡ true → f win ≡ h win = λ win there.
    let whole : is_among (ids_in first ++ ids_in second) win ≡ true =
    among_append (ids_in first) (ids_in second) win ∙ grind (arith, there) in
    let gone : is_among (ids_in first) win ≡ false =
    not_there (ids_in first) (ids_in second) win parts.apart there in
    rw (own win whole, absent first (first_area a area) win gone) refl in
    sum_by-append f (leaves first) (leaves second)
    ∙ ap (λ (n : ℕ). n + sum_by f (leaves second))
    (sum_same f g (ids_in first) (leaves first) (among_leaves first) one
    ∙ leaves_fill first (first_area a area) parts.first)
    ∙ ap (λ (n : ℕ). cells (first_area a area) + n)
    (sum_same f h (ids_in second) (leaves second) (among_leaves second) other
    ∙ leaves_fill second (second_area a area) parts.second)
    ∙ pair_cells a area

pub leaves_tile : LeavesTile
leaves_tile tree screen distinct = leaves_fill tree screen distinct
