-- Blocks sorted by their addresses: where they are blocks of a heap they are those of the definition, in its order.
use Rattle.std.proofs.Common.{◌≡◌, ◌≤◌, ◌<◌, ◌+◌, ◌⊎◌, inl, inr, ℕ, suc, Bool, true, false, cond, List, [], ◌∷◌}
use Rattle.std.proofs.Common.{length, get_or, Ok, Err, IsOk, refl, sym, ap, subst, ◌∙◌, arith, ltb as nat_lt}
use Rattle.std.proofs.Common.{leb as nat_le, eqb as nat_eq}
use Rattle.std.specs.Prelude.{◌&&◌, ◌||◌}
use Rattle.std.specs.List.{AllByRecursion, list_all, sum_by}
use Rattle.std.specs.List.Sorted.{IsNonDecreasingBy}
use Rattle.std.proofs.lemmas.Bool.{le-ltb, lt-ltb, le-leb, leb-true, ltb-true, and_parts, eqb-true, eq-eqb, cases_lt}
use Rattle.std.proofs.lemmas.Bool.Decides.{nat_tests}
use Rattle.std.proofs.lemmas.List.Sums.{sum_by-cons}
use Rattle.std.proofs.lemmas.List.Sorted.{sum_by-IsPermutation}
use Rattle.heap_blocks.specs.Heap.{Block, block_end, inserted}
use Rattle.quetzal.specs.declared.faults.SaveFault.TheVariants as fault
use Rattle.quetzal.specs.Blocks.{ordered_blocks, rises}
use Rattle.quetzal.specs.Laws.{IsSortedFrom, is_block, ordered}

-- two blocks that don't meet, and blocks of which no two meet
abbrev is_apart : Block → Block → Bool
is_apart a b = nat_le (block_end a) b.0 || nat_le (block_end b) a.0

abbrev are_apart : List Block → Bool
are_apart [] = true
are_apart (b ∷ bs) = list_all (is_apart b) bs && are_apart bs

pub both : (x y : Bool) → x ≡ true → y ≡ true → (x && y) ≡ true
both true true a b = refl
both true false a b = b
both false y a b = a

or_cases : (x y : Bool) → (x || y) ≡ true → (x ≡ true) ⊎ (y ≡ true)
or_cases true y h = inl refl
or_cases false y h = inr h

or_left : (x y : Bool) → x ≡ true → (x || y) ≡ true
or_left true y h = refl
or_left false y h = absurd cc

or_right : (x y : Bool) → y ≡ true → (x || y) ≡ true
or_right true y h = refl
or_right false y h = h

-- what the tests say
pub rises_parts : (b : Block) (bs : List Block) (at size : ℕ) → rises at size (b ∷ bs) ≡ true
    → (at ≤ b.0) × (0 < b.1) × (rises (block_end b) size bs ≡ true)
rises_parts b bs at size h =
    let a = and_parts (nat_le at b.0 && nat_lt 0 b.1) (rises (block_end b) size bs) h in
    let c = and_parts (nat_le at b.0) (nat_lt 0 b.1) a.0 in
    (leb-true _ _ c.0, ltb-true _ _ c.1, a.1)

pub rises_by : (b : Block) (bs : List Block) (at size : ℕ) → at ≤ b.0 → 0 < b.1 → rises (block_end b) size bs ≡ true
    → rises at size (b ∷ bs) ≡ true
rises_by b bs at size low some rest = both (nat_le at b.0 && nat_lt 0 b.1) (rises (block_end b) size bs)
    (both (nat_le at b.0) (nat_lt 0 b.1) (le-leb _ _ low) (lt-ltb _ _ some)) rest

pub rises_size : (bs : List Block) (at size : ℕ) → rises at size bs ≡ true → at ≤ size
rises_size [] at size h = leb-true at size h
rises_size (b ∷ bs) at size h = let p = rises_parts b bs at size h in
    omega (arith, rises_size bs (block_end b) size p.2)

rises_lower : (bs : List Block) (at low size : ℕ) → low ≤ at → rises at size bs ≡ true → rises low size bs ≡ true
rises_lower [] at low size le h = le-leb low size (omega (arith, leb-true at size h))
rises_lower (b ∷ bs) at low size le h = let p = rises_parts b bs at size h in
    rises_by b bs low size (omega (arith, p.0)) p.1 p.2

apart_cases : (a b : Block) → is_apart a b ≡ true → (block_end a ≤ b.0) ⊎ (block_end b ≤ a.0)
apart_cases a b h = elim (or_cases (nat_le (block_end a) b.0) (nat_le (block_end b) a.0) h)
    [ inl before ↦ inl (leb-true _ _ before) | inr behind ↦ inr (leb-true _ _ behind) ]

apart_before : (a b : Block) → block_end a ≤ b.0 → is_apart a b ≡ true
apart_before a b le = or_left (nat_le (block_end a) b.0) (nat_le (block_end b) a.0) (le-leb _ _ le)

apart_behind : (a b : Block) → block_end b ≤ a.0 → is_apart a b ≡ true
apart_behind a b le = or_right (nat_le (block_end a) b.0) (nat_le (block_end b) a.0) (le-leb _ _ le)

all_apart : (x : Block) (bs : List Block) (at size : ℕ) → block_end x ≤ at → rises at size bs ≡ true
    → list_all (is_apart x) bs ≡ true
all_apart x [] at size le h = refl
all_apart x (b ∷ bs) at size le h =
    let p = rises_parts b bs at size h in
    both (is_apart x b) (list_all (is_apart x) bs) (apart_before x b (omega (arith, p.0)))
    (all_apart x bs (block_end b) size (omega (arith, p.0)) p.2)

pub block_parts : (start size : ℕ) (b : Block) → is_block start size b ≡ true → (0 < b.1) × (start ≤ b.0)
    × (block_end b ≤ size)
block_parts start size b h =
    let a = and_parts (nat_lt 0 b.1 && nat_le start b.0) (nat_le (block_end b) size) h in
    let c = and_parts (nat_lt 0 b.1) (nat_le start b.0) a.0 in
    (ltb-true _ _ c.0, leb-true _ _ c.1, leb-true _ _ a.1)

block_by : (start size : ℕ) (b : Block) → 0 < b.1 → start ≤ b.0 → block_end b ≤ size → is_block start size b ≡ true
block_by start size b some low ends = both (nat_lt 0 b.1 && nat_le start b.0) (nat_le (block_end b) size)
    (both (nat_lt 0 b.1) (nat_le start b.0) (lt-ltb _ _ some) (le-leb _ _ low)) (le-leb _ _ ends)

-- a block put in order among blocks that rise
by_address : (x b : Block) (bs : List Block) → (nat_lt b.0 x.0 ≡ true → inserted x (b ∷ bs) ≡ b ∷ inserted x bs)
    × (nat_lt b.0 x.0 ≡ false → inserted x (b ∷ bs) ≡ x ∷ b ∷ bs)
unfolding inserted
by_address x b bs = (λ below. rw below refl, λ above. rw above refl)

rises_inserted : (bs : List Block) (at size : ℕ) (x : Block) → at ≤ x.0 → 0 < x.1 → block_end x ≤ size
    → list_all (is_apart x) bs ≡ true → rises at size bs ≡ true → rises at size (inserted x bs) ≡ true
unfolding inserted
rises_inserted [] at size x low some ends apart h = rises_by x [] at size low some (le-leb _ _ ends)
rises_inserted (b ∷ bs) at size x low some ends apart h =
    let p = rises_parts b bs at size h in
    let q = and_parts (is_apart x b) (list_all (is_apart x) bs) apart in
    elim (cases_lt b.0 x.0) [
      | inl below ↦
          let behind : block_end b ≤ x.0 = elim (apart_cases x b q.0)
          [ inl before ↦ absurd (omega arith) | inr behind ↦ behind ] in
          let is = (by_address x b bs).0 (lt-ltb b.0 x.0 below) in
          ap (rises at size) is ∙ rises_by b (inserted x bs) at size p.0 p.1
          (rises_inserted bs (block_end b) size x behind some ends q.1 p.2)
      | inr above ↦
          let before : block_end x ≤ b.0 = elim (apart_cases x b q.0)
          [ inl before ↦ before | inr behind ↦ absurd (omega (arith, p.1)) ] in
          let is = (by_address x b bs).1 (le-ltb b.0 x.0 above) in
          ap (rises at size) is ∙ rises_by x (b ∷ bs) at size low some (rises_by b bs (block_end x) size before p.1 p.2)
    ]

record Inserts (at size : ℕ) (x : Block) (bs : List Block) : Type 0 where
  low : at ≤ x.0
  some : 0 < x.1
  ends : block_end x ≤ size
  apart : list_all (is_apart x) bs ≡ true
  rest : rises at size bs ≡ true

inserted_rises : (bs : List Block) (at size : ℕ) (x : Block) → rises at size (inserted x bs) ≡ true
    → Inserts at size x bs
unfolding inserted
inserted_rises [] at size x h =
    let p = rises_parts x [] at size h in
    let ends = leb-true (block_end x) size p.2 in
    record { low = p.0; some = p.1; ends = ends; apart = refl; rest = le-leb at size (omega (arith, ends, p.0)) }
inserted_rises (b ∷ bs) at size x h =
    elim (cases_lt b.0 x.0) [
      | inl below ↦
          let is = (by_address x b bs).0 (lt-ltb b.0 x.0 below) in
          let p = rises_parts b (inserted x bs) at size (sym (ap (rises at size) is) ∙ h) in
          let q = inserted_rises bs (block_end b) size x p.2 in
          record {
            low = omega (arith, p.0, below);
            some = q.some;
            ends = q.ends;
            apart = both (is_apart x b) (list_all (is_apart x) bs) (apart_behind x b q.low) q.apart;
            rest = rises_by b bs at size p.0 p.1 q.rest;
          }
      | inr above ↦
          let is = (by_address x b bs).1 (le-ltb b.0 x.0 above) in
          let p = rises_parts x (b ∷ bs) at size (sym (ap (rises at size) is) ∙ h) in
          record {
            low = p.0;
            some = p.1;
            ends = rises_size (b ∷ bs) (block_end x) size p.2;
            apart = all_apart x (b ∷ bs) (block_end x) size (omega arith) p.2;
            rest = rises_lower (b ∷ bs) (block_end x) at size (omega (arith, p.0)) p.2;
          }
    ]

-- a test of all blocks doesn't ask for their order
exchanged : (a b c : Bool) → (b && (a && c)) ≡ (a && (b && c))
exchanged true true c = refl
exchanged true false c = refl
exchanged false true c = refl
exchanged false false c = refl

all_inserted : (p : Block → Bool) (x : Block) (bs : List Block) → list_all p (inserted x bs) ≡ (p x && list_all p bs)
unfolding inserted
all_inserted p x [] = refl
all_inserted p x (b ∷ bs) =
    elim (cases_lt b.0 x.0) [
      | inl below ↦ ap (list_all p) ((by_address x b bs).0 (lt-ltb b.0 x.0 below))
          ∙ ap (λ (t : Bool). p b && t) (all_inserted p x bs) ∙ exchanged (p x) (p b) (list_all p bs)
      | inr above ↦ ap (list_all p) ((by_address x b bs).1 (le-ltb b.0 x.0 above))
    ]

all_in_order : (p : Block → Bool) (bs : List Block) → list_all p (ordered_blocks bs) ≡ list_all p bs
unfolding ordered_blocks
all_in_order p [] = refl
all_in_order p (b ∷ bs) = all_inserted p b (ordered_blocks bs) ∙ ap (λ (t : Bool). p b && t) (all_in_order p bs)

-- blocks of a heap rise in order, and only they do
order_rises : (bs : List Block) (start size : ℕ) → start ≤ size → list_all (is_block start size) bs ≡ true
    → are_apart bs ≡ true → rises start size (ordered_blocks bs) ≡ true
unfolding ordered_blocks
order_rises [] start size le blocks apart = le-leb start size le
order_rises (b ∷ bs) start size le blocks apart =
    let p = and_parts (is_block start size b) (list_all (is_block start size) bs) blocks in
    let q = and_parts (list_all (is_apart b) bs) (are_apart bs) apart in
    let is = block_parts start size b p.0 in
    rises_inserted (ordered_blocks bs) start size b is.1 is.0 is.2 (all_in_order (is_apart b) bs ∙ q.0)
    (order_rises bs start size le p.1 q.1)

rising_blocks : (bs : List Block) (start size : ℕ) → rises start size (ordered_blocks bs) ≡ true
    → (list_all (is_block start size) bs ≡ true) × (are_apart bs ≡ true)
unfolding ordered_blocks
rising_blocks [] start size h = (refl, refl)
rising_blocks (b ∷ bs) start size h =
    let p = inserted_rises (ordered_blocks bs) start size b h in
    let q = rising_blocks bs start size p.rest in (
      both (is_block start size b) (list_all (is_block start size) bs) (block_by start size b p.some p.low p.ends) q.0,
      both (list_all (is_apart b) bs) (are_apart bs) (sym (all_in_order (is_apart b) bs) ∙ p.apart) q.1,
    )

-- addresses that don't fall
abbrev Low : ℕ → List Block → Type 0
Low n bs = AllByRecursion (λ (b : Block). n ≤ b.0) bs

abbrev Up : List Block → Type 0
Up [] = Unit {0}
Up (b ∷ bs) = Low b.0 bs × Up bs

low_less : (n m : ℕ) (bs : List Block) → m ≤ n → Low n bs → Low m bs
low_less n m [] le h = tt
low_less n m (b ∷ bs) le h = (omega (arith, h.0), low_less n m bs le h.1)

low_inserted : (n : ℕ) (x : Block) (bs : List Block) → n ≤ x.0 → Low n bs → Low n (inserted x bs)
unfolding inserted
low_inserted n x [] le h = (le, tt)
low_inserted n x (b ∷ bs) le h =
    elim (cases_lt b.0 x.0) [
      | inl below ↦ subst (Low n) (sym ((by_address x b bs).0 (lt-ltb b.0 x.0 below))) (h.0, low_inserted n x bs le h.1)
      | inr above ↦ subst (Low n) (sym ((by_address x b bs).1 (le-ltb b.0 x.0 above))) (le, h)
    ]

up_inserted : (x : Block) (bs : List Block) → Up bs → Up (inserted x bs)
unfolding inserted
up_inserted x [] h = (tt, tt)
up_inserted x (b ∷ bs) h =
    elim (cases_lt b.0 x.0) [
      | inl below ↦ subst Up (sym ((by_address x b bs).0 (lt-ltb b.0 x.0 below)))
          (low_inserted b.0 x bs (omega (arith, below)) h.0, up_inserted x bs h.1)
      | inr above ↦ subst Up (sym ((by_address x b bs).1 (le-ltb b.0 x.0 above)))
          ((above, low_less b.0 x.0 bs above h.0), h)
    ]

up_in_order : (bs : List Block) → Up (ordered_blocks bs)
unfolding ordered_blocks
up_in_order [] = tt
up_in_order (b ∷ bs) = up_inserted b (ordered_blocks bs) (up_in_order bs)

low_by : (n : ℕ) (bs : List Block) → ((j : ℕ) → j < length bs → n ≤ (get_or bs j (0, 0)).0) → Low n bs
low_by n [] h = tt
low_by n (b ∷ bs) h = (h 0 (omega arith), low_by n bs (λ j lt. h (suc j) (omega (arith, lt))))

up_by : (bs : List Block) → IsNonDecreasingBy (λ (b : Block). b.0) bs → Up bs
up_by [] h = tt
up_by (b ∷ bs) h = (
  low_by b.0 bs (λ j lt. h 0 (suc j) (0, 0) (omega arith) (omega (arith, lt))),
  up_by bs (λ i j d le lt. h (suc i) (suc j) d (omega (arith, le)) (omega (arith, lt))),
)

-- how often a block is there
abbrev is_same : Block → Block → Bool
is_same a b = nat_eq a.0 b.0 && nat_eq a.1 b.1

abbrev one_if : Block → Block → ℕ
one_if a b = cond (is_same a b) 1 0

same_self : (a : Block) → one_if a a ≡ 1
same_self a = ap (λ (t : Bool). cond t 1 0) (both (nat_eq a.0 a.0) (nat_eq a.1 a.1) (eq-eqb _ _ refl) (eq-eqb _ _ refl))

same_pair : (a b : Block) → is_same a b ≡ true → a ≡ b
same_pair a b h =
    let p = and_parts (nat_eq a.0 b.0) (nat_eq a.1 b.1) h in
    ap (λ (n : ℕ). (n, a.1)) (eqb-true _ _ p.0) ∙ ap (λ (n : ℕ). (b.0, n)) (eqb-true _ _ p.1)

other_address : (a b : Block) → a.0 < b.0 → one_if a b ≡ 0
other_address a b lt = let no : nat_eq a.0 b.0 ≡ false = grind (arith, nat_tests, lt) in rw no refl

none_there : (a : Block) (n : ℕ) (bs : List Block) → a.0 < n → Low n bs → sum_by (one_if a) bs ≡ 0
none_there a n [] lt h = refl
none_there a n (b ∷ bs) lt h =
    let here = other_address a b (omega (arith, lt, h.0)) in
    sum_by-cons (one_if a) b bs ∙ omega (arith, here, none_there a n bs lt h.1)

low_rises : (bs : List Block) (at size : ℕ) → rises at size bs ≡ true → Low at bs
low_rises [] at size h = tt
low_rises (b ∷ bs) at size h = let p = rises_parts b bs at size h in
    (p.0, low_less (block_end b) at bs (omega (arith, p.0)) (low_rises bs (block_end b) size p.2))

-- blocks that rise, and the same blocks where addresses don't fall, are one list
first_same : (x y : Block) (xs ys : List Block) (size : ℕ) (t : Bool) → is_same y x ≡ t → 0 < x.1
    → rises (block_end x) size xs ≡ true → Low y.0 ys → ((f : Block → ℕ) → sum_by f (x ∷ xs) ≡ sum_by f (y ∷ ys))
    → y ≡ x
first_same x y xs ys size true is some up low sums = same_pair y x is
first_same x y xs ys size false is some up low sums =
    elim (cases_lt x.0 y.0) [
      | inl below ↦
          let here = same_self x in
          let left = sum_by-cons (one_if x) x xs in
          let right = none_there x y.0 (y ∷ ys) below (omega arith, low) in
          absurd (omega (arith, here, left, right, sums (one_if x)))
      | inr above ↦
          let here = same_self y in
          let there : one_if y x ≡ 0 = rw is refl in
          let left = sum_by-cons (one_if y) x xs in
          let right = sum_by-cons (one_if y) y ys in
          let rest = none_there y (block_end x) xs (omega (arith, above, some)) (low_rises xs (block_end x) size up) in
          absurd (omega (arith, here, there, left, right, rest, sums (one_if y)))
    ]

one_list : (xs ys : List Block) (at size : ℕ) → rises at size xs ≡ true → Up ys
    → ((f : Block → ℕ) → sum_by f xs ≡ sum_by f ys) → xs ≡ ys
one_list [] [] at size up low sums = refl
one_list [] (y ∷ ys) at size up low sums = absurd (omega (arith, sums (λ _. 1), sum_by-cons (λ _. 1) y ys))
one_list (x ∷ xs) [] at size up low sums = absurd (omega (arith, sums (λ _. 1), sum_by-cons (λ _. 1) x xs))
one_list (x ∷ xs) (y ∷ ys) at size up low sums =
    let p = rises_parts x xs at size up in
    let first = first_same x y xs ys size (is_same y x) refl p.1 p.2 low.0 sums in
    let rest = one_list xs ys (block_end x) size p.2 low.1
    (λ f. omega (arith, sums f, sum_by-cons f x xs, sum_by-cons f y ys, ap f first)) in
    ap (λ (bs : List Block). x ∷ bs) rest ∙ ap (λ (b : Block). b ∷ ys) (sym first)

sum_inserted : (f : Block → ℕ) (x : Block) (bs : List Block) → sum_by f (inserted x bs) ≡ f x + sum_by f bs
unfolding inserted
sum_inserted f x [] = sum_by-cons f x []
sum_inserted f x (b ∷ bs) =
    elim (cases_lt b.0 x.0) [
      | inl below ↦ ap (sum_by f) ((by_address x b bs).0 (lt-ltb b.0 x.0 below))
          ∙ omega (arith, sum_by-cons f b (inserted x bs), sum_by-cons f b bs, sum_inserted f x bs)
      | inr above ↦ ap (sum_by f) ((by_address x b bs).1 (le-ltb b.0 x.0 above)) ∙ sum_by-cons f x (b ∷ bs)
    ]

sum_in_order : (f : Block → ℕ) (bs : List Block) → sum_by f (ordered_blocks bs) ≡ sum_by f bs
unfolding ordered_blocks
sum_in_order f [] = refl
sum_in_order f (b ∷ bs) = sum_inserted f b (ordered_blocks bs) ∙ omega (arith, sum_in_order f bs, sum_by-cons f b bs)

-- what is sorted
in_order_is : (bs sorted : List Block) (start size : ℕ) → IsSortedFrom bs sorted → rises start size sorted ≡ true
    → sorted ≡ ordered_blocks bs
in_order_is bs sorted start size from up =
    one_list sorted (ordered_blocks bs) start size up (up_in_order bs)
    (λ f. sum_by-IsPermutation f bs sorted from.same ∙ sym (sum_in_order f bs))

sorted_rises : (bs sorted : List Block) (start size : ℕ) → IsSortedFrom bs sorted
    → rises start size (ordered_blocks bs) ≡ true → rises start size sorted ≡ true
sorted_rises bs sorted start size from up =
    let is = one_list (ordered_blocks bs) sorted start size up (up_by sorted from.order)
    (λ f. sum_in_order f bs ∙ sym (sum_by-IsPermutation f bs sorted from.same)) in
    subst (λ (xs : List Block). rises start size xs ≡ true) is up

not_true : (t : Bool) → (t ≡ true → false ≡ true) → t ≡ false
not_true true h = sym (h refl)
not_true false h = refl

pub order_taken : (bs sorted : List Block) (start size : ℕ) → IsSortedFrom bs sorted → rises start size sorted ≡ true
    → ordered start size bs ≡ Ok sorted
order_taken bs sorted start size from up =
    let is = in_order_is bs sorted start size from up in
    let ordered_up = subst (λ (xs : List Block). rises start size xs ≡ true) is up in
    rw ordered_up (ap (λ (xs : List Block). Ok xs) (sym is))

pub order_refused : (bs sorted : List Block) (start size : ℕ) → IsSortedFrom bs sorted
    → rises start size sorted ≡ false → ordered start size bs ≡ Err fault.Blocks
order_refused bs sorted start size from down =
    let not : rises start size (ordered_blocks bs) ≡ false =
    not_true (rises start size (ordered_blocks bs)) (λ up. sym down ∙ sorted_rises bs sorted start size from up) in
    rw not refl

-- a block that can't be one of a heap
pub order_none : (bs : List Block) (start size : ℕ) → list_all (is_block start size) bs ≡ false
    → ordered start size bs ≡ Err fault.Blocks
order_none bs start size not =
    let down : rises start size (ordered_blocks bs) ≡ false =
    not_true (rises start size (ordered_blocks bs)) (λ up. sym not ∙ (rising_blocks bs start size up).0) in
    rw down refl

-- among fewer than two blocks none meet
either_way : (t : Bool) (n : ℕ) → 1 < n → (t ≡ true) ⊎ ((t ≡ false) × (1 < n))
either_way true n two = inl refl
either_way false n two = inr (refl, two)

apart_or_two : (bs : List Block) → (are_apart bs ≡ true) ⊎ ((are_apart bs ≡ false) × (1 < length bs))
apart_or_two [] = inl refl
apart_or_two (b ∷ []) = inl refl
apart_or_two (b ∷ c ∷ bs) = either_way (are_apart (b ∷ c ∷ bs)) (length (b ∷ c ∷ bs)) (omega arith)

pub order_wanted : (start size : ℕ) (bs : List Block) → start ≤ size → list_all (is_block start size) bs ≡ true
    → IsOk (ordered start size bs) ⊎ ((ordered start size bs ≡ Err fault.Blocks) × (1 < length bs))
order_wanted start size bs le within =
    elim (apart_or_two bs) [
      | inl apart ↦ let up = order_rises bs start size le within apart in inl (rw up refl)
      | inr meet ↦ let down : rises start size (ordered_blocks bs) ≡ false =
          not_true (rises start size (ordered_blocks bs)) (λ up. sym meet.0 ∙ (rising_blocks bs start size up).1) in
          inr (rw down refl, meet.1)
    ]
