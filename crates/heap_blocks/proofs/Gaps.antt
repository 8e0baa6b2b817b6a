-- How many of the first blocks leave no gap, and that no search for a place need look at them.
use Rattle.std.proofs.Common.{◌≡◌, ◌≢◌, inl, inr, ◌<◌, ◌≤◌, ◌+◌, ◌-◌, min, ℕ, zero, suc, false, List, [], ◌∷◌, length}
use Rattle.std.proofs.Common.{take, drop, get_or, cond, refl, arith, eqb as nat_eq, eq-eqb}
use Rattle.std.specs.List.{remove}
use Rattle.std.proofs.lemmas.List.{drop_more, drop_all}
use Rattle.std.proofs.lemmas.Bool.{cases_eq, lt-leb, lt-ltb}
use Rattle.std.proofs.lemmas.Bool.Decides.{nat_tests}
use Rattle.heap_blocks.specs.Heap.{Block, FlatHeap, IsRising, block_end, first_address, free_place, inserted}
use Rattle.heap_blocks.specs.Relations.{IsFree}
use Rattle.heap_blocks.specs.Gapless.{gapless, last_end}

differs : (a b : ℕ) → a ≢ b → nat_eq a b ≡ false
differs a b h = grind (arith, nat_tests)

pub gapless-fits : (bs : List Block) (from : ℕ) → gapless from bs ≤ length bs
gapless-fits [] from = omega arith
gapless-fits (b ∷ bs) from =
    elim (cases_eq b.0 from) [
      | inl same ↦ let test = eq-eqb _ _ same in rw test (omega (arith, gapless-fits bs (block_end b)))
      | inr other ↦ let test = differs _ _ other in rw test (omega arith)
    ]

-- ---- the end of the last block

last_end-get : (bs : List Block) (from i : ℕ) (d : Block) → length bs ≡ i + 1
    → last_end from bs ≡ block_end (get_or bs i d)
last_end-get [] from i d is = absurd (omega arith)
last_end-get (b ∷ []) from zero d is = refl
last_end-get (b ∷ c ∷ bs) from zero d is = absurd (omega arith)
last_end-get (b ∷ []) from (suc i) d is = absurd (omega arith)
last_end-get (b ∷ c ∷ bs) from (suc i) d is = last_end-get (c ∷ bs) (block_end b) i d (omega arith)

pub last_end-last : (bs : List Block) (from : ℕ) → 0 < length bs
    → last_end from bs ≡ block_end (get_or bs (length bs - 1) (0, 0))
last_end-last bs from some = last_end-get bs from (length bs - 1) (0, 0) (omega arith)

pub last_end-none : (bs : List Block) (from : ℕ) → length bs ≡ 0 → last_end from bs ≡ from
last_end-none [] from none = refl
last_end-none (b ∷ bs) from none = absurd (omega arith)

pub ruleset last_ends = (last_end-last, last_end-none)

-- ---- the first blocks passed over

-- no place is among them
pub free_place-behind : (bs : List Block) (n from size : ℕ) → 0 < size → n ≤ gapless from bs
    → free_place size (last_end from (take n bs)) (drop n bs) ≡ free_place size from bs
free_place-behind bs zero from size some few = refl
free_place-behind [] (suc n) from size some few = absurd (omega arith)
free_place-behind (b ∷ bs) (suc n) from size some few =
    elim (cases_eq b.0 from) [
      | inl same ↦
          let test = eq-eqb _ _ same in
          let fewer : suc n ≤ suc (gapless (block_end b) bs) = rw test at few in
          let past = lt-leb (from + size) b.0 (omega arith) in
          rw past (free_place-behind bs n (block_end b) size some (omega arith))
      | inr other ↦
          let test = differs _ _ other in
          let none : suc n ≤ 0 = rw test at few in
          absurd (omega arith)
    ]

-- their count goes on behind them
pub gapless-behind : (bs : List Block) (n from : ℕ) → n ≤ gapless from bs
    → n + gapless (last_end from (take n bs)) (drop n bs) ≡ gapless from bs
gapless-behind bs zero from few = omega arith
gapless-behind [] (suc n) from few = absurd (omega arith)
gapless-behind (b ∷ bs) (suc n) from few =
    elim (cases_eq b.0 from) [
      | inl same ↦
          let test = eq-eqb _ _ same in
          let fewer : suc n ≤ suc (gapless (block_end b) bs) = rw test at few in
          let rest = gapless-behind bs n (block_end b) (omega arith) in
          rw test (omega arith)
      | inr other ↦
          let test = differs _ _ other in
          let none : suc n ≤ 0 = rw test at few in
          absurd (omega arith)
    ]

-- a turn of the count: over a block that leaves no gap, at one that does, or at the end
pub count_on : (bs : List Block) (i count at total : ℕ) (b : Block) → i < length bs → b ≡ get_or bs i b → b.0 ≡ at
    → count + gapless at (drop i bs) ≡ total → count + 1 + gapless (block_end b) (drop (i + 1) bs) ≡ total
count_on bs i count at total b inside is same h =
    let first = drop_more bs i b inside in
    let test = eq-eqb b.0 at same in
    let turn : gapless at (drop i bs) ≡ suc (gapless (block_end b) (drop (i + 1) bs)) = rw (first, ← is, test) refl in
    omega arith

pub count_here : (bs : List Block) (i count at total : ℕ) (b : Block) → i < length bs → b ≡ get_or bs i b → b.0 ≢ at
    → count + gapless at (drop i bs) ≡ total → count ≡ total
count_here bs i count at total b inside is other h =
    let first = drop_more bs i b inside in
    let test = differs b.0 at other in
    let turn : gapless at (drop i bs) ≡ 0 = rw (first, ← is, test) refl in
    omega arith

pub count_done : (bs : List Block) (i count at total : ℕ) → length bs ≤ i → count + gapless at (drop i bs) ≡ total
    → count ≡ total
count_done bs i count at total all h =
    let nothing = drop_all i bs all in
    let turn : gapless at (drop i bs) ≡ 0 = rw nothing refl in
    omega arith

pub ruleset behind = (free_place-behind, gapless-fits)

pub ruleset counts = (gapless-fits, gapless-behind, count_on, count_here, count_done)

-- ---- blocks that change

first : (bs : List Block) (start end : ℕ) → gapless (cond (nat_eq (length bs) 0) end start) bs ≡ gapless start bs
first [] start end = refl
first (b ∷ bs) start end = let some = differs (suc (length bs)) 0 (omega arith) in rw some refl

-- where the heap begins with its next block, as many leave no gap
pub gapless-first : (h : FlatHeap) (end : ℕ) → gapless (first_address h end) h.blocks ≡ gapless h.start h.blocks
gapless-first h end = first h.blocks h.start end

-- no free place is among the first blocks, so they stay the first
pub gapless-inserted : (bs : List Block) (from : ℕ) (x : Block) → 0 < x.1 → from ≤ x.0 → IsFree bs x.0 x.1
    → IsRising from bs → gapless from bs ≤ gapless from (inserted x bs)
unfolding inserted
gapless-inserted [] from x some low free rises = omega arith
gapless-inserted (b ∷ bs) from x some low free rises =
    elim (cases_eq b.0 from) [
      | inl same ↦
          let test = eq-eqb _ _ same in
          let after : block_end b ≤ x.0 = elim free.0 [ inl before ↦ absurd (omega arith) | inr after ↦ after ] in
          let order = lt-ltb b.0 x.0 (omega (arith, rises.1)) in
          let rest = gapless-inserted bs (block_end b) x some after free.1 rises.2 in
          rw (order, test) (omega arith)
      | inr other ↦ let test = differs _ _ other in rw test (omega arith)
    ]

gapless-past : (bs : List Block) (from end : ℕ) → from < end → IsRising end bs → gapless from bs ≡ 0
gapless-past [] from end less rises = refl
gapless-past (b ∷ bs) from end less rises = let test = differs b.0 from (omega (arith, rises.0)) in rw test refl

-- a block taken away leaves a gap
gapless-remove : (bs : List Block) (from i : ℕ) → IsRising from bs → i < length bs
    → gapless from (remove bs i) ≡ min (gapless from bs) i
gapless-remove [] from i rises inside = absurd (omega arith)
gapless-remove (b ∷ bs) from zero rises inside =
    let past = gapless-past bs from (block_end b) (omega (arith, rises.0, rises.1)) rises.2 in
    omega arith
gapless-remove (b ∷ bs) from (suc i) rises inside =
    elim (cases_eq b.0 from) [
      | inl same ↦
          let test = eq-eqb _ _ same in
          let rest = gapless-remove bs (block_end b) i rises.2 (omega arith) in
          rw test (omega arith)
      | inr other ↦ let test = differs _ _ other in rw test (omega arith)
    ]

-- the count that is kept, once a block is taken away
pub gapless-kept : (bs left : List Block) (from i kept least : ℕ) → least ≡ min kept i → kept ≡ gapless from bs
    → left ≡ remove bs i → IsRising from bs → i < length bs → least ≡ gapless from left
gapless-kept bs left from i kept least least_is kept_is left_is rises inside =
    let rest = gapless-remove bs from i rises inside in
    rw left_is (omega arith)

pub ruleset additions = (gapless-first, gapless-inserted)
