-- The first free place is the least one, and how the search comes to it.
use Rattle.std.proofs.Common.{◌≡◌, inl, inr, ◌<◌, ◌≤◌, ◌+◌, ℕ, zero, suc, false, List, [], ◌∷◌, length, drop, get_or}
use Rattle.std.proofs.Common.{refl, sym, ◌∙◌, arith, cond, eqb as nat_eq}
use Rattle.std.specs.List.{AllPairs}
use Rattle.std.proofs.lemmas.List.{drop_more, drop_all}
use Rattle.std.proofs.lemmas.Bool.{cases_lt, le-leb, lt-leb}
use Rattle.std.proofs.lemmas.Bool.Decides.{nat_tests}
use Rattle.heap_blocks.specs.Heap.{Block, FlatHeap, IsRising, IsEndedBy, IsSound, block_end, first_address, free_place}
use Rattle.heap_blocks.specs.Relations.{IsFreePlace, AreApart, IsFree}

-- what ends at or before the first block is free
free_before : (bs : List Block) (from at n : ℕ) → IsRising from bs → at + n ≤ from → IsFree bs at n
free_before [] from at n rises h = tt
free_before (b ∷ bs) from at n rises h =
    (inl (omega (arith, rises.0)), free_before bs (block_end b) at n rises.2 (omega (arith, rises.0, rises.1)))

-- the place found is free and not below the address at which the search begins
place_is_free : (bs : List Block) (from n : ℕ) → IsRising from bs → IsFree bs (free_place n from bs) n
    × (from ≤ free_place n from bs)
place_is_free [] from n rises = (tt, omega arith)
place_is_free (b ∷ bs) from n rises =
    elim (cases_lt b.0 (from + n)) [
      | inl less ↦
          let test = lt-leb _ _ less in
          let rest = place_is_free bs (block_end b) n rises.2 in
          rw test ((inr rest.1, rest.0), omega (arith, rest.1, rises.0))
      | inr most ↦
          let test = le-leb _ _ most in
          rw test ((inl most, free_before bs (block_end b) from n rises.2 (omega (arith, rises.1))), omega arith)
    ]

-- no free place of as many bytes is below it
place_is_first : (bs : List Block) (from n at : ℕ) → 0 < n → IsRising from bs → from ≤ at → IsFree bs at n
    → free_place n from bs ≤ at
place_is_first [] from n at some rises h free = h
place_is_first (b ∷ bs) from n at some rises h free =
    elim (cases_lt b.0 (from + n)) [
      | inl less ↦
          let test = lt-leb _ _ less in
          rw test (elim free.0 [
            | inl before ↦ absurd (omega arith)
            | inr after ↦ place_is_first bs (block_end b) n at some rises.2 after free.1
          ])
      | inr most ↦ let test = le-leb _ _ most in rw test h
    ]

suc-eq-zero : (n : ℕ) → nat_eq (suc n) 0 ≡ false
suc-eq-zero n = grind (arith, nat_tests)

first_address_rises : (end start : ℕ) (bs : List Block) → IsRising start bs
    → IsRising (cond (nat_eq (length bs) 0) end start) bs
first_address_rises end start [] rises = tt
first_address_rises end start (b ∷ bs) rises = let some : nat_eq (suc (length bs)) 0 ≡ false =
    suc-eq-zero (length bs) in rw some rises

-- the free place after the start of a heap is the least place, or there is none
pub free_place_is_least : (h : FlatHeap) (end n ceiling at : ℕ) → at ≡ free_place n (first_address h end) h.blocks
    → 0 < n → IsRising h.start h.blocks → at + n ≤ ceiling → IsFreePlace h end n ceiling at
    × ((other : ℕ) → IsFreePlace h end n ceiling other → at ≤ other)
free_place_is_least h end n ceiling at is some rises fits =
    let from = first_address_rises end h.start h.blocks rises in
    let found = place_is_free h.blocks (first_address h end) n from in
    rw is (
      record { start = found.1; ends = omega arith; free = found.0 },
      λ other f. place_is_first h.blocks (first_address h end) n other some from f.start f.free,
    )

pub free_place_is_none : (h : FlatHeap) (end n ceiling at : ℕ) → at ≡ free_place n (first_address h end) h.blocks
    → 0 < n → IsRising h.start h.blocks → ceiling < at + n → (other : ℕ) → IsFreePlace h end n ceiling other → ⊥
free_place_is_none h end n ceiling at is some rises past other f =
    omega (
      arith,
      place_is_first h.blocks (first_address h end) n other some
          (first_address_rises end h.start h.blocks rises) f.start f.free,
      f.ends,
    )

-- a turn of the search: past a block, at a free place before one, or at the end
pub turn_on : (bs : List Block) (i n at total : ℕ) (b : Block) → i < length bs → b ≡ get_or bs i b → b.0 < at + n
    → free_place n at (drop i bs) ≡ total → free_place n (block_end b) (drop (i + 1) bs) ≡ total
turn_on bs i n at total b inside is less h =
    let first = drop_more bs i b inside in
    let test = lt-leb (at + n) b.0 less in
    let turn : free_place n at (drop i bs) ≡ free_place n (block_end b) (drop (i + 1) bs) =
    rw (first, ← is, test) refl in
    sym turn ∙ h

pub turn_here : (bs : List Block) (i n at total : ℕ) (b : Block) → i < length bs → b ≡ get_or bs i b → at + n ≤ b.0
    → free_place n at (drop i bs) ≡ total → at ≡ total
turn_here bs i n at total b inside is most h =
    let first = drop_more bs i b inside in
    let test = le-leb (at + n) b.0 most in
    let turn : free_place n at (drop i bs) ≡ at = rw (first, ← is, test) refl in
    sym turn ∙ h

pub turn_done : (bs : List Block) (i n at total : ℕ) → length bs ≤ i → free_place n at (drop i bs) ≡ total → at ≡ total
turn_done bs i n at total all h =
    let nothing = drop_all i bs all in
    let turn : free_place n at (drop i bs) ≡ at = rw nothing refl in
    sym turn ∙ h

pub ruleset place_turns = (turn_on, turn_here, turn_done)

-- ---- any two blocks

IsRising-get : (bs : List Block) (from k : ℕ) (d : Block) → IsRising from bs → k < length bs
    → (from ≤ (get_or bs k d).0) × (0 < (get_or bs k d).1)
IsRising-get [] from k d rises h = absurd (omega arith)
IsRising-get (b ∷ bs) from zero d rises h = (rises.0, rises.1)
IsRising-get (b ∷ bs) from (suc k) d rises h =
    let rest = IsRising-get bs (block_end b) k d rises.2 (omega arith) in
    (omega (arith, rises.0, rest.0), rest.1)

IsEndedBy-get : (bs : List Block) (limit k : ℕ) (d : Block) → IsEndedBy limit bs → k < length bs
    → block_end (get_or bs k d) ≤ limit
IsEndedBy-get [] limit k d ends h = absurd (omega arith)
IsEndedBy-get (b ∷ bs) limit zero d ends h = ends.0
IsEndedBy-get (b ∷ bs) limit (suc k) d ends h = IsEndedBy-get bs limit k d ends.1 (omega arith)

IsRising-apart : (bs : List Block) (from : ℕ) → IsRising from bs → AllPairs (λ a b. block_end a ≤ b.0) bs
IsRising-apart [] from rises i j d less h = absurd (omega arith)
IsRising-apart (b ∷ bs) from rises zero zero d less h = absurd (omega arith)
IsRising-apart (b ∷ bs) from rises zero (suc j) d less h = (IsRising-get bs (block_end b) j d rises.2 (omega arith)).0
IsRising-apart (b ∷ bs) from rises (suc i) zero d less h = absurd (omega arith)
IsRising-apart (b ∷ bs) from rises (suc i) (suc j) d less h =
    IsRising-apart bs (block_end b) rises.2 i j d (omega arith) (omega arith)

pub are_apart : (h : FlatHeap) → IsSound h → AreApart h
are_apart h sound = record {
  each = λ k d i. let in_order = IsRising-get h.blocks h.start k d sound.rises i in
      (in_order.0, in_order.1, omega (arith, IsEndedBy-get h.blocks 0xFFFFFFFF k d sound.ends i));
  apart = IsRising-apart h.blocks h.start sound.rises;
}
