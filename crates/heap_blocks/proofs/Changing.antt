-- A block put in or taken away leaves the others in order and apart.
use Rattle.std.proofs.Common.{◌≡◌, ◌≢◌, inl, inr, ◌<◌, ◌≤◌, ◌+◌, ℕ, zero, suc, false, List, [], ◌∷◌, length, get_or}
use Rattle.std.proofs.Common.{Some, None, refl, ap, arith, eqb as nat_eq, eq-eqb}
use Rattle.std.proofs.lemmas.Bool.{cases_lt, lt-ltb, le-ltb}
use Rattle.std.proofs.lemmas.Bool.Decides.{nat_tests}
use Rattle.std.specs.List.{insert, remove}
use Rattle.std.specs.List.Sorted.{IsNonDecreasingBy}
use Rattle.heap_blocks.specs.Heap.{Block, FlatHeap, IsRising, IsEndedBy, IsSound, block_end, inserted, other_blocks}
use Rattle.heap_blocks.specs.Relations.{IsFree}

-- ---- a block put in

pub IsRising-inserted : (bs : List Block) (from : ℕ) (x : Block) → 0 < x.1 → from ≤ x.0 → IsFree bs x.0 x.1
    → IsRising from bs → IsRising from (inserted x bs)
unfolding inserted
IsRising-inserted [] from x some low free rises = (low, some, tt)
IsRising-inserted (b ∷ bs) from x some low free rises =
    elim (cases_lt b.0 x.0) [
      | inl less ↦
          let test = lt-ltb _ _ less in
          rw test (
            rises.0,
            rises.1,
            IsRising-inserted bs (block_end b) x some
                (elim free.0 [ inl before ↦ absurd (omega arith) | inr after ↦ after ]) free.1 rises.2,
          )
      | inr most ↦
          let test = le-ltb _ _ most in
          rw test (
            low,
            some,
            (
              elim free.0 [ inl before ↦ before | inr after ↦ absurd (omega (arith, rises.1)) ],
              rises.1,
              rises.2,
            ),
          )
    ]

pub IsEndedBy-inserted : (bs : List Block) (limit : ℕ) (x : Block) → block_end x ≤ limit → IsEndedBy limit bs
    → IsEndedBy limit (inserted x bs)
unfolding inserted
IsEndedBy-inserted [] limit x h ends = (h, tt)
IsEndedBy-inserted (b ∷ bs) limit x h ends =
    elim (cases_lt b.0 x.0) [
      | inl less ↦ let test = lt-ltb _ _ less in rw test (ends.0, IsEndedBy-inserted bs limit x h ends.1)
      | inr most ↦ let test = le-ltb _ _ most in rw test (h, ends)
    ]

pub length-inserted : (bs : List Block) (x : Block) → length (inserted x bs) ≡ length bs + 1
unfolding inserted
length-inserted [] x = refl
length-inserted (b ∷ bs) x =
    elim (cases_lt b.0 x.0) [
      | inl less ↦ let test = lt-ltb _ _ less in rw test (omega (arith, length-inserted bs x))
      | inr most ↦ let test = le-ltb _ _ most in rw test (omega arith)
    ]

-- its index is the number of blocks that begin below it
pub inserted-at : (bs : List Block) (i : ℕ) (x : Block) → i ≤ length bs
    → ((k : ℕ) → k < i → (get_or bs k (0, 0)).0 < x.0) → (i < length bs → x.0 ≤ (get_or bs i (0, 0)).0)
    → inserted x bs ≡ insert bs i x
unfolding inserted
inserted-at [] i x inside below above = grind arith
inserted-at (b ∷ bs) zero x inside below above = let test = le-ltb _ _ (above (omega arith)) in rw test refl
inserted-at (b ∷ bs) (suc i) x inside below above =
    let test = lt-ltb _ _ (below 0 (omega arith)) in
    let rest = inserted-at bs i x (omega arith) (λ k h. below (suc k) (omega arith)) (λ h. above (omega arith)) in
    rw test (ap (λ (ys : List Block). b ∷ ys) rest)

-- ---- a block taken away

pub IsRising-lower : (bs : List Block) (from to : ℕ) → to ≤ from → IsRising from bs → IsRising to bs
IsRising-lower [] from to le rises = tt
IsRising-lower (b ∷ bs) from to le rises = (omega (arith, rises.0), rises.1, rises.2)

pub IsRising-remove : (bs : List Block) (from i : ℕ) → IsRising from bs → IsRising from (remove bs i)
IsRising-remove [] from zero rises = tt
IsRising-remove [] from (suc i) rises = tt
IsRising-remove (b ∷ bs) from zero rises = IsRising-lower bs (block_end b) from (omega (arith, rises.0)) rises.2
IsRising-remove (b ∷ bs) from (suc i) rises = (rises.0, rises.1, IsRising-remove bs (block_end b) i rises.2)

pub IsEndedBy-remove : (bs : List Block) (limit i : ℕ) → IsEndedBy limit bs → IsEndedBy limit (remove bs i)
IsEndedBy-remove [] limit zero ends = tt
IsEndedBy-remove [] limit (suc i) ends = tt
IsEndedBy-remove (b ∷ bs) limit zero ends = ends.1
IsEndedBy-remove (b ∷ bs) limit (suc i) ends = (ends.0, IsEndedBy-remove bs limit i ends.1)

pub IsRising-none : (bs : List Block) (from : ℕ) → length bs ≡ 0 → IsRising from bs
IsRising-none [] from h = tt
IsRising-none (b ∷ bs) from h = absurd (omega arith)

-- a heap that keeps blocks is sound without one
pub IsSound-remove : (h : FlatHeap) (i : ℕ) (bs : List Block) → bs ≡ remove h.blocks i → 0 < length bs → IsSound h
    → IsSound (record { start = h.start; blocks = bs })
IsSound-remove h i bs is some sound = record {
  rises = rw is (IsRising-remove h.blocks h.start i sound.rises);
  ends = rw is (IsEndedBy-remove h.blocks 0xFFFFFFFF i sound.ends);
  none = λ none. absurd (omega arith);
}

differs : (a b : ℕ) → a ≢ b → nat_eq a b ≡ false
differs a b h = grind (arith, nat_tests)

-- no block begins below all of them
without-low : (bs : List Block) (from at : ℕ) → IsRising from bs → at < from → other_blocks at bs ≡ None
unfolding other_blocks
without-low [] from at rises h = refl
without-low (b ∷ bs) from at rises h =
    let test = differs b.0 at (omega (arith, rises.0)) in
    let rest = without-low bs (block_end b) at rises.2 (omega (arith, rises.0)) in
    rw (test, rest) refl

-- a block found where so many begin below the address, and none found
pub without-found : (bs : List Block) (i at : ℕ) → i < length bs → ((k : ℕ) → k < i → (get_or bs k (0, 0)).0 < at)
    → (get_or bs i (0, 0)).0 ≡ at → other_blocks at bs ≡ Some (remove bs i)
unfolding other_blocks
without-found [] i at inside below same = absurd (omega arith)
without-found (b ∷ bs) zero at inside below same = let test = eq-eqb b.0 at same in rw test refl
without-found (b ∷ bs) (suc i) at inside below same =
    let test = differs b.0 at (omega (arith, below 0 (omega arith))) in
    let rest = without-found bs i at (omega arith) (λ k h. below (suc k) (omega arith)) same in
    rw (test, rest) refl

pub without-missing : (bs : List Block) (from i at : ℕ) → IsRising from bs → i ≤ length bs
    → ((k : ℕ) → k < i → (get_or bs k (0, 0)).0 < at) → (i < length bs → at < (get_or bs i (0, 0)).0)
    → other_blocks at bs ≡ None
unfolding other_blocks
without-missing [] from i at rises inside below above = refl
without-missing (b ∷ bs) from zero at rises inside below above =
    let less : at < b.0 = above (omega arith) in
    let test = differs b.0 at (omega arith) in
    let rest = without-low bs (block_end b) at rises.2 (omega arith) in
    rw (test, rest) refl
without-missing (b ∷ bs) from (suc i) at rises inside below above =
    let test = differs b.0 at (omega (arith, below 0 (omega arith))) in
    let rest = without-missing bs (block_end b) i at rises.2 (omega arith) (λ k h. below (suc k) (omega arith))
    (λ h. above (omega arith)) in
    rw (test, rest) refl

-- ---- the order of the addresses

IsRising-get : (bs : List Block) (from k : ℕ) (d : Block) → IsRising from bs → k < length bs → from ≤ (get_or bs k d).0
IsRising-get [] from k d rises h = absurd (omega arith)
IsRising-get (b ∷ bs) from zero d rises h = rises.0
IsRising-get (b ∷ bs) from (suc k) d rises h = let rest = IsRising-get bs (block_end b) k d rises.2 (omega arith) in
    omega (arith, rises.0, rest)

pub IsRising-IsNonDecreasingBy : (bs : List Block) (from : ℕ) → IsRising from bs → IsNonDecreasingBy (λ b. b.0) bs
IsRising-IsNonDecreasingBy [] from rises i j d le h = absurd (omega arith)
IsRising-IsNonDecreasingBy (b ∷ bs) from rises zero zero d le h = omega arith
IsRising-IsNonDecreasingBy (b ∷ bs) from rises zero (suc j) d le h = let rest =
    IsRising-get bs (block_end b) j d rises.2 (omega arith) in omega (arith, rest)
IsRising-IsNonDecreasingBy (b ∷ bs) from rises (suc i) zero d le h = absurd (omega arith)
IsRising-IsNonDecreasingBy (b ∷ bs) from rises (suc i) (suc j) d le h =
    IsRising-IsNonDecreasingBy bs (block_end b) rises.2 i j d (omega arith) (omega arith)

pub ruleset add_facts = (
  inserted-at,
  IsRising-inserted,
  IsEndedBy-inserted,
  length-inserted,
  IsRising-none,
  IsRising-lower,
)

pub ruleset free_facts = (IsRising-remove, IsEndedBy-remove, IsRising-none, IsRising-lower)

pub ruleset without_facts = (without-found, without-missing)
