-- Memory of another size, and what a store in it makes.
use Rattle.std.proofs.Common.{◌≡◌, ◌≤◌, ◌<◌, ◌+◌, ◌-◌, ◌%◌, ℕ, List, [], ◌∷◌, ◌++◌, length, take, drop, Result, Ok}
use Rattle.std.proofs.Common.{Err, IsOk, refl, ap, subst, sym, ◌∙◌, arith, nat_lt, if◌then◌else◌}
use Rattle.std.proofs.lemmas.Grind.{common_steps}
use Rattle.std.proofs.lemmas.List.{take-take, length-take-le, drop-take}
use Rattle.std.proofs.Math.Seq.{take-append-add}
use Rattle.std.proofs.lemmas.Bool.Decides.{nat_tests}
use Rattle.gx_words.specs.declared.faults.Fault.{Fault}
use Rattle.gx_words.specs.declared.faults.Fault.TheVariants.{BadAddress, ReadOnly}
use Rattle.gx_words.specs.Constants.{ceiling}
use Rattle.gx_words.specs.Numbers.{spliced, bytes_of_number}
use Rattle.gx_words.specs.Results.{◌>>=◌}
use Rattle.gx_pages.specs.Memory.{IsSize, resized}
use Rattle.heap_blocks.specs.Heap.{Block, FlatHeap, IsSound, IsEndedBy, IsHeapBelow}
use Rattle.heap_blocks.specs.Relations.{IsFreePlace}
use Rattle.gx_state.specs.declared.modes.Dest.{Dest}
use Rattle.gx_state.specs.declared.modes.Dest.TheVariants.{Nowhere, Memory, Local, Push}
use Rattle.gx_state.specs.Flat.{FlatState, cut}
use Rattle.gx_state.specs.Sound as states
use Rattle.gx_state.specs.Space.{with_size}
use Rattle.gx_state.specs.Allowed.{IsNewBlock, IsShrinking}
use Rattle.gx_state.specs.Stores.{IsMemory, store_fault}
use Rattle.gx_operands.specs.Stores.{settled, with_settled}

-- memory of another size
resized_length : (m : List ℕ) (size : ℕ) → length (resized m size) ≡ size
resized_length m size = grind (arith, common_steps)

pub size_set : (f : FlatState) (size : ℕ) → length (with_size f size).memory ≡ size
size_set f size = resized_length f.memory size

resized_back : (m : List ℕ) (size : ℕ) → length m ≤ size → resized (resized m size) (length m) ≡ m
resized_back m size above = grind (arith, common_steps)

pub size_back : (f : FlatState) (size before : ℕ) → before ≡ length f.memory → before ≤ size
    → with_size (with_size f size) before ≡ f
size_back f size before is above =
    ap (λ (m : List ℕ). record f { memory = m })
    (ap (resized (resized f.memory size)) is ∙ resized_back f.memory size (omega (arith, is)))

pub store_in : (f : FlatState) (size at sp : ℕ) → store_fault (with_size f size) 4 (Memory at) sp
    ≡ (if nat_lt size (at + 4) then Err BadAddress else if nat_lt at f.story.header.ramstart then Err ReadOnly
    else Ok tt)
unfolding store_fault
store_in f size at sp = rw (size_set f size) refl

pub store_elsewhere : (f : FlatState) (size sp : ℕ) (d : Dest) → (IsMemory d → ⊥)
    → store_fault (with_size f size) 4 d sp ≡ store_fault f 4 d sp
unfolding store_fault
store_elsewhere f size sp Nowhere other = refl
store_elsewhere f size sp (Memory at) other = absurd (other tt)
store_elsewhere f size sp (Local at) other = refl
store_elsewhere f size sp Push other = refl

pub ruleset sizes = (store_in, store_elsewhere)

-- a store leaves memory's size, the heap and the story
pub record Keeps (f g : FlatState) : Type 0 where
  pub size : length g.memory ≡ length f.memory
  pub heap : g.heap ≡ f.heap
  pub story : g.story ≡ f.story

put_over : (m bytes : List ℕ) (at : ℕ) → at + length bytes ≤ length m → length (spliced m at bytes) ≡ length m
put_over m bytes at there = grind (arith, common_steps)

in_memory : (f : FlatState) (at sp : ℕ) → store_fault f 4 (Memory at) sp ≡ Ok tt → at + 4 ≤ length f.memory
unfolding store_fault
in_memory f at sp is = grind (arith, nat_tests)

keeps_by : (f : FlatState) (sp v : ℕ) (d : Dest) → store_fault f 4 d sp ≡ Ok tt → Keeps f (with_settled f sp 4 d v)
keeps_by f sp v Nowhere fits = record { size = refl; heap = refl; story = refl }
keeps_by f sp v (Memory at) fits = record {
  size =
      put_over f.memory (bytes_of_number 4 v) at (in_memory f at sp fits);
  heap = refl;
  story = refl;
}
keeps_by f sp v (Local at) fits = record { size = refl; heap = refl; story = refl }
keeps_by f sp v Push fits = record { size = refl; heap = refl; story = refl }

-- a store that was made has no fault, and made what its definition says
fits_by : (f g : FlatState) (r : Result (Unit {0}) Fault) → (r >>= (λ (x : Unit {0}). Ok f)) ≡ Ok g
    → (r ≡ Ok tt) × (f ≡ g)
fits_by f g (Ok x) is = (refl, cc)
fits_by f g (Err fault) is = absurd cc

settled_is : (f g : FlatState) (sp v : ℕ) (d : Dest) → settled f sp 4 d v ≡ Ok g → (store_fault f 4 d sp ≡ Ok tt)
    × (with_settled f sp 4 d v ≡ g)
unfolding settled
settled_is f g sp v d is = fits_by (with_settled f sp 4 d v) g (store_fault f 4 d sp) is

is_settled : (f : FlatState) (sp v : ℕ) (d : Dest) → store_fault f 4 d sp ≡ Ok tt
    → settled f sp 4 d v ≡ Ok (with_settled f sp 4 d v)
unfolding settled
is_settled f sp v d fits = rw fits refl

pub settled_keeps : (f g : FlatState) (sp v : ℕ) (d : Dest) → settled f sp 4 d v ≡ Ok g → Keeps f g
settled_keeps f g sp v d is =
    let parts = settled_is f g sp v d is in
    subst (Keeps f) parts.1 (keeps_by f sp v d parts.0)

-- memory may shrink after the store as before it
pub shrink_after : (f g : FlatState) (sp v size : ℕ) (d : Dest) → IsShrinking f size → settled f sp 4 d v ≡ Ok g
    → IsShrinking g size
shrink_after f g sp v size d may is =
    let keeps = settled_keeps f g sp v d is in
    record {
      whole = may.whole;
      below = rw keeps.size may.below;
      endmem = rw keeps.story may.endmem;
      heap = rw keeps.heap may.heap;
    }

-- memory that grew may shrink to its size before
pub shrink_back : (f : FlatState) (size before : ℕ) → before ≡ length f.memory → before ≤ size → IsSize before
    → states.IsSound f → IsShrinking (with_size f size) before
shrink_back f size before is above whole sound =
    record {
      whole = whole;
      below = rw (size_set f size) above;
      endmem = rw is sound.endmem;
      heap = rw is sound.heap.within;
    }

-- a store that fits smaller memory fits
fits_larger : (f : FlatState) (sp size : ℕ) (d : Dest) → size ≤ length f.memory
    → store_fault (with_size f size) 4 d sp ≡ Ok tt → store_fault f 4 d sp ≡ Ok tt
unfolding store_fault
fits_larger f sp size Nowhere below fits = fits
fits_larger f sp size (Memory at) below fits = grind (arith, nat_tests, size_set f size)
fits_larger f sp size (Local at) below fits = fits
fits_larger f sp size Push below fits = fits

-- the store and the cut of memory in either order
resized_less : (m : List ℕ) (size : ℕ) → size ≤ length m → resized m size ≡ take size m
resized_less m size below = grind (arith, common_steps)

cut_parts : (m bytes : List ℕ) (at rest : ℕ) → at + (length bytes + rest) ≤ length m
    → take (at + (length bytes + rest)) (spliced m at bytes) ≡ spliced (take (at + (length bytes + rest)) m) at bytes
cut_parts m bytes at rest within =
    let front : length (take at m) ≡ at = length-take-le at m (omega arith) in
    let behind = bytes ++ drop (at + length bytes) m in
    let first : take (at + (length bytes + rest)) (take at m ++ behind)
    ≡ take at m ++ take (length bytes + rest) behind =
    subst (λ (n : ℕ). take (n + (length bytes + rest)) (take at m ++ behind) ≡ take at m
    ++ take (length bytes + rest) behind) front (take-append-add (take at m) behind (length bytes + rest)) in
    let second = take-append-add bytes (drop (at + length bytes) m) rest in
    let low : take at (take (at + (length bytes + rest)) m) ≡ take at m =
    take-take at (at + (length bytes + rest)) m (omega arith) in
    let sum : (at + length bytes) + rest ≡ at + (length bytes + rest) = omega arith in
    let high : drop (at + length bytes) (take (at + (length bytes + rest)) m) ≡ take rest (drop (at + length bytes) m) =
    subst (λ (n : ℕ). drop (at + length bytes) (take n m) ≡ take rest (drop (at + length bytes) m)) sum
    (drop-take (at + length bytes) rest m) in
    first ∙ ap (λ (ys : List ℕ). take at m ++ ys) second ∙ rw (low, high) refl

cut_spliced : (m bytes : List ℕ) (at size : ℕ) → size ≤ length m → at + length bytes ≤ size
    → spliced (resized m size) at bytes ≡ resized (spliced m at bytes) size
cut_spliced m bytes at size below there =
    let rest : at + (length bytes + (size - (at + length bytes))) ≡ size = omega arith in
    let parts = cut_parts m bytes at (size - (at + length bytes)) (omega arith) in
    let taken : take size (spliced m at bytes) ≡ spliced (take size m) at bytes =
    subst (λ (n : ℕ). take n (spliced m at bytes) ≡ spliced (take n m) at bytes) rest parts in
    let long : length (spliced m at bytes) ≡ length m = put_over m bytes at (omega arith) in
    rw (resized_less m size below, resized_less (spliced m at bytes) size (omega (arith, long))) (sym taken)

cut_settled : (f : FlatState) (sp v size : ℕ) (d : Dest) → size ≤ length f.memory
    → store_fault (with_size f size) 4 d sp ≡ Ok tt
    → with_settled (with_size f size) sp 4 d v ≡ with_size (with_settled f sp 4 d v) size
cut_settled f sp v size Nowhere below fits = refl
cut_settled f sp v size (Memory at) below fits =
    let there : at + 4 ≤ size = omega (arith, in_memory (with_size f size) at sp fits, size_set f size) in
    ap (λ (m : List ℕ). record (cut f sp) { memory = m })
    (cut_spliced f.memory (bytes_of_number 4 v) at size below there)
cut_settled f sp v size (Local at) below fits = refl
cut_settled f sp v size Push below fits = refl

pub settled_cut : (f g : FlatState) (sp v size : ℕ) (d : Dest) → size ≤ length f.memory
    → store_fault (with_size f size) 4 d sp ≡ Ok tt → settled f sp 4 d v ≡ Ok g
    → settled (with_size f size) sp 4 d v ≡ Ok (with_size g size)
settled_cut f g sp v size d below fits is =
    let parts = settled_is f g sp v d is in
    is_settled (with_size f size) sp v d fits
    ∙ ap Ok (cut_settled f sp v size d below fits ∙ ap (λ (h : FlatState). with_size h size) parts.1)

pub settled_fits : (f : FlatState) (fault : Fault) (sp v size : ℕ) (d : Dest) → size ≤ length f.memory
    → store_fault (with_size f size) 4 d sp ≡ Ok tt → settled f sp 4 d v ≡ Err fault → ⊥
settled_fits f fault sp v size d below fits is =
    let made = is_settled f sp v d (fits_larger f sp size d below fits) in
    absurd cc

-- a store that fits is made, but for want of memory
pub settled_ok : (f : FlatState) (sp v : ℕ) (d : Dest) → store_fault f 4 d sp ≡ Ok tt → IsOk (settled f sp 4 d v)
unfolding settled
settled_ok f sp v d fits = rw fits refl

pub ruleset shrinks = (shrink_after, settled_cut, settled_fits, settled_ok)

pub ruleset grows = (shrink_back, size_back, settled_ok)

-- a block may be entered in memory that covers it, after the store
pub may_enter : (f g : FlatState) (sp v size end at n : ℕ) (d : Dest) → settled (with_size f size) sp 4 d v ≡ Ok g
    → 0 < n → IsFreePlace f.heap end n ceiling at → at + n ≤ size
    → end % 256 ≡ 0 → f.story.header.endmem ≤ end → IsNewBlock g end at n
may_enter f g sp v size end at n d is some place there whole endmem =
    let keeps = settled_keeps (with_size f size) g sp v d is in
    record {
      some = some;
      start = rw keeps.heap place.start;
      there = omega (arith, keeps.size, size_set f size, there);
      free = rw keeps.heap place.free;
      whole = whole;
      endmem = rw keeps.story endmem;
    }

-- an inactive heap lies anywhere
none_ends : (limit : ℕ) (bs : List Block) → length bs ≡ 0 → IsEndedBy limit bs
none_ends limit [] none = tt
none_ends limit (b ∷ bs) none = absurd (omega arith)

pub none_below : (limit : ℕ) (h : FlatHeap) → IsSound h → length h.blocks ≡ 0 → IsHeapBelow limit h
none_below limit h sound none = record { start = omega (arith, sound.none none); ends = none_ends limit h.blocks none }
