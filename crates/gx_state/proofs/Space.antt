-- Memory of another size, and the blocks of its heap.
use Rattle.std.proofs.Common.{◌≡◌, ◌≤◌, ◌<◌, ◌%◌, ℕ, suc, ◌==◌, Bool, true, false, List, [], ◌∷◌, length, take, Option}
use Rattle.std.proofs.Common.{Some, None, refl, ap, subst, sym, ◌∙◌, arith, if◌then◌else◌}
use Rattle.std.specs.Option.{option_map}
use Rattle.std.proofs.lemmas.Grind.{common_steps}
use Rattle.std.proofs.lemmas.List.{take-take}
use Rattle.std.proofs.lemmas.Bool.Decides.{nat_tests}
use Rattle.gx_pages.specs.Memory.{IsSize, resized}
use Rattle.heap_blocks.specs.Heap as heaps
use Rattle.heap_blocks.specs.Heap.{Block, FlatHeap, IsEndedBy, IsHeapBelow, is_inactive, other_blocks, with_block}
use Rattle.heap_blocks.specs.Heap.{freed}
use Rattle.heap_blocks.specs.Heap.{first_address, HeldHeap}
use Rattle.heap_blocks.specs.Relations.{Frees}
use Rattle.gx_state.specs.Sound.{IsHeapWithin}

-- memory below RAMSTART
pub rom_cut : (m rom : List ℕ) (n size : ℕ) → take n m ≡ rom → n ≤ size → take n (take size m) ≡ rom
rom_cut m rom n size same below = take-take n size m below ∙ same

pub rom_grown : (m rom : List ℕ) (n size : ℕ) → take n m ≡ rom → n ≤ length m → length m ≤ size
    → take n (resized m size) ≡ rom
rom_grown m rom n size same below above = grind (arith, common_steps, same)

-- the heap in larger memory
ends_higher : (bs : List Block) (low high : ℕ) → low ≤ high → IsEndedBy low bs → IsEndedBy high bs
ends_higher [] low high le ends = tt
ends_higher (b ∷ bs) low high le ends = (omega (arith, ends.0), ends_higher bs low high le ends.1)

pub heap_grown : (endmem size size' : ℕ) (heap : FlatHeap) → IsHeapWithin endmem size heap → size ≤ size'
    → IsHeapWithin endmem size' heap
heap_grown endmem size size' heap fits le =
    record {
      blocks = fits.blocks;
      begins = fits.begins;
      whole = fits.whole;
      within = record {
        start = omega (arith, fits.within.start);
        ends = ends_higher heap.blocks size size' le fits.within.ends;
      };
    }

-- the heap in smaller memory
pub heap_cut : (endmem size size' : ℕ) (heap : FlatHeap) → IsHeapWithin endmem size heap → IsHeapBelow size' heap
    → IsHeapWithin endmem size' heap
heap_cut endmem size size' heap fits within =
    record { blocks = fits.blocks; begins = fits.begins; whole = fits.whole; within = within }

pub ruleset sizes = (rom_cut, rom_grown, heap_grown, heap_cut)

-- what holds of memory and its heap
pub record MemoryFits (m rom : List ℕ) (n endmem : ℕ) (heap : FlatHeap) : Type 0 where
  pub size : IsSize (length m)
  pub above : endmem ≤ length m
  pub rom_kept : take n m ≡ rom
  pub fits : IsHeapWithin endmem (length m) heap

pub grown : (m m' rom : List ℕ) (n endmem size : ℕ) (heap : FlatHeap) → take n m ≡ rom → n ≤ endmem
    → endmem ≤ length m → IsHeapWithin endmem (length m) heap
    → IsSize size → length m ≤ size → m' ≡ resized m size → length m' ≡ size → MemoryFits m' rom n endmem heap
grown m m' rom n endmem size heap same below least fits whole more is long =
    record {
      size = rw long whole;
      above = omega (arith, long);
      rom_kept = rw is (rom_grown m rom n size same (omega arith) more);
      fits = heap_grown endmem (length m) (length m') heap fits (omega (arith, long));
    }

more_than_none : (n : ℕ) → (suc n == 0) ≡ false
more_than_none n = grind (arith, nat_tests)

-- the heap with a block more
low_fits : (start endmem end : ℕ) (bs : List Block) → (0 < length bs → endmem ≤ start) → start % 256 ≡ 0
    → end % 256 ≡ 0 → endmem ≤ end
    → (endmem ≤ first_address (record { start = start; blocks = bs }) end)
    × (first_address (record { start = start; blocks = bs }) end % 256 ≡ 0)
low_fits start endmem end [] begins whole page above = (above, page)
low_fits start endmem end (b ∷ bs) begins whole page above =
    rw (more_than_none (length bs)) (begins (omega arith), whole)

pub heap_entered : (endmem size end at n : ℕ) (h new : FlatHeap) → IsHeapWithin endmem size h
    → new ≡ with_block h end (at, n) → heaps.IsSound new → IsHeapBelow size new
    → end % 256 ≡ 0 → endmem ≤ end → IsHeapWithin endmem size new
heap_entered endmem size end at n h new fits is sound within page above =
    let facts = low_fits h.start endmem end h.blocks fits.begins fits.whole page above in
    let start = ap (λ (g : FlatHeap). g.start) is in
    record {
      blocks = sound;
      begins = λ some. rw start facts.0;
      whole = rw start facts.1;
      within = within;
    }

-- the heap with a block less
some_block : (bs rest : List Block) (at : ℕ) → other_blocks at bs ≡ Some rest → 0 < length bs
unfolding other_blocks
some_block [] rest at is = absurd cc
some_block (b ∷ bs) rest at is = omega arith

-- the heap with these blocks left
abbrev with_rest : FlatHeap → List Block → FlatHeap
with_rest h rest = record { start = if length rest == 0 then 0 else h.start; blocks = rest }

-- what is left, and whether it is none
pub record Leaves (h : FlatHeap) (new : FlatHeap) (last : Bool) : Type 0 where
  pub some : 0 < length h.blocks
  pub rest : new ≡ with_rest h new.blocks
  pub ends : last ≡ is_inactive new

leaves_by : (h new : HeldHeap) (at : ℕ) (last : Bool) (rest : Option (List Block)) → other_blocks at h.heap.blocks
    ≡ rest → Frees h new (option_map (with_rest h.heap) rest) (Some last) → Leaves h.heap new.heap last
leaves_by h new at last None is frees = absurd cc
leaves_by h new at last (Some rest) is frees =
    record {
      some = some_block h.heap.blocks rest at is;
      rest = cc;
      ends = cc;
    }

pub leaves : (h new : HeldHeap) (at : ℕ) (last : Bool) → Frees h new (freed h.heap at) (Some last)
    → Leaves h.heap new.heap last
leaves h new at last frees = leaves_by h new at last (other_blocks at h.heap.blocks) refl frees

-- the last block
none_left : (endmem : ℕ) (h : FlatHeap) (bs : List Block) → heaps.IsSound (with_rest h bs)
    → true ≡ is_inactive (with_rest h bs) → IsHeapWithin endmem h.start (with_rest h bs)
none_left endmem h [] sound last =
    record {
      blocks = sound;
      begins = λ some. absurd (omega arith);
      whole = refl;
      within = record { start = omega arith; ends = tt };
    }
none_left endmem h (b ∷ bs) sound last = absurd (grind (arith, nat_tests, last))

pub heap_ended : (endmem : ℕ) (h new : FlatHeap) → Leaves h new true → heaps.IsSound new
    → IsHeapWithin endmem h.start new
heap_ended endmem h new leaves sound =
    subst (λ (g : FlatHeap). IsHeapWithin endmem h.start g) (sym leaves.rest)
    (none_left endmem h new.blocks (subst heaps.IsSound leaves.rest sound)
    (subst (λ (g : FlatHeap). true ≡ is_inactive g) leaves.rest leaves.ends))

-- a block that isn't the last
some_left : (endmem size : ℕ) (h : FlatHeap) (bs : List Block) → IsHeapWithin endmem size h → 0 < length h.blocks
    → heaps.IsSound (with_rest h bs) → IsHeapBelow size (with_rest h bs) → false ≡ is_inactive (with_rest h bs)
    → IsHeapWithin endmem size (with_rest h bs)
some_left endmem size h [] fits some sound within last = absurd (grind (arith, nat_tests, last))
some_left endmem size h (b ∷ bs) fits some sound within last =
    let start : (with_rest h (b ∷ bs)).start ≡ h.start = rw (more_than_none (length bs)) refl in
    record { blocks = sound; begins = λ _. rw start (fits.begins some); whole = rw start fits.whole; within = within }

pub heap_left : (endmem size : ℕ) (h new : FlatHeap) → IsHeapWithin endmem size h → Leaves h new false
    → heaps.IsSound new → IsHeapBelow size new → IsHeapWithin endmem size new
heap_left endmem size h new fits leaves sound within =
    subst (IsHeapWithin endmem size) (sym leaves.rest)
    (some_left endmem size h new.blocks fits leaves.some (subst heaps.IsSound leaves.rest sound)
    (subst (IsHeapBelow size) leaves.rest within)
    (subst (λ (g : FlatHeap). false ≡ is_inactive g) leaves.rest leaves.ends))

pub freed_last : (m m' rom : List ℕ) (n endmem at start : ℕ) (h new : HeldHeap) (last : Bool) → IsSize (length m)
    → take n m ≡ rom → n ≤ endmem → IsHeapWithin endmem (length m) h.heap
    → Frees h new (freed h.heap at) (Some last) → last ≡ true → heaps.IsSound new.heap → start ≡ h.heap.start
    → m' ≡ take start m → length m' ≡ start → MemoryFits m' rom n endmem new.heap
freed_last m m' rom n endmem at start h new last size same below fits frees is sound begins cut long =
    let left = subst (Leaves h.heap new.heap) is (leaves h new at last frees) in
    let there : length m' ≡ h.heap.start = long ∙ begins in
    let least = fits.begins left.some in
    record {
      size = record { whole = rw there fits.whole; capped = omega (arith, there, fits.within.start, size.capped) };
      above = omega (arith, there, least);
      rom_kept = rw cut (rom_cut m rom n start same (omega (arith, begins, least)));
      fits = rw there (heap_ended endmem h.heap new.heap left sound);
    }

pub freed_other : (endmem size at : ℕ) (h new : HeldHeap) (last : Bool) → IsHeapWithin endmem size h.heap
    → Frees h new (freed h.heap at) (Some last) → last ≡ false → heaps.IsSound new.heap → IsHeapBelow size new.heap
    → IsHeapWithin endmem size new.heap
freed_other endmem size at h new last fits frees is sound within =
    heap_left endmem size h.heap new.heap fits (subst (Leaves h.heap new.heap) is (leaves h new at last frees)) sound
    within
