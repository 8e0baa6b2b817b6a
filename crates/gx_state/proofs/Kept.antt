-- What calls keep: the story's bytes below RAMSTART, and the present frame.
use Rattle.std.proofs.Common.{◌≡◌, ◌≤◌, ◌<◌, ◌+◌, ℕ, List, [], ◌∷◌, length, take, Option, Some, None, IfSome, ℤ, Bool}
use Rattle.std.proofs.Common.{true, false, nat_lt, ◌==◌, if◌then◌else◌, Result, Ok, Err, refl, ap, subst, sym, ◌∙◌}
use Rattle.std.proofs.Common.{arith}
use Rattle.std.proofs.lemmas.Grind.{common_steps}
use Rattle.std.proofs.lemmas.List.{take-take}
use Rattle.std.proofs.lemmas.Bool.Decides.{nat_tests}
use Rattle.std.specs.Prelude.{pos, unsigned_abs}
use Rattle.std.specs.Int.{int_rem_euclid}
use Rattle.gx_words.specs.Numbers.{word, spliced, bytes_of_word}
use Rattle.gx_words.specs.Results.{Alters}
use Rattle.gx_pages.specs.Memory.{all_spliced, AreInside}
use Rattle.gx_stack.specs.declared.frames.Frame.{Frame}
use Rattle.gx_stack.specs.declared.faults.StackFault.{StackFault}
use Rattle.gx_stack.specs.declared.faults.StackFault.TheVariants.{Underflow}
use Rattle.gx_stack.specs.Flat.{FlatStack}
use Rattle.gx_stack.specs.Frames.{IsGood, is_good, parts, IsFrame, KeepsFrames}
use Rattle.gx_stack.specs.Calls.{top_stub}
use Rattle.gx_stack.specs.Values.{count, rolled, turned_top}
use Rattle.gx_stack.proofs.Kept.{frame_after_cut, word-take}
use Rattle.heap_blocks.specs.Heap.{FlatHeap}
use Rattle.gx_state.specs.Replies.{AreBetween}
use Rattle.gx_state.specs.Calls.{wrote}
use Rattle.gx_state.specs.Sound.{IsFramed, IsHeapWithin}

-- memory below RAMSTART
take-spliced : (m bytes : List ℕ) (n at : ℕ) → n ≤ at → at ≤ length m → take n (spliced m at bytes) ≡ take n m
take-spliced m bytes n at below there = grind (arith, common_steps)

pub rom_written : (m rom bytes : List ℕ) (n at : ℕ) → take n m ≡ rom
    → (0 < length bytes → (n ≤ at) × (at + length bytes ≤ length m)) → take n (spliced m at bytes) ≡ rom
rom_written m rom [] n at same there = ap (take n) (grind (arith, common_steps)) ∙ same
rom_written m rom (b ∷ bytes) n at same there =
    let some : 0 < length (b ∷ bytes) = omega arith in
    let inside = there some in
    take-spliced m (b ∷ bytes) n at inside.0 (omega arith) ∙ same

put_over : (m bytes : List ℕ) (at : ℕ) → at + length bytes ≤ length m → length (spliced m at bytes) ≡ length m
put_over m bytes at there = grind (arith, common_steps)

-- writes in RAM lie inside memory
pub all_inside : (n size : ℕ) (ws : List (ℕ × List ℕ)) → AreBetween n size ws → AreInside ws size
all_inside n size [] there = tt
all_inside n size (w ∷ ws) there = ((λ some. (there.0 some).1), all_inside n size ws there.1)

-- no byte put anywhere leaves the list
none_put : (m : List ℕ) (at : ℕ) → spliced m at [] ≡ m
none_put m at = grind (arith, common_steps)

size_put : (m bytes : List ℕ) (n at : ℕ) → (0 < length bytes → (n ≤ at) × (at + length bytes ≤ length m))
    → length (spliced m at bytes) ≡ length m
size_put m [] n at there = ap length (none_put m at)
size_put m (b ∷ bytes) n at there = put_over m (b ∷ bytes) at (there (omega arith)).1

pub rom_writes : (m rom : List ℕ) (n size : ℕ) (ws : List (ℕ × List ℕ)) → take n m ≡ rom → length m ≡ size
    → AreBetween n size ws → take n (all_spliced m ws) ≡ rom
rom_writes m rom n size [] same long there = same
rom_writes m rom n size (w ∷ ws) same long there =
    let fits : 0 < length w.1 → (n ≤ w.0) × (w.0 + length w.1 ≤ length m) =
    λ some. subst (λ (s : ℕ). (n ≤ w.0) × (w.0 + length w.1 ≤ s)) (sym long) (there.0 some) in
    rom_writes (spliced m w.0 w.1) rom n size ws (rom_written m rom w.1 n w.0 same fits)
    (size_put m w.1 n w.0 fits ∙ long) there.1

size_writes : (m : List ℕ) (n size : ℕ) (ws : List (ℕ × List ℕ)) → length m ≡ size → AreBetween n size ws
    → length (all_spliced m ws) ≡ size
size_writes m n size [] long there = long
size_writes m n size (w ∷ ws) long there =
    let fits : 0 < length w.1 → (n ≤ w.0) × (w.0 + length w.1 ≤ length m) =
    λ some. subst (λ (s : ℕ). (n ≤ w.0) × (w.0 + length w.1 ≤ s)) (sym long) (there.0 some) in
    size_writes (spliced m w.0 w.1) n size ws (size_put m w.1 n w.0 fits ∙ long) there.1

pub rom_writes_and : (m rom bytes : List ℕ) (n at size : ℕ) (ws : List (ℕ × List ℕ)) → take n m ≡ rom
    → length m ≡ size → AreBetween n size ws → (0 < length bytes → (n ≤ at) × (at + length bytes ≤ size))
    → take n (spliced (all_spliced m ws) at bytes) ≡ rom
rom_writes_and m rom bytes n at size ws same long there last =
    let now = size_writes m n size ws long there in
    rom_written (all_spliced m ws) rom bytes n at (rom_writes m rom n size ws same long there)
    (λ some. subst (λ (s : ℕ). (n ≤ at) × (at + length bytes ≤ s)) (sym now) (last some))

-- the heap in memory of the same size
pub heap_again : (endmem size size' : ℕ) (heap : FlatHeap) → IsHeapWithin endmem size heap → size' ≡ size
    → IsHeapWithin endmem size' heap
heap_again endmem size size' heap fits same = subst (λ (n : ℕ). IsHeapWithin endmem n heap) (sym same) fits

-- the present frame
pub framed_kept : (old new : List ℕ) (fp : ℕ) → 0 < length old → IsFramed old fp → KeepsFrames old new → IsFramed new fp
framed_kept old new fp live framed keeps =
    record {
      good = λ some. (keeps (parts old fp)
          (record { good = framed.good live; locals = refl; values = refl })).good;
    }

pub framed_cut : (bytes : List ℕ) (fp n : ℕ) → 0 < length bytes → IsFramed bytes fp → (parts bytes fp).values ≤ n
    → n ≤ length bytes → IsFramed (take n bytes) fp
framed_cut bytes fp n live framed values there =
    record {
      good = λ some. (frame_after_cut bytes (parts bytes fp) n
          (record { good = framed.good live; locals = refl; values = refl }) values there).good;
    }

pub framed_again : (bytes : List ℕ) (f : Frame) (fp : ℕ) → IsFrame bytes f → f.fp ≡ fp → IsFramed bytes fp
framed_again bytes f fp frame same = record { good = λ some. subst (IsGood bytes) same frame.good }

-- a cut frame begins its values where it did
pub values_cut : (bytes : List ℕ) (fp n : ℕ) → 0 < length bytes → IsFramed bytes fp → (parts bytes fp).values ≤ n
    → n ≤ length bytes → parts (take n bytes) fp ≡ parts bytes fp
values_cut bytes fp n live framed values there =
    let good = framed.good live in
    let header : fp + 8 ≤ n = omega (arith, good.locals, good.order) in
    grind (arith, word-take, header)

pub framed_none : (bytes : List ℕ) (fp : ℕ) → length bytes ≡ 0 → IsFramed bytes fp
framed_none bytes fp none = record { good = λ some. absurd (omega arith) }

pub ruleset writes = (all_inside, rom_writes, rom_writes_and, heap_again)

pub ruleset framed = (framed_kept, framed_cut, framed_again, framed_none, values_cut, heap_again)

pub good_at : (bytes : List ℕ) (at fp : ℕ) → IsGood bytes at → at ≡ fp → IsGood bytes fp
good_at bytes at fp good same = subst (IsGood bytes) same good

-- what the test of a good frame says
pub good_by : (bytes : List ℕ) (fp : ℕ) → is_good bytes fp ≡ true → IsGood bytes fp
good_by bytes fp good = record {
  header = grind (arith, nat_tests, good);
  begins = grind (arith, nat_tests, good);
  aligned = grind (arith, nat_tests, good);
  locals = grind (arith, nat_tests, good);
  order = grind (arith, nat_tests, good);
  whole = grind (arith, nat_tests, good);
}

pub framed_good : (bytes : List ℕ) (fp : ℕ) → IsGood bytes fp → IsFramed bytes fp
framed_good bytes fp good = record { good = λ _. good }

-- what lies below a cut
pub word_below : (bytes : List ℕ) (n a : ℕ) → a + 4 ≤ n → word (take n bytes) a ≡ word bytes a
word_below bytes n a below = word-take bytes n a below

pub take_below : (bytes : List ℕ) (n a : ℕ) → a ≤ n → take a (take n bytes) ≡ take a bytes
take_below bytes n a below = take-take a n bytes below

pub no_stub : (bytes : List ℕ) (sp : ℕ) (fault : StackFault) → top_stub (take sp bytes) ≡ Err fault
    → sp ≤ length bytes → sp < 16
unfolding top_stub
no_stub bytes sp fault none there = grind (arith, common_steps, nat_tests)

pub ruleset below = (word_below, take_below, no_stub)

-- memory with words written in RAM
pub size_word : (m : List ℕ) (w : Option (ℕ × ℕ)) → IfSome w (λ x. x.0 + 4 ≤ length m) → length (wrote m w) ≡ length m
size_word m None there = refl
size_word m (Some w) there = put_over m (bytes_of_word w.1) w.0 there

pub rom_both : (m rom : List ℕ) (n at later v w : ℕ) → take n m ≡ rom → (n ≤ at) × (at + 4 ≤ length m)
    → (n ≤ later) × (later + 4 ≤ length m)
    → take n (spliced (spliced m at (bytes_of_word v)) later (bytes_of_word w)) ≡ rom
rom_both m rom n at later v w same first second =
    let size = put_over m (bytes_of_word v) at first.1 in
    rom_written (spliced m at (bytes_of_word v)) rom (bytes_of_word w) n later
    (rom_written m rom (bytes_of_word v) n at same (λ some. first))
    (λ some. (second.0, omega (arith, second.1, size)))

pub ruleset words = (size_word, rom_both, rom_written, heap_again)

pub ruleset goods = (good_by, framed_good)

pub ruleset local_words = (words, below)

-- a roll leaves the limit
by_tests : (s t : FlatStack) (f : Frame) (n : ℕ) (by : ℤ) (few none : Bool)
    → (let r : Result FlatStack StackFault = if few then Err Underflow else if none then Ok s
    else Ok (record s { bytes = turned_top s.bytes n (unsigned_abs (int_rem_euclid by (pos n))) }) in r ≡ Ok t)
    → t.limit ≡ s.limit
by_tests s t f n by true none is = cc
by_tests s t f n by false true is = cc
by_tests s t f n by false false is = cc

roll_kept : (s t : FlatStack) (f : Frame) (n : ℕ) (by : ℤ) → rolled s f n by ≡ Ok t → t.limit ≡ s.limit
unfolding rolled
roll_kept s t f n by is = by_tests s t f n by (nat_lt (count s.bytes f) n) (n == 0) is

pub roll_limit : (s t : FlatStack) (f : Frame) (n : ℕ) (by : ℤ) (r : Result (Unit {0}) StackFault)
    → Alters r s t (rolled s f n by) → t.limit ≡ s.limit
roll_limit s t f n by (Ok x) is = roll_kept s t f n by is
roll_limit s t f n by (Err fault) is = ap (λ (u : FlatStack). u.limit) is.0

pub ruleset rolling = (framed, roll_limit)
