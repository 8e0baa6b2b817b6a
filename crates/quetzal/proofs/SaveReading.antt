-- What is read of a save: its exits, and that the copy is fit for the story.
use Rattle.std.proofs.Common.{◌≡◌, ◌⊎◌, inl, inr, ◌≤◌, ◌<◌, ◌+◌, ◌-◌, ◌*◌, ◌%◌, ℕ, zero, suc, Bool, true, false, List}
use Rattle.std.proofs.Common.{[], ◌∷◌, ◌++◌, length, take, Result, Ok, Err, IsOk, IsTrue, if◌then◌else◌, refl, sym}
use Rattle.std.proofs.Common.{ap, subst}
use Rattle.std.proofs.Common.{◌∙◌, arith, ltb as nat_lt, leb as nat_le, eqb as nat_eq}
use Rattle.std.specs.Prelude.{◌&&◌}
use Rattle.std.specs.List.{list_all}
use Rattle.std.specs.Result.{result_map_both}
use Rattle.std.proofs.lemmas.Bool.{lt-ltb, leb-true, ltb-true, and_parts, eqb-true}
use Rattle.std.proofs.lemmas.List.{take_at, length-take}
use Rattle.zero_runs.specs.declared.faults.RunFault.{RunFault}
use Rattle.gx_words.specs.Constants.{ceiling}
use Rattle.gx_words.specs.Results.{◌>>=◌}
use Rattle.gx_stack.specs.declared.stubs.Stub.{Stub}
use Rattle.gx_stack.specs.Frames.{is_good, has_local, parts}
use Rattle.gx_stack.specs.Stubs.{stub_below}
use Rattle.heap_blocks.specs.Heap.{Block, FlatHeap, IsRising, IsEndedBy, block_end, inactive}
use Rattle.heap_blocks.proofs.Changing.{length-inserted}
use Rattle.gx_story.specs.Stories.{FlatStory, IsStory}
use Rattle.gx_state.specs.Sound.{IsHeapWithin}
use Rattle.gx_state.specs.Copies.{Copy, IsCopyFor}
use Rattle.quetzal.specs.declared.faults.SaveFault.{SaveFault}
use Rattle.quetzal.specs.declared.faults.SaveFault.TheVariants as fault
use Rattle.quetzal.specs.Faults.{allowed}
use Rattle.quetzal.specs.Chunks.{MemoryBody, Parts, parts_in}
use Rattle.quetzal.specs.Memory.{is_memory_size, size_in, memory_of}
use Rattle.quetzal.specs.Stacks.{is_stack, is_result_place}
use Rattle.quetzal.specs.Blocks.{blocks_from, blocks_in, count_in, has_count, has_no_heap}
use Rattle.quetzal.specs.Blocks.{heap_of, ordered_blocks, rises, start_in}
use Rattle.quetzal.specs.Laws.{is_block, may_meet, ordered, MayMeet}
use Rattle.quetzal.specs.ReadingSaves.{copy_in_save}
use Rattle.quetzal.proofs.Sorting.{both, rises_parts, rises_size, order_none, order_wanted}

-- sizes
pub record Sizes (story : FlatStory) (size : ℕ) : Type 0 where
  pub whole : size % 256 ≡ 0
  pub endmem : story.header.endmem ≤ size
  pub capped : size ≤ ceiling

pub size_parts : (story : FlatStory) (size : ℕ) → is_memory_size ceiling story size ≡ true → Sizes story size
size_parts story size h =
    let a = and_parts _ _ h in
    let b = and_parts _ _ a.0 in
    record { whole = eqb-true _ _ b.0; endmem = leb-true _ _ b.1; capped = leb-true _ _ a.1 }

pub rom_there : (story : FlatStory) (size : ℕ) → IsStory story → is_memory_size ceiling story size ≡ true
    → (story.header.ramstart ≤ size) × (story.header.ramstart ≤ length story.bytes)
rom_there story size good h =
    let s = size_parts story size h in (
      omega (arith, good.ramstart_first, good.extstart_first, s.endmem),
      omega (arith, good.ramstart_first, good.stored_whole),
    )

pub ruleset sizes = (rom_there)

-- memory whole begins as the story does
begins_by : (front m rest : List ℕ) (n : ℕ) → length front ≡ n → front ++ rest ≡ m → take n m ≡ front
begins_by front m rest n len is = ap (take n) (sym is) ∙ take_at front rest n len

unpacked_begins : (front m : List ℕ) (n : ℕ) (r : Result (List ℕ) RunFault) → length front ≡ n
    → result_map_both (λ (ram : List ℕ). front ++ ram) (λ e. fault.Runs) r ≡ Ok m → take n m ≡ front
unpacked_begins front m n (Ok ram) len is = let e : front ++ ram ≡ m = cc in begins_by front m ram n len e
unpacked_begins front m n (Err e) len is = absurd cc

plain_begins : (front m bytes : List ℕ) (n : ℕ) (b : Bool) → length front ≡ n
    → (let r : Result (List ℕ) SaveFault = if b then Ok (front ++ bytes) else Err fault.Runs in r ≡ Ok m)
    → take n m ≡ front
plain_begins front m bytes n true len is = let e : front ++ bytes ≡ m = cc in begins_by front m bytes n len e
plain_begins front m bytes n false len is = absurd cc

memory_by : (story : FlatStory) (memory : MemoryBody) (m : List ℕ) (b : Bool) → memory.is_packed ≡ b
    → length (take story.header.ramstart story.bytes) ≡ story.header.ramstart → memory_of story memory ≡ Ok m
    → take story.header.ramstart m ≡ take story.header.ramstart story.bytes
unfolding memory_of
memory_by story memory m true packed len is =
    unpacked_begins (take story.header.ramstart story.bytes) m story.header.ramstart _ len (rw packed at is)
memory_by story memory m false packed len is =
    plain_begins (take story.header.ramstart story.bytes) m _ story.header.ramstart _ len (rw packed at is)

pub memory_begins : (story : FlatStory) (memory : MemoryBody) (m : List ℕ) → IsStory story
    → is_memory_size ceiling story (size_in memory) ≡ true → memory_of story memory ≡ Ok m
    → take story.header.ramstart m ≡ take story.header.ramstart story.bytes
memory_begins story memory m good fits is =
    let there = (rom_there story (size_in memory) good fits).1 in
    let len : length (take story.header.ramstart story.bytes) ≡ story.header.ramstart =
    omega (arith, there, length-take story.header.ramstart story.bytes) in
    memory_by story memory m memory.is_packed refl len is

-- the heap
in_parts : (bs : List Block) (at size : ℕ) → rises at size bs ≡ true → IsRising at bs × IsEndedBy size bs
in_parts [] at size h = (tt, tt)
in_parts (b ∷ bs) at size h =
    let p = rises_parts b bs at size h in
    let q = in_parts bs (block_end b) size p.2 in
    ((p.0, p.1, q.0), (rises_size bs (block_end b) size p.2, q.1))

ends_higher : (bs : List Block) (low high : ℕ) → low ≤ high → IsEndedBy low bs → IsEndedBy high bs
ends_higher [] low high le ends = tt
ends_higher (b ∷ bs) low high le ends = (omega (arith, ends.0), ends_higher bs low high le ends.1)

length-ordered_blocks : (bs : List Block) → length (ordered_blocks bs) ≡ length bs
unfolding ordered_blocks
length-ordered_blocks [] = refl
length-ordered_blocks (b ∷ bs) = length-inserted (ordered_blocks bs) b ∙ omega (arith, length-ordered_blocks bs)

pub length-blocks_from : (count : ℕ) (body : List ℕ) (at : ℕ) → length (blocks_from count body at) ≡ count
unfolding blocks_from
length-blocks_from zero body at = refl
length-blocks_from (suc count) body at = ap suc (length-blocks_from count body (at + 8))

-- what is asked of a chunk that says that there is a heap
abbrev pub is_heap : FlatStory → ℕ → List ℕ → Bool
is_heap story size body = has_count body && is_memory_size size story (start_in body) && rises (start_in body) size
    (ordered_blocks (blocks_in body))

some_within : (story : FlatStory) (size : ℕ) (body : List ℕ) → size ≤ ceiling → is_heap story size body ≡ true
    → IsHeapWithin story.header.endmem size (record { start = start_in body; blocks = ordered_blocks (blocks_in body) })
some_within story size body capped h =
    let start = start_in body in
    let a = and_parts (has_count body && is_memory_size size story start)
    (rises start size (ordered_blocks (blocks_in body))) h in
    let b = and_parts (has_count body) (is_memory_size size story start) a.0 in
    let count : 0 < count_in body = ltb-true 0 (count_in body)
    (and_parts (nat_eq (length body) (8 + 8 * count_in body)) (nat_lt 0 (count_in body)) b.0).1 in
    let c = and_parts (nat_eq (start % 256) 0 && nat_le story.header.endmem start) (nat_le start size) b.1 in
    let d = and_parts (nat_eq (start % 256) 0) (nat_le story.header.endmem start) c.0 in
    let begins = leb-true _ _ c.1 in
    let up = in_parts (ordered_blocks (blocks_in body)) (start_in body) size a.1 in
    record {
      blocks = record {
        rises = up.0;
        ends = ends_higher (ordered_blocks (blocks_in body)) size 0xFFFFFFFF
            (omega (arith, capped)) up.1;
        none = λ none.
            absurd (omega (
              arith,
              none,
              count,
              length-ordered_blocks (blocks_in body),
              length-blocks_from (count_in body) body 8,
            ));
      };
      begins = λ _. leb-true _ _ d.1;
      whole = eqb-true _ _ d.0;
      within = record { start = begins; ends = up.1 };
    }

pub none_within : (endmem size : ℕ) → IsHeapWithin endmem size inactive
none_within endmem size = record {
  blocks = record { rises = tt; ends = tt; none = λ _. refl };
  begins = λ some. absurd (omega (arith, some));
  whole = refl;
  within = record { start = omega arith; ends = tt };
}

within_by : (story : FlatStory) (size : ℕ) (body : List ℕ) (heap : FlatHeap) (none some : Bool)
    → is_heap story size body ≡ some → size ≤ ceiling
    → (let r : Result FlatHeap SaveFault = if none then Ok inactive else if some
    then Ok (record { start = start_in body; blocks = ordered_blocks (blocks_in body) }) else Err fault.Blocks in
    r ≡ Ok heap) → IsHeapWithin story.header.endmem size heap
within_by story size body heap true some is capped h = let e : inactive ≡ heap = cc in
    subst (IsHeapWithin story.header.endmem size) e (none_within story.header.endmem size)
within_by story size body heap false true is capped h = let made : FlatHeap =
    record { start = start_in body; blocks = ordered_blocks (blocks_in body) } in let e : made ≡ heap = cc in
    subst (IsHeapWithin story.header.endmem size) e (some_within story size body capped is)
within_by story size body heap false false is capped h = absurd cc

pub heap_within : (story : FlatStory) (size : ℕ) (body : List ℕ) (heap : FlatHeap) → size ≤ ceiling
    → heap_of story size body ≡ Ok heap → IsHeapWithin story.header.endmem size heap
unfolding heap_of
heap_within story size body heap capped h =
    within_by story size body heap (has_no_heap body) (is_heap story size body) refl capped h

-- its exits
pub no_heap : (story : FlatStory) (size : ℕ) (body : List ℕ) → has_no_heap body ≡ true
    → heap_of story size body ≡ Ok inactive
unfolding heap_of
no_heap story size body none = rw none refl

pub no_count : (story : FlatStory) (size : ℕ) (body : List ℕ) → has_no_heap body ≡ false → has_count body ≡ false
    → heap_of story size body ≡ Err fault.Blocks
unfolding heap_of
no_count story size body some not = rw (some, not) refl

pub no_start : (story : FlatStory) (size start : ℕ) (body : List ℕ) → start ≡ start_in body → has_no_heap body ≡ false
    → has_count body ≡ true → is_memory_size size story start ≡ false → heap_of story size body ≡ Err fault.Blocks
unfolding heap_of
no_start story size start body is some counted not = rw (some, counted, ← is, not) refl

abbrev heap_at : ℕ → Result (List Block) SaveFault → Result FlatHeap SaveFault
heap_at start (Ok blocks) = Ok (record { start = start; blocks = blocks })
heap_at start (Err e) = Err e

heap_at-fine : (start : ℕ) (r : Result (List Block) SaveFault) → IsOk r → IsOk (heap_at start r)
heap_at-fine start (Ok blocks) fine = refl
heap_at-fine start (Err e) fine = absurd cc

ordered_by : (story : FlatStory) (size start : ℕ) (body : List ℕ) (are : Bool)
    → rises start size (ordered_blocks (blocks_in body)) ≡ are → start ≡ start_in body → has_no_heap body ≡ false
    → has_count body ≡ true → is_memory_size size story start ≡ true
    → heap_of story size body ≡ heap_at start (ordered start size (blocks_in body))
unfolding heap_of
ordered_by story size start body true are is some counted begins = rw (some, counted, ← is, begins, are) refl
ordered_by story size start body false are is some counted begins = rw (some, counted, ← is, begins, are) refl

module _ (story : FlatStory) (size start : ℕ) (body : List ℕ) (is : start ≡ start_in body)
    (some : has_no_heap body ≡ false) (counted : has_count body ≡ true)
    (begins : is_memory_size size story start ≡ true) where
  heap_ordered : heap_of story size body ≡ heap_at start (ordered start size (blocks_in body))
  heap_ordered = ordered_by story size start body (rises start size (ordered_blocks (blocks_in body))) refl is some
      counted begins

  pub heap_given : (blocks : List Block) → ordered start size (blocks_in body) ≡ Ok blocks
      → heap_of story size body ≡ Ok (record { start = start; blocks = blocks })
  heap_given blocks h = heap_ordered ∙ ap (heap_at start) h

  pub order_fault : (e : SaveFault) → ordered start size (blocks_in body) ≡ Err e → heap_of story size body ≡ Err e
  order_fault e h = heap_ordered ∙ ap (heap_at start) h

  pub none_without : list_all (is_block start size) (blocks_in body) ≡ false
      → heap_of story size body ≡ Err fault.Blocks
  none_without not = order_fault fault.Blocks (order_none (blocks_in body) start size not)

  -- blocks that may meet
  meeting : list_all (is_block start size) (blocks_in body) ≡ true → 1 < count_in body → may_meet story size body ≡ true
  unfolding may_meet
  meeting within two =
      let first : is_memory_size size story (start_in body) ≡ true = sym (ap (is_memory_size size story) is) ∙ begins in
      let each : list_all (is_block (start_in body) size) (blocks_in body) ≡ true =
      sym (ap (λ (s : ℕ). list_all (is_block s size) (blocks_in body)) is) ∙ within in
      both (has_count body && is_memory_size size story (start_in body) && list_all (is_block (start_in body) size)
      (blocks_in body)) (nat_lt 1 (count_in body))
      (both (has_count body && is_memory_size size story (start_in body))
      (list_all (is_block (start_in body) size) (blocks_in body))
      (both (has_count body) (is_memory_size size story (start_in body)) counted first) each)
      (lt-ltb _ _ two)

  pub heap_wanted : list_all (is_block start size) (blocks_in body) ≡ true
      → IsOk (ordered start size (blocks_in body))
      ⊎ ((ordered start size (blocks_in body) ≡ Err fault.Blocks) × (1 < count_in body))
      → IsOk (heap_of story size body) ⊎ ((heap_of story size body ≡ Err fault.Blocks)
      × IsTrue (may_meet story size body))
  heap_wanted within (inl fine) = inl (subst IsOk (sym heap_ordered)
      (heap_at-fine start (ordered start size (blocks_in body)) fine))
  heap_wanted within (inr meet) = inr (order_fault fault.Blocks meet.0, meeting within meet.1)

pub blocks_wanted : (start size : ℕ) (body : List ℕ) → start ≤ size
    → list_all (is_block start size) (blocks_in body) ≡ true
    → IsOk (ordered start size (blocks_in body))
    ⊎ ((ordered start size (blocks_in body) ≡ Err fault.Blocks) × (1 < count_in body))
blocks_wanted start size body le within =
    elim (order_wanted start size (blocks_in body) le within) [
      | inl fine ↦ inl fine
      | inr meet ↦ inr (meet.0, omega (arith, meet.1, length-blocks_from (count_in body) body 8))
    ]

-- the stack
pub record Stacks (story : FlatStory) (size : ℕ) (stack : List ℕ) : Type 0 where
  pub aligned : length stack % 4 ≡ 0
  pub height : length stack ≤ story.header.stack_size
  pub stub : 16 ≤ length stack
  pub kind : (stub_below stack (length stack)).kind ≤ 3
  pub good : is_good (take (length stack - 16) stack) (stub_below stack (length stack)).fp ≡ true
  pub place : is_result_place story size (parts (take (length stack - 16) stack) (stub_below stack (length stack)).fp)
      (stub_below stack (length stack)) ≡ true

pub stack_parts : (story : FlatStory) (size : ℕ) (stack : List ℕ) → is_stack story size stack ≡ true
    → Stacks story size stack
unfolding is_stack
stack_parts story size stack h =
    let a = and_parts _ _ h in
    let b = and_parts _ _ a.0 in
    let c = and_parts _ _ b.0 in
    let d = and_parts _ _ a.1 in
    let e = and_parts _ _ d.0 in
    record {
      aligned = eqb-true _ _ c.0;
      height = leb-true _ _ c.1;
      stub = leb-true _ _ b.1;
      kind = leb-true _ _ e.0;
      good = e.1;
      place = d.1;
    }

word_by : (story : FlatStory) (size : ℕ) (below : List ℕ) (p : Stub) → is_result_place story size (parts below p.fp) p
    ≡ true → p.kind ≡ 1 → (story.header.ramstart ≤ p.addr) × (p.addr + 4 ≤ size)
word_by story size below p h one =
    let here : (nat_le story.header.ramstart p.addr && nat_le (p.addr + 4) size) ≡ true = rw one at h in
    let a = and_parts _ _ here in
    (leb-true _ _ a.0, leb-true _ _ a.1)

local_by : (story : FlatStory) (size : ℕ) (below : List ℕ) (p : Stub)
    → is_result_place story size (parts below p.fp) p ≡ true → p.kind ≡ 2 → has_local (parts below p.fp) p.addr 4 ≡ true
local_by story size below p h two = rw two at h

-- what is read is fit for the story
pub copy_fits : (story : FlatStory) (size : ℕ) (c : Copy) → length c.memory ≡ size
    → take story.header.ramstart c.memory ≡ take story.header.ramstart story.bytes → is_memory_size ceiling story size
    ≡ true → is_stack story size c.stack ≡ true → IsHeapWithin story.header.endmem size c.heap → IsCopyFor story c
copy_fits story size c len rom sizes stack heap =
    let s = size_parts story size sizes in
    let t = stack_parts story size c.stack stack in
    record {
      size = rw len (record { whole = s.whole; capped = s.capped });
      endmem = rw len s.endmem;
      rom = rom;
      aligned = t.aligned;
      height = t.height;
      stub = t.stub;
      kind = t.kind;
      framed = t.good;
      word = rw len (word_by story size (take (length c.stack - 16) c.stack)
          (stub_below c.stack (length c.stack)) t.place);
      local = local_by story size (take (length c.stack - 16) c.stack) (stub_below c.stack (length c.stack)) t.place;
      heap = rw len heap;
    }

pub ruleset copies = (copy_fits)

-- the exits
pub parts_refused : (save : List ℕ) (story : FlatStory) (e : SaveFault) → parts_in save story ≡ Err e
    → copy_in_save ceiling save story ≡ Err e
unfolding copy_in_save
parts_refused save story e h = rw h refl

pub not_allowed : (passes : Bool) (e given : SaveFault)
    → (let r : Result (Unit {0}) SaveFault = Err given in r ≡ allowed passes e) → (passes ≡ false) × (given ≡ e)
not_allowed true e given h = absurd cc
not_allowed false e given h = (refl, cc)

pub size_refused : (save : List ℕ) (story : FlatStory) (p : Parts) (size : ℕ) → parts_in save story ≡ Ok p
    → size ≡ size_in p.memory → is_memory_size ceiling story size ≡ false → copy_in_save ceiling save story ≡ Err fault.Size
unfolding copy_in_save
size_refused save story p size h is not = rw (h, ← is, not) refl

pub memory_refused : (save : List ℕ) (story : FlatStory) (p : Parts) (size : ℕ) (e : SaveFault)
    → parts_in save story ≡ Ok p → size ≡ size_in p.memory → is_memory_size ceiling story size ≡ true
    → memory_of story p.memory ≡ Err e → copy_in_save ceiling save story ≡ Err e
unfolding copy_in_save
memory_refused save story p size e h is fits not = rw (h, ← is, fits, not) refl

-- what comes behind the memory
abbrev pub behind : Result (List ℕ) SaveFault → Bool → List ℕ → Result FlatHeap SaveFault → Result Copy SaveFault
behind memory stacks stack heap = memory
    >>= (λ m. allowed stacks fault.Stack >>= (λ _. heap
    >>= (λ g. let made : Copy = record { memory = m; stack = stack; heap = g } in Ok made)))

pub save_by : (save : List ℕ) (story : FlatStory) (p : Parts) (size : ℕ) → parts_in save story ≡ Ok p
    → size ≡ size_in p.memory → is_memory_size ceiling story size ≡ true
    → copy_in_save ceiling save story ≡ behind (memory_of story p.memory) (is_stack story size p.stack) p.stack
    (heap_of story size p.heap)
unfolding copy_in_save
save_by save story p size h is fits = rw (h, ← is, fits) refl

pub stack_refused : (memory : Result (List ℕ) SaveFault) (stack : List ℕ) (heap : Result FlatHeap SaveFault)
    (stacks : Bool) → IsOk memory → stacks ≡ false → behind memory stacks stack heap ≡ Err fault.Stack
stack_refused (Ok memory) stack heap stacks there not = rw not refl
stack_refused (Err e) stack heap stacks there not = absurd cc

pub heap_refused : (memory : Result (List ℕ) SaveFault) (stack : List ℕ) (heap : Result FlatHeap SaveFault)
    (stacks : Bool) (e : SaveFault) → IsOk memory → stacks ≡ true → heap ≡ Err e
    → behind memory stacks stack heap ≡ Err e
heap_refused (Ok memory) stack heap stacks e there good not = rw (good, not) refl
heap_refused (Err d) stack heap stacks e there good not = absurd cc

-- want of memory comes only where the save is a good one, or its blocks meet
pub save_there : (memory : Result (List ℕ) SaveFault) (stack : List ℕ) (heap : Result FlatHeap SaveFault)
    (stacks : Bool) → IsOk memory → stacks ≡ true → IsOk heap → IsOk (behind memory stacks stack heap)
save_there (Ok memory) stack (Ok heap) stacks a good b = rw good refl
save_there (Ok memory) stack (Err e) stacks a good b = absurd cc
save_there (Err d) stack heap stacks a good b = absurd cc

abbrev pub Wants : {A : Type 0} → Result A SaveFault → Type 0 → Type 0
Wants r meet = IsOk r ⊎ ((r ≡ Err fault.Blocks) × meet)

pub save_wanted : (memory : Result (List ℕ) SaveFault) (stack : List ℕ) (heap : Result FlatHeap SaveFault)
    (stacks : Bool) (meet all : Type 0) → IsOk memory → stacks ≡ true → (meet → all) → Wants heap meet
    → Wants (behind memory stacks stack heap) all
save_wanted memory stack heap stacks meet all there good so (inl fine) =
    inl (save_there memory stack heap stacks there good fine)
save_wanted memory stack heap stacks meet all there good so (inr is) =
    inr (heap_refused memory stack heap stacks fault.Blocks there good is.0, so is.1)

pub meet_by : (save : List ℕ) (story : FlatStory) (p : Parts) (size : ℕ) → parts_in save story ≡ Ok p
    → size ≡ size_in p.memory → may_meet story size p.heap ≡ true → MayMeet save story
meet_by save story p size h is meet = rw (h, ← is) (ap (λ (t : Bool). Ok t) meet)

pub save_taken : (save : List ℕ) (story : FlatStory) (p : Parts) (size : ℕ) (memory : List ℕ) (heap : FlatHeap)
    → parts_in save story ≡ Ok p → size ≡ size_in p.memory → is_memory_size ceiling story size ≡ true
    → memory_of story p.memory ≡ Ok memory → is_stack story size p.stack ≡ true → heap_of story size p.heap ≡ Ok heap
    → copy_in_save ceiling save story ≡ Ok (record { memory = memory; stack = p.stack; heap = heap })
save_taken save story p size memory heap h is fits ram stack there =
    save_by save story p size h is fits ∙ rw (ram, stack, there) refl
