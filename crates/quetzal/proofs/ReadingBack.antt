-- A copy that is fit for its story and is written as a save is read back.
use Rattle.std.proofs.Common.{◌≡◌, inl, inr, ◌≤◌, ◌<◌, ◌+◌, ◌-◌, ◌*◌, ◌/◌, ◌%◌, ◌^◌, ◌==◌, ℕ, Bool, true, false, cond}
use Rattle.std.proofs.Common.{List, [], ◌∷◌, ◌++◌, append_assoc, length, take, drop, map, Option, Some, None, Result}
use Rattle.std.proofs.Common.{Ok, Err, IsTrue, if◌then◌else◌, refl, sym, ap, ◌∙◌, arith, ltb as nat_lt}
use Rattle.std.proofs.Common.{leb as nat_le, eqb as nat_eq, length-append}
use Rattle.std.specs.Prelude.{codes, ◌&&◌}
use Rattle.std.specs.List.{AllByRecursion, find, flat_map}
use Rattle.std.specs.Option.{option_map}
use Rattle.std.specs.Result.{result_map_both}
use Rattle.std.specs.Str.{bytes_eq}
use Rattle.std.proofs.lemmas.Bool.{le-ltb, lt-ltb, le-leb, leb-true, eqb-true, eq-eqb, cases_lt}
use Rattle.std.proofs.lemmas.Bool.Decides.{nat_tests}
use Rattle.std.proofs.lemmas.Cmp.{nat_list_eq_equiv}
use Rattle.std.proofs.lemmas.Grind.{common_steps}
use Rattle.std.proofs.lemmas.List.{append-nil, take-append-drop, length-take, length-drop}
use Rattle.gx_words.specs.Constants.{ceiling}
use Rattle.gx_words.specs.Numbers.{word, bytes_of_word}
use Rattle.gx_stack.specs.declared.frames.Frame.{Frame}
use Rattle.gx_stack.specs.declared.stubs.Stub.{Stub}
use Rattle.gx_stack.specs.Frames.{is_good, has_local, parts}
use Rattle.gx_stack.specs.Stubs.{stub_below}
use Rattle.heap_blocks.specs.Heap.{Block, FlatHeap, IsRising, IsEndedBy, block_end, inactive, is_inactive, inserted}
use Rattle.gx_story.specs.Stories.{FlatStory, IsStory}
use Rattle.gx_state.specs.Copies.{Copy, IsCopyFor}
use Rattle.gx_state.specs.Sound.{IsHeapWithin}
use Rattle.iff_chunks.specs.declared.faults.IffFault.{IffFault}
use Rattle.iff_chunks.specs.declared.parts.Part.{Part}
use Rattle.iff_chunks.specs.declared.parts.Sought.TheVariants.{Letters}
use Rattle.iff_chunks.specs.Faults.{◌>>=◌ as ◌iff>>=◌}
use Rattle.iff_chunks.specs.Chunks.{body, chunks, is_sought, part_found}
use Rattle.iff_chunks.specs.Writing.{Chunk, bytes_of_chunk}
use Rattle.iff_chunks.specs.Laws.{IsChunk, IsForm, chunk_of, chunks_in}
use Rattle.iff_chunks.proofs.ReadingBack as iff
use Rattle.iff_chunks.proofs.ReadingBack.{length-bytes_of_chunk}
use Rattle.zero_runs.specs.Packing.{packed, xored}
use Rattle.zero_runs.specs.Unpacking.{unpacked}
use Rattle.zero_runs.proofs.RoundTrip.{unpacked-packed, length-packed}
use Rattle.zero_runs.proofs.UnpackingTurns.{length-xored}
use Rattle.quetzal.specs.declared.faults.SaveFault.TheVariants as fault
use Rattle.quetzal.specs.Chunks.{MemoryBody, body_in, memory_in, needed, parts_in}
use Rattle.quetzal.specs.Memory.{first_ram, is_memory_size, memory_bytes, memory_of, size_in}
use Rattle.quetzal.specs.Stacks.{is_result_place, is_stack}
use Rattle.quetzal.specs.Blocks.{blocks_from, blocks_in, count_in, has_count}
use Rattle.quetzal.specs.Blocks.{has_no_heap, heap_bytes, heap_of, ordered_blocks, rises, start_in}
use Rattle.quetzal.specs.Laws.{ReadsBack, chunk_len, form_len}
use Rattle.quetzal.specs.Writing.{heap_chunks, save_bytes}
use Rattle.quetzal.proofs.Sorting.{both, rises_by, rises_parts}
use Rattle.quetzal.proofs.SaveReading.{save_taken}

pub digits : (v : ℕ) → v < 2 ^ 32 → ((v / 2 ^ 24 % 256) * 256 + v / 2 ^ 16 % 256) * 65536
    + ((v / 2 ^ 8 % 256) * 256 + v % 256) ≡ v
digits v h = omega arith

same_bytes : (xs : List ℕ) → bytes_eq xs xs ≡ true
same_bytes xs = nat_list_eq_equiv.refl xs

-- the chunks that were written are found
abbrev first_body : List ℕ → List Chunk → Option (List ℕ)
first_body id cs = option_map (λ (c : Chunk). c.body) (find (λ (c : Chunk). bytes_eq c.id id) cs)

by_test : (b : Bool) (save : List ℕ) (p : Part) (r : Option Part) (s : Option Chunk)
    → option_map (body save) r ≡ option_map (λ (c : Chunk). c.body) s
    → option_map (body save) (cond b (Some p) r)
    ≡ option_map (λ (c : Chunk). c.body) (cond b (Some (chunk_of save p)) s)
by_test true save p r s h = refl
by_test false save p r s h = h

body_found : (save id : List ℕ) (ps : List Part) → option_map (body save) (find (is_sought (Letters id)) ps)
    ≡ first_body id (map (chunk_of save) ps)
body_found save id [] = refl
body_found save id (p ∷ ps) = by_test (bytes_eq p.id id) save p (find (is_sought (Letters id)) ps)
    (find (λ (c : Chunk). bytes_eq c.id id) (map (chunk_of save) ps)) (body_found save id ps)

found_by : (save id : List ℕ) (r : Result (List Part) IffFault) (cs : List Chunk)
    → (r iff>>= λ ps. Ok (map (chunk_of save) ps)) ≡ Ok cs
    → result_map_both (option_map (body save)) (λ e. fault.Form) (part_found (Letters id) r) ≡ Ok (first_body id cs)
found_by save id (Ok ps) cs h = let e : map (chunk_of save) ps ≡ cs = cc in
    ap (λ (b : Option (List ℕ)). Ok b) (body_found save id ps ∙ ap (first_body id) e)
found_by save id (Err e) cs h = absurd cc

body_written : (save id : List ℕ) (cs : List Chunk) → chunks_in save (codes "IFZS") ≡ Ok cs
    → body_in save id ≡ Ok (first_body id cs)
unfolding body_in
body_written save id cs h = found_by save id (chunks save (codes "IFZS")) cs h

-- the parts, step by step
parts_by : (save : List ℕ) (story : FlatStory) (header stack memory : List ℕ) (heap : Option (List ℕ)) (rest : List ℕ)
    → body_in save (codes "IFhd") ≡ Ok (Some header) → body_in save (codes "Stks") ≡ Ok (Some stack)
    → body_in save (codes "CMem") ≡ Ok (Some memory) → body_in save (codes "UMem") ≡ Ok None
    → body_in save (codes "MAll") ≡ Ok heap → nat_le 4 (length memory) ≡ true
    → bytes_eq header (take 128 story.bytes) ≡ true
    → (let r : List ℕ = elim heap [ Some b ↦ b | None ↦ [] ] in r ≡ rest)
    → parts_in save story ≡ Ok (record {
      stack = stack;
      memory = record { is_packed = true; body = memory };
      heap = rest;
    })
unfolding parts_in needed memory_in
parts_by save story header stack memory None rest a b c d e f g h = rw (a, b, c, d, e, f, g, ← h) refl
parts_by save story header stack memory (Some heap) rest a b c d e f g h = rw (a, b, c, d, e, f, g, ← h) refl

-- memory
memory_word : (story : FlatStory) (memory : List ℕ) → length memory ≤ ceiling
    → word (memory_bytes story memory) 0 ≡ length memory
unfolding memory_bytes
memory_word story memory le = digits (length memory) (omega (arith, le))

memory_rest : (story : FlatStory) (memory : List ℕ)
    → drop 4 (memory_bytes story memory) ≡ packed (xored (drop story.header.ramstart memory) (first_ram story))
unfolding memory_bytes
memory_rest story memory = refl

memory_long : (story : FlatStory) (memory : List ℕ) → nat_le 4 (length (memory_bytes story memory)) ≡ true
unfolding memory_bytes
memory_long story memory = le-leb _ _ (omega arith)

pub length-memory_bytes : (story : FlatStory) (memory : List ℕ) → length memory ≤ ceiling
    → length (memory_bytes story memory) ≤ 0x20000004
unfolding memory_bytes
length-memory_bytes story memory le = omega (
  arith,
  le,
  length-packed (xored (drop story.header.ramstart memory) (first_ram story)),
  length-xored (drop story.header.ramstart memory) (first_ram story),
  length-drop story.header.ramstart memory,
)

ram_by : (story : FlatStory) (chunk : MemoryBody) (bytes ram : List ℕ) (size : ℕ) → chunk.is_packed ≡ true
    → size_in chunk ≡ size → drop 4 chunk.body ≡ bytes
    → unpacked bytes (first_ram story) (size - story.header.ramstart) ≡ Ok ram
    → memory_of story chunk ≡ Ok (take story.header.ramstart story.bytes ++ ram)
unfolding memory_of
ram_by story chunk bytes ram size a b c d = rw (a, b, c, d) refl

memory_again : (story : FlatStory) (memory : List ℕ) → length memory ≤ ceiling → story.header.ramstart ≤ length memory
    → take story.header.ramstart memory ≡ take story.header.ramstart story.bytes
    → memory_of story (record { is_packed = true; body = memory_bytes story memory }) ≡ Ok memory
memory_again story memory small low rom =
    let len : length memory - story.header.ramstart ≡ length (drop story.header.ramstart memory) =
    sym (length-drop story.header.ramstart memory) in
    let bytes = packed (xored (drop story.header.ramstart memory) (first_ram story)) in
    let over : unpacked bytes (first_ram story) (length memory - story.header.ramstart)
    ≡ Ok (drop story.header.ramstart memory) =
    rw len (unpacked-packed (drop story.header.ramstart memory) (first_ram story)) in
    let ram = ram_by story (record { is_packed = true; body = memory_bytes story memory }) bytes
    (drop story.header.ramstart memory) (length memory) refl (memory_word story memory small)
    (memory_rest story memory) over in
    ram ∙ ap (λ (xs : List ℕ). Ok xs) (ap (λ (front : List ℕ). front ++ drop story.header.ramstart memory) (sym rom)
    ∙ take-append-drop story.header.ramstart memory)

-- the tests of a copy that is fit
size_there : (story : FlatStory) (c : Copy) → IsCopyFor story c → is_memory_size ceiling story (length c.memory) ≡ true
size_there story c fit = both _ _ (both _ _ (eq-eqb _ _ fit.size.whole) (le-leb _ _ fit.endmem))
    (le-leb _ _ fit.size.capped)

place_by : (story : FlatStory) (size : ℕ) (frame : Frame) (p : Stub) (one two : Bool) → (p.kind == 1) ≡ one
    → (p.kind == 2) ≡ two → (p.kind ≡ 1 → (story.header.ramstart ≤ p.addr) × (p.addr + 4 ≤ size))
    → (p.kind ≡ 2 → IsTrue (has_local frame p.addr 4)) → is_result_place story size frame p ≡ true
place_by story size frame p true two a b word local =
    let at = word (eqb-true _ _ a) in
    rw a (both (nat_le story.header.ramstart p.addr) (nat_le (p.addr + 4) size) (le-leb _ _ at.0) (le-leb _ _ at.1))
place_by story size frame p false true a b word local = rw (a, b) (local (eqb-true _ _ b))
place_by story size frame p false false a b word local = rw (a, b) refl

stack_there : (story : FlatStory) (c : Copy) → IsCopyFor story c → is_stack story (length c.memory) c.stack ≡ true
unfolding is_stack
stack_there story c fit =
    let p = stub_below c.stack (length c.stack) in
    let below = take (length c.stack - 16) c.stack in
    let height : (length c.stack % 4 == 0 && nat_le (length c.stack) story.header.stack_size && nat_le 16
    (length c.stack)) ≡ true = both _ _ (both _ _ (eq-eqb _ _ fit.aligned) (le-leb _ _ fit.height))
    (le-leb _ _ fit.stub) in
    let place = place_by story (length c.memory) (parts below p.fp) p (p.kind == 1)
    (p.kind == 2) refl refl fit.word fit.local in
    both (length c.stack % 4 == 0 && nat_le (length c.stack) story.header.stack_size && nat_le 16 (length c.stack))
    (nat_le p.kind 3 && is_good below p.fp && is_result_place story (length c.memory) (parts below p.fp) p) height
    (both (nat_le p.kind 3 && is_good below p.fp) (is_result_place story (length c.memory) (parts below p.fp) p)
    (both (nat_le p.kind 3) (is_good below p.fp) (le-leb _ _ fit.kind) fit.framed) place)

-- the heap
rises_from : (bs : List Block) (at size : ℕ) → at ≤ size → IsRising at bs → IsEndedBy size bs → rises at size bs ≡ true
rises_from [] at size le up ends = le-leb at size le
rises_from (b ∷ bs) at size le up ends =
    rises_by b bs at size up.0 up.1 (rises_from bs (block_end b) size ends.0 up.2 ends.1)

pub rises_count : (bs : List Block) (at size : ℕ) → rises at size bs ≡ true → at + length bs ≤ size
rises_count [] at size h = omega (arith, leb-true at size h)
rises_count (b ∷ bs) at size h = let p = rises_parts b bs at size h in
    omega (arith, p.0, p.1, rises_count bs (block_end b) size p.2)

abbrev AreWords : List Block → Type 0
AreWords bs = AllByRecursion (λ (b : Block). (b.0 < 2 ^ 32) × (b.1 < 2 ^ 32)) bs

rises_words : (bs : List Block) (at size : ℕ) → size ≤ ceiling → rises at size bs ≡ true → AreWords bs
rises_words [] at size small h = tt
rises_words (b ∷ bs) at size small h =
    let p = rises_parts b bs at size h in
    let n = rises_count bs (block_end b) size p.2 in
    ((omega (arith, n, small), omega (arith, n, small)), rises_words bs (block_end b) size small p.2)

in_order_same : (bs : List Block) (at size : ℕ) → rises at size bs ≡ true → ordered_blocks bs ≡ bs
unfolding ordered_blocks inserted
in_order_same [] at size h = refl
in_order_same (b ∷ []) at size h = refl
in_order_same (b ∷ c ∷ bs) at size h =
    let p = rises_parts b (c ∷ bs) at size h in
    let q = rises_parts c bs (block_end b) size p.2 in
    let e = in_order_same (c ∷ bs) (block_end b) size p.2 in
    let t = le-ltb c.0 b.0 (omega (arith, q.0)) in
    ap (inserted b) e ∙ rw t refl

word_behind : (front xs : List ℕ) (n : ℕ) → word (front ++ xs) (length front + n) ≡ word xs n
word_behind front xs n = grind (arith, common_steps)

-- a block as it is written
abbrev pub bytes_of_block : Block → List ℕ
bytes_of_block b = bytes_of_word b.0 ++ bytes_of_word b.1

blocks_again : (bs : List Block) (front : List ℕ) → AreWords bs
    → blocks_from (length bs) (front ++ flat_map bytes_of_block bs) (length front) ≡ bs
unfolding blocks_from
blocks_again [] front words = refl
blocks_again (b ∷ bs) front words =
    let rest = flat_map bytes_of_block bs in
    let all = front ++ flat_map bytes_of_block (b ∷ bs) in
    let none : length front + 0 ≡ length front = omega arith in
    let address : word all (length front) ≡ b.0 =
    ap (word all) (sym none) ∙ word_behind front (flat_map bytes_of_block (b ∷ bs)) 0 ∙ digits b.0 words.0.0 in
    let len : word all (length front + 4) ≡ b.1 = word_behind front (flat_map bytes_of_block (b ∷ bs)) 4
    ∙ digits b.1 words.0.1 in
    let long : length (front ++ bytes_of_block b) ≡ length front + 8 = length-append front (bytes_of_block b) in
    let same : (front ++ bytes_of_block b) ++ rest ≡ all = append_assoc front (bytes_of_block b) rest in
    let tail : blocks_from (length bs) all (length front + 8) ≡ bs =
    sym (ap (λ (xs : List ℕ). blocks_from (length bs) xs (length front + 8)) same)
    ∙ sym (ap (blocks_from (length bs) ((front ++ bytes_of_block b) ++ rest)) long)
    ∙ blocks_again bs (front ++ bytes_of_block b) words.1 in
    rw (address, len, tail) refl

pub length-blocks : (bs : List Block) → length (flat_map bytes_of_block bs) ≡ 8 * length bs
length-blocks [] = refl
length-blocks (b ∷ bs) = omega (arith, length-blocks bs)

pub length-heap_bytes : (heap : FlatHeap) → length (heap_bytes heap) ≡ 8 + 8 * length heap.blocks
length-heap_bytes heap = omega (arith, length-blocks heap.blocks)

pub heap_rises : (endmem size : ℕ) (heap : FlatHeap) → IsHeapWithin endmem size heap
    → rises heap.start size heap.blocks ≡ true
heap_rises endmem size heap fit = rises_from heap.blocks heap.start size fit.within.start fit.blocks.rises
    fit.within.ends

heap_by : (story : FlatStory) (size : ℕ) (body : List ℕ) (heap : FlatHeap) → length body ≡ 8 + 8 * length heap.blocks
    → 0 < length heap.blocks → start_in body ≡ heap.start → count_in body ≡ length heap.blocks
    → blocks_in body ≡ heap.blocks → ordered_blocks heap.blocks ≡ heap.blocks
    → is_memory_size size story heap.start ≡ true → rises heap.start size heap.blocks ≡ true
    → heap_of story size body ≡ Ok heap
unfolding heap_of
heap_by story size body heap len some start count blocks order begins are =
    let empty : (length body == 0) ≡ false = grind (arith, nat_tests, len) in
    let short : (length body == 8) ≡ false = grind (arith, nat_tests, len, some) in
    let none : has_no_heap body ≡ false = rw (empty, short) refl in
    let whole : nat_eq (length body) (8 + 8 * length heap.blocks) ≡ true = eq-eqb _ _ len in
    let any : nat_lt 0 (length heap.blocks) ≡ true = lt-ltb _ _ some in
    let counted : has_count body ≡ true = rw count
    (both (nat_eq (length body) (8 + 8 * length heap.blocks)) (nat_lt 0 (length heap.blocks)) whole any) in
    let test : (has_count body && is_memory_size size story (start_in body) && rises (start_in body) size
    (ordered_blocks (blocks_in body))) ≡ true =
    both (has_count body && is_memory_size size story (start_in body))
    (rises (start_in body) size (ordered_blocks (blocks_in body)))
    (both (has_count body) (is_memory_size size story (start_in body)) counted (rw start begins))
    (rw (start, blocks, order) are) in
    rw (none, test, start, blocks, order) refl

some_again : (story : FlatStory) (size : ℕ) (heap : FlatHeap) → size ≤ ceiling → 0 < length heap.blocks
    → IsHeapWithin story.header.endmem size heap → heap_of story size (heap_bytes heap) ≡ Ok heap
some_again story size heap small some fit =
    let up = heap_rises story.header.endmem size heap fit in
    let n = rises_count heap.blocks heap.start size up in
    let words = rises_words heap.blocks heap.start size small up in
    let order = in_order_same heap.blocks heap.start size up in
    let start = digits heap.start (omega (arith, n, small)) in
    let count = digits (length heap.blocks) (omega (arith, n, small)) in
    let front = bytes_of_word heap.start ++ bytes_of_word (length heap.blocks) in
    let blocks : blocks_in (heap_bytes heap) ≡ heap.blocks = ap (λ (k : ℕ). blocks_from k (heap_bytes heap) 8) count
    ∙ blocks_again heap.blocks front words in
    heap_by story size (heap_bytes heap) heap (length-heap_bytes heap) some start count blocks order
    (both (nat_eq (heap.start % 256) 0 && nat_le story.header.endmem heap.start) (nat_le heap.start size)
    (both (nat_eq (heap.start % 256) 0) (nat_le story.header.endmem heap.start) (eq-eqb _ _ fit.whole)
    (le-leb _ _ (fit.begins some))) (le-leb _ _ fit.within.start))
    up

none_again : (story : FlatStory) (size : ℕ) → heap_of story size [] ≡ Ok inactive
unfolding heap_of
none_again story size = refl

-- the body of the heap's chunk, or nothing
abbrev heap_body : FlatHeap → List ℕ
heap_body heap = if is_inactive heap then [] else heap_bytes heap

empty_heap : (start : ℕ) (bs : List Block) → (length bs == 0) ≡ true → start ≡ 0
    → (let h : FlatHeap = record { start = start; blocks = bs } in h ≡ inactive)
empty_heap start [] none is = ap (λ (n : ℕ). record { start = n; blocks = [] }) is
empty_heap start (b ∷ bs) none is = absurd (grind (arith, nat_tests, none))

heap_again : (story : FlatStory) (size : ℕ) (heap : FlatHeap) (none : Bool) → is_inactive heap ≡ none → size ≤ ceiling
    → IsHeapWithin story.header.endmem size heap → heap_of story size (heap_body heap) ≡ Ok heap
heap_again story size heap true none small fit =
    rw none (none_again story size ∙ ap (λ (h : FlatHeap). Ok h)
    (sym (empty_heap heap.start heap.blocks none (fit.blocks.none (eqb-true _ _ none)))))
heap_again story size heap false none small fit = let some : 0 < length heap.blocks =
    grind (arith, nat_tests, none) in rw none (some_again story size heap small some fit)

-- the chunks, in which the heap's comes last or is missing
heap_found : (heap : FlatHeap) (none : Bool) → is_inactive heap ≡ none
    → (let r : List ℕ = elim (first_body (codes "MAll") (heap_chunks heap)) [ Some b ↦ b | None ↦ [] ] in
    r ≡ heap_body heap)
heap_found heap true none = rw none refl
heap_found heap false none = rw none refl

none_before : (heap : FlatHeap) (none : Bool) → is_inactive heap ≡ none
    → first_body (codes "UMem") (heap_chunks heap) ≡ None
none_before heap true none = rw none refl
none_before heap false none = rw none refl

-- the chunks are those of a form
length-heap_chunks : (heap : FlatHeap) (none : Bool) → is_inactive heap ≡ none
    → length (flat_map bytes_of_chunk (heap_chunks heap))
    ≡ (if length heap.blocks == 0 then 0 else chunk_len (8 + 8 * length heap.blocks))
length-heap_chunks heap true none = rw none refl
length-heap_chunks heap false none =
    let last : Chunk = record { id = codes "MAll"; body = heap_bytes heap } in
    rw none (ap length (append-nil (bytes_of_chunk last)) ∙ length-bytes_of_chunk last refl
    ∙ ap chunk_len (length-heap_bytes heap))

-- the chunks of a save
abbrev pub saved_chunks : FlatStory → Copy → List Chunk
saved_chunks story copy =
    record { id = codes "IFhd"; body = take 128 story.bytes } ∷
    record { id = codes "CMem"; body = memory_bytes story copy.memory } ∷
    record { id = codes "Stks"; body = copy.stack } ∷
    heap_chunks copy.heap

pub length-saved_chunks : (story : FlatStory) (c : Copy) (none : Bool) → is_inactive c.heap ≡ none
    → 128 ≤ length story.bytes
    → 4 + length (flat_map bytes_of_chunk (saved_chunks story c))
    ≡ form_len (length (memory_bytes story c.memory)) (length c.stack) (length c.heap.blocks)
length-saved_chunks story c none is header =
    let first : Chunk = record { id = codes "IFhd"; body = take 128 story.bytes } in
    let second : Chunk = record { id = codes "CMem"; body = memory_bytes story c.memory } in
    let third : Chunk = record { id = codes "Stks"; body = c.stack } in
    let rest = heap_chunks c.heap in
    let whole : length (take 128 story.bytes) ≡ 128 = omega (arith, length-take 128 story.bytes, header) in
    let a = length-bytes_of_chunk first refl in
    let b = length-bytes_of_chunk second refl in
    let d = length-bytes_of_chunk third refl in
    let l = length-append (bytes_of_chunk first)
    (bytes_of_chunk second ++ (bytes_of_chunk third ++ flat_map bytes_of_chunk rest)) in
    let m = length-append (bytes_of_chunk second) (bytes_of_chunk third ++ flat_map bytes_of_chunk rest) in
    let n = length-append (bytes_of_chunk third) (flat_map bytes_of_chunk rest) in
    let e = length-heap_chunks c.heap none is in
    omega (arith, whole, a, b, d, l, m, n, e)

-- what the writer asks of a copy that is fit
pub record Small (story : FlatStory) (c : Copy) : Type 0 where
  pub header : 128 ≤ length story.bytes
  pub memory : length c.memory ≤ ceiling
  pub low : story.header.ramstart ≤ length c.memory
  pub packed : length (memory_bytes story c.memory) ≤ 0x20000004
  pub stack : length c.stack ≤ 0x01000000
  pub blocks : length c.heap.blocks ≤ ceiling

pub small : (story : FlatStory) (c : Copy) → IsStory story → IsCopyFor story c → Small story c
small story c good fit =
    let n = rises_count c.heap.blocks c.heap.start (length c.memory)
    (heap_rises story.header.endmem (length c.memory) c.heap fit.heap) in
    record {
      header = omega (arith, good.stored_whole, good.ramstart_first, good.header_first);
      memory = fit.size.capped;
      low = omega (arith, good.ramstart_first, good.extstart_first, fit.endmem);
      packed = length-memory_bytes story c.memory fit.size.capped;
      stack = omega (arith, fit.height, good.stack_limited);
      blocks = omega (arith, n, fit.size.capped);
    }

heap_is_chunk : (heap : FlatHeap) (none : Bool) → is_inactive heap ≡ none → length heap.blocks ≤ ceiling
    → AllByRecursion IsChunk (heap_chunks heap)
heap_is_chunk heap true none few = rw none tt
heap_is_chunk heap false none few = rw none ((refl, omega (arith, few, length-heap_bytes heap)), tt)

pub form_fits : (memory stack blocks : ℕ) → memory ≤ 0x20000004 → stack ≤ 0x01000000 → blocks ≤ ceiling
    → form_len memory stack blocks < 2 ^ 32
form_fits memory stack blocks a b c = elim (cases_lt 0 blocks) [
  | inl some ↦ (let t : (blocks == 0) ≡ false = grind (arith, nat_tests, some) in rw t (omega (arith, a, b, c)))
  | inr none ↦ (let t : (blocks == 0) ≡ true = grind (arith, nat_tests, none) in rw t (omega (arith, a, b, c)))
]

is_form : (story : FlatStory) (c : Copy) → Small story c → IsForm (codes "IFZS") (saved_chunks story c)
is_form story c s =
    let len = length-saved_chunks story c (is_inactive c.heap) refl s.header in
    let first : length (take 128 story.bytes) ≤ 128 = omega (arith, length-take 128 story.bytes) in
    record {
      kind_whole = refl;
      chunks_whole = (
        (refl, omega (arith, first)),
        (
          (refl, omega (arith, s.packed)),
          (
            (refl, omega (arith, s.stack)),
            heap_is_chunk c.heap (is_inactive c.heap) refl s.blocks,
          ),
        ),
      );
      small = omega (
        arith,
        len,
        form_fits (length (memory_bytes story c.memory)) (length c.stack)
            (length c.heap.blocks) s.packed s.stack s.blocks,
      );
    }

-- what is written is read back
pub reads_back : ReadsBack
unfolding save_bytes
reads_back story c good fit =
    let s = small story c good fit in
    let save = save_bytes story c in
    let all = iff.reads_back (codes "IFZS") (saved_chunks story c) (is_form story c s) in
    let find : (id : List ℕ) → body_in save id ≡ Ok (first_body id (saved_chunks story c)) =
    λ id. body_written save id (saved_chunks story c) all in
    let none = none_before c.heap (is_inactive c.heap) refl in
    let parts = parts_by save story (take 128 story.bytes) c.stack (memory_bytes story c.memory)
    (first_body (codes "MAll") (heap_chunks c.heap)) (heap_body c.heap) (find (codes "IFhd"))
    (find (codes "Stks")) (find (codes "CMem")) (find (codes "UMem") ∙ ap (λ (b : Option (List ℕ)). Ok b) none)
    (find (codes "MAll")) (memory_long story c.memory) (same_bytes (take 128 story.bytes))
    (heap_found c.heap (is_inactive c.heap) refl) in
    save_taken save story (record {
      stack = c.stack;
      memory = record { is_packed = true; body = memory_bytes story c.memory };
      heap = heap_body c.heap;
    })
    (length c.memory) c.memory c.heap parts
    (sym (memory_word story c.memory s.memory)) (size_there story c fit)
    (memory_again story c.memory s.memory s.low fit.rom) (stack_there story c fit)
    (heap_again story (length c.memory) c.heap (is_inactive c.heap) refl s.memory fit.heap)
