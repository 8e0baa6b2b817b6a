-- What is written is what is defined.
use Rattle.std.proofs.Common.{◌≡◌, ◌≤◌, ◌<◌, ◌+◌, ◌^◌, ℕ, false, List, [], ◌∷◌, ◌++◌, append_assoc, length, take}
use Rattle.std.proofs.Common.{get_or, refl, sym, ap, subst, ◌∙◌, arith}
use Rattle.std.specs.Prelude.{codes}
use Rattle.std.proofs.lemmas.Bool.Decides.{nat_tests}
use Rattle.std.proofs.lemmas.List.{take_more, flat_map_more, take_all, append-nil}
use Rattle.std.specs.List.{flat_map}
use Rattle.gx_words.specs.Constants.{ceiling}
use Rattle.gx_words.specs.Numbers.{bytes_of_word}
use Rattle.heap_blocks.specs.Heap.{Block, FlatHeap, is_inactive}
use Rattle.iff_chunks.specs.Writing.{Chunk, bytes_of_chunk, bytes_of_form}
use Rattle.zero_runs.proofs.PackingTurns.{front_all, front_added, front_joined}
use Rattle.gx_story.specs.Stories.{FlatStory}
use Rattle.gx_state.specs.Copies.{Copy}
use Rattle.quetzal.specs.Memory.{memory_bytes}
use Rattle.quetzal.specs.Blocks.{heap_bytes}
use Rattle.quetzal.specs.Writing.{heap_chunks, save_bytes}
use Rattle.quetzal.specs.Laws.{form_len}
use Rattle.quetzal.proofs.ReadingBack.{bytes_of_block, Small, form_fits, length-heap_bytes, length-saved_chunks}

pub blocks_more : (bs : List Block) (i : ℕ) → i < length bs → flat_map bytes_of_block (take (i + 1) bs)
    ≡ flat_map bytes_of_block (take i bs) ++ bytes_of_block (get_or bs i (0, 0))
blocks_more bs i lt = ap (flat_map bytes_of_block) (take_more bs i (0, 0) lt)
    ∙ sym (flat_map_more bytes_of_block [] (take i bs) (get_or bs i (0, 0)))

pub heap_short : (body : List ℕ) (start : ℕ) (bs : List Block)
    → body ≡ heap_bytes (record { start = start; blocks = bs }) → length bs ≤ ceiling → length body < 2 ^ 32
heap_short body start bs is few = omega (
  arith,
  few,
  ap length is,
  length-heap_bytes (record { start = start; blocks = bs }),
)

heap_alone : (heap : FlatHeap) → is_inactive heap ≡ false
    → heap_chunks heap ≡ record { id = codes "MAll"; body = heap_bytes heap } ∷ []
heap_alone heap some = rw some refl

pub heap_some : (body : List ℕ) (start : ℕ) (bs : List Block) (out : List ℕ) → 0 < length bs
    → body ≡ heap_bytes (record { start = start; blocks = bs })
    → out ++ bytes_of_chunk (record { id = codes "MAll"; body = body })
    ≡ out ++ flat_map bytes_of_chunk (heap_chunks (record { start = start; blocks = bs }))
heap_some body start bs out some is =
    let heap : FlatHeap = record { start = start; blocks = bs } in
    let last : Chunk = record { id = codes "MAll"; body = heap_bytes heap } in
    let active : is_inactive heap ≡ false = grind (arith, nat_tests, some) in
    rw is (ap (λ (xs : List ℕ). out ++ xs) (sym (append-nil (bytes_of_chunk last)))
    ∙ ap (λ (cs : List Chunk). out ++ flat_map bytes_of_chunk cs) (sym (heap_alone heap active)))

pub heap_none : (start : ℕ) (bs : List Block) (out : List ℕ) → length bs ≡ 0
    → out ≡ out ++ flat_map bytes_of_chunk (heap_chunks (record { start = start; blocks = bs }))
heap_none start [] out none = sym (append-nil out)
heap_none start (b ∷ bs) out none = absurd (omega arith)

-- the length of a form fits a word
pub len_fits : (story : FlatStory) (c : Copy) (memory stack blocks len : ℕ) → Small story c
    → memory ≡ length (memory_bytes story c.memory) → stack ≡ length c.stack → blocks ≡ length c.heap.blocks
    → len ≡ form_len memory stack blocks → len < 2 ^ 32
len_fits story c memory stack blocks len s long height count is =
    subst (λ (n : ℕ). n < 2 ^ 32) (sym is) (form_fits memory stack blocks (omega (arith, long, s.packed))
    (omega (arith, height, s.stack)) (omega (arith, count, s.blocks)))

-- a form as its parts are added
pub form_written : (story : FlatStory) (c : Copy) (front out : List ℕ) → Small story c
    → front ≡ 0x46 ∷ 0x4F ∷ 0x52 ∷ 0x4D ∷ (bytes_of_word
    (form_len (length (memory_bytes story c.memory)) (length c.stack) (length c.heap.blocks)) ++ (codes "IFZS"))
    → out ≡ (((front ++ bytes_of_chunk (record { id = codes "IFhd"; body = take 128 story.bytes })) ++ bytes_of_chunk
    (record { id = codes "CMem"; body = memory_bytes story c.memory })) ++ bytes_of_chunk
    (record { id = codes "Stks"; body = c.stack })) ++ flat_map bytes_of_chunk (heap_chunks c.heap)
    → out ≡ save_bytes story c
unfolding save_bytes bytes_of_form
form_written story c front out s begins is =
    let first = bytes_of_chunk (record { id = codes "IFhd"; body = take 128 story.bytes }) in
    let second = bytes_of_chunk (record { id = codes "CMem"; body = memory_bytes story c.memory }) in
    let third = bytes_of_chunk (record { id = codes "Stks"; body = c.stack }) in
    let rest = flat_map bytes_of_chunk (heap_chunks c.heap) in
    let len = length-saved_chunks story c (is_inactive c.heap) refl s.header in
    let joined = append_assoc ((front ++ first) ++ second) third rest ∙ append_assoc (front ++ first) second
    (third ++ rest) ∙ append_assoc front first (second ++ (third ++ rest)) in
    is ∙ joined ∙ rw (begins, len) refl

pub ruleset chunk_parts = (append_assoc, front_added, front_joined, front_all)

pub ruleset heap_facts = (heap_short, heap_some, heap_none)

pub ruleset block_facts = (blocks_more, append_assoc, take_all)
