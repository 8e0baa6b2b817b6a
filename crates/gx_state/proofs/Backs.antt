-- Going back to a copy, and starting again.
use Rattle.std.proofs.Common.{◌≡◌, ◌≢◌, ◌≤◌, ◌<◌, ◌+◌, ◌-◌, ◌==◌, ℕ, Bool, true, false, cond, get_or, nat_lt}
use Rattle.std.proofs.Common.{if◌then◌else◌, List, ◌++◌, length, take, replicate, Some, None, Ok, Err, Result, IsTrue}
use Rattle.std.proofs.Common.{refl, ap}
use Rattle.std.proofs.Common.{subst, sym, ◌∙◌, arith, length-append}
use Rattle.std.proofs.lemmas.Grind.{common_steps}
use Rattle.std.proofs.lemmas.List.{get_or-take, take-append-le}
use Rattle.std.proofs.lemmas.List.FromFn.{fill_by_all, take-map-range_with_len, length-map-range_with_len}
use Rattle.std.proofs.lemmas.Bool.Decides.{nat_tests}
use Rattle.gx_words.specs.declared.faults.Fault.{Fault}
use Rattle.gx_words.specs.Numbers.{spliced, bytes_of_word}
use Rattle.gx_pages.specs.Memory.{put_back_of}
use Rattle.gx_stack.specs.declared.stubs.Stub.{Stub}
use Rattle.gx_stack.specs.Frames.{IsGood, has_local, is_good, parts}
use Rattle.gx_stack.specs.Stubs.{stub_bytes}
use Rattle.heap_blocks.specs.Heap.{inactive}
use Rattle.gx_story.specs.Stories.{FlatStory}
use Rattle.gx_state.specs.declared.modes.Dest.{Dest}
use Rattle.gx_state.specs.declared.modes.Dest.TheVariants.{Nowhere, Memory, Local, Push}
use Rattle.gx_state.specs.declared.modes.Mode.TheVariants.{Running}
use Rattle.gx_state.specs.Flat.{FlatState, frame_of, sp_of, written}
use Rattle.gx_state.specs.Sound.{IsSound, IsHeapWithin}
use Rattle.gx_state.specs.Stores.{stored, store_fault}
use Rattle.gx_state.specs.Returns.{stub_of, stub_to, back, delivered, returned}
use Rattle.gx_state.specs.Calls.{wrote}
use Rattle.gx_state.specs.Copies.{Copy, IsCopyFor, copy_of, stub_in, restored_to}
use Rattle.gx_state.specs.Allowed.{HasPlaceFor}
use Rattle.gx_state.proofs.Bytes.{first_length}
use Rattle.gx_state.proofs.Kept.{rom_written, framed_good}

-- what is below RAMSTART in memory that is put back
same_byte : (xs ys : List ℕ) (n a : ℕ) → take n xs ≡ take n ys → a < n → get_or xs a 0 ≡ get_or ys a 0
same_byte xs ys n a same h = sym (get_or-take n xs a 0 h) ∙ ap (λ (zs : List ℕ). get_or zs a 0) same
    ∙ get_or-take n ys a 0 h

same_cond : (b : Bool) (x y : ℕ) → x ≡ y → cond b x y ≡ y
same_cond true x y same = same
same_cond false x y same = refl

pub rom_back : (present kept rom : List ℕ) (n from count : ℕ) → take n present ≡ rom → take n kept ≡ rom
    → n ≤ length kept → take n (put_back_of present kept from count) ≡ rom
rom_back present kept rom n from count now then_ below =
    take-map-range_with_len _ 0 (length kept) n below
    ∙ sym (fill_by_all _ (take n kept) n 0 (grind (arith, common_steps))
    (λ a h. get_or-take n kept a 0 h ∙ sym (same_cond _ _ _ (same_byte present kept n a (now ∙ sym then_) h))))
    ∙ then_

-- a copy laid over a state
abbrev laid_over : FlatState → Copy → FlatState
laid_over f c = record f {
  memory = put_back_of f.memory c.memory f.protected.0 f.protected.1;
  stack = record f.stack { bytes = c.stack };
  heap = c.heap;
  mode = Running;
}

-- what lies below the stub of a copy
abbrev pub below_stub : Copy → List ℕ
below_stub c = take (length c.stack - 16) c.stack

-- the stub of a copy that is fit, and its frame
good_frame : (s : List ℕ) (fp : ℕ) → IsGood s fp → is_good s fp ≡ true
good_frame s fp good = grind (
  arith,
  nat_tests,
  good.header,
  good.begins,
  good.aligned,
  good.locals,
  good.order,
  good.whole,
)

stub_there : (story : FlatStory) (c : Copy) → IsCopyFor story c → stub_to c.stack (length c.stack) ≡ Ok (stub_in c)
unfolding stub_to
stub_there story c fit =
    let some : nat_lt (length c.stack) 16 ≡ false = grind (arith, nat_tests, fit.stub) in
    rw (some, fit.framed) refl

none_empty : (story : FlatStory) (c : Copy) → IsCopyFor story c → (length c.stack == 0) ≡ false
none_empty story c fit = grind (arith, nat_tests, fit.stub)

returned_back : (f h : FlatState) (c : Copy) → IsCopyFor f.story c
    → delivered (back (laid_over f c) (length c.stack) (stub_in c)) (stub_in c) 0xFFFFFFFF ≡ Ok h
    → returned (laid_over f c) (length c.stack) 0xFFFFFFFF ≡ Ok (h, false)
unfolding returned
returned_back f h c fit is = rw (none_empty f.story c fit, stub_there f.story c fit, is) refl

pub delivered_back : (f h : FlatState) (c : Copy) → IsCopyFor f.story c
    → delivered (back (laid_over f c) (length c.stack) (stub_in c)) (stub_in c) 0xFFFFFFFF ≡ Ok h → restored_to f c ≡ h
unfolding restored_to
delivered_back f h c fit is = ap (λ (r : Result (FlatState × Bool) Fault). let g : FlatState =
    elim r [ Ok x ↦ x.0 | Err fault ↦ f ] in g) (returned_back f h c fit is)

-- PC is taken from a stub of the types 0 to 3, whatever it was
pub same_pc : (f : FlatState) (p : Stub) (v : ℕ) → p.kind ≤ 3 → delivered (record f { pc = p.pc }) p v ≡ delivered f p v
unfolding delivered
same_pc f p v few = grind (arith, nat_tests, few)

pub length_back : (present kept : List ℕ) (from count : ℕ) → length (put_back_of present kept from count) ≡ length kept
length_back present kept from count = length-map-range_with_len _ 0 (length kept)

-- a word stored in RAM
word_stored : (f : FlatState) (at v : ℕ) → f.story.header.ramstart ≤ at → at + 4 ≤ length f.memory
    → stored f 4 (Memory at) v ≡ Ok (written f at (bytes_of_word v))
unfolding stored store_fault
word_stored f at v above there =
    let inside : nat_lt (length f.memory) (at + 4) ≡ false = grind (arith, nat_tests) in
    let ram : nat_lt at f.story.header.ramstart ≡ false = grind (arith, nat_tests) in
    rw (inside, ram) refl

-- a copy that is laid with a memory
abbrev pub placed : FlatState → Copy → Stub → List ℕ → FlatState
placed f c p m = record f {
  memory = m;
  stack = record f.stack { bytes = below_stub c };
  fp = p.fp;
  pc = p.pc;
  heap = c.heap;
  mode = Running;
}

-- its memory, with -1 where the stub says so
abbrev pub answered : FlatState → Copy → Stub → List ℕ
answered f c p = wrote (put_back_of f.memory c.memory f.protected.0 f.protected.1)
    (if p.kind == 1 then Some (p.addr, 0xFFFFFFFF) else None)

kept_one : (f : FlatState) (c : Copy) → IsCopyFor f.story c → (stub_in c).kind ≡ 1
    → delivered (back (laid_over f c) (length c.stack) (stub_in c)) (stub_in c) 0xFFFFFFFF
    ≡ Ok (placed f c (stub_in c) (spliced (put_back_of f.memory c.memory f.protected.0 f.protected.1)
    (stub_in c).addr (bytes_of_word 0xFFFFFFFF)))
unfolding delivered
kept_one f c fit one =
    let place = fit.word one in
    let size = length_back f.memory c.memory f.protected.0 f.protected.1 in
    rw one (word_stored _ (stub_in c).addr 0xFFFFFFFF place.0 (rw size place.1))

by_kind : (f g h : FlatState) (c : Copy) (one : Bool) → ((stub_in c).kind == 1) ≡ one → IsCopyFor f.story c
    → g ≡ placed f c (stub_in c) (wrote (put_back_of f.memory c.memory f.protected.0 f.protected.1)
    (if one then Some ((stub_in c).addr, 0xFFFFFFFF) else None))
    → ((stub_in c).kind ≢ 1 → delivered g (stub_in c) 0xFFFFFFFF ≡ Ok h) → ((stub_in c).kind ≡ 1 → h ≡ g)
    → h ≡ restored_to f c
by_kind f g h c true is fit there other memory =
    let one : (stub_in c).kind ≡ 1 = grind (arith, nat_tests, is) in
    sym (delivered_back f h c fit (kept_one f c fit one ∙ ap Ok (sym (memory one ∙ there))))
by_kind f g h c false is fit there other memory =
    let no : (stub_in c).kind ≢ 1 = grind (arith, nat_tests, is) in
    sym (delivered_back f h c fit (sym (same_pc (back (laid_over f c) (length c.stack) (stub_in c))
    (stub_in c) 0xFFFFFFFF fit.kind) ∙ ap (λ (x : FlatState). delivered x (stub_in c) 0xFFFFFFFF) (sym there)
    ∙ other no))

pub went_back : (f g h : FlatState) (c : Copy) (p : Stub) (m : List ℕ) → IsCopyFor f.story c → p ≡ stub_in c
    → m ≡ answered f c p → g ≡ placed f c p m
    → (p.kind ≢ 1 → delivered g p 0xFFFFFFFF ≡ Ok h) → (p.kind ≡ 1 → h ≡ g) → h ≡ restored_to f c
went_back f g h c p m fit is memory there other same =
    let now : m ≡ answered f c (stub_in c) = memory ∙ ap (answered f c) is in
    let place : g ≡ placed f c (stub_in c) (answered f c (stub_in c)) = there ∙ ap (λ (q : Stub). placed f c q m) is
    ∙ ap (placed f c (stub_in c)) now in
    by_kind f g h c ((stub_in c).kind == 1) refl fit place
    (subst (λ (q : Stub). q.kind ≢ 1 → delivered g q 0xFFFFFFFF ≡ Ok h) is other)
    (subst (λ (q : Stub). q.kind ≡ 1 → h ≡ g) is same)

-- a copy of the state is fit for its story
stub_kind : (f : FlatState) (d : Dest) (next : ℕ) → (stub_of f d next).kind ≤ 3
stub_kind f Nowhere next = omega arith
stub_kind f (Memory at) next = omega arith
stub_kind f (Local at) next = omega arith
stub_kind f Push next = omega arith

stub_frame : (f : FlatState) (d : Dest) (next : ℕ) → (stub_of f d next).fp ≡ f.fp
stub_frame f Nowhere next = refl
stub_frame f (Memory at) next = refl
stub_frame f (Local at) next = refl
stub_frame f Push next = refl

stub_word : (f : FlatState) (d : Dest) (next : ℕ) → HasPlaceFor f d → (stub_of f d next).kind ≡ 1
    → (f.story.header.ramstart ≤ (stub_of f d next).addr) × ((stub_of f d next).addr + 4 ≤ length f.memory)
stub_word f Nowhere next takes is = absurd (omega (arith, is))
stub_word f (Memory at) next takes is = takes
stub_word f (Local at) next takes is = absurd (omega (arith, is))
stub_word f Push next takes is = absurd (omega (arith, is))

stub_local : (f : FlatState) (d : Dest) (next : ℕ) → HasPlaceFor f d → (stub_of f d next).kind ≡ 2
    → IsTrue (has_local (frame_of f) (stub_of f d next).addr 4)
stub_local f Nowhere next takes is = absurd (omega (arith, is))
stub_local f (Memory at) next takes is = absurd (omega (arith, is))
stub_local f (Local at) next takes is = takes
stub_local f Push next takes is = absurd (omega (arith, is))

stub_length : (p : Stub) → length (stub_bytes p) ≡ 16
unfolding stub_bytes
stub_length p = refl

pub copy_fits : (f : FlatState) (d : Dest) (next : ℕ) (c : Copy) → IsSound f → 0 < sp_of f
    → sp_of f + 16 ≤ f.stack.limit → stub_in c ≡ stub_of f d next → HasPlaceFor f d → c ≡ copy_of f d next
    → IsCopyFor f.story c
copy_fits f d next c sound live room on_top takes is =
    let p = stub_of f d next in
    let long : length (f.stack.bytes ++ stub_bytes p) ≡ sp_of f + 16 = length-append f.stack.bytes (stub_bytes p)
    ∙ ap (λ (n : ℕ). sp_of f + n) (stub_length p) in
    let top : stub_in (copy_of f d next) ≡ p = subst (λ (copy : Copy). stub_in copy ≡ p) is on_top in
    let under : below_stub (copy_of f d next) ≡ f.stack.bytes = rw long (grind (arith, common_steps)) in
    let same = stub_frame f d next in
    let good : is_good f.stack.bytes p.fp ≡ true =
    good_frame f.stack.bytes p.fp (subst (IsGood f.stack.bytes) (sym same) (sound.framed.good live)) in
    let local : p.kind ≡ 2 → IsTrue (has_local (parts f.stack.bytes p.fp) p.addr 4) =
    subst (λ (n : ℕ). p.kind ≡ 2 → IsTrue (has_local (parts f.stack.bytes n) p.addr 4)) (sym same)
    (stub_local f d next takes) in
    subst (IsCopyFor f.story) (sym is) (record {
      size = sound.size;
      endmem = sound.endmem;
      rom = sound.rom;
      aligned = omega (arith, long, sound.aligned);
      height = omega (arith, long, room, sound.limit);
      stub = omega (arith, long);
      kind = subst (λ (q : Stub). q.kind ≤ 3) (sym top) (stub_kind f d next);
      framed = subst (λ (q : Stub). is_good (below_stub (copy_of f d next)) q.fp ≡ true) (sym top)
          (subst (λ (xs : List ℕ). is_good xs p.fp ≡ true) (sym under) good);
      word = subst (λ (q : Stub). q.kind ≡ 1 → (f.story.header.ramstart ≤ q.addr) × (q.addr + 4 ≤ length f.memory))
          (sym top) (stub_word f d next takes);
      local = subst (λ (q : Stub). q.kind ≡ 2
          → IsTrue (has_local (parts (below_stub (copy_of f d next)) q.fp) q.addr 4)) (sym top)
          (subst (λ (xs : List ℕ). p.kind ≡ 2 → IsTrue (has_local (parts xs p.fp) p.addr 4)) (sym under) local);
      heap = sound.heap;
    })

pub ruleset memories = (rom_back, rom_written, length_back)

-- the first memory of a story
first_rom : (bytes : List ℕ) (n size : ℕ) → n ≤ length bytes → take n (bytes ++ replicate size 0) ≡ take n bytes
first_rom bytes n size below = take-append-le n bytes (replicate size 0) below

pub rom_again : (present all bytes : List ℕ) (n size from count : ℕ) → take n present ≡ take n bytes
    → n ≤ length bytes → length bytes ≤ size
    → all ≡ put_back_of present (bytes ++ replicate (size - length bytes) 0) from count → take n all ≡ take n bytes
rom_again present all bytes n size from count now below room is =
    rw is (rom_back present (bytes ++ replicate (size - length bytes) 0) (take n bytes) n from count now
    (first_rom bytes n (size - length bytes) below) (omega (arith, first_length bytes size room)))

-- an empty heap fits
pub none_fits : (endmem size : ℕ) → IsHeapWithin endmem size inactive
none_fits endmem size = record {
  blocks = record { rises = tt; ends = tt; none = λ _. refl };
  begins = λ some. absurd (omega (arith, some));
  whole = refl;
  within = record { start = omega arith; ends = tt };
}

pub ruleset restarts = (rom_again, framed_good, none_fits)
