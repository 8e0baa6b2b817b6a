-- Copies of a state whose stack was cut, and the ways back to a copy.
use Rattle.std.proofs.Common.{◌≡◌, ◌≤◌, ◌<◌, ◌+◌, ◌-◌, ℕ, List, ◌++◌, length, take, replicate, IsTrue, refl, subst, sym}
use Rattle.std.proofs.Common.{◌∙◌, arith}
use Rattle.std.proofs.lemmas.List.{append-nil, length-take-le}
use Rattle.gx_stack.specs.declared.stubs.Stub.{Stub}
use Rattle.gx_stack.specs.declared.frames.Frame.{Frame}
use Rattle.gx_stack.specs.Frames.{has_local}
use Rattle.heap_blocks.specs.Heap.{FlatHeap}
use Rattle.gx_story.specs.Stories.{FlatStory}
use Rattle.gx_state.specs.declared.modes.Dest.{Dest}
use Rattle.gx_state.specs.declared.modes.Dest.TheVariants.{Nowhere, Memory, Local, Push}
use Rattle.gx_state.specs.declared.modes.Mode.TheVariants.{Running}
use Rattle.gx_state.specs.Flat.{FlatState, cut, frame_of, IsHeight}
use Rattle.gx_state.specs.Sound.{IsSound}
use Rattle.gx_state.specs.Returns.{stub_of}
use Rattle.gx_state.specs.Copies.{Copy, IsCopyFor, copy_of, stub_in}
use Rattle.gx_state.specs.Allowed.{HasPlaceFor}
use Rattle.gx_state.proofs.Kept.{framed_cut, values_cut}
use Rattle.gx_state.proofs.Backs.{copy_fits, placed}

-- a fit copy with another memory of the same size
pub fits_again : (story : FlatStory) (c : Copy) (m : List ℕ) (heap : FlatHeap) → IsCopyFor story c
    → length m ≡ length c.memory → take story.header.ramstart m ≡ take story.header.ramstart story.bytes → heap ≡ c.heap
    → IsCopyFor story (record { memory = m; stack = c.stack; heap = heap })
fits_again story c m heap fit size rom same =
    rw same (record {
      size = rw size fit.size;
      endmem = rw size fit.endmem;
      rom = rom;
      aligned = fit.aligned;
      height = fit.height;
      stub = fit.stub;
      kind = fit.kind;
      framed = fit.framed;
      word = rw size fit.word;
      local = fit.local;
      heap = rw size fit.heap;
    })

pub ruleset backs = (fits_again)

-- no zeros behind a whole memory
pub none_added : (m : List ℕ) (n : ℕ) → n ≡ length m → m ++ replicate (n - length m) 0 ≡ m
none_added m n is = let none : n - length m ≡ 0 = omega arith in rw none (append-nil m)

pub ruleset whole = (none_added)

-- a place for a word stays one when the stack is cut to a height of the frame
place_cut : (f : FlatState) (sp : ℕ) (d : Dest) → frame_of (cut f sp) ≡ frame_of f → HasPlaceFor f d
    → HasPlaceFor (cut f sp) d
place_cut f sp Nowhere same takes = tt
place_cut f sp (Memory at) same takes = takes
place_cut f sp (Local at) same takes = subst (λ (frame : Frame). IsTrue (has_local frame at 4)) (sym same) takes
place_cut f sp Push same takes = tt

-- the stub doesn't ask for the stack
pub stub_cut : (f : FlatState) (sp : ℕ) (d : Dest) (next : ℕ) → stub_of (cut f sp) d next ≡ stub_of f d next
stub_cut f sp Nowhere next = refl
stub_cut f sp (Memory at) next = refl
stub_cut f sp (Local at) next = refl
stub_cut f sp Push next = refl

cut_sound : (f : FlatState) (sp : ℕ) → IsSound f → IsHeight f sp → IsSound (cut f sp)
cut_sound f sp sound height =
    let long : length (take sp f.stack.bytes) ≡ sp = length-take-le sp f.stack.bytes height.there in
    record {
      story = sound.story;
      size = sound.size;
      endmem = sound.endmem;
      rom = sound.rom;
      limit = sound.limit;
      height = omega (arith, long, height.there, sound.height);
      aligned = rw long height.aligned;
      framed = framed_cut f.stack.bytes f.fp sp height.live sound.framed height.values height.there;
      heap = sound.heap;
    }

-- what a copy of a cut state is, and that it is fit
pub flat_fits : (f : FlatState) (sp : ℕ) (d : Dest) (next : ℕ) (c : Copy) → IsSound f → IsHeight f sp
    → sp + 16 ≤ f.stack.limit → stub_in c ≡ stub_of f d next → HasPlaceFor f d → c ≡ copy_of (cut f sp) d next
    → IsCopyFor f.story c
flat_fits f sp d next c sound height room on_top takes is =
    let good = sound.framed.good height.live in
    let long : length (take sp f.stack.bytes) ≡ sp = length-take-le sp f.stack.bytes height.there in
    let live : 0 < length (take sp f.stack.bytes) = omega (arith, long, height.values, good.locals, good.order) in
    let same = values_cut f.stack.bytes f.fp sp height.live sound.framed height.values height.there in
    copy_fits (cut f sp) d next c (cut_sound f sp sound height) live (omega (arith, long, room))
    (on_top ∙ sym (stub_cut f sp d next)) (place_cut f sp d same takes) is

-- what is laid, named by the copy
pub laid_as : (f : FlatState) (c : Copy) (p : Stub) (m stack : List ℕ) (heap : FlatHeap) → stack ≡ c.stack
    → heap ≡ c.heap
    → (let g : FlatState = record f {
      memory = m;
      stack = record f.stack { bytes = take (length stack - 16) stack };
      fp = p.fp;
      pc = p.pc;
      heap = heap;
      mode = Running;
    } in g ≡ placed f c p m)
laid_as f c p m stack heap same blocks = rw (same, blocks) refl
