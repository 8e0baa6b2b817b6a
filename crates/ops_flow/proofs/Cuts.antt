-- A return looks only at what lies below its stack pointer.
use Rattle.std.proofs.Common.{◌≡◌, ◌≤◌, ◌<◌, ◌+◌, ◌-◌, ℕ, Bool, true, false, nat_lt, nat_le, if◌then◌else◌, List, []}
use Rattle.std.proofs.Common.{◌∷◌, ◌++◌}
use Rattle.std.proofs.Common.{length, take, Some, Result, Ok, Err, refl, arith, ap, sym, ◌∙◌}
use Rattle.std.proofs.lemmas.List.{take-take, take-append-le, append-nil, length-take-le}
use Rattle.std.proofs.lemmas.Grind.{common_steps}
use Rattle.std.proofs.lemmas.Bool.Decides.{nat_tests}
use Rattle.gx_words.specs.declared.faults.Fault.{Fault}
use Rattle.gx_words.specs.declared.faults.Fault.TheVariants.{BadLocal, Overflow}
use Rattle.gx_words.specs.Results.{◌>>=◌}
use Rattle.gx_words.specs.Numbers.{word, spliced, bytes_of_word, bytes_of_number}
use Rattle.gx_stack.specs.declared.stubs.Stub.{Stub}
use Rattle.gx_stack.specs.declared.frames.Frame.{Frame}
use Rattle.gx_stack.specs.Frames.{has_local, IsFrame}
use Rattle.std.specs.List.{flat_map}
use Rattle.gx_stack.specs.Stubs.{stub_bytes}
use Rattle.gx_stack.proofs.Kept.{word-take}
use Rattle.gx_state.specs.declared.effects.Effect.{Effect}
use Rattle.gx_state.specs.declared.effects.Effect.TheVariants.{Went, Quit}
use Rattle.gx_state.specs.declared.modes.Dest.{Dest}
use Rattle.gx_state.specs.declared.modes.Dest.TheVariants.{Nowhere, Memory, Local, Push}
use Rattle.gx_state.specs.Flat.{FlatState, cut, written, frame_of, sp_of, IsHeight}
use Rattle.gx_state.specs.Allowed.{IsWordInRam}
use Rattle.gx_state.specs.Returns.{stub_of, pushed_stubs, returned, stub_to}
use Rattle.gx_state.specs.Calls.{with_word}
use Rattle.gx_state.specs.Stores.{store_fault, with_value, stored}
use Rattle.gx_operands.specs.Instructions.{Instruction, going_to, L1}
use Rattle.ops_flow.specs.FlowRows.{branches, catch}
use Rattle.ops_flow.specs.Catches.{with_stub, lasting}
use Rattle.ops_flow.proofs.Opened.{pushing_stub}

with_bytes : FlatState → List ℕ → FlatState
with_bytes f xs = record f { stack = record f.stack { bytes = xs } }

-- the stub that ends at a stack pointer
by_size : (xs : List ℕ) (sp : ℕ) (few : Bool) → nat_lt sp 16 ≡ few → stub_to (take sp xs) sp ≡ stub_to xs sp
unfolding stub_to
by_size xs sp true e = rw e refl
by_size xs sp false e =
    let some : 16 ≤ sp = grind (arith, nat_tests) in
    rw (
      word-take xs sp (sp - 16) (omega arith),
      word-take xs sp (sp - 12) (omega arith),
      word-take xs sp (sp - 8) (omega arith),
      word-take xs sp (sp - 4) (omega arith),
      take-take (sp - 16) sp xs (omega arith),
    ) refl

stub_cut : (xs : List ℕ) (sp : ℕ) → stub_to (take sp xs) sp ≡ stub_to xs sp
stub_cut xs sp = by_size xs sp (nat_lt sp 16) refl

stub_same : (xs ys : List ℕ) (sp : ℕ) → take sp xs ≡ take sp ys → stub_to xs sp ≡ stub_to ys sp
stub_same xs ys sp same = sym (stub_cut xs sp) ∙ ap (λ (zs : List ℕ). stub_to zs sp) same ∙ stub_cut ys sp

-- the return to it
returned_same : (f : FlatState) (xs ys : List ℕ) (sp v : ℕ) → take sp xs ≡ take sp ys
    → returned (with_bytes f xs) sp v ≡ returned (with_bytes f ys) sp v
unfolding returned with_bytes
returned_same f xs ys sp v same =
    let stub = stub_same xs ys sp same in
    let least : sp - 16 ≤ sp = omega arith in
    let below : take (sp - 16) xs ≡ take (sp - 16) ys =
    sym (take-take (sp - 16) sp xs least) ∙ ap (take (sp - 16)) same ∙ take-take (sp - 16) sp ys least in
    rw (stub, below) refl

pub returned_cut : (f : FlatState) (next sp v : ℕ) → f.fp ≤ sp
    → returned (going_to (cut f sp) next) f.fp v ≡ returned (going_to f next) f.fp v
unfolding with_bytes
returned_cut f next sp v below = returned_same (going_to f next) (take sp f.stack.bytes) f.stack.bytes f.fp v
    (take-take f.fp sp f.stack.bytes below)

pub ruleset cuts = (returned_cut)

-- what a catch leaves below FramePtr
take_front : (xs ys : List ℕ) (n : ℕ) → n ≤ length xs → take n (xs ++ ys) ≡ take n xs
take_front xs ys n within = take-append-le n xs ys within

take_kept : (xs ys : List ℕ) (sp fp : ℕ) → fp ≤ sp → sp ≤ length xs → take fp (take sp xs ++ ys) ≡ take fp xs
take_kept xs ys sp fp below there =
    let long : fp ≤ length (take sp xs) = grind (arith, common_steps) in
    take_front (take sp xs) ys fp long ∙ take-take fp sp xs below

take_put : (xs bytes : List ℕ) (at n : ℕ) → n ≤ at → n ≤ length xs → take n (spliced xs at bytes) ≡ take n xs
take_put xs bytes at n below there = grind (arith, common_steps)

pub caught : (f : FlatState) (i : Instruction) (d : Dest) (token v : ℕ) → f.fp ≤ i.sp → i.sp ≤ sp_of f
    → returned (going_to (with_value (with_stub f i) 4 d token) i.next) (with_value (with_stub f i) 4 d token).fp v
    ≡ returned (with_word (going_to f i.next) (lasting d token)) f.fp v
unfolding returned with_bytes with_stub
caught f i Nowhere token v below there =
    returned_same (going_to f i.next) (with_stub f i).stack.bytes f.stack.bytes f.fp v
    (take_kept f.stack.bytes _ i.sp f.fp below there)
caught f i (Memory at) token v below there =
    returned_same (with_word (going_to f i.next) (Some (at, token))) (with_stub f i).stack.bytes f.stack.bytes f.fp v
    (take_kept f.stack.bytes _ i.sp f.fp below there)
caught f i (Local at) token v below there =
    let long : f.fp ≤ length (with_stub f i).stack.bytes = grind (arith, common_steps) in
    let kept = take_put (with_stub f i).stack.bytes (bytes_of_number 4 token)
    ((frame_of (with_stub f i)).locals + at) f.fp (omega arith) long in
    returned_same (going_to f i.next) (with_value (with_stub f i) 4 (Local at) token).stack.bytes f.stack.bytes f.fp v
    (kept ∙ take_kept f.stack.bytes _ i.sp f.fp below there)
caught f i Push token v below there =
    let long : f.fp ≤ length (with_stub f i).stack.bytes = grind (arith, common_steps) in
    let kept = take_front (with_stub f i).stack.bytes (bytes_of_word token) f.fp long in
    returned_same (going_to f i.next) (with_value (with_stub f i) 4 Push token).stack.bytes f.stack.bytes f.fp v
    (kept ∙ take_kept f.stack.bytes _ i.sp f.fp below there)

-- the stack with a stub on top
stub_length : (p : Stub) → length (stub_bytes p) ≡ 16
unfolding stub_bytes
stub_length p = refl

pub one_stub : (p : Stub) → flat_map stub_bytes (p ∷ []) ≡ stub_bytes p
one_stub p = append-nil (stub_bytes p)

pub top_length : (xs : List ℕ) (p : Stub) (n : ℕ) → n ≤ length xs → length (take n xs ++ stub_bytes p) ≡ n + 16
top_length xs p n there = grind (arith, common_steps, stub_length)

word_kept : (xs ys : List ℕ) (n a : ℕ) → n ≤ length xs → a + 4 ≤ n → word (take n xs ++ ys) a ≡ word xs a
word_kept xs ys n a there below = grind (arith, common_steps)

frame_kept : (f : FlatState) (i : Instruction) → IsFrame f.stack.bytes (frame_of f) → IsHeight f i.sp
    → frame_of (with_stub f i) ≡ frame_of f
unfolding with_stub
frame_kept f i frame height =
    let header : f.fp + 8 ≤ i.sp = omega (arith, frame.good.locals, frame.good.order, height.values) in
    rw (
      word_kept f.stack.bytes (stub_bytes (stub_of f i.dest i.next)) i.sp f.fp height.there (omega arith),
      word_kept f.stack.bytes (stub_bytes (stub_of f i.dest i.next)) i.sp (f.fp + 4) height.there (omega arith),
    ) refl

same_fault : (f : FlatState) (i : Instruction) (d : Dest) (n : ℕ) → IsFrame f.stack.bytes (frame_of f)
    → IsHeight f i.sp → store_fault (with_stub f i) 4 d n ≡ store_fault f 4 d n
unfolding store_fault with_stub
same_fault f i Nowhere n frame height = refl
same_fault f i (Memory at) n frame height = refl
same_fault f i (Local at) n frame height =
    ap (λ (p : Frame). let r : Result (Unit {0}) Fault = if has_local p at 4 then Ok tt else Err BadLocal in r)
    (frame_kept f i frame height)
same_fault f i Push n frame height = refl

pub stub_stored : (f : FlatState) (i : Instruction) (d : Dest) (v : ℕ) → IsFrame f.stack.bytes (frame_of f)
    → IsHeight f i.sp
    → stored (with_stub f i) 4 d v ≡ (store_fault f 4 d (i.sp + 16)
    >>= (λ (done : Unit {0}). Ok (with_value (with_stub f i) 4 d v)))
unfolding stored with_stub
stub_stored f i d v frame height =
    rw (
      top_length f.stack.bytes (stub_of f i.dest i.next) i.sp height.there,
      same_fault f i d (i.sp + 16) frame height,
    ) refl

pub token_stored : (f : FlatState) (i : Instruction) (d : Dest) (v : ℕ) → IsFrame f.stack.bytes (frame_of f)
    → IsHeight f i.sp
    → store_fault f 4 d (i.sp + 16) ≡ Ok tt → stored (with_stub f i) 4 d v ≡ Ok (with_value (with_stub f i) 4 d v)
token_stored f i d v frame height fits = stub_stored f i d v frame height
    ∙ ap (λ (r : Result (Unit {0}) Fault). r >>= (λ (done : Unit {0}). Ok (with_value (with_stub f i) 4 d v))) fits

pub stub_over : (f : FlatState) (i : Instruction) (at : ℕ) (bytes : List ℕ)
    → with_stub (written f at bytes) i ≡ written (with_stub f i) at bytes
unfolding with_stub
stub_over f i at bytes = refl

pub in_ram : (f : FlatState) (at n : ℕ) → store_fault f 4 (Memory at) n ≡ Ok tt → (f.story.header.ramstart ≤ at)
    × (at + 4 ≤ length f.memory)
unfolding store_fault
in_ram f at n is = (grind (arith, nat_tests), grind (arith, nat_tests))

pub ruleset stubs = (one_stub, top_length, token_stored, stub_over, in_ram)

-- a token that has no fault is stored in RAM
pub lasting_place : (f : FlatState) (d : Dest) (n token : ℕ) → store_fault f 4 d n ≡ Ok tt
    → IsWordInRam f (lasting d token)
unfolding store_fault
lasting_place f Nowhere n token is = (tt, tt)
lasting_place f (Memory at) n token is = in_ram f at n is
lasting_place f (Local at) n token is = (tt, tt)
lasting_place f Push n token is = (tt, tt)

-- a catch, by the room for its stub
pushed_by : (f : FlatState) (i : Instruction) (full : Bool) → i.sp ≤ sp_of f → nat_lt f.stack.limit (i.sp + 16) ≡ full
    → pushed_stubs (cut f i.sp) (stub_of f i.dest i.next ∷ [])
    ≡ (let r : Result FlatState Fault = if full then Err Overflow else Ok (with_stub f i) in r)
unfolding pushing_stub
pushed_by f i true there is =
    let long : length (take i.sp f.stack.bytes) ≡ i.sp = length-take-le i.sp f.stack.bytes there in
    let fits : nat_le (i.sp + 16) f.stack.limit ≡ false = grind (arith, nat_tests) in
    rw (long, fits) refl
pushed_by f i false there is =
    let long : length (take i.sp f.stack.bytes) ≡ i.sp = length-take-le i.sp f.stack.bytes there in
    let fits : nat_le (i.sp + 16) f.stack.limit ≡ true = grind (arith, nat_tests) in
    rw (long, fits, one_stub (stub_of f i.dest i.next)) refl

abbrev caught_by : FlatState → Instruction → Bool → Result (FlatState × Effect) Fault
caught_by f i full =
    if full then Err Overflow else stored (with_stub f i) 4 i.dest (i.sp + 16) >>= λ (g : FlatState).
    branches g i.next (L1 i)

catch_by : (f : FlatState) (i : Instruction) (full : Bool) → i.sp ≤ sp_of f → nat_lt f.stack.limit (i.sp + 16) ≡ full
    → catch f i ≡ caught_by f i full
unfolding catch
catch_by f i true there is = rw (pushed_by f i true there is) refl
catch_by f i false there is = rw (pushed_by f i false there is) refl

pub catch_is : (f : FlatState) (i : Instruction) → IsHeight f i.sp
    → catch f i ≡ caught_by f i (nat_lt f.stack.limit (i.sp + 16))
catch_is f i height = catch_by f i (nat_lt f.stack.limit (i.sp + 16)) height.there refl

-- a catch whose token can't be stored
pub catch_fails : (f : FlatState) (i : Instruction) (e : Fault) → IsFrame f.stack.bytes (frame_of f) → IsHeight f i.sp
    → i.sp + 16 ≤ f.stack.limit → store_fault f 4 i.dest (i.sp + 16) ≡ Err e → catch f i ≡ Err e
catch_fails f i e frame height room fails =
    let inside : nat_lt f.stack.limit (i.sp + 16) ≡ false = grind (arith, nat_tests) in
    rw (catch_is f i height, inside, stub_stored f i i.dest (i.sp + 16) frame height, fails) refl

pub ruleset catches = (caught, stub_stored, catch_is)

-- what follows a return
abbrev after_return : Bool → Effect
after_return ended = if ended then Quit else Went

-- a catch whose branch returns
pub catch_returns : (f : FlatState) (i : Instruction) → IsFrame f.stack.bytes (frame_of f) → IsHeight f i.sp
    → i.sp + 16 ≤ f.stack.limit → store_fault f 4 i.dest (i.sp + 16) ≡ Ok tt → f.fp ≤ i.sp → L1 i < 2
    → catch f i ≡ (returned (with_word (going_to f i.next) (lasting i.dest (i.sp + 16))) f.fp (L1 i)
    >>= (λ (r : FlatState × Bool). Ok (r.0, after_return r.1)))
catch_returns f i frame height room fits below few =
    let inside : nat_lt f.stack.limit (i.sp + 16) ≡ false = grind (arith, nat_tests) in
    let left : nat_lt (L1 i) 2 ≡ true = grind (arith, nat_tests) in
    rw (catch_is f i height, inside, token_stored f i i.dest (i.sp + 16) frame height fits, left)
    (ap (λ (r : Result (FlatState × Bool) Fault). r >>= (λ (r : FlatState × Bool). Ok (r.0, after_return r.1)))
    (caught f i i.dest (i.sp + 16) (L1 i) below height.there))
