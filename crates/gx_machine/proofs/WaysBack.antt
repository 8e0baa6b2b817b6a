-- The way back to each copy that is kept for undo has no fault.
use Rattle.std.proofs.Common.{◌≡◌, ◌+◌, ◌-◌, ◌≤◌, ◌==◌, nat_lt, nat_le, ℕ, zero, suc, Bool, true, false, length}
use Rattle.std.proofs.Common.{Result, Ok, Err, IsTrue, refl, ap, sym, ◌∙◌, arith}
use Rattle.std.proofs.lemmas.Bool.{le-leb, le-ltb}
use Rattle.std.proofs.lemmas.Bool.Decides.{nat_tests}
use Rattle.std.proofs.lemmas.List.{length-take-le}
use Rattle.gx_words.specs.declared.faults.Fault.{Fault}
use Rattle.gx_stack.specs.declared.stubs.Stub.{Stub}
use Rattle.gx_stack.specs.Frames.{has_local}
use Rattle.gx_story.specs.Stories.{FlatStory}
use Rattle.gx_state.specs.declared.modes.Dest.{Dest}
use Rattle.gx_state.specs.declared.modes.Dest.TheVariants.{Nowhere, Memory, Local, Push}
use Rattle.gx_state.specs.Copies.{Copy, IsCopyFor, stub_in, restored_to}
use Rattle.gx_state.specs.Flat.{FlatState, frame_of, sp_of}
use Rattle.gx_state.specs.Returns.{stub_to, back, delivered, returned}
use Rattle.gx_state.specs.Sound.{IsSound}
use Rattle.gx_state.specs.Stores.{stored, store_fault, with_value}
use Rattle.gx_state.proofs.Backs.{length_back}
use Rattle.gx_undo.specs.Undo.{AreCopiesFor}
use Rattle.gx_machine.specs.Machine.{FlatMachine}
use Rattle.gx_machine.specs.WaysBack.{laid_over, HasWayBack, HasWaysBack}

-- the stub on top of a copy that is fit
stub-there : (story : FlatStory) (c : Copy) → IsCopyFor story c → stub_to c.stack (length c.stack) ≡ Ok (stub_in c)
unfolding stub_to
stub-there story c fit =
    let some : nat_lt (length c.stack) 16 ≡ false = le-ltb (length c.stack) 16 fit.stub in
    rw (some, fit.framed) refl

not-empty : (story : FlatStory) (c : Copy) → IsCopyFor story c → (length c.stack == 0) ≡ false
not-empty story c fit = grind (arith, nat_tests, fit.stub)

-- the state that goes on in the frame of that stub
abbrev gone_back : FlatState → Copy → FlatState
gone_back f c = back (laid_over f c) (length c.stack) (stub_in c)

-- once a value is delivered to it, that is where the copy is restored to
returned-by : (f h : FlatState) (c : Copy) → IsCopyFor f.story c
    → delivered (gone_back f c) (stub_in c) 0xFFFFFFFF ≡ Ok h
    → returned (laid_over f c) (length c.stack) 0xFFFFFFFF ≡ Ok (h, false)
unfolding returned
returned-by f h c fit is = rw (not-empty f.story c fit, stub-there f.story c fit, is) refl

restored-by : (f h : FlatState) (c : Copy) → returned (laid_over f c) (length c.stack) 0xFFFFFFFF ≡ Ok (h, false)
    → restored_to f c ≡ h
unfolding restored_to
restored-by f h c is = ap (λ (r : Result (FlatState × Bool) Fault). let g : FlatState =
    elim r [ Ok x ↦ x.0 | Err fault ↦ f ] in g) is

way-by : (f h : FlatState) (c : Copy) → IsCopyFor f.story c
    → delivered (gone_back f c) (stub_in c) 0xFFFFFFFF ≡ Ok h → HasWayBack f c
way-by f h c fit is =
    let all = returned-by f h c fit is in
    all ∙ ap (λ (g : FlatState). Ok (g, false)) (sym (restored-by f h c all))

-- a store without a fault is made
store-made : (f : FlatState) (d : Dest) (v : ℕ) → store_fault f 4 d (sp_of f) ≡ Ok tt
    → stored f 4 d v ≡ Ok (with_value f 4 d v)
unfolding stored
store-made f d v none = rw none refl

word-fits : (f : FlatState) (at sp : ℕ) → f.story.header.ramstart ≤ at → at + 4 ≤ length f.memory
    → store_fault f 4 (Memory at) sp ≡ Ok tt
unfolding store_fault
word-fits f at sp above there =
    let inside : nat_lt (length f.memory) (at + 4) ≡ false = le-ltb (length f.memory) (at + 4) there in
    let ram : nat_lt at f.story.header.ramstart ≡ false = le-ltb at f.story.header.ramstart above in
    rw (inside, ram) refl

nowhere-fits : (f : FlatState) (sp : ℕ) → store_fault f 4 Nowhere sp ≡ Ok tt
unfolding store_fault
nowhere-fits f sp = refl

local-fits : (f : FlatState) (at sp : ℕ) → IsTrue (has_local (frame_of f) at 4) → store_fault f 4 (Local at) sp ≡ Ok tt
unfolding store_fault
local-fits f at sp has = rw has refl

push-fits : (f : FlatState) (sp : ℕ) → sp + 4 ≤ f.stack.limit → store_fault f 4 Push sp ≡ Ok tt
unfolding store_fault
push-fits f sp room = let fits : nat_le (sp + 4) f.stack.limit ≡ true = le-leb (sp + 4) f.stack.limit room in rw fits refl

-- the store operand of each type of stub
abbrev at_pc : FlatState → Stub → FlatState
at_pc g p = record g { pc = p.pc }

to-nowhere : (g : FlatState) (p : Stub) (v : ℕ) → p.kind ≡ 0 → delivered g p v ≡ stored (at_pc g p) 4 Nowhere v
unfolding delivered
to-nowhere g p v is = rw is refl

to-word : (g : FlatState) (p : Stub) (v : ℕ) → p.kind ≡ 1 → delivered g p v ≡ stored (at_pc g p) 4 (Memory p.addr) v
unfolding delivered
to-word g p v is = rw is refl

to-local : (g : FlatState) (p : Stub) (v : ℕ) → p.kind ≡ 2 → delivered g p v ≡ stored (at_pc g p) 4 (Local p.addr) v
unfolding delivered
to-local g p v is = rw is refl

to-top : (g : FlatState) (p : Stub) (v : ℕ) → p.kind ≡ 3 → delivered g p v ≡ stored (at_pc g p) 4 Push v
unfolding delivered
to-top g p v is = rw is refl

-- a stub whose store has no fault
way-to : (f : FlatState) (c : Copy) (d : Dest) → IsCopyFor f.story c
    → delivered (gone_back f c) (stub_in c) 0xFFFFFFFF ≡ stored (at_pc (gone_back f c) (stub_in c)) 4 d 0xFFFFFFFF
    → store_fault (at_pc (gone_back f c) (stub_in c)) 4 d (sp_of (gone_back f c)) ≡ Ok tt → HasWayBack f c
way-to f c d fit there none =
    way-by f (with_value (at_pc (gone_back f c) (stub_in c)) 4 d 0xFFFFFFFF) c fit
    (there ∙ store-made (at_pc (gone_back f c) (stub_in c)) d 0xFFFFFFFF none)

way-by-kind : (f : FlatState) (c : Copy) (kind : ℕ) → (stub_in c).kind ≡ kind
    → f.stack.limit ≡ f.story.header.stack_size → IsCopyFor f.story c → HasWayBack f c
way-by-kind f c zero is limit fit = way-to f c Nowhere fit (to-nowhere (gone_back f c) (stub_in c) 0xFFFFFFFF is)
    (nowhere-fits (at_pc (gone_back f c) (stub_in c)) (sp_of (gone_back f c)))
way-by-kind f c (suc zero) is limit fit =
    let place = fit.word is in
    let size = length_back f.memory c.memory f.protected.0 f.protected.1 in
    way-to f c (Memory (stub_in c).addr) fit (to-word (gone_back f c) (stub_in c) 0xFFFFFFFF is)
    (word-fits (at_pc (gone_back f c) (stub_in c)) (stub_in c).addr (sp_of (gone_back f c)) place.0 (rw size place.1))
way-by-kind f c (suc (suc zero)) is limit fit =
    way-to f c (Local (stub_in c).addr) fit (to-local (gone_back f c) (stub_in c) 0xFFFFFFFF is)
    (local-fits (at_pc (gone_back f c) (stub_in c)) (stub_in c).addr (sp_of (gone_back f c)) (fit.local is))
way-by-kind f c (suc (suc (suc n))) is limit fit =
    let kind = fit.kind in
    let some = fit.stub in
    let few = fit.height in
    let height = length-take-le (length c.stack - 16) c.stack (omega arith) in
    way-to f c Push fit (to-top (gone_back f c) (stub_in c) 0xFFFFFFFF (omega (arith, is, kind)))
    (push-fits (at_pc (gone_back f c) (stub_in c)) (sp_of (gone_back f c)) (omega (arith, height, some, few, limit)))

-- a copy that is fit for the story of a sound state
pub way_back : (f : FlatState) (c : Copy) → IsSound f → IsCopyFor f.story c → HasWayBack f c
way_back f c sound fit = way-by-kind f c (stub_in c).kind refl sound.limit fit

pub ways_back : (m : FlatMachine) → IsSound m.flat → AreCopiesFor m.flat.story m.undo.copies → HasWaysBack m
ways_back m sound fit = λ k d inside. way_back m.flat _ sound (fit k d inside)
