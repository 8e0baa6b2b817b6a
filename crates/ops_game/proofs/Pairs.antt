-- The two stores of getiosys: the fault of the second after the first, and the stores made beside one write to memory.
use Rattle.std.proofs.Common.{◌≡◌, ◌⊎◌, inl, inr, ◌≤◌, ◌<◌, ◌+◌, ◌-◌, ℕ, List, ◌++◌, if◌then◌else◌, Option, IsSome}
use Rattle.std.proofs.Common.{length, take, Result, Ok, Err, refl, ap, subst, ◌∙◌, arith}
use Rattle.std.proofs.lemmas.Grind.{common_steps}
use Rattle.std.proofs.lemmas.Bool.Decides.{nat_tests}
use Rattle.gx_words.specs.declared.faults.Fault.{Fault}
use Rattle.gx_words.specs.declared.faults.Fault.TheVariants.{BadLocal}
use Rattle.gx_words.specs.Numbers.{spliced, bytes_of_number, bytes_of_word}
use Rattle.gx_words.specs.Results.{◌>>=◌}
use Rattle.gx_stack.specs.declared.frames.Frame.{Frame}
use Rattle.gx_stack.specs.Frames.{IsGood, has_local, parts}
use Rattle.gx_stack.proofs.Kept.{length-spliced, word-append, word-spliced, word-take}
use Rattle.gx_state.specs.declared.modes.Dest.{Dest}
use Rattle.gx_state.specs.declared.modes.Dest.TheVariants.{Nowhere, Memory, Local, Push}
use Rattle.gx_state.specs.Flat.{FlatState, frame_of, sp_of, HeldState, IsHeight}
use Rattle.gx_state.specs.Relations.{Stores}
use Rattle.gx_state.specs.Allowed.{IsWordInRam}
use Rattle.gx_state.specs.Calls.{with_word}
use Rattle.gx_state.specs.Sound.{IsSound}
use Rattle.gx_state.specs.Stores.{IsMemory, store_fault, with_value, stored}
use Rattle.gx_operands.specs.Instructions.{Instruction}
use Rattle.gx_operands.specs.Stores.{with_settled, settled}
use Rattle.ops_game.specs.Pairs.{beside_memory, both_fault, memory_word, pushed_bytes}
use Rattle.ops_game.specs.GameRows.{both_stored}

-- ---- the second's fault after the first

-- a frame whose header stands
parts_cut : (s : List ℕ) (fp sp : ℕ) → fp + 8 ≤ sp → parts (take sp s) fp ≡ parts s fp
parts_cut s fp sp below = grind (arith, word-take)

parts_put : (s bytes : List ℕ) (fp at : ℕ) → fp + 8 ≤ at → at + length bytes ≤ length s
    → parts (spliced s at bytes) fp ≡ parts s fp
parts_put s bytes fp at below there = grind (arith, word-spliced)

parts_pushed : (s bytes : List ℕ) (fp : ℕ) → fp + 8 ≤ length s → parts (s ++ bytes) fp ≡ parts s fp
parts_pushed s bytes fp below = grind (arith, word-append)

-- a state after a store, as far as faults of stores go
record IsLike (f g : FlatState) (sp : ℕ) : Type 0 where
  size : length g.memory ≡ length f.memory
  story : g.story ≡ f.story
  frame : frame_of g ≡ frame_of f
  limit : g.stack.limit ≡ f.stack.limit
  top : sp_of g ≡ sp

like_fault : (f g : FlatState) (sp : ℕ) (d : Dest) → IsLike f g sp → store_fault g 4 d (sp_of g) ≡ store_fault f 4 d sp
unfolding store_fault
like_fault f g sp Nowhere like = refl
like_fault f g sp (Memory at) like = rw (like.size, like.story) refl
like_fault f g sp (Local at) like = ap (λ (frame : Frame). if has_local frame at 4 then Ok tt else Err BadLocal)
    like.frame
like_fault f g sp Push like = rw (like.top, like.limit) refl

like_settled : (f : FlatState) (sp v : ℕ) (d : Dest) → IsGood f.stack.bytes f.fp → (frame_of f).values ≤ sp
    → sp ≤ sp_of f → store_fault f 4 d sp ≡ Ok tt
    → IsLike f (with_settled f sp 4 d v) (sp + pushed_bytes d)
unfolding store_fault
like_settled f sp v Nowhere good values there fits = record {
  size = refl;
  story = refl;
  frame = parts_cut f.stack.bytes f.fp sp (omega (arith, good.locals, good.order));
  limit = refl;
  top = grind (arith, common_steps);
}
like_settled f sp v (Memory at) good values there fits =
    let inside : at + 4 ≤ length f.memory = grind (arith, nat_tests) in
    record {
      size = length-spliced f.memory (bytes_of_number 4 v) at inside;
      story = refl;
      frame = parts_cut f.stack.bytes f.fp sp (omega (arith, good.locals, good.order));
      limit = refl;
      top = grind (arith, common_steps);
    }
like_settled f sp v (Local at) good values there fits =
    let frame = frame_of f in
    let inside : at + 4 ≤ frame.values - frame.locals = grind (arith, nat_tests) in
    let put = spliced f.stack.bytes (frame.locals + at) (bytes_of_number 4 v) in
    let within : frame.locals + at + 4 ≤ length f.stack.bytes = omega arith in
    let long : length put ≡ length f.stack.bytes =
    length-spliced f.stack.bytes (bytes_of_number 4 v) (frame.locals + at) within in
    record {
      size = refl;
      story = refl;
      frame = parts_cut put f.fp sp (omega (arith, good.locals, good.order)) ∙ parts_put f.stack.bytes
          (bytes_of_number 4 v) f.fp (frame.locals + at) (omega (arith, good.locals)) within;
      limit = refl;
      top = grind (arith, common_steps, long);
    }
like_settled f sp v Push good values there fits =
    let long : length (take sp f.stack.bytes) ≡ sp = grind (arith, common_steps) in
    record {
      size = refl;
      story = refl;
      frame = parts_pushed (take sp f.stack.bytes) (bytes_of_word v) f.fp
          (omega (arith, good.locals, good.order, long))
          ∙ parts_cut f.stack.bytes f.fp sp (omega (arith, good.locals, good.order));
      limit = refl;
      top = grind (arith, common_steps, long);
    }

-- ---- both stores

abbrev pub with_both : FlatState → Instruction → FlatState
with_both f i = with_value (with_settled f i.sp 4 i.dest f.iosys.0) 4 i.second f.iosys.1

by_first : (f : FlatState) (i : Instruction) (first : Result (Unit {0}) Fault) → IsGood f.stack.bytes f.fp
    → (frame_of f).values ≤ i.sp → i.sp ≤ sp_of f → store_fault f 4 i.dest i.sp ≡ first
    → both_stored f i ≡ ((first >>= (λ (x : Unit {0}). store_fault f 4 i.second (i.sp + pushed_bytes i.dest)))
    >>= (λ (x : Unit {0}). Ok (with_both f i)))
unfolding settled stored
by_first f i (Ok x) good values there is =
    let like = like_settled f i.sp f.iosys.0 i.dest good values there is in
    rw (is, like_fault f (with_settled f i.sp 4 i.dest f.iosys.0) (i.sp + pushed_bytes i.dest) i.second like) refl
by_first f i (Err fault) good values there is = rw is refl

-- by the faults that are looked for
both_by : (f : FlatState) (i : Instruction) → IsSound f → IsHeight f i.sp
    → both_stored f i ≡ (both_fault f i >>= (λ (x : Unit {0}). Ok (with_both f i)))
both_by f i sound height = by_first f i (store_fault f 4 i.dest i.sp)
    (sound.framed.good height.live) height.values height.there refl

pub both_made : (f : FlatState) (i : Instruction) → IsSound f → IsHeight f i.sp → both_fault f i ≡ Ok tt
    → both_stored f i ≡ Ok (with_both f i)
both_made f i sound height is = both_by f i sound height
    ∙ ap (λ (r : Result (Unit {0}) Fault). r >>= (λ (x : Unit {0}). Ok (with_both f i))) is

pub both_failed : (f : FlatState) (i : Instruction) (fault : Fault) → IsSound f → IsHeight f i.sp
    → both_fault f i ≡ Err fault → both_stored f i ≡ Err fault
both_failed f i fault sound height is = both_by f i sound height
    ∙ ap (λ (r : Result (Unit {0}) Fault). r >>= (λ (x : Unit {0}). Ok (with_both f i))) is

record AreFit (f : FlatState) (i : Instruction) : Type 0 where
  first : store_fault f 4 i.dest i.sp ≡ Ok tt
  second : store_fault f 4 i.second (i.sp + pushed_bytes i.dest) ≡ Ok tt

fit_by : (first second : Result (Unit {0}) Fault) (x : Unit {0}) → (first >>= (λ (y : Unit {0}). second)) ≡ Ok x
    → (first ≡ Ok tt) × (second ≡ Ok tt)
fit_by (Ok y) second x is = (refl, is)
fit_by (Err fault) second x is = absurd cc

fit : (f : FlatState) (i : Instruction) → both_fault f i ≡ Ok tt → AreFit f i
fit f i is =
    let both = fit_by (store_fault f 4 i.dest i.sp) (store_fault f 4 i.second (i.sp + pushed_bytes i.dest)) tt is in
    record { first = both.0; second = both.1 }

-- ---- memory first

in_ram : (f : FlatState) (sp v : ℕ) (d : Dest) → store_fault f 4 d sp ≡ Ok tt → IsWordInRam f (memory_word d v)
unfolding store_fault
in_ram f sp v Nowhere fits = (tt, tt)
in_ram f sp v (Memory at) fits = (grind (arith, nat_tests), grind (arith, nat_tests))
in_ram f sp v (Local at) fits = (tt, tt)
in_ram f sp v Push fits = (tt, tt)

pub first_in_ram : (f : FlatState) (i : Instruction) (v : ℕ) → both_fault f i ≡ Ok tt
    → IsWordInRam f (memory_word i.dest v)
first_in_ram f i v is = in_ram f i.sp v i.dest (fit f i is).first

pub second_in_ram : (f : FlatState) (i : Instruction) (v : ℕ) → both_fault f i ≡ Ok tt
    → IsWordInRam f (memory_word i.second v)
second_in_ram f i v is = in_ram f (i.sp + pushed_bytes i.dest) v i.second (fit f i is).second

wants_by : (d : Dest) (v : ℕ) → IsSome (memory_word d v) → IsMemory d
wants_by Nowhere v some = absurd cc
wants_by (Memory at) v some = tt
wants_by (Local at) v some = absurd cc
wants_by Push v some = absurd cc

pub wants_both : (d e : Dest) (v u : ℕ) (w x : Option (ℕ × ℕ)) → w ≡ memory_word d v → x ≡ memory_word e u
    → IsSome w ⊎ IsSome x → IsMemory d ⊎ IsMemory e
wants_both d e v u w x first second (inl some) = inl (wants_by d v (subst IsSome first some))
wants_both d e v u w x first second (inr some) = inr (wants_by e u (subst IsSome second some))

none_by : (d : Dest) → IsMemory (beside_memory d) → ⊥
none_by Nowhere is = is
none_by (Memory at) is = is
none_by (Local at) is = is
none_by Push is = is

pub none_beside : (d e : Dest) → e ≡ beside_memory d → IsMemory e → ⊥
none_beside d e beside is = none_by d (subst IsMemory beside is)

-- what is stored beside memory has no fault once that is written
fault_beside : (f : FlatState) (w x : Option (ℕ × ℕ)) (sp : ℕ) (d : Dest) → store_fault f 4 d sp ≡ Ok tt
    → store_fault (with_word (with_word f w) x) 4 (beside_memory d) sp ≡ Ok tt
unfolding store_fault
fault_beside f w x sp Nowhere fits = refl
fault_beside f w x sp (Memory at) fits = refl
fault_beside f w x sp (Local at) fits = fits
fault_beside f w x sp Push fits = fits

pushed_beside : (d : Dest) → pushed_bytes (beside_memory d) ≡ pushed_bytes d
pushed_beside Nowhere = refl
pushed_beside (Memory at) = refl
pushed_beside (Local at) = refl
pushed_beside Push = refl

-- and makes the same of the state
value_beside : (f : FlatState) (v : ℕ) (d : Dest) → with_value (with_word f (memory_word d v)) 4 (beside_memory d) v
    ≡ with_value f 4 d v
value_beside f v Nowhere = refl
value_beside f v (Memory at) = refl
value_beside f v (Local at) = refl
value_beside f v Push = refl

settled_beside : (f : FlatState) (sp v : ℕ) (d : Dest)
    → with_settled (with_word f (memory_word d v)) sp 4 (beside_memory d) v ≡ with_settled f sp 4 d v
settled_beside f sp v Nowhere = refl
settled_beside f sp v (Memory at) = refl
settled_beside f sp v (Local at) = refl
settled_beside f sp v Push = refl

written_before : (f : FlatState) (w : Option (ℕ × ℕ)) (sp v : ℕ) (d : Dest)
    → with_settled (with_word f w) sp 4 (beside_memory d) v ≡ with_word (with_settled f sp 4 (beside_memory d) v) w
written_before f w sp v Nowhere = refl
written_before f w sp v (Memory at) = refl
written_before f w sp v (Local at) = refl
written_before f w sp v Push = refl

abbrev pub with_words : FlatState → Instruction → FlatState
with_words f i = with_word (with_word f (memory_word i.dest f.iosys.0)) (memory_word i.second f.iosys.1)

abbrev pub with_first : FlatState → Instruction → FlatState
with_first f i = with_settled (with_words f i) i.sp 4 (beside_memory i.dest) f.iosys.0

same_both : (f : FlatState) (i : Instruction) → with_value (with_first f i) 4 (beside_memory i.second) f.iosys.1
    ≡ with_both f i
same_both f i =
    ap (λ (g : FlatState). with_value g 4 (beside_memory i.second) f.iosys.1)
    (written_before (with_word f (memory_word i.dest f.iosys.0)) (memory_word i.second f.iosys.1) i.sp f.iosys.0 i.dest
    ∙ ap (λ (g : FlatState). with_word g (memory_word i.second f.iosys.1)) (settled_beside f i.sp f.iosys.0 i.dest))
    ∙ value_beside (with_settled f i.sp 4 i.dest f.iosys.0) f.iosys.1 i.second

first_fits : (f : FlatState) (i : Instruction) → both_fault f i ≡ Ok tt
    → store_fault (with_words f i) 4 (beside_memory i.dest) i.sp ≡ Ok tt
first_fits f i is = fault_beside f (memory_word i.dest f.iosys.0) (memory_word i.second f.iosys.1) i.sp i.dest
    (fit f i is).first

second_fits : (f : FlatState) (i : Instruction) → both_fault f i ≡ Ok tt
    → store_fault (with_words f i) 4 (beside_memory i.second) (i.sp + pushed_bytes (beside_memory i.dest)) ≡ Ok tt
second_fits f i is =
    rw (pushed_beside i.dest) (fault_beside f (memory_word i.dest f.iosys.0) (memory_word i.second f.iosys.1)
    (i.sp + pushed_bytes i.dest) i.second (fit f i is).second)

like_first : (f : FlatState) (i : Instruction) → IsSound f → IsHeight f i.sp → both_fault f i ≡ Ok tt
    → IsLike (with_words f i) (with_first f i) (i.sp + pushed_bytes (beside_memory i.dest))
like_first f i sound height is = like_settled (with_words f i) i.sp f.iosys.0 (beside_memory i.dest)
    (sound.framed.good height.live) height.values height.there (first_fits f i is)

first_made : (f : FlatState) (i : Instruction) → both_fault f i ≡ Ok tt
    → settled (with_words f i) i.sp 4 (beside_memory i.dest) f.iosys.0 ≡ Ok (with_first f i)
unfolding settled
first_made f i is = rw (first_fits f i is) refl

second_made : (f : FlatState) (i : Instruction) → IsSound f → IsHeight f i.sp → both_fault f i ≡ Ok tt
    → stored (with_first f i) 4 (beside_memory i.second) f.iosys.1 ≡ Ok (with_both f i)
unfolding stored
second_made f i sound height is =
    rw (
      like_fault (with_words f i) (with_first f i) (i.sp + pushed_bytes (beside_memory i.dest))
          (beside_memory i.second) (like_first f i sound height is),
      second_fits f i is,
    ) (ap Ok (same_both f i))

pub first_live : (f : FlatState) (i : Instruction) → IsSound f → IsHeight f i.sp → both_fault f i ≡ Ok tt
    → 0 < sp_of (with_first f i)
first_live f i sound height is = let good = sound.framed.good height.live in
    omega (arith, (like_first f i sound height is).top, good.locals, good.order, height.values)

-- ---- as the code makes them

-- a store that has no fault and takes no memory is made
pub never_refused : (wants : Type 0) (fault : Fault) (old new : HeldState) (g : FlatState)
    (defined : Result FlatState Fault) → Stores {X = Unit {0}} wants (Err fault) old new defined → (wants → ⊥)
    → defined ≡ Ok g → ⊥
never_refused wants fault old new g defined makes never fine =
    let fails : defined ≡ Err fault = makes.1.0 (λ none. never (makes.1.1 none).0) in
    cc

pub first_sure : (f g : FlatState) (i : Instruction) (io : ℕ × ℕ) (w x : Option (ℕ × ℕ)) (d : Dest)
    → both_fault f i ≡ Ok tt → io ≡ f.iosys → w ≡ memory_word i.dest io.0 → x ≡ memory_word i.second io.1
    → g ≡ with_word (with_word f w) x → d ≡ beside_memory i.dest → settled g i.sp 4 d io.0 ≡ Ok (with_first f i)
first_sure f g i io w x d fits same first second written beside =
    rw (written, first, second, beside, same) (first_made f i fits)

pub second_sure : (f g : FlatState) (i : Instruction) (io : ℕ × ℕ) (d : Dest) → IsSound f → IsHeight f i.sp
    → both_fault f i ≡ Ok tt → io ≡ f.iosys → g ≡ with_first f i → d ≡ beside_memory i.second
    → stored g 4 d io.1 ≡ Ok (with_both f i)
second_sure f g i io d sound height fits same after beside =
    rw (after, beside, same) (second_made f i sound height fits)

pub is_one : (r : Result FlatState Fault) (g h : FlatState) → r ≡ Ok g → r ≡ Ok h → g ≡ h
is_one r g h first second = cc
