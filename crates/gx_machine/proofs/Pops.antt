-- Where no operand was popped, the stack isn't cut.
use Rattle.std.proofs.Common.{◌≡◌, ◌-◌, ◌*◌, ℕ, Bool, true, false, if◌then◌else◌, List, Ok, Err, refl, ap, arith}
use Rattle.std.proofs.Math.Seq.{take-length}
use Rattle.gx_words.specs.declared.faults.Fault.{Fault}
use Rattle.gx_words.specs.declared.faults.Fault.TheVariants.{BadLocal}
use Rattle.gx_words.specs.Results.{◌>>=◌}
use Rattle.gx_stack.specs.declared.faults.StackFault.TheVariants as stack_fault
use Rattle.gx_stack.specs.Calls as calls
use Rattle.gx_stack.specs.Faults.{lifted}
use Rattle.gx_stack.specs.Flat.{FlatStack}
use Rattle.gx_stack.specs.Frames.{has_local}
use Rattle.gx_state.specs.declared.effects.Effect.TheVariants.{Went}
use Rattle.gx_state.specs.declared.modes.Dest.TheVariants.{Local}
use Rattle.gx_state.specs.Calls.{with_local}
use Rattle.gx_state.specs.Flat.{FlatState, cut, frame_of, sp_of}
use Rattle.gx_state.specs.Stores.{store_fault}
use Rattle.gx_operands.specs.declared.cursor.Cursor.{Cursor}
use Rattle.gx_operands.specs.Instructions.{going_to}
use Rattle.gx_operands.specs.Stores.{settled}
use Rattle.gx_machine.specs.Quick.{jumped_on, stored_on}

cut_at_top : (f : FlatState) (sp : ℕ) → sp ≡ sp_of f → cut f sp ≡ f
cut_at_top f sp top = rw top (ap (λ (bytes : List ℕ). record f { stack = record f.stack { bytes = bytes } })
    (take-length f.stack.bytes))

pub jumped_in_place : (f : FlatState) (pc : ℕ) (p : Cursor) → p.popped ≡ 0 → jumped_on f pc p ≡ Ok (going_to f pc, Went)
jumped_in_place f pc p none = ap (λ (g : FlatState). Ok (going_to g pc, Went))
    (cut_at_top f (sp_of f - 4 * p.popped) (omega arith))

-- a store to a local by whether the frame has it
by_local : (b : Bool) (f : FlatState) (s : FlatStack) (sp : ℕ)
    → ((if b then Ok tt else Err BadLocal) >>= (λ (x : Unit {0}). Ok (cut (record f { stack = s }) sp)))
    ≡ ((lifted (if b then Ok s else Err stack_fault.BadLocal) >>= (λ (t : FlatStack). Ok (record f { stack = t })))
    >>= (λ (h : FlatState). Ok (cut h sp)))
by_local true f s sp = refl
by_local false f s sp = refl

settled_local : (f : FlatState) (sp width at v : ℕ)
    → settled f sp width (Local at) v ≡ (with_local f at width v >>= (λ (h : FlatState). Ok (cut h sp)))
unfolding settled store_fault with_local calls.with_local
settled_local f sp width at v = by_local (has_local (frame_of f) at width) f _ sp

pub stored_in_place : (f g : FlatState) (width at v : ℕ) (p : Cursor) → p.popped ≡ 0 → sp_of g ≡ sp_of f
    → with_local f at width v ≡ Ok g
    → stored_on f width (Local at) v p ≡ Ok (going_to g p.at, Went)
stored_in_place f g width at v p none same stores =
    rw (settled_local f (sp_of f - 4 * p.popped) width at v, stores)
    (ap (λ (h : FlatState). Ok (going_to h p.at, Went)) (cut_at_top g (sp_of f - 4 * p.popped) (omega (arith, same))))

pub no_local : (f : FlatState) (width at v : ℕ) (p : Cursor) (e : Fault) → with_local f at width v ≡ Err e
    → stored_on f width (Local at) v p ≡ Err e
no_local f width at v p e fails = rw (settled_local f (sp_of f - 4 * p.popped) width at v, fails) refl

pub ruleset none_popped = (jumped_in_place, stored_in_place, no_local)
