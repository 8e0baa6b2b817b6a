-- What the fields of a machine stand for.
use Rattle.std.specs.Prelude.{◌≡◌, ℕ, ◌+◌, ◌*◌, ◌≤◌, Ok, Some, IfSome}
use Rattle.std.specs.Option.{option_map}
use Rattle.gx_state.specs.declared.effects.Reply.{Reply}
use Rattle.gx_state.specs.declared.modes.Dest.{Dest}
use Rattle.gx_state.specs.declared.modes.Dest.TheVariants.{Nowhere, Push}
use Rattle.gx_state.specs.declared.modes.Mode.{Mode}
use Rattle.gx_state.specs.Copies.{copy_of}
use Rattle.gx_state.specs.Flat.{FlatState, HeldState, IsHeight, cut}
use Rattle.gx_state.specs.Stores.{store_fault, IsMemory}
use Rattle.gx_undo.specs.Undo.{FlatUndo, AreCopiesFor}
use Rattle.gx_machine.specs.declared.askings.Asking.TheVariants as asking
use Rattle.gx_machine.specs.declared.machine.Pending.{Pending}
use Rattle.gx_machine.specs.declared.machine.Machine.TheInside.{Inside}
use Rattle.gx_machine.specs.Answer.{answered_state, replied, IsStoredAnswer}
use Rattle.gx_machine.specs.Machine.{FlatMachine, Whole}
use Rattle.gx_machine.specs.SavedCopies.{saved_copy}
use Rattle.gx_machine.specs.Step.{room_of}

abbrev pub whole_of : {A : Type 0} → Inside A → Whole
whole_of m =
    record { machine = record { flat = m.state.flat; undo = m.undo }; asking = option_map (λ p. p.asking) m.pending }

-- the machine that a state and the copies beside it make
abbrev pub machine_with : HeldState → FlatUndo → FlatMachine
machine_with s u = record { flat = s.flat; undo = u }

-- how many bytes the result takes on the stack
abbrev pub result_len : Dest → ℕ
result_len Push = 4
result_len dest = 0

-- where the machine goes on once it is answered
abbrev pub resumed_at : FlatState → ℕ → Mode → FlatState
resumed_at f pc mode = record f { pc = pc; mode = mode }

-- what is pending is the save that asked, and its stub has room
pub record IsSaving (f : FlatState) (p : Pending) : Type 0 where
  pub room : p.sp + 16 ≤ f.stack.limit
  pub copy : saved_copy f ≡ copy_of (cut f p.sp) p.dest p.next

-- what is pending answers what asked, and its store has no fault
pub record IsPendingAnswer (f : FlatState) (p : Pending) : Type 0 where
  pub height : IsHeight f p.sp
  pub stores : store_fault f 4 p.dest p.sp ≡ Ok tt
  pub memory : IsMemory p.dest → IsStoredAnswer f
  pub room : p.sp + 4 * room_of (Some p.asking) + result_len p.dest ≤ f.stack.limit
  pub saves : p.asking ≡ asking.Save → IsSaving f p
  pub puts : p.asking ≡ asking.Put → p.dest ≡ Nowhere
  pub answers : (reply : Reply) → answered_state f reply ≡ resumed_at (replied f p.sp p.dest reply) p.next p.mode

-- the state that is seen, and what holds of the fields beside it
pub record IsMachine {A : Type 0} (m : Inside A) : Type 0 where
  pub pends : IfSome m.pending (IsPendingAnswer m.state.flat)
  pub copies : AreCopiesFor m.state.flat.story m.undo.copies
