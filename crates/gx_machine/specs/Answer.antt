-- The machine after what it asked is answered.
use Rattle.std.specs.Prelude.{◌≡◌, ℕ, ◌-◌, ◌*◌, ◌++◌, IsOkAnd, None, IsSome}
use Rattle.std.specs.Option.{option_map_or}
use Rattle.std.specs.Result.{result_ok}
use Rattle.gx_pages.specs.Memory.{all_spliced}
use Rattle.std.specs.List.{flat_map}
use Rattle.gx_words.specs.Numbers.{bytes_of_word}
use Rattle.gx_rows.specs.declared.instructions.Class.{Class}
use Rattle.gx_rows.specs.declared.instructions.Class.TheVariants as class
use Rattle.gx_state.specs.declared.effects.Reply.{Reply}
use Rattle.gx_state.specs.declared.modes.Dest.{Dest}
use Rattle.gx_state.specs.declared.modes.Dest.TheVariants.{Nowhere, Push}
use Rattle.gx_state.specs.declared.modes.Mode.{Mode}
use Rattle.gx_state.specs.declared.modes.Mode.TheVariants as mode
use Rattle.gx_state.specs.Flat.{FlatState, sp_of, cut}
use Rattle.gx_state.specs.Stores.{with_value, IsMemory}
use Rattle.gx_operands.specs.Instructions.{Instruction, instruction, L2, going_to}
use Rattle.gx_strings.specs.Items.{next_item}
use Rattle.ops_print.specs.Items.{mode_behind}
use Rattle.gx_machine.specs.Machine.{FlatMachine, Whole}
use Rattle.gx_state.specs.Replies.{IsReply}
use Rattle.gx_machine.specs.Step.{room_of}

-- the writes of a reply, in order, and its value where that goes to memory or a local
abbrev pub with_writes : FlatState → Dest → Reply → FlatState
with_writes f Push r = record f { memory = all_spliced f.memory r.writes }
with_writes f dest r = with_value (record f { memory = all_spliced f.memory r.writes }) 4 dest r.value

-- the values that a reply pushes, in order, and then its value where that is pushed
abbrev pub with_pushes : FlatState → Dest → Reply → FlatState
with_pushes f Push r = let bytes = f.stack.bytes ++ flat_map bytes_of_word r.pushes in
    with_value (record f { stack = record f.stack { bytes = bytes } }) 4 Push r.value
with_pushes f dest r = record f { stack = record f.stack { bytes = f.stack.bytes ++ flat_map bytes_of_word r.pushes } }

-- A reply: the writes are made, the stack is cut, the values are pushed, and the answer is stored.
-- (What is popped and pushed lies apart from memory and locals.)
abbrev pub replied : FlatState → ℕ → Dest → Reply → FlatState
replied f sp dest r = with_pushes (cut (with_writes f dest r) sp) dest r

-- The instruction that asked, answered: a Glk call has popped its arguments, a character that was
-- put has no answer to store, and a save or a restore has one.
abbrev pub answered_row : Class → FlatState → Instruction → Reply → FlatState
answered_row class.Glk f i r = going_to (replied f (i.sp - 4 * L2 i) i.dest r) i.next
answered_row class.Print f i r = going_to (replied f i.sp Nowhere r) i.next
answered_row class.Game f i r = going_to (replied f i.sp i.dest r) i.next
answered_row c f i r = f

-- The instruction at PC, or a character of what is printed that was put: the next item follows.
abbrev pub answered_in : FlatState → Reply → Mode → FlatState
answered_in f r mode.Running = option_map_or (λ i. answered_row i.row.class f i r) (result_ok (instruction f)) f
answered_in f r (mode.Printing p) =
    record (replied f (sp_of f) Nowhere r) { mode = mode_behind (mode.Printing p) (next_item f.memory f.table p) }

-- The state after an asking is answered.
unfoldable pub answered_state : FlatState → Reply → FlatState
answered_state f r = answered_in f r f.mode

unfoldable pub answer_of : FlatMachine → Reply → FlatMachine
answer_of m r = record m { flat = answered_state m.flat r }

-- The value of an answer is stored in memory: that of a Glk call, a save or a restore may be.
abbrev pub IsStoredBy : Class → Instruction → Type 0
IsStoredBy class.Glk i = IsMemory i.dest
IsStoredBy class.Game i = IsMemory i.dest
IsStoredBy c i = ⊥

unfoldable pub IsStoredAnswer : FlatState → Type 0
IsStoredAnswer f = (f.mode ≡ mode.Running) × IsOkAnd (instruction f) (λ i. IsStoredBy i.row.class i)

-- WHAT CONTRACTS SAY

-- an asking is answered
abbrev pub answered_whole : Whole → Reply → Whole
answered_whole m r = record { machine = answer_of m.machine r; asking = None }

-- An asking is pending, and the reply fits it.
pub record AnswersAsking (m : Whole) (reply : Reply) : Type 0 where
  pub pending : IsSome m.asking
  pub fits : IsReply m.machine.flat (room_of m.asking) reply
