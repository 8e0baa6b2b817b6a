-- What contracts say of a step that prints: that it asks for a character at most.
use Rattle.gx_state.specs.declared.effects.Effect.{Effect}
use Rattle.gx_state.specs.declared.effects.Effect.TheVariants.{Went, Put}
use Rattle.std.specs.Prelude.{Bool, true, false, Result, Err}
use Rattle.gx_words.specs.declared.faults.Fault.{Fault}
use Rattle.gx_words.specs.declared.faults.Fault.TheVariants.{BadFrame}
use Rattle.gx_strings.specs.Items.{next_item}
use Rattle.gx_state.specs.declared.modes.Mode.{Mode}
use Rattle.gx_state.specs.declared.modes.Mode.TheVariants as mode
use Rattle.gx_state.specs.Flat.{FlatState}
use Rattle.ops_print.specs.Items.{item, mode_behind}

-- A step of this class is done, or asks for a character to be put: then `stands` holds.
abbrev pub IsPutAtMost : Effect → Type 0 → Type 0
IsPutAtMost Went stands = Unit {0}
IsPutAtMost (Put c) stands = stands
IsPutAtMost _ stands = ⊥

-- the same by the mode; where code runs there is nothing to print
abbrev pub item_by : FlatState → Mode → Result (FlatState × Effect) Fault
item_by f mode.Running = Err BadFrame
item_by f (mode.Printing p) = item f p

abbrev pub printed : FlatState → Result (FlatState × Effect) Fault
printed f = item_by f f.mode

-- the mode after a character that was put, by the mode before
unfoldable pub mode_after : FlatState → Mode
mode_after f =
    elim f.mode [
      | mode.Running ↦ mode.Running
      | mode.Printing p ↦ mode_behind f.mode (next_item f.memory f.table p)
    ]

-- whether a character is asked to be put
abbrev pub is_put : Effect → Bool
is_put (Put c) = true
is_put _ = false
