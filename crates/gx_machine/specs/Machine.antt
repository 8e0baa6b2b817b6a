-- What contracts see of a machine.
use Rattle.std.specs.Prelude.{Option}
use Rattle.gx_state.specs.Flat.{FlatState}
use Rattle.gx_undo.specs.Undo.{FlatUndo}
use Rattle.gx_machine.specs.declared.askings.Asking.{Asking}

-- A machine between its steps: its state, and the copies that it keeps for undo.
pub record FlatMachine : Type 0 where
  pub flat : FlatState
  pub undo : FlatUndo

-- A machine, and what it waits for, if anything.
pub record Whole : Type 0 where
  pub machine : FlatMachine
  pub asking : Option Asking
