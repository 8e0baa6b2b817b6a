-- The way back to each copy that a machine keeps for undo (Glulx 3.1.2, "Game State") has no fault.
use Rattle.std.specs.Prelude.{◌≡◌, false, length, All, Ok}
use Rattle.gx_pages.specs.Memory.{put_back_of}
use Rattle.gx_state.specs.declared.modes.Mode.TheVariants.{Running}
use Rattle.gx_state.specs.Flat.{FlatState}
use Rattle.gx_state.specs.Copies.{Copy, restored_to}
use Rattle.gx_state.specs.Returns.{returned}
use Rattle.gx_machine.specs.Machine.{FlatMachine}

-- a copy laid over a state, but for the protected range, with its stub still on top: the first half of `restored_to`
abbrev pub laid_over : FlatState → Copy → FlatState
laid_over f c = record f {
  memory = put_back_of f.memory c.memory f.protected.0 f.protected.1;
  stack = record f.stack { bytes = c.stack };
  heap = c.heap;
  mode = Running;
}

-- the second half: -1 is delivered to that stub without a fault, and that is where `restored_to` is
abbrev pub HasWayBack : FlatState → Copy → Type 0
HasWayBack f c = returned (laid_over f c) (length c.stack) 0xFFFFFFFF ≡ Ok (restored_to f c, false)

-- so it is of each copy that a machine keeps
abbrev pub HasWaysBack : FlatMachine → Type 0
HasWaysBack m = All (HasWayBack m.flat) m.undo.copies
