-- What holds of a step of these rows that asks something.
use Rattle.std.specs.Prelude.{◌≡◌, ℕ, ◌+◌, ◌≤◌, Ok}
use Rattle.gx_state.specs.declared.effects.Effect.{Effect}
use Rattle.gx_state.specs.declared.effects.Effect.TheVariants.{Went, Drew, Put, Glk, Save, Restore, Quit, Spent}
use Rattle.gx_state.specs.Flat.{FlatState}
use Rattle.gx_state.specs.Stores.{store_fault}
use Rattle.gx_undo.specs.Undo.{FlatUndo}
use Rattle.gx_operands.specs.Instructions.{Instruction}

-- What holds of a step that asks for a save or a restore: the state and the copies stand, so many bytes fit above the
-- pops, and the answer has its place.
pub record IsAsking (old new : FlatState × FlatUndo) (i : Instruction) (above : ℕ) : Type 0 where
  pub stands : new ≡ old
  pub room : i.sp + above ≤ old.0.stack.limit
  pub stores : store_fault old.0 4 i.dest i.sp ≡ Ok tt

-- A step of this class is done, or asks for a save, which has a stub, or for a restore.
abbrev pub IsSaveAtMost : FlatState × FlatUndo → FlatState × FlatUndo → Instruction → Effect → Type 0
IsSaveAtMost old new i Went = Unit {0}
IsSaveAtMost old new i Drew = Unit {0}
IsSaveAtMost old new i (Put c) = ⊥
IsSaveAtMost old new i (Glk selector args room) = ⊥
IsSaveAtMost old new i (Save stream) = IsAsking old new i 16
IsSaveAtMost old new i (Restore stream) = IsAsking old new i 0
IsSaveAtMost old new i Quit = Unit {0}
IsSaveAtMost old new i Spent = ⊥
