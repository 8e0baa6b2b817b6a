-- Answers to what a step asks.
use Rattle.std.specs.Prelude.{ℕ, ◌+◌, ◌<◌, ◌≤◌, List, [], ◌∷◌, length}
use Rattle.gx_state.specs.declared.effects.Effect.{Effect}
use Rattle.gx_state.specs.declared.effects.Effect.TheVariants.{Went, Drew, Put, Glk, Save, Restore, Quit, Spent}
use Rattle.gx_state.specs.declared.effects.Reply.{Reply}
use Rattle.gx_state.specs.Flat.{FlatState}

-- each write lies between two addresses; no bytes may be written anywhere
abbrev pub AreBetween : ℕ → ℕ → List (ℕ × List ℕ) → Type 0
AreBetween low high [] = Unit {0}
AreBetween low high (w ∷ ws) = (0 < length w.1 → (low ≤ w.0) × (w.0 + length w.1 ≤ high)) × AreBetween low high ws

-- each write lies in RAM
abbrev pub AreInRam : FlatState → List (ℕ × List ℕ) → Type 0
AreInRam f ws = AreBetween f.story.header.ramstart (length f.memory) ws

-- A reply to an asking with so much room on the stack.
pub record IsReply (f : FlatState) (room : ℕ) (reply : Reply) : Type 0 where
  pub writes : AreInRam f reply.writes
  pub pushes : length reply.pushes ≤ room

-- an effect that asks nothing, of a step that was done
abbrev pub IsDone : Effect → Type 0
IsDone Went = Unit {0}
IsDone Drew = Unit {0}
IsDone (Put c) = ⊥
IsDone (Glk selector args room) = ⊥
IsDone (Save stream) = ⊥
IsDone (Restore stream) = ⊥
IsDone Quit = Unit {0}
IsDone Spent = ⊥
