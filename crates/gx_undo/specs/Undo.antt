-- The copies that a machine keeps for restoreundo and discardundo (Glulx 3.1.2, "Game State"; discardundo isn't of
-- 3.1.2).
use Rattle.std.specs.Prelude.{ℕ, List, ◌∷◌, take, drop, All}
use Rattle.gx_state.specs.Copies.{Copy, IsCopyFor}
use Rattle.gx_story.specs.Stories.{FlatStory}

-- the copies, the newest first, and the most that are kept, which the standard leaves to the interpreter
pub record FlatUndo : Type 0 where
  pub copies : List Copy
  pub depth : ℕ

-- the greatest depth
abbrev pub most_undo : ℕ
most_undo = 64

-- saveundo: one more copy; the oldest is dropped where as many are kept as may be
abbrev pub with_newest : FlatUndo → Copy → FlatUndo
with_newest u c = record u { copies = take u.depth (c ∷ u.copies) }

-- restoreundo, discardundo: the newest is taken away, where there is one
abbrev pub without_newest : FlatUndo → FlatUndo
without_newest u = record u { copies = drop 1 u.copies }

-- WHAT CONTRACTS SAY

-- each of them is fit for a story
abbrev pub AreCopiesFor : FlatStory → List Copy → Type 0
AreCopiesFor story copies = All (IsCopyFor story) copies
