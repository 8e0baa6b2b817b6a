-- Copies that are fit for a story stay so: with one more in front of them, and without the newest.
use Rattle.std.proofs.Common.{◌∷◌}
use Rattle.std.proofs.lemmas.List.Elements.{All-cons, All-take, All-drop}
use Rattle.gx_story.specs.Stories.{FlatStory}
use Rattle.gx_state.specs.Copies.{Copy, IsCopyFor}
use Rattle.gx_undo.specs.Undo.{FlatUndo, AreCopiesFor, with_newest, without_newest}

pub fit_with : (story : FlatStory) (u : FlatUndo) (c : Copy) → AreCopiesFor story u.copies → IsCopyFor story c
    → AreCopiesFor story (with_newest u c).copies
fit_with story u c all one = All-take (IsCopyFor story) u.depth (c ∷ u.copies)
    (All-cons (IsCopyFor story) c u.copies one all)

pub fit_without : (story : FlatStory) (u : FlatUndo) → AreCopiesFor story u.copies
    → AreCopiesFor story (without_newest u).copies
fit_without story u all = All-drop (IsCopyFor story) 1 u.copies all
