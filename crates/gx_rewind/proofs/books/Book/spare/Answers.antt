-- one checkpoint fewer
use Rattle.std.proofs.Common.{◌+◌, drop, refl, take}
use Rattle.std.proofs.lemmas.List.Elements.{All-append, All-take, All-drop}
use Rattle.gx_rewind.specs.Views.{IsCheckpoint}
use Rattle.gx_rewind.proofs.Kept.{like-book}
use Rattle.gx_rewind.proofs.books.Book.spare.Goals as goal

pub returns-clause-book : goal.returns-clause-book
returns-clause-book g c =
    λ m log book.
    let b = c.args.self.now in
    let at = c.densest-at.result in
    like-book b _ m log book refl refl refl refl refl
    (rw c.remove.ensures.by_index.2
    (All-append (IsCheckpoint b.notes.items b.opening b.end) (take at b.checkpoints.items) (drop (at + 1) b.checkpoints.items)
    (All-take (IsCheckpoint b.notes.items b.opening b.end) at b.checkpoints.items book.checkpoints)
    (All-drop (IsCheckpoint b.notes.items b.opening b.end) (at + 1) b.checkpoints.items book.checkpoints)))
