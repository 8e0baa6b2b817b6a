-- one checkpoint more
use Rattle.std.proofs.Common.{◌∷◌, [], refl}
use Rattle.std.proofs.lemmas.List.Elements.{All-append}
use Rattle.gx_rewind.specs.Views.{IsCheckpoint}
use Rattle.gx_rewind.proofs.Kept.{like-book, one-held, present}
use Rattle.gx_rewind.proofs.books.Book.check.Goals as goal

pub returns-clause-book : goal.returns-clause-book
returns-clause-book g c =
    λ log book.
    let b = c.args.self.now in
    let one = present b c.args.machine.now c.in_ok-taken.taken log book c.in_ok-taken.ensures c.requires.asks in
    c.spare.ensures.book c.args.machine.now.machine log
    (like-book b _ c.args.machine.now.machine log book refl refl refl refl refl
    (rw c.in_ok-push.ensures.items
    (All-append (IsCheckpoint b.notes.items b.opening b.end) b.checkpoints.items (_ ∷ []) book.checkpoints
    (one-held (IsCheckpoint b.notes.items b.opening b.end) _ one))))
