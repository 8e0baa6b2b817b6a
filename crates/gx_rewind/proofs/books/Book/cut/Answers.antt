-- what followed is cut off
use Rattle.std.proofs.Common.{refl}
use Rattle.gx_rewind.proofs.Kept.{cut-book, near-by}
use Rattle.gx_rewind.proofs.books.Book.cut.Goals as goal

pub returns-clause-book : goal.returns-clause-book
returns-clause-book g c =
    λ m log book.
    let within = rw c.as_slice.ensures.value at c.until-count.ensures.within in
    let before = rw c.as_slice.ensures.value at c.until-count.ensures.before in
    cut-book c.args.self.now _ c.until-count.result m log book
    (near-by c.args.self.now.checkpoints.items c.until-count.result c.args.self.now.units within before)
    refl c.truncate.ensures.items c.truncate-2.ensures.items refl refl refl
