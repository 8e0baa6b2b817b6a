-- one event more
use Rattle.std.proofs.Common.{refl}
use Rattle.gx_rewind.proofs.Kept.{is-cut, went-book}
use Rattle.gx_rewind.proofs.books.Book.went.Goals as goal

pub returns-clause-book : goal.returns-clause-book
returns-clause-book g c =
    λ m log book cost fit.
    let is = is-cut c.args.self.now c.cut.new.self m log book c.cut.ensures.notes c.cut.ensures.index
    (c.cut.ensures.book m log book) in
    went-book c.cut.new.self _ c.args.units m log.before is cost fit refl refl refl refl refl refl
