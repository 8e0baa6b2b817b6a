-- events that took nothing
use Rattle.std.proofs.Common.{◌+◌, ap, refl, sym, ◌∙◌, None, ℕ}
use Rattle.gx_rewind.proofs.Kept.{is-cut, passed-book, none-book}
use Rattle.gx_rewind.proofs.books.Book.passed.Goals as goal

pub returns-then-units-eq0-clause-book : goal.returns-then-units-eq0-clause-book
returns-then-units-eq0-clause-book g c =
    λ word n start budget old new log asks units passes book.
    none-book c.args.self.now word n start budget old new log None book passes (sym units ∙ c.if-units-eq0.true)

pub returns-clause-book : goal.returns-clause-book
returns-clause-book g c =
    λ word n start budget old new log asks units passes book.
    let is = is-cut c.args.self.now c.cut.new.self old.machine log book c.cut.ensures.notes c.cut.ensures.index
    (c.cut.ensures.book old.machine log book) in
    passed-book c.cut.new.self _ word n start budget old new log None is passes
    (λ none. c.if-units-eq0.false (units ∙ none)) refl refl refl refl
    (ap (λ (k : ℕ). c.cut.new.self.units + k) units) refl
