-- one event more, and its note
use Rattle.std.proofs.Common.{refl, ◌∙◌}
use Rattle.gx_rewind.proofs.Kept.{is-cut, next-index, noted-book}
use Rattle.gx_rewind.proofs.books.Book.noted.Goals as goal

pub returns : goal.returns
returns g c = record {
  book = λ m log book cost fit.
      let is = is-cut c.args.self.now c.cut.new.self m log book c.cut.ensures.notes c.cut.ensures.index
      (c.cut.ensures.book m log book) in
      noted-book c.cut.new.self _ c.args.units c.args.taken m log.before is cost fit refl
      c.push_reserved.ensures.items refl
      (next-index c.cut.new.self.notes.items c.as_slice.result.now _ c.cut.new.self.index
      (c.as_slice.ensures.value ∙ c.push_reserved.ensures.items) is.full) refl refl;
}
