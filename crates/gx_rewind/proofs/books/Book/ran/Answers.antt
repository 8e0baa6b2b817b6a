-- the steps are recorded
use Rattle.std.proofs.Common.{◌≡◌, ℕ, None, Some, inl, refl, sym, ap, subst, ◌∙◌}
use Rattle.gx_machine.specs.Machine.{Whole}
use Rattle.gx_rewind.specs.Views.{IsBook}
use Rattle.gx_rewind.proofs.Passing.{passed-asks}
use Rattle.gx_rewind.proofs.Running.{has-advanced}
use Rattle.gx_rewind.proofs.Ended.{none-asked}
use Rattle.gx_rewind.proofs.books.Book.ran.Goals as goal

pub returns-in-Ok : goal.returns-in-Ok
returns-in-Ok g c =
    rw c.in-Ok.is (λ old new none steps log book.
    let h = has-advanced c.args.word _ (old, c.args.start) c.args.budget (new, c.args.left) steps in
    let asks = passed-asks c.args.word h.count old h.before c.args.start c.args.budget None None none h.passes in
    let p = c.passed.ensures.book c.args.word h.count c.args.start c.args.budget old h.before log none refl h.passes
    book in
    let d = c.did.ensures h.before new c.args.budget c.args.left p.0 p.2 asks h.step refl h.stands in (
      d.last,
      d.book,
      record {
        count = h.count;
        before = h.before;
        log = Some p.0;
        passes = p.1;
        step = inl h.step;
        stands = h.stands;
        logs = d.is;
        backs = h.backs;
      },
      d.pends,
    ))

pub returns-in_default : goal.returns-in_default
returns-in_default g c =
    rw c.in_default.is (λ old new none steps log book.
    let h = has-advanced c.args.word _ (old, c.args.start) c.args.budget (new, c.args.left) steps in
    let asks = passed-asks c.args.word h.count old h.before c.args.start c.args.budget None None none h.passes in
    let p = c.passed.ensures.book c.args.word h.count c.args.start c.args.budget old h.before log none refl h.passes
    book in
    let same : new ≡ h.before = ap (λ (x : Whole × ℕ). x.0) h.step.0 in (
      p.0,
      subst (λ (x : Whole). IsBook c.passed.new.self x.machine p.0) (sym same) p.2,
      record {
        count = h.count;
        before = h.before;
        log = Some p.0;
        passes = p.1;
        step = inl h.step;
        stands = tt;
        logs = refl;
        backs = h.backs;
      },
      none-asked c.passed.new.self new (ap (λ (x : Whole). x.asking) same ∙ asks),
    ))
