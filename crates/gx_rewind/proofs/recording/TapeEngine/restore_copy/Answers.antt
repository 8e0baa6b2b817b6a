-- the event that has ended is recorded
use Rattle.std.proofs.Common.{◌∷◌, [], Option, Some, ap, refl, sym, ◌∙◌}
use Rattle.gx_machine.specs.declared.askings.Asking.TheVariants as asking
use Rattle.gx_machine.specs.Log.{Log}
use Rattle.gx_machine.specs.Machine.{Whole}
use Rattle.gx_rewind.specs.declared.books.Taken.TheVariants as taken
use Rattle.gx_rewind.specs.Tape.{FlatTape}
use Rattle.gx_rewind.specs.Views.{log_of}
use Rattle.gx_rewind.proofs.Engines.{ended, pending-by}
use Rattle.gx_rewind.proofs.Kept.{like-book}
use Rattle.gx_rewind.proofs.recording.TapeEngine.restore_copy.Goals as goal

pub invariant_of-self-2 : goal.invariant_of-self-2
invariant_of-self-2 g c =
    let w = c.self.inside.machine in
    let log = log_of c.self.inside.book w.machine in
    let p = pending-by c.self.inside.book w.machine asking.Restore w.asking
    (ap (λ (t : FlatTape). t.whole.asking) c.self.view_is ∙ c.requires.asks) c.self.invariant.pends in
    let none = ap (λ (x : Whole). x.asking) c.in_ok-restore_copy.ensures.ok in
    let book = like-book c.self.inside.book (record c.self.inside.book { notes = c.reserve.new.self }) w.machine log
    c.self.invariant.book refl c.reserve.ensures.items refl refl refl c.self.invariant.book.checkpoints in
    let done = ended c.noted.new.self w c.restore_copy.new.self log.before (Some (taken.Machine c.in_ok-taken.taken))
    (c.noted.ensures.book w.machine log book p.cost
    (p.effect, p.step, ap (λ (x : Whole). x.asking) c.in_ok-taken.ensures ∙ none))
    (ap (λ (x : Whole). x.machine) (sym c.in_ok-taken.ensures)) none in
    record { book = done.book; pends = done.pends }

pub returns-clause-logs : goal.returns-clause-logs
returns-clause-logs g c =
    let w = c.self.inside.machine in
    let log = log_of c.self.inside.book w.machine in
    let p = pending-by c.self.inside.book w.machine asking.Restore w.asking
    (ap (λ (t : FlatTape). t.whole.asking) c.self.view_is ∙ c.requires.asks) c.self.invariant.pends in
    let none = ap (λ (x : Whole). x.asking) c.in_ok-restore_copy.ensures.ok in
    let book = like-book c.self.inside.book (record c.self.inside.book { notes = c.reserve.new.self }) w.machine log
    c.self.invariant.book refl c.reserve.ensures.items refl refl refl c.self.invariant.book.checkpoints in
    let done = ended c.noted.new.self w c.restore_copy.new.self log.before (Some (taken.Machine c.in_ok-taken.taken))
    (c.noted.ensures.book w.machine log book p.cost
    (p.effect, p.step, ap (λ (x : Whole). x.asking) c.in_ok-taken.ensures ∙ none))
    (ap (λ (x : Whole). x.machine) (sym c.in_ok-taken.ensures)) none in
    ap (λ (l : Log). Some l) done.is ∙ ap (λ (t : FlatTape). let o : Option Log =
    Some (record { before = t.whole.machine ∷ t.log.before; after = [] }) in o) c.self.view_is
