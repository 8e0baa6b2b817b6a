-- the step that asks is pending
use Rattle.std.proofs.Common.{◌≤◌, refl, sym, subst}
use Rattle.gx_machine.specs.Advancing.{units_left}
use Rattle.gx_machine.specs.Machine.{FlatMachine}
use Rattle.std.specs.Prelude.{Some}
use Rattle.gx_rewind.specs.Tape.{FlatTape}
use Rattle.gx_rewind.specs.Views.{log_of, IsBook}
use Rattle.gx_rewind.proofs.Engines.{has-book, put-pends}
use Rattle.gx_rewind.proofs.Kept.{like-book}
use Rattle.gx_rewind.proofs.recording.TapeEngine.next_put.Goals as goal

pub invariant_of-self-2 : goal.invariant_of-self-2
invariant_of-self-2 g c =
    let w = c.self.inside.machine in
    let b = record c.self.inside.book { pending = 1 } in
    let log = log_of c.self.inside.book w.machine in
    let book = like-book c.self.inside.book b w.machine log c.self.invariant.book refl refl refl refl refl
    c.self.invariant.book.checkpoints in
    let room : c.args.budget ≤ units_left (Some log) =
    subst (λ (t : FlatTape). c.args.budget ≤ units_left (Some t.log)) (sym c.self.view_is) c.requires.room in
    record {
      book = (has-book b c.next_put.new.self log
          (subst (λ (m : FlatMachine). IsBook b m log) (sym c.next_put.ensures.stands) book)).book;
      pends = put-pends b w c.next_put.new.self c.args.budget c.in_ok-found.found log book
          (c.in_ok-found.ensures.value 0) c.in_ok-found.ensures.some room c.next_put.ensures.stands refl;
    }
