-- the event that has ended is recorded
use Rattle.std.proofs.Common.{◌∷◌, [], Option, Some, None, IsSome, ap, refl, sym, subst, ◌∙◌}
use Rattle.gx_state.specs.declared.effects.Reply.{Reply}
use Rattle.gx_state.specs.Replies.{IsReply}
use Rattle.gx_machine.specs.Answer.{answer_of}
use Rattle.gx_machine.specs.Log.{Log}
use Rattle.gx_machine.specs.Machine.{Whole}
use Rattle.gx_machine.specs.Step.{room_of}
use Rattle.gx_rewind.specs.declared.books.Taken.TheVariants as taken
use Rattle.gx_rewind.specs.Tape.{FlatTape}
use Rattle.gx_rewind.specs.Views.{log_of}
use Rattle.gx_rewind.proofs.Engines.{ended, nothing-event, nothing-fit, pending-some, reply-fits}
use Rattle.gx_rewind.proofs.Kept.{like-book}
use Rattle.gx_rewind.proofs.recording.TapeEngine.finish.Goals as goal

pub invariant_of-self-then-is_nothing : goal.invariant_of-self-then-is_nothing
invariant_of-self-then-is_nothing g c =
    let w = c.self.inside.machine in
    let log = log_of c.self.inside.book w.machine in
    let some = subst (λ (t : FlatTape). IsSome t.whole.asking) (sym c.self.view_is) c.requires.pending in
    let p = pending-some c.self.inside.book w.machine w.asking some c.self.invariant.pends in
    let done = ended c.went.new.self w c.finish.new.self log.before None
    (c.went.ensures.book w.machine log c.self.invariant.book p.2.cost
    (nothing-fit g.row.A.Denot c.self.inside.book w.machine p.0 p.2))
    (ap (λ (x : Whole). x.machine) c.in_ok-finish.ensures.ok
    ∙ ap (answer_of w.machine) (c.is_nothing.ensures.yes c.if-is_nothing.true)
    ∙ sym (nothing-event g.row.A.Denot c.self.inside.book w.machine p.0 p.2))
    (ap (λ (x : Whole). x.asking) c.in_ok-finish.ensures.ok) in
    record { book = done.book; pends = done.pends }

pub returns-then-is_nothing-clause-logs : goal.returns-then-is_nothing-clause-logs
returns-then-is_nothing-clause-logs g c =
    let w = c.self.inside.machine in
    let log = log_of c.self.inside.book w.machine in
    let some = subst (λ (t : FlatTape). IsSome t.whole.asking) (sym c.self.view_is) c.requires.pending in
    let p = pending-some c.self.inside.book w.machine w.asking some c.self.invariant.pends in
    let done = ended c.went.new.self w c.finish.new.self log.before None
    (c.went.ensures.book w.machine log c.self.invariant.book p.2.cost
    (nothing-fit g.row.A.Denot c.self.inside.book w.machine p.0 p.2))
    (ap (λ (x : Whole). x.machine) c.in_ok-finish.ensures.ok
    ∙ ap (answer_of w.machine) (c.is_nothing.ensures.yes c.if-is_nothing.true)
    ∙ sym (nothing-event g.row.A.Denot c.self.inside.book w.machine p.0 p.2))
    (ap (λ (x : Whole). x.asking) c.in_ok-finish.ensures.ok) in
    ap (λ (l : Log). Some l) done.is ∙ ap (λ (t : FlatTape). let o : Option Log =
    Some (record { before = t.whole.machine ∷ t.log.before; after = [] }) in o) c.self.view_is

pub invariant_of-self-2 : goal.invariant_of-self-2
invariant_of-self-2 g c =
    let w = c.self.inside.machine in
    let log = log_of c.self.inside.book w.machine in
    let some = subst (λ (t : FlatTape). IsSome t.whole.asking) (sym c.self.view_is) c.requires.pending in
    let fits = subst (λ (t : FlatTape). IsReply t.whole.machine.flat (room_of t.whole.asking) c.args.reply.now)
    (sym c.self.view_is) c.requires.fits in
    let p = pending-some c.self.inside.book w.machine w.asking some c.self.invariant.pends in
    let fit = reply-fits c.self.inside.book w.machine p.0 w.asking c.in_ok-taken.taken p.1 p.2
    (subst (λ (r : Reply). IsReply w.machine.flat (room_of w.asking) r) (sym c.in_ok-taken.ensures) fits) in
    let book = like-book c.self.inside.book (record c.self.inside.book { notes = c.reserve.new.self }) w.machine log
    c.self.invariant.book refl c.reserve.ensures.items refl refl refl c.self.invariant.book.checkpoints in
    let done = ended c.noted.new.self w c.finish-2.new.self log.before (Some (taken.Reply c.in_ok-taken.taken))
    (c.noted.ensures.book w.machine log book p.2.cost fit)
    (ap (λ (x : Whole). x.machine) c.in_ok-finish-2.ensures.ok ∙ ap (answer_of w.machine) (sym c.in_ok-taken.ensures))
    (ap (λ (x : Whole). x.asking) c.in_ok-finish-2.ensures.ok) in
    record { book = done.book; pends = done.pends }

pub returns-clause-logs : goal.returns-clause-logs
returns-clause-logs g c =
    let w = c.self.inside.machine in
    let log = log_of c.self.inside.book w.machine in
    let some = subst (λ (t : FlatTape). IsSome t.whole.asking) (sym c.self.view_is) c.requires.pending in
    let fits = subst (λ (t : FlatTape). IsReply t.whole.machine.flat (room_of t.whole.asking) c.args.reply.now)
    (sym c.self.view_is) c.requires.fits in
    let p = pending-some c.self.inside.book w.machine w.asking some c.self.invariant.pends in
    let fit = reply-fits c.self.inside.book w.machine p.0 w.asking c.in_ok-taken.taken p.1 p.2
    (subst (λ (r : Reply). IsReply w.machine.flat (room_of w.asking) r) (sym c.in_ok-taken.ensures) fits) in
    let book = like-book c.self.inside.book (record c.self.inside.book { notes = c.reserve.new.self }) w.machine log
    c.self.invariant.book refl c.reserve.ensures.items refl refl refl c.self.invariant.book.checkpoints in
    let done = ended c.noted.new.self w c.finish-2.new.self log.before (Some (taken.Reply c.in_ok-taken.taken))
    (c.noted.ensures.book w.machine log book p.2.cost fit)
    (ap (λ (x : Whole). x.machine) c.in_ok-finish-2.ensures.ok ∙ ap (answer_of w.machine) (sym c.in_ok-taken.ensures))
    (ap (λ (x : Whole). x.asking) c.in_ok-finish-2.ensures.ok) in
    ap (λ (l : Log). Some l) done.is ∙ ap (λ (t : FlatTape). let o : Option Log =
    Some (record { before = t.whole.machine ∷ t.log.before; after = [] }) in o) c.self.view_is
