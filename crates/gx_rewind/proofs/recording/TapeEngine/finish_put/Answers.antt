-- the event that has ended is recorded
use Rattle.std.proofs.Common.{◌∷◌, [], Option, Some, None, ap, sym, ◌∙◌}
use Rattle.gx_machine.specs.declared.askings.Asking.TheVariants as asking
use Rattle.gx_machine.specs.Log.{Log}
use Rattle.gx_machine.specs.Machine.{Whole}
use Rattle.gx_rewind.specs.Tape.{FlatTape}
use Rattle.gx_rewind.specs.Views.{log_of}
use Rattle.gx_rewind.proofs.Engines.{ended, pending-by, nothing-event, nothing-fit}
use Rattle.gx_rewind.proofs.recording.TapeEngine.finish_put.Goals as goal

pub invariant_of-self : goal.invariant_of-self
invariant_of-self g c =
    let w = c.self.inside.machine in
    let log = log_of c.self.inside.book w.machine in
    let p = pending-by c.self.inside.book w.machine asking.Put w.asking
    (ap (λ (t : FlatTape). t.whole.asking) c.self.view_is ∙ c.requires) c.self.invariant.pends in
    let done = ended c.went.new.self w c.finish_put.new.self log.before None
    (c.went.ensures.book w.machine log c.self.invariant.book p.cost
    (nothing-fit g.row.A.Denot c.self.inside.book w.machine asking.Put p))
    (ap (λ (x : Whole). x.machine) c.finish_put.ensures
    ∙ sym (nothing-event g.row.A.Denot c.self.inside.book w.machine asking.Put p))
    (ap (λ (x : Whole). x.asking) c.finish_put.ensures) in
    record { book = done.book; pends = done.pends }

pub returns-clause-logs : goal.returns-clause-logs
returns-clause-logs g c =
    let w = c.self.inside.machine in
    let log = log_of c.self.inside.book w.machine in
    let p = pending-by c.self.inside.book w.machine asking.Put w.asking
    (ap (λ (t : FlatTape). t.whole.asking) c.self.view_is ∙ c.requires) c.self.invariant.pends in
    let done = ended c.went.new.self w c.finish_put.new.self log.before None
    (c.went.ensures.book w.machine log c.self.invariant.book p.cost
    (nothing-fit g.row.A.Denot c.self.inside.book w.machine asking.Put p))
    (ap (λ (x : Whole). x.machine) c.finish_put.ensures
    ∙ sym (nothing-event g.row.A.Denot c.self.inside.book w.machine asking.Put p))
    (ap (λ (x : Whole). x.asking) c.finish_put.ensures) in
    ap (λ (l : Log). Some l) done.is ∙ ap (λ (t : FlatTape). let o : Option Log =
    Some (record { before = t.whole.machine ∷ t.log.before; after = [] }) in o) c.self.view_is
