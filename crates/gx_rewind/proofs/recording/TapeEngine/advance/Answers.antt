-- the steps are recorded
use Rattle.std.proofs.Common.{Some, ap, subst, sym, ◌∙◌, arith}
use Rattle.gx_machine.specs.Advancing.{Advances}
use Rattle.gx_machine.specs.Log.{units_of}
use Rattle.gx_rewind.specs.Tape.{FlatTape}
use Rattle.gx_rewind.specs.Views.{log_of}
use Rattle.gx_rewind.proofs.Engines.{advanced, lowers, room-fits}
use Rattle.gx_rewind.proofs.recording.TapeEngine.advance.Goals as goal

pub prove-unreachable-requires : goal.prove-unreachable-requires
prove-unreachable-requires g c =
    let less = c.if-prove.true in
    let room = room-fits c.args.budget.now c.ready.new.self.units
    (units_of c.args.self.now.log.before) c.room-room.result c.requires.room
    (ap (λ (t : FlatTape). units_of t.log.before) (sym c.self.view_is) ∙ c.self.invariant.book.units_is
    ∙ sym c.ready.ensures.like.units_is) c.room-room.ensures in
    omega (arith, room, less)

pub ran-requires-clause-fits : goal.ran-requires-clause-fits
ran-requires-clause-fits g c =
    let room = room-fits c.args.budget.now c.ready.new.self.units
    (units_of c.args.self.now.log.before) c.room-room.result c.requires.room
    (ap (λ (t : FlatTape). units_of t.log.before) (sym c.self.view_is) ∙ c.self.invariant.book.units_is
    ∙ sym c.ready.ensures.like.units_is) c.room-room.ensures in
    let all = c.room-room.ensures in
    omega (arith, room, all)

pub ran-requires-clause-lower : goal.ran-requires-clause-lower
ran-requires-clause-lower g c = (lowers c.args.word c.advance_parted-result.result c.args.budget.now
    c.advance_parted-result.new.budget c.advance_parted-result.new.left c.self.inside.machine
    c.advance_parted-result.new.machine c.advance_parted-result.ensures).0

pub ran-requires-clause-less : goal.ran-requires-clause-less
ran-requires-clause-less g c = (lowers c.args.word c.advance_parted-result.result c.args.budget.now
    c.advance_parted-result.new.budget c.advance_parted-result.new.left c.self.inside.machine
    c.advance_parted-result.new.machine c.advance_parted-result.ensures).1

pub invariant_of-self-2 : goal.invariant_of-self-2
invariant_of-self-2 g c =
    let none = ap (λ (t : FlatTape). t.whole.asking) c.self.view_is ∙ c.requires.asks in
    let log = log_of c.self.inside.book c.self.inside.machine.machine in
    let e = advanced c.args.word c.advance_parted-result.result c.args.budget.now c.advance_parted-result.new.budget
    c.advance_parted-result.new.left c.self.inside.machine c.advance_parted-result.new.machine log
    c.ready.new.self c.ran.new.self
    (c.ran.ensures c.self.inside.machine c.advance_parted-result.new.machine none c.advance_parted-result.ensures)
    (c.ready.ensures.book log c.self.invariant.book) in
    record { book = e.book; pends = e.pends }

pub returns : goal.returns
returns g c =
    let none = ap (λ (t : FlatTape). t.whole.asking) c.self.view_is ∙ c.requires.asks in
    let log = log_of c.self.inside.book c.self.inside.machine.machine in
    let e = advanced c.args.word c.advance_parted-result.result c.args.budget.now c.advance_parted-result.new.budget
    c.advance_parted-result.new.left c.self.inside.machine c.advance_parted-result.new.machine log
    c.ready.new.self c.ran.new.self
    (c.ran.ensures c.self.inside.machine c.advance_parted-result.new.machine none c.advance_parted-result.ensures)
    (c.ready.ensures.book log c.self.invariant.book) in
    subst (λ (t : FlatTape). Advances c.args.word c.advance_parted-result.result (t.whole, c.args.budget.now)
    (Some t.log) c.advance_parted-result.new.budget
    (c.advance_parted-result.new.machine, c.advance_parted-result.new.left)
    (Some (log_of c.ran.new.self c.advance_parted-result.new.machine.machine))) c.self.view_is e.steps
