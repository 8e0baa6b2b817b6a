-- the event that follows, if there is one
use Rattle.std.proofs.Common.{◌≡◌, ◌<◌, [], length, ap, refl, sym, subst, ◌∙◌, arith}
use Rattle.gx_rewind.specs.Tape.{FlatTape, gone_on, gone_on_to}
use Rattle.gx_rewind.specs.Views.{log_of}
use Rattle.gx_rewind.proofs.Ended.{none-asked}
use Rattle.gx_rewind.proofs.Ends.{again-is, at-end, before-end, follows}
use Rattle.gx_rewind.proofs.Tape.again.Goals as goal

pub returns-then-self-clause-ok : goal.returns-then-self-clause-ok
returns-then-self-clause-ok g c =
    let none = at-end c.self.inside.book c.self.inside.machine.machine
    (log_of c.self.inside.book c.self.inside.machine.machine) c.self.invariant.book c.if-self.true in
    let after : c.args.self.now.log.after ≡ [] = ap (λ (t : FlatTape). t.log.after) (sym c.self.view_is) ∙ none in
    sym (ap (gone_on_to c.args.self.now) after)

pub returns-then-self-clause-some : goal.returns-then-self-clause-some
returns-then-self-clause-some g c =
    let none = at-end c.self.inside.book c.self.inside.machine.machine
    (log_of c.self.inside.book c.self.inside.machine.machine) c.self.invariant.book c.if-self.true in
    let after : c.args.self.now.log.after ≡ [] = ap (λ (t : FlatTape). t.log.after) (sym c.self.view_is) ∙ none in
    rw after ((λ no. absurd cc), (λ some. absurd (omega (arith, some))))

pub followed-requires-clause-before : goal.followed-requires-clause-before
followed-requires-clause-before g c = before-end c.self.inside.book c.self.inside.machine.machine
    (log_of c.self.inside.book c.self.inside.machine.machine) c.self.invariant.book c.if-self.false

pub followed-requires-clause-fit : goal.followed-requires-clause-fit
followed-requires-clause-fit g c = follows c.self.inside.book c.self.inside.machine.machine
    (log_of c.self.inside.book c.self.inside.machine.machine) c.self.invariant.book c.if-self.false

pub invariant_of-self : goal.invariant_of-self
invariant_of-self g c =
    let gone = again-is c.self.inside.book (record c.self.inside.book
    { units = c.in_ok-spot.spot.units; index = c.in_ok-spot.spot.index }) c.self.inside.machine c.in_ok-spot.spot
    c.self.invariant.book c.if-self.false c.in_ok-spot.ensures refl refl refl refl refl refl in
    record { book = gone.0.book; pends = none-asked _ c.in_ok-spot.spot.machine c.in_ok-spot.ensures.asks }

pub returns-clause-ok : goal.returns-clause-ok
returns-clause-ok g c =
    let gone = again-is c.self.inside.book (record c.self.inside.book
    { units = c.in_ok-spot.spot.units; index = c.in_ok-spot.spot.index }) c.self.inside.machine c.in_ok-spot.spot
    c.self.invariant.book c.if-self.false c.in_ok-spot.ensures refl refl refl refl refl refl in
    gone.0.is ∙ ap gone_on c.self.view_is

pub returns-clause-some : goal.returns-clause-some
returns-clause-some g c =
    let gone = again-is c.self.inside.book (record c.self.inside.book
    { units = c.in_ok-spot.spot.units; index = c.in_ok-spot.spot.index }) c.self.inside.machine c.in_ok-spot.spot
    c.self.invariant.book c.if-self.false c.in_ok-spot.ensures refl refl refl refl refl refl in
    let some : 0 < length c.args.self.now.log.after =
    subst (λ (t : FlatTape). 0 < length t.log.after) c.self.view_is gone.1 in
    ((λ yes. some), (λ yes. refl))
