-- the place that was found is that to which the tape goes back
use Rattle.std.proofs.Common.{ap, refl, sym, ◌∙◌, arith}
use Rattle.gx_rewind.specs.Tape.{FlatTape, gone_back}
use Rattle.gx_rewind.proofs.Ended.{none-asked}
use Rattle.gx_rewind.proofs.Ends.{goes, stays}
use Rattle.gx_machine.specs.Machine.{Whole}
use Rattle.gx_rewind.proofs.Tape.back.Goals as goal

pub invariant_of-self : goal.invariant_of-self
invariant_of-self g c =
    let gone = stays c.self.inside.book c.self.inside.machine c.drop_asking.new.self c.args.k c.self.invariant.book
    (sym c.saturating_sub-target.ensures ∙ c.if-target-self.true) c.drop_asking.ensures in
    record {
      book = gone.book;
      pends = none-asked c.self.inside.book c.drop_asking.new.self
          (ap (λ (w : Whole). w.asking) c.drop_asking.ensures);
    }

pub returns-then-target-self-clause-ok : goal.returns-then-target-self-clause-ok
returns-then-target-self-clause-ok g c =
    let gone = stays c.self.inside.book c.self.inside.machine c.drop_asking.new.self c.args.k c.self.invariant.book
    (sym c.saturating_sub-target.ensures ∙ c.if-target-self.true) c.drop_asking.ensures in
    gone.is ∙ ap (λ (t : FlatTape). gone_back t c.args.k) c.self.view_is

pub returns-then-target-self-clause-units : goal.returns-then-target-self-clause-units
returns-then-target-self-clause-units g c =
    let gone = stays c.self.inside.book c.self.inside.machine c.drop_asking.new.self c.args.k c.self.invariant.book
    (sym c.saturating_sub-target.ensures ∙ c.if-target-self.true) c.drop_asking.ensures in
    c.if-target-self.true ∙ sym gone.book.units_is

pub invariant_of-self-2 : goal.invariant_of-self-2
invariant_of-self-2 g c =
    let e = c.saturating_sub-target.ensures in
    let near = c.in_ok-spot.ensures.within in
    let far = c.in_ok-spot.ensures.last in
    let gone = goes c.self.inside.book (record c.self.inside.book
    { units = c.in_ok-spot.spot.units; index = c.in_ok-spot.spot.index }) c.self.inside.machine c.in_ok-spot.spot
    c.args.k c.self.invariant.book
    c.in_ok-spot.ensures.spot (omega (arith, near, e)) (omega (arith, far, e)) refl refl refl refl refl refl in
    record { book = gone.book; pends = none-asked _ c.in_ok-spot.spot.machine c.in_ok-spot.ensures.spot.asks }

pub returns-clause-ok : goal.returns-clause-ok
returns-clause-ok g c =
    let e = c.saturating_sub-target.ensures in
    let near = c.in_ok-spot.ensures.within in
    let far = c.in_ok-spot.ensures.last in
    let gone = goes c.self.inside.book (record c.self.inside.book
    { units = c.in_ok-spot.spot.units; index = c.in_ok-spot.spot.index }) c.self.inside.machine c.in_ok-spot.spot
    c.args.k c.self.invariant.book
    c.in_ok-spot.ensures.spot (omega (arith, near, e)) (omega (arith, far, e)) refl refl refl refl refl refl in
    gone.is ∙ ap (λ (t : FlatTape). gone_back t c.args.k) c.self.view_is

pub returns-clause-units : goal.returns-clause-units
returns-clause-units g c =
    let e = c.saturating_sub-target.ensures in
    let near = c.in_ok-spot.ensures.within in
    let far = c.in_ok-spot.ensures.last in
    let gone = goes c.self.inside.book (record c.self.inside.book
    { units = c.in_ok-spot.spot.units; index = c.in_ok-spot.spot.index }) c.self.inside.machine c.in_ok-spot.spot
    c.args.k c.self.invariant.book
    c.in_ok-spot.ensures.spot (omega (arith, near, e)) (omega (arith, far, e)) refl refl refl refl refl refl in
    sym gone.book.units_is
