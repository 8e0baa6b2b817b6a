-- the place after the events that were made
use Rattle.std.proofs.Common.{◌≤◌, ℕ, None, Some, subst, arith}
use Rattle.gx_machine.proofs.Costs.{cost-positive}
use Rattle.gx_rewind.specs.Path.{IsFit}
use Rattle.gx_rewind.specs.Views.{IsSpot}
use Rattle.gx_rewind.proofs.Fits.{ran-on, map-ok}
use Rattle.gx_rewind.proofs.Running.{fit-at, made-after, tried-place}
use Rattle.gx_rewind.proofs.books.Book.go_on.Goals as goal

pub returns-then-spot-target-clause-last : goal.returns-then-spot-target-clause-last
returns-then-spot-target-clause-last g c = λ _. let one = cost-positive c.args.spot.now.machine.machine in
    let same = c.if-spot-target.true in omega (arith, one, same)

pub make-requires-clause-fit : goal.make-requires-clause-fit
make-requires-clause-fit g c =
    let low = c.requires.before in
    let high = c.requires.within in
    let other = c.if-spot-target.false in
    subst (IsFit c.args.spot.now.machine.machine) c.in-Some.ensures.some
    (fit-at c.args.self.now c.args.spot.now c.requires.kept c.requires.spot (omega (arith, low, high, other)))

pub returns-in-Some-clause-spot : goal.returns-in-Some-clause-spot
returns-in-Some-clause-spot g c =
    let low = c.requires.before in
    let high = c.requires.within in
    let other = c.if-spot-target.false in
    let fit = subst (IsFit c.args.spot.now.machine.machine) c.in-Some.ensures.some
    (fit-at c.args.self.now c.args.spot.now c.requires.kept c.requires.spot (omega (arith, low, high, other))) in
    tried-place c.args.self.now.notes.items c.args.self.now.opening c.args.spot.now c.make.new.spot
    (Some c.in-Some.note.now.taken) c.args.target c.in_ok-made.made c.requires.spot c.in-Some.ensures.some fit
    c.in_ok-made.ensures

pub returns-in-Some-clause-more : goal.returns-in-Some-clause-more
returns-in-Some-clause-more g c = λ more. made-after (Some c.in-Some.note.now.taken) c.args.spot.now c.make.new.spot
    (c.in_ok-made.ensures.made more)

low-limit : (limit target units : ℕ) → limit ≤ target → target ≤ units → limit ≤ units
low-limit limit target units less within = omega (arith, less, within)

pub step-requires-clause-asks : goal.step-requires-clause-asks
step-requires-clause-asks g c =
    (ran-on c.args.self.now c.args.spot.now c.run.new.spot c.free_until-limit.result _ c.requires.kept
    (low-limit _ _ _ c.free_until-limit.ensures.within c.requires.within) c.requires.spot
    c.free_until-limit.ensures.free c.in_ok-run.ensures c.if-spot-limit.true).0.asks

pub step-requires-clause-fit : goal.step-requires-clause-fit
step-requires-clause-fit g c =
    (ran-on c.args.self.now c.args.spot.now c.run.new.spot c.free_until-limit.result _ c.requires.kept
    (low-limit _ _ _ c.free_until-limit.ensures.within c.requires.within) c.requires.spot
    c.free_until-limit.ensures.free c.in_ok-run.ensures c.if-spot-limit.true).2

pub returns-then-spot-limit-clause-spot : goal.returns-then-spot-limit-clause-spot
returns-then-spot-limit-clause-spot g c =
    let on = ran-on c.args.self.now c.args.spot.now c.run.new.spot c.free_until-limit.result _ c.requires.kept
    (low-limit _ _ _ c.free_until-limit.ensures.within c.requires.within) c.requires.spot
    c.free_until-limit.ensures.free c.in_ok-run.ensures c.if-spot-limit.true in
    map-ok _ (IsSpot c.args.self.now c.step.new.spot) c.step.result c.step.ensures
    (λ x tried. tried-place c.args.self.now.notes.items c.args.self.now.opening c.run.new.spot c.step.new.spot None
    c.args.target x on.0 on.1 on.2 tried)
