-- the event that was made
use Rattle.std.proofs.Common.{Some}
use Rattle.gx_rewind.proofs.Fits.{wants}
use Rattle.gx_rewind.proofs.Running.{takes, tried-made, tried-spent, left-within}
use Rattle.gx_rewind.proofs.replaying.make.Goals as goal

pub take-requires : goal.take-requires
take-requires g c =
    let a = rw c.word_of.ensures at c.in-Ok.ensures.step in
    takes c.args.spot.now.machine c.step.new.self c.args.note.now.taken _ c.step.new.budget c.in-Ok.effect
    c.in_default.not-Spent a c.requires.fit

pub overflow_sub-spot : goal.overflow_sub-spot
overflow_sub-spot g c =
    left-within c.args.spot.now.units c.args.limit c.step.new.budget c.args.spot.now.machine c.step.new.self _
    c.in-Ok.effect c.in_default.not-Spent c.in-Ok.ensures.step

pub returns-in-Spent : goal.returns-in-Spent
returns-in-Spent g c =
    let a = rw (c.word_of.ensures, c.in-Spent.is) at c.in-Ok.ensures.step in
    tried-spent c.args.spot.now (Some c.args.note.now.taken) _ c.args.limit c.step.new.budget c.step.new.self
    c.requires.before a

pub returns-in_ok-take-in_default : goal.returns-in_ok-take-in_default
returns-in_ok-take-in_default g c =
    let a = rw c.word_of.ensures at c.in-Ok.ensures.step in
    tried-made c.args.spot.now c.args.note.now.taken c.args.limit c.step.new.budget c.step.new.self c.take.new.machine
    c.in-Ok.effect c.requires.before a c.in_default.not-Spent c.requires.fit c.in_ok-take-in_default.ensures

pub wanted-requires : goal.wanted-requires
wanted-requires g c =
    let refused = rw c.word_of.ensures at c.in-Err.ensures.step.1 in
    wants c.args.spot.now.machine c.args.note.now.taken _ _ _ c.requires.fit refused
