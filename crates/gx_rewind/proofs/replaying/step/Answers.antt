-- the event that was made
use Rattle.std.proofs.Common.{None}
use Rattle.gx_rewind.proofs.Fits.{wants-quiet, step-made}
use Rattle.gx_rewind.proofs.Running.{left-within, tried-spent}
use Rattle.gx_rewind.proofs.replaying.step.Goals as goal

pub wanted-requires : goal.wanted-requires
wanted-requires g c = wants-quiet g.row.A.Denot c.args.spot.now.machine _ _ _ c.requires.fit c.in-Err.ensures.step.1

pub overflow_sub-spot : goal.overflow_sub-spot
overflow_sub-spot g c =
    left-within c.args.spot.now.units c.args.limit c.step.new.budget c.args.spot.now.machine c.step.new.self _
    c.in-Ok.effect c.in_default.not-Spent c.in-Ok.ensures.step

pub returns-in-Spent : goal.returns-in-Spent
returns-in-Spent g c =
    let a = rw c.in-Spent.is at c.in-Ok.ensures.step in
    tried-spent c.args.spot.now None 0 c.args.limit c.step.new.budget c.step.new.self c.requires.before a

pub returns-in_ok-settle-in_default : goal.returns-in_ok-settle-in_default
returns-in_ok-settle-in_default g c =
    step-made g.row.A.Denot c.args.spot.now c.args.limit c.step.new.budget c.step.new.self c.settle.new.machine
    c.in-Ok.effect c.requires.before c.in-Ok.ensures.step c.in_default.not-Spent c.in_ok-settle-in_default.ensures
