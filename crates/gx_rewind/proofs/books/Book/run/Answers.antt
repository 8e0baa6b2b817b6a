-- the events that were made
use Rattle.gx_rewind.proofs.Fits.{run-wants, run-made}
use Rattle.gx_rewind.proofs.Running.{run-spent}
use Rattle.gx_rewind.proofs.books.Book.run.Goals as goal

pub advance-requires : goal.advance-requires
advance-requires g c = c.requires.spot.asks

pub wanted-requires : goal.wanted-requires
wanted-requires g c =
    run-wants c.args.self.now c.args.spot.now c.args.limit c.advance.new.budget c.advance.new.left c.advance.new.self
    c.in-Err.fault c.requires.kept c.requires.spot c.requires.before c.requires.within c.requires.free
    c.in-Err.ensures

pub overflow_sub-spot : goal.overflow_sub-spot
overflow_sub-spot g c =
    let a = rw c.in-Spent.is at c.in-Ok.ensures in
    (run-spent c.args.spot.now c.args.limit c.advance.new.budget c.advance.new.left c.advance.new.self
    c.requires.before a c.requires.spot.asks).0

pub returns-in-Spent : goal.returns-in-Spent
returns-in-Spent g c =
    let a = rw c.in-Spent.is at c.in-Ok.ensures in
    (run-spent c.args.spot.now c.args.limit c.advance.new.budget c.advance.new.left c.advance.new.self
    c.requires.before a c.requires.spot.asks).1

pub overflow_sub-spot-in_default : goal.overflow_sub-spot-in_default
overflow_sub-spot-in_default g c =
    (run-made c.args.self.now c.args.spot.now c.args.limit c.advance.new.budget c.advance.new.left c.advance.new.self
    c.settle.new.machine c.in-Ok.effect c.requires.kept c.requires.spot c.requires.before c.requires.within
    c.requires.free
    c.in_default.not-Spent c.in-Ok.ensures c.in_ok-settle-in_default.ensures).0

pub returns-in_ok-settle-in_default : goal.returns-in_ok-settle-in_default
returns-in_ok-settle-in_default g c =
    (run-made c.args.self.now c.args.spot.now c.args.limit c.advance.new.budget c.advance.new.left c.advance.new.self
    c.settle.new.machine c.in-Ok.effect c.requires.kept c.requires.spot c.requires.before c.requires.within
    c.requires.free
    c.in_default.not-Spent c.in-Ok.ensures c.in_ok-settle-in_default.ensures).1
