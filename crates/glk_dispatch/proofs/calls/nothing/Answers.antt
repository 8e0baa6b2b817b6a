-- What is given to one reference, and to two.
use Rattle.std.proofs.Common.{◌≢◌, ◌==◌, ◌||◌, not, false, IsTrue, [], ◌∷◌, replicate}
use Rattle.glk_replies.specs.Parts.{give, give_each, some_given}
use Rattle.glk_world.specs.World.{arg}
use Rattle.glk_dispatch.specs.Calls.{nothing}
use Rattle.glk_dispatch.proofs.Turning.{gives_some, one_given, two_given}
use Rattle.glk_dispatch.proofs.calls.nothing.Goals as goal

pub returns-in-1-clause-value : goal.returns-in-1-clause-value
unfolding nothing
returns-in-1-clause-value g c =
    let a = arg c.args.args.now 1 in
    rw c.in-1.is
    (gives_some (a ≢ 0) (IsTrue (not (a == 0) || false || false)) c.give.result c.args.world.now
    (give c.args.state.now.flat c.args.room 0 a (replicate c.args.row.now.words 0)) (one_given a)
    (rw (c.arg.ensures, c.zeros.ensures.value) at c.give.ensures.value))

pub returns-in-2-clause-value : goal.returns-in-2-clause-value
unfolding nothing
returns-in-2-clause-value g c =
    let a = arg c.args.args.now 1 in
    let b = arg c.args.args.now 2 in
    rw c.in-2.is
    (gives_some (IsTrue (some_given (a ∷ b ∷ []))) (IsTrue (not (a == 0) || not (b == 0) || false)) c.give_each.result
    c.args.world.now (give_each c.args.state.now.flat c.args.room 0 (a ∷ b ∷ []) (0 ∷ 0 ∷ []))
    (two_given (not (a == 0)) (not (b == 0)))
    (rw (c.arg-in-2.ensures, c.arg-in-2-2.ensures) at c.give_each.ensures.value))
