use Rattle.std.proofs.Common.{◌-◌, ◌^◌, arith}
use Rattle.glk_replies.proofs.Laying.{number_within}
use Rattle.glk_text_calls.proofs.output.put_unseen.Goals as goal

pub overflow_mul-width : goal.overflow_mul-width
overflow_mul-width g c = let there =
    number_within c.args.width c.args.at c.loop-i.i c.args.count (2 ^ 32 - 1) c.requires.width c.loop-i-test.true
    (omega (arith, c.requires.low, c.loop-i-test.true)) in omega (arith, there)

pub overflow_add-at : goal.overflow_add-at
overflow_add-at g c = let there =
    number_within c.args.width c.args.at c.loop-i.i c.args.count (2 ^ 32 - 1) c.requires.width c.loop-i-test.true
    (omega (arith, c.requires.low, c.loop-i-test.true)) in omega (arith, there)
