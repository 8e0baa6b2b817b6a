-- a pair more
use Rattle.std.proofs.Common.{arith}
use Rattle.gx_asm.proofs.CodesLoops.{pair_more}
use Rattle.gx_asm.proofs.codes.push_modes.Goals as goal

pub loop-i-preserved : goal.loop-i-preserved
loop-i-preserved c = pair_more c.args.modes.now c.loop-i.i c.pair_at.result c.args.code.now c.loop-i.code
    c.push.new.self c.in_ok-push.ensures.ok c.loop-i.invariant
    (omega (arith, c.loop-i-test.true, c.div_ceil-i-end.ensures)) c.pair_at.ensures
