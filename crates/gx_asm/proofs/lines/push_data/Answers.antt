use Rattle.gx_asm.proofs.LineTurns.{digits_grown, digits_written}
use Rattle.gx_asm.proofs.lines.push_data.Goals as goal

pub loop-byte-preserved : goal.loop-byte-preserved
loop-byte-preserved c = digits_grown _ _ _ _ _ _ _ c.loop-byte-test.true c.loop-byte.invariant c.digit.ensures
    c.digit-in-loop-byte.ensures c.in_ok-extend_from_slice-2.ensures.ok

pub returns : goal.returns
returns c = digits_written _ _ _ _ _ _ c.in_ok-extend_from_slice.ensures.ok c.loop-byte-test.false c.loop-byte.invariant
