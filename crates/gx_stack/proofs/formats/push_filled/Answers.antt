use Rattle.std.proofs.Common.{arith}
use Rattle.gx_stack.proofs.Turns.{filled_done}
use Rattle.gx_stack.proofs.formats.push_filled.Goals as goal

pub returns-clause-items : goal.returns-clause-items
returns-clause-items c = filled_done _ _ _ _ _ _ _ _ c.loop-i.invariant.pushed c.push_zeros.ensures.items
    c.requires.width (omega arith) (omega arith)
