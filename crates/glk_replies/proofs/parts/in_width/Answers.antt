use Rattle.std.proofs.Common.{arith}
use Rattle.glk_replies.proofs.Laying.{copy_is}
use Rattle.glk_replies.proofs.parts.in_width.Goals as goal

pub returns-then-width-eq1-clause-value : goal.returns-then-width-eq1-clause-value
returns-then-width-eq1-clause-value c =
    copy_is c.from_slice.result c.args.width c.args.bytes.now c.if-width-eq1.true
    (λ k less. omega (arith, c.type_inv.bytes k)) c.from_slice.ensures.value
