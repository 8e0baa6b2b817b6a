use Rattle.std.proofs.Common.{length, get_or, sym, eq-eqb, arith}
use Rattle.std.proofs.lemmas.List.Sums.{position_or_len_is}
use Rattle.gx_session.specs.Input.{is_line_feed}
use Rattle.gx_session.proofs.lines.line_end.Goals as goal

pub returns-then-bytes-i-eq10-clause-is : goal.returns-then-bytes-i-eq10-clause-is
returns-then-bytes-i-eq10-clause-is c =
    sym (position_or_len_is is_line_feed c.args.bytes.now c.loop-i.i 0 (omega arith) c.loop-i.invariant
    (λ h. eq-eqb (get_or c.args.bytes.now c.loop-i.i 0) 10 c.if-bytes-i-eq10.true))

pub returns-clause-is : goal.returns-clause-is
returns-clause-is c =
    sym (position_or_len_is is_line_feed c.args.bytes.now (length c.args.bytes.now) 0 (omega arith)
    (λ k h. c.loop-i.invariant k (omega arith)) (λ h. absurd (omega arith)))
