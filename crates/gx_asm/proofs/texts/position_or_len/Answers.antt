use Rattle.std.proofs.Common.{◌==◌, length, sym, eq-eqb, arith}
use Rattle.std.proofs.lemmas.List.Sums.{position_or_len_is}
use Rattle.gx_asm.proofs.texts.position_or_len.Goals as goal

pub returns-then-b-mark : goal.returns-then-b-mark
returns-then-b-mark c = sym (position_or_len_is (λ b. b == c.args.mark) c.args.bytes.now c.loop-i.i 0
    (omega arith) c.loop-i.invariant (λ _. eq-eqb _ _ c.if-b-mark.true))

pub returns : goal.returns
returns c =
    sym (position_or_len_is (λ b. b == c.args.mark) c.args.bytes.now (length c.args.bytes.now) 0 (omega arith)
    (λ k less. c.loop-i.invariant k (omega (arith, c.loop-i-test.false))) (λ less. absurd (omega arith)))
