-- one bit more
use Rattle.std.proofs.Common.{◌≡◌, ◌+◌, ◌%◌, ℕ, inr, ap, sym, arith, ◌∙◌}
use Rattle.gx_strings.specs.Bits.{bit}
use Rattle.gx_strings.proofs.Walks.{further}
use Rattle.gx_strings.proofs.nodes.walk_in_memory.Goals as goal

pub bits-preserved : goal.bits-preserved
bits-preserved g c =
    let n : ℕ = c.args.from + c.bits.used in
    let behind : c.args.from + (c.bits.used + 1) ≡ c.args.from + c.bits.used + 1 = omega arith in
    let is = c.bit-one.ensures ∙ ap (λ (b : ℕ). bit b (n % 8)) c.byte.ensures.value in
    record {
      same = rw behind (further c.args.memory.now c.bits.node c.bits.used n _ c.in_ok-node.node c.bit-one.result
          c.in_ok-bytes.ensures.value (sym c.from.ensures ∙ c.if-from-ne-BRANCH.false)
          (omega arith) is c.in_ok-node.ensures ∙ c.bits.invariant.same);
      bits = inr (omega arith);
    }
