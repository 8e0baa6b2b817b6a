-- one bit more
use Rattle.std.proofs.Common.{◌≡◌, ◌+◌, ◌-◌, ◌%◌, ◌==◌, ℕ, ap, refl, arith, ◌∙◌}
use Rattle.gx_strings.proofs.Walks.{further}
use Rattle.gx_strings.proofs.rom.walk.Goals as goal

pub bits-preserved : goal.bits-preserved
bits-preserved c =
    let used : ℕ = c.bits.place - c.args.from in
    let behind : c.bits.place + 1 - c.args.from ≡ used + 1 = omega arith in
    let is = ap (λ (v : ℕ). v % 2 == 1) c.bits.invariant.left in
    record {
      same = rw behind (further c.args.rom.now c.bits.node used c.bits.place _ c.child-node.result
          (c.bits.left % 2 == 1) c.type_of.ensures c.if-type_of-ne-BRANCH.false c.bits.invariant.there is
          c.child-node.ensures ∙ c.bits.invariant.same);
      begun = omega arith;
      there = c.in_ok-left-2.ensures.there.0 refl;
      left = c.in_ok-left-2.ensures.value;
    }
