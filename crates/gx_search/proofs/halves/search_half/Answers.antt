-- what is left after the probe of the middle
use Rattle.std.proofs.Common.{rules, arith}
use Rattle.std.proofs.lemmas.Grind.{common_steps}
use Rattle.gx_search.proofs.Halvings.{half_fault, left_less, left_greater}
use Rattle.gx_search.proofs.halves.search_half.Goals as goal
use Rattle.gx_search.proofs.halves.search_half.Goals.{in-Less, in-Greater}

pub returns-in_err-compared-clause-value : goal.returns-in_err-compared-clause-value
returns-in_err-compared-clause-value g c =
    let fault = half_fault c.args.memory.now c.args.ask.now c.args.bound c.loop-low.made c.loop-low.low
    c.loop-low.high c.middle-index.result c.in_err-compared.field-0.0 c.loop-low.invariant.left
    c.loop-low-test.true c.middle-index.ensures (search rules) (omega arith) in
    let same = c.from_residual.ensures in
    grind (arith, common_steps, fault, same)

pub loop-low-preserved : goal.loop-low-preserved
loop-low-preserved g c =
    let m = c.args.memory.now in
    let q = c.args.ask.now in
    let left = c.loop-low.invariant.left in
    elim c.match-branch-2.branch [
      | in-Less w ↦ record {
        within = omega arith;
        left = rw (w.low-is, w.high-is) (left_less m q _ _ _ c.middle-index.result left c.loop-low-test.true
            c.middle-index.ensures (search rules));
      }
      | in-Greater w ↦ record {
        within = omega arith;
        left = rw (w.low-is, w.high-is) (left_greater m q _ _ _ c.middle-index.result left c.loop-low-test.true
            c.middle-index.ensures (search rules));
      }
    ]
