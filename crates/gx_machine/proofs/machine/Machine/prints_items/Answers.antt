-- items, one after the other
use Rattle.std.proofs.Common.{ℕ, suc, None, refl, subst, sym, arith}
use Rattle.gx_machine.specs.Machine.{Whole}
use Rattle.gx_machine.specs.Advancing.{Passes}
use Rattle.gx_machine.proofs.machine.Machine.prints_items.Goals as goal

pub loop-preserved : goal.loop-preserved
loop-preserved g c =
    let went = rw c.loop-test.true at c.pass_printing.ensures.value in
    record {
      none = c.pass_printing.ensures.asks;
      passes = λ word. let before = c.loop.invariant.passes word in
          (suc before.0, ((c.loop.self, c.loop.budget), None, before.1, went word, refl, c.pass_printing.ensures.backs));
      no_more = omega (arith, c.pass_printing.ensures.no_more, c.loop.invariant.no_more);
    }

pub returns-clause-value : goal.returns-clause-value
returns-clause-value g c =
    let same = rw c.loop-test.false at c.pass_printing.ensures.value in
    λ word.
    let before = c.loop.invariant.passes word in (
      before.0,
      subst (λ (x : Whole × ℕ). Passes word before.0 (c.args.self.now, c.args.budget.now) None x None)
          (sym (same word)) before.1,
    )
