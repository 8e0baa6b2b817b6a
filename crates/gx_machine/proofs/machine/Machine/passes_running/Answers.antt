-- one step more, or the step that isn't made
use Rattle.std.proofs.Common.{ℕ, suc, None, refl, subst, sym, arith}
use Rattle.std.proofs.lemmas.Result.{err_from_is_err_and}
use Rattle.gx_words.specs.Faults.{IsRefused}
use Rattle.gx_machine.specs.Machine.{Whole}
use Rattle.gx_machine.specs.Step.{stepped, IsStepWriting}
use Rattle.gx_machine.specs.Advancing.{Passes}
use Rattle.gx_machine.proofs.machine.Machine.passes_running.Goals as goal

pub returns-in_err-pass-clause-value : goal.returns-in_err-pass-clause-value
returns-in_err-pass-clause-value g c =
    let p = err_from_is_err_and c.from_residual.result c.from_residual.ensures.1 in
    rw (p.1, p.2) (λ word.
    let t = c.in_err-pass.ensures.value word in
    let before = c.loop.invariant.passes word in
    subst (λ (x : Whole × ℕ). (n : ℕ) × Passes word n (c.args.self.now, c.args.budget.now) None x None
    × IsRefused (IsStepWriting x.0.machine x.1) c.in_err-pass.field-0.0 (stepped x.0 word x.1)) (sym t.0)
    (before.0, before.1, t.1))

pub loop-preserved : goal.loop-preserved
loop-preserved g c =
    let went = rw c.if-branch.true at c.in_ok-pass.ensures.value in
    record {
      none = c.in_ok-pass.ensures.asks;
      passes = λ word. let before = c.loop.invariant.passes word in
          (suc before.0, ((c.loop.self, c.loop.budget), None, before.1, went word, refl, c.in_ok-pass.ensures.backs));
      no_more = omega (arith, c.in_ok-pass.ensures.no_more, c.loop.invariant.no_more);
    }

pub returns-clause-value : goal.returns-clause-value
returns-clause-value g c =
    let same = rw c.if-branch.false at c.in_ok-pass.ensures.value in
    λ word. subst (λ (x : Whole × ℕ). (n : ℕ) × Passes word n (c.args.self.now, c.args.budget.now) None x None)
    (sym (same word)) (c.loop.invariant.passes word)
