-- steps of code and of printing, in turn
use Rattle.std.proofs.Common.{None, arith}
use Rattle.std.proofs.lemmas.Result.{err_from_is_err_and}
use Rattle.gx_machine.proofs.Passing.{joined}
use Rattle.gx_machine.proofs.machine.Machine.passes.Goals as goal

pub returns-in_err-passes_running-clause-value : goal.returns-in_err-passes_running-clause-value
returns-in_err-passes_running-clause-value g c =
    let p = err_from_is_err_and c.from_residual.result c.from_residual.ensures.1 in
    rw (p.1, p.2) (λ word.
    let passed = c.in_err-passes_running.ensures.value word in
    let before = c.loop-self.invariant.passes word in
    let all = joined word before.0 passed.0 _ _ _ None None None before.1 passed.1 in
    (all.0, all.1, passed.2))

pub loop-self-preserved : goal.loop-self-preserved
loop-self-preserved g c = record {
  none = c.passes_printing.ensures.asks;
  passes = λ word.
      let passed = c.in_ok-passes_running.ensures.value word in
      let before = c.loop-self.invariant.passes word in
      let all = joined word before.0 passed.0 _ _ _ None None None before.1 passed.1 in
      let printed = c.passes_printing.ensures.value word in
      joined word all.0 printed.0 _ _ _ None None None all.1 printed.1;
  no_more = omega (
    arith,
    c.passes_printing.ensures.no_more,
    c.in_ok-passes_running.ensures.no_more,
    c.loop-self.invariant.no_more,
  );
}

pub returns-then-not-passes_printing-clause-value : goal.returns-then-not-passes_printing-clause-value
returns-then-not-passes_printing-clause-value g c =
    λ word.
    let passed = c.in_ok-passes_running.ensures.value word in
    let before = c.loop-self.invariant.passes word in
    let all = joined word before.0 passed.0 _ _ _ None None None before.1 passed.1 in
    let printed = c.passes_printing.ensures.value word in
    joined word all.0 printed.0 _ _ _ None None None all.1 printed.1
