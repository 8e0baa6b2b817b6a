-- what is found within the budget gives the row and its cost
use Rattle.std.proofs.Common.{rules, arith}
use Rattle.std.proofs.lemmas.Grind.{common_steps}
use Rattle.gx_operands.specs.Plans.{instruction_of}
use Rattle.ops_memory.proofs.Charges.{at_charged, none_charged, fault_charged}
use Rattle.ops_memory.proofs.searches.searches.Goals as goal

pub returns-in_err-address-clause-value : goal.returns-in_err-address-clause-value
returns-in_err-address-clause-value g c =
    let is = fault_charged c.args.method c.args.state.now.flat
    (instruction_of c.args.plan.now) c.args.left.now c.in_err-address.field-0.0 (search rules) in
    let same = c.from_residual.ensures in
    rw is (grind (arith, common_steps, same))

pub returns-in-At-clause-value : goal.returns-in-At-clause-value
returns-in-At-clause-value g c =
    let is = at_charged c.args.method c.args.state.now.flat (instruction_of c.args.plan.now) c.args.left.now
    c.in-At.address c.in-At.index c.in-At.probes (search rules) in
    rw is (grind (arith, common_steps))

pub returns-in-Nothing-clause-value : goal.returns-in-Nothing-clause-value
returns-in-Nothing-clause-value g c =
    let is = none_charged c.args.method c.args.state.now.flat
    (instruction_of c.args.plan.now) c.args.left.now c.in-Nothing.probes (search rules) in
    rw is (grind (arith, common_steps))
