-- all arguments are pushed, the first topmost
use Rattle.std.proofs.Common.{arith}
use Rattle.std.proofs.lemmas.Grind.{common_steps}
use Rattle.gx_stack.proofs.Turns.{all_args}
use Rattle.gx_stack.proofs.Stack.push_args.Goals as goal

pub returns-clause-value : goal.returns-clause-value
returns-clause-value c =
    let all = all_args c.args.args.now c.loop-i.i (omega arith) in
    grind (arith, common_steps, all)
