-- The number that was put is the one that is read.
use Rattle.std.proofs.Common.{◌≤◌, ◌+◌, ◌-◌, arith}
use Rattle.std.proofs.lemmas.Bool.Decides.{nat_tests}
use Rattle.gx_stack.proofs.Locals.{local_put}
use Rattle.gx_stack.proofs.Stack.set_local.Goals as goal

pub returns-clause-read_back : goal.returns-clause-read_back
returns-clause-read_back c =
    let within : c.args.at + c.args.width ≤ c.args.frame.now.values - c.args.frame.now.locals =
    grind (arith, nat_tests) in
    local_put c.self.inside.bytes.items c.put.new.out.items c.args.frame.now c.args.at c.args.width c.args.v
    c.put.ensures.items c.requires.width within
    (grind (
      arith,
      c.requires.frame.good.whole,
      c.requires.frame.values,
      c.requires.frame.locals,
      c.requires.frame.good.order,
    ))
