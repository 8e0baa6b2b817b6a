-- what is pending is the instruction that put a character
use Rattle.gx_operands.specs.Plans.{instruction_of}
use Rattle.gx_machine.proofs.Answers.{print_pends}
use Rattle.gx_machine.proofs.rows.print_row.Goals as goal

pub returns-in-Put-clause-pends : goal.returns-in-Put-clause-pends
returns-in-Put-clause-pends g c =
    rw c.put_pending.ensures (print_pends c.args.state.now.flat _ (instruction_of c.args.plan.now)
    (rw c.in-Put.is at c.in_ok-effect.ensures.asks) c.requires.running c.requires.decoded c.requires.class
    c.requires.sp c.stack-stack.ensures.sound.height)
