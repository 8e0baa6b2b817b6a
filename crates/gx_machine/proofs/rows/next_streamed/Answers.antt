-- what is pending is the character of the instruction at PC
use Rattle.gx_machine.proofs.Streams.{streamed_pends}
use Rattle.gx_machine.proofs.rows.next_streamed.Goals as goal

pub returns-clause-pends : goal.returns-clause-pends
returns-clause-pends g c =
    rw c.put_pending.ensures
    (streamed_pends c.args.state.now.flat _ _ _ c.requires.running c.in_ok-c.ensures.value c.in_ok-c.ensures.height
    c.stack-stack.ensures.sound.height)
