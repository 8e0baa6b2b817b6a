-- what is pending is the instruction that asked for a save or a restore
use Rattle.gx_operands.specs.Plans.{instruction_of}
use Rattle.gx_machine.proofs.Answers.{restore_pends, save_pends}
use Rattle.gx_machine.proofs.rows.game_row.Goals as goal

pub returns-in-Save-clause-pends : goal.returns-in-Save-clause-pends
returns-in-Save-clause-pends g c =
    rw c.game_pending.ensures (save_pends c.args.state.now.flat _ c.args.undo.now _ (instruction_of c.args.plan.now)
    (rw c.in-Save.is at c.in_ok-effect.ensures.asks) c.requires.running c.requires.decoded c.requires.class
    c.requires.sp)

pub returns-in-Restore-clause-pends : goal.returns-in-Restore-clause-pends
returns-in-Restore-clause-pends g c =
    rw c.game_pending-in-Restore.ensures (restore_pends c.args.state.now.flat _ c.args.undo.now _
    (instruction_of c.args.plan.now) (rw c.in-Restore.is at c.in_ok-effect.ensures.asks) c.requires.running
    c.requires.decoded c.requires.class c.requires.sp)
