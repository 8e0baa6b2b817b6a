use Rattle.gx_machine.proofs.Puts.{running_behind, printing_behind}
use Rattle.gx_machine.proofs.machine.puts_behind.Goals as goal

pub returns-in-Running : goal.returns-in-Running
returns-in-Running g c = running_behind _ _ _ _ c.requires.pends c.requires.asks c.in-Running.is

pub returns-in-Printing : goal.returns-in-Printing
returns-in-Printing g c =
    printing_behind _ _ _ _ _ _ _ c.requires.pends c.requires.asks c.in-Printing.is c.more_puts.ensures
