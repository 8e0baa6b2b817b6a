-- the characters that were taken are put next, and stop at the place
use Rattle.gx_state.specs.declared.modes.Mode.TheVariants.{Printing}
use Rattle.ops_print.proofs.Runs.{IsRun}
use Rattle.ops_print.proofs.items.more_puts.Given as goal

abbrev pub invariant-loop-taken : goal.invariant-loop-taken
invariant-loop-taken g l =
    IsRun (record l.state.flat { mode = Printing l.fn.printing }) l.initial.chars.items l.chars.items l.taken l.next
