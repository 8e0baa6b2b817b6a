-- The faults of the stack, and what each is as a fault of the machine.
use Rattle.std.specs.Prelude.{ℕ, Result, Ok, Err}
use Rattle.gx_words.specs.declared.faults.Fault.{Fault}
use Rattle.gx_words.specs.declared.faults.Fault.TheVariants as fault
use Rattle.gx_stack.specs.declared.faults.StackFault.{StackFault}
use Rattle.gx_stack.specs.declared.faults.StackFault.TheVariants.{Overflow, Underflow, BadFrame, BadLocal}

abbrev pub number_of : StackFault → ℕ
number_of Overflow = 1
number_of Underflow = 2
number_of BadFrame = 3
number_of BadLocal = 4

abbrev pub fault_of : StackFault → Fault
fault_of Overflow = fault.Overflow
fault_of Underflow = fault.Underflow
fault_of BadFrame = fault.BadFrame
fault_of BadLocal = fault.BadLocal

-- an answer of the stack as one of the machine
abbrev pub lifted : {X : Type 0} → Result X StackFault → Result X Fault
lifted (Ok x) = Ok x
lifted (Err e) = Err (fault_of e)
