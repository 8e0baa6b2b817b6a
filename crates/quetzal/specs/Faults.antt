-- The faults of a save: their numbers, what the faults of a form and of packed bytes become, and how a test gives one.
use Rattle.std.specs.Prelude.{ℕ, Bool, if◌then◌else◌, Result, Ok, Err}
use Rattle.iff_chunks.specs.declared.faults.IffFault.{IffFault}
use Rattle.iff_chunks.specs.declared.faults.IffFault.TheVariants as iff
use Rattle.zero_runs.specs.declared.faults.RunFault.{RunFault}
use Rattle.zero_runs.specs.declared.faults.RunFault.TheVariants as run
use Rattle.quetzal.specs.declared.faults.SaveFault.{SaveFault}
use Rattle.quetzal.specs.declared.faults.SaveFault.TheVariants as fault

abbrev pub number_of : SaveFault → ℕ
number_of fault.Form = 1
number_of fault.OtherStory = 2
number_of fault.NoMemoryChunk = 3
number_of fault.Size = 4
number_of fault.Runs = 5
number_of fault.Stack = 6
number_of fault.Blocks = 7
number_of fault.NoMemory = 8

-- whatever is wrong with the form
abbrev pub fault_of : IffFault → SaveFault
fault_of iff.NoMemory = fault.NoMemory
fault_of e = fault.Form

-- whatever is wrong with the packed bytes
abbrev pub fault_of_run : RunFault → SaveFault
fault_of_run run.NoMemory = fault.NoMemory
fault_of_run e = fault.Runs

-- what a test passes, or else has the fault
abbrev pub allowed : Bool → SaveFault → Result (Unit {0}) SaveFault
allowed passes e = if passes then Ok tt else Err e
