-- The numbers of the faults of packed bytes.
use Rattle.std.specs.Prelude.{ℕ}
use Rattle.zero_runs.specs.declared.faults.RunFault.{RunFault}
use Rattle.zero_runs.specs.declared.faults.RunFault.TheVariants.{Cut, TooMany, NoMemory}

abbrev pub number_of : RunFault → ℕ
number_of Cut = 1
number_of TooMany = 2
number_of NoMemory = 3
