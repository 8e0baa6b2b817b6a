-- What is recorded of a run by an engine that can go back in it.
use Rattle.std.specs.Prelude.{ℕ, ◌+◌, List, [], ◌∷◌, Option}
use Rattle.std.specs.Option.{option_map}
use Rattle.gx_machine.specs.Machine.{FlatMachine}
use Rattle.gx_machine.specs.Step.{cost_of}

-- An event is a step, with the answer to what it asked. The machine as it stood at the beginning of each event so far,
-- the newest first; and, where the run has gone back, the machine after each event that followed there, the next first.
pub record Log : Type 0 where
  pub before : List FlatMachine
  pub after : List FlatMachine

-- nothing is recorded yet
abbrev pub no_events : Log
no_events = record { before = []; after = [] }

-- An event ends that began at this machine. What followed there before is cut off.
abbrev pub logged : Option Log → FlatMachine → Option Log
logged log m = option_map (λ l. record { before = m ∷ l.before; after = [] }) log

-- the units that events took which began at these machines
unfoldable pub units_of : List FlatMachine → ℕ
units_of [] = 0
units_of (m ∷ ms) = cost_of m + units_of ms
