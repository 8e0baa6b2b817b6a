-- A tape: the record of a machine's run, and the ways back and again in it.
use Rattle.std.specs.Prelude.{ℕ, ◌+◌, ◌-◌, nat_lt, if◌then◌else◌, List, [], ◌∷◌, None}
use Rattle.gx_machine.specs.Machine.{FlatMachine, Whole}
use Rattle.gx_machine.specs.Step.{cost_of}
use Rattle.gx_machine.specs.Log.{Log, units_of}

-- A tape: its machine with what that asks, and the record of its run.
pub record FlatTape : Type 0 where
  pub whole : Whole
  pub log : Log

-- a tape that stands between two events
abbrev pub tape_at : List FlatMachine → FlatMachine → List FlatMachine → FlatTape
tape_at before m after =
    record { whole = record { machine = m; asking = None }; log = record { before = before; after = after } }

-- the tape at the newest event before which at most so many units were used
unfoldable pub rewound : ℕ → List FlatMachine → FlatMachine → List FlatMachine → FlatTape
rewound units [] m after = tape_at [] m after
rewound units (p ∷ ps) m after =
    if nat_lt units (units_of (p ∷ ps)) then rewound units ps p (m ∷ after) else tape_at (p ∷ ps) m after

-- Back by so many units: to the beginning where fewer were used. What is asked is dropped.
abbrev pub gone_back : FlatTape → ℕ → FlatTape
gone_back t k = rewound (units_of t.log.before - k) t.log.before t.whole.machine t.log.after

-- again: the next event that is recorded, if there is one
abbrev pub gone_on_to : FlatTape → List FlatMachine → FlatTape
gone_on_to t [] = t
gone_on_to t (n ∷ ns) = tape_at (t.whole.machine ∷ t.log.before) n ns

abbrev pub gone_on : FlatTape → FlatTape
gone_on t = gone_on_to t t.log.after

-- the units that events took which began at a machine, and at each of those after it but the last
unfoldable pub units_on : FlatMachine → List FlatMachine → ℕ
units_on m [] = 0
units_on m (n ∷ ns) = cost_of m + units_on n ns

-- the units at the end of the record
abbrev pub units_at_end : FlatTape → ℕ
units_at_end t = units_of t.log.before + units_on t.whole.machine t.log.after
