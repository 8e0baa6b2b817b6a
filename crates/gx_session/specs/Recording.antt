-- What is recorded of a run: the machines that it began its events with.
use Rattle.std.specs.Prelude.{◌≡◌, ◌≢◌, ℕ, ◌+◌, ◌<◌, ◌≤◌, List, [], ◌∷◌, ◌++◌, Some}
use Rattle.gx_machine.specs.Machine.{FlatMachine}
use Rattle.gx_machine.specs.Log.{Log, no_events, units_of}
use Rattle.gx_session.specs.declared.ends.Stop.TheVariants as stop
use Rattle.gx_session.specs.Configurations.{Configuration, steps}
use Rattle.gx_session.specs.Session.{RunEnd, run_of, final_of}

-- This machine is that of the run at the beginning of an event, before so many moves, when these were recorded, whose
-- units are those that were used by then.
pub record BeginsEvent (start : Configuration) (j : ℕ) (machine : FlatMachine) (past : List FlatMachine) : Type 0 where
  pub moves : ℕ
  pub earlier : moves < j
  pub configuration : Configuration
  pub reached : run_of start moves ≡ Some configuration
  pub begins : configuration.phase ≡ steps
  pub machine_is : configuration.machine ≡ machine
  pub log_is : configuration.log ≡ Some (record { before = past; after = [] })
  pub units : units_of past + configuration.left ≡ start.left

-- The record of a configuration that the run comes to after so many moves: the run has gone back nowhere, the units of
-- the record are those that the run has used, each machine of it is a place of the run, and the record of each
-- configuration so far is an end of it.
pub record IsRecord (start : Configuration) (j : ℕ) (m : Configuration) : Type 0 where
  pub log : Log
  pub log_is : m.log ≡ Some log
  pub none_after : log.after ≡ []
  pub units : units_of log.before + m.left ≡ start.left
  pub places : (newer : List FlatMachine) (machine : FlatMachine) (before : List FlatMachine)
      → log.before ≡ newer ++ machine ∷ before → BeginsEvent start j machine before
  pub ends : (i : ℕ) (c : Configuration) → i ≤ j → run_of start i ≡ Some c
      → (own : Log) × (c.log ≡ Some own) × (newer : List FlatMachine) × (log.before ≡ newer ++ own.before)

-- The record of the end of a run, which comes within so many moves. `left` are the units that were left before an event
-- that isn't recorded: one in which a Glk call ended the program, or for which the budget was too small. At every other
-- stop they are those of the end.
pub record IsLastRecord (start : Configuration) (e : RunEnd) : Type 0 where
  pub moves : ℕ
  pub left : ℕ
  pub left_is : e.stop ≢ stop.Exited → e.stop ≢ stop.Spent → left ≡ e.configuration.left
  pub is : IsRecord start moves (record e.configuration { left = left })

-- Each machine of the record is that of the run at the beginning of an event, with the units that were used there. So
-- it is in a run that is recorded from its first event on, at each of its configurations and at its end.
unfoldable pub RecordsRun : Configuration → Type 0
RecordsRun start = start.phase ≡ steps → start.log ≡ Some no_events
    → ((j : ℕ) (m : Configuration) → run_of start j ≡ Some m → IsRecord start j m) × IsLastRecord start (final_of start)
