-- A session: the machine and the Glk world from a start to the end of the run, move by move.
-- Where it stops, a screen that is composed is shown once more, and of wrapped text what is held is let go.
use Rattle.std.specs.Prelude.{◌≡◌, ℕ, suc, zero, ◌+◌, ◌*◌, if◌then◌else◌, Option, Some, None, option_and_then}
use Rattle.gx_words.specs.Faults.{number_of}
use Rattle.gx_machine.specs.Machine.{FlatMachine}
use Rattle.glk_world.specs.World.{after}
use Rattle.glk_world.specs.Shown.{end_text}
use Rattle.gx_session.specs.declared.ends.Stop.{Stop}
use Rattle.gx_session.specs.declared.ends.Stop.TheVariants as stop
use Rattle.gx_session.specs.Constants.{status_ended, status_fault, status_spent, status_input_ended, status_stuck}
use Rattle.gx_session.specs.Constants.{status_line_too_long}
use Rattle.gx_session.specs.Configurations.{Phase, Configuration, Verdict, steps, asks, goes_on, moves_to, stops}
use Rattle.gx_session.specs.Moves.{sends_now, move_of}

-- An end of a run: why it stopped, and where.
pub record RunEnd : Type 0 where
  pub stop : Stop
  pub configuration : Configuration

-- the end where this move comes first
abbrev pub end_after : Verdict → (Configuration → RunEnd) → RunEnd
end_after (stops s m) on = record { stop = s; configuration = m }
end_after (moves_to m) on = on m

-- the end within so many moves
abbrev pub final_in : ℕ → Configuration → RunEnd
final_in zero m = record { stop = stop.Spent; configuration = m }
final_in (suc n) m = end_after (move_of m) (final_in n)

-- No more moves than these are to come in a phase, but for one that sends: each event uses at least one unit, and has
-- at most five moves.
abbrev pub moves_by : Phase → ℕ → ℕ
moves_by steps left = 5 * left
moves_by (asks t w) left = 5 * w.left + 3
moves_by (goes_on g w) left = 5 * w.left + 2

-- where the run stops
unfoldable pub stop_of : Configuration → RunEnd
stop_of m = final_in (suc (moves_by m.phase m.left + (if sends_now m then 1 else 0))) m

-- THE END OF THE RUN: where it stops, once the last screen is shown, where the screen is composed; or once what is held
-- of wrapped text is let go.
unfoldable pub final_of : Configuration → RunEnd
final_of m = let c = (stop_of m).configuration in
    record { stop = (stop_of m).stop; configuration = record c { world = after c.world (end_text c.world.scene) } }

-- the next configuration, if the run goes on
abbrev pub next_configuration : Verdict → Option Configuration
next_configuration (moves_to m) = Some m
next_configuration (stops s m) = None

-- What stands after so many moves, if the run gets there.
abbrev pub run_of : Configuration → ℕ → Option Configuration
run_of start zero = Some start
run_of start (suc j) = option_and_then (λ m. next_configuration (move_of m)) (run_of start j)

-- A run comes to its stop by a move, so many moves after its start.
abbrev pub StopsByMove : Configuration → Type 0
StopsByMove start = (moves : ℕ) × (m : Configuration) × (run_of start moves ≡ Some m)
    × (move_of m ≡ stops (stop_of start).stop (stop_of start).configuration)

-- the status of each stop
abbrev pub stop_status : Stop → ℕ
stop_status stop.Ended = status_ended
stop_status stop.Exited = status_ended
stop_status (stop.Faulted fault) = status_fault
stop_status stop.Spent = status_spent
stop_status stop.InputEnded = status_input_ended
stop_status stop.Stuck = status_stuck
stop_status stop.LineTooLong = status_line_too_long

-- the number of the fault, and 0 without one
abbrev pub fault_number : Stop → ℕ
fault_number (stop.Faulted fault) = number_of fault
fault_number s = 0

-- where the fault was met: the PC before the step, and 0 without a fault
abbrev pub fault_address : Stop → FlatMachine → ℕ
fault_address (stop.Faulted fault) machine = machine.flat.pc
fault_address s machine = 0
