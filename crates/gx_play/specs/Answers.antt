-- WHAT IS ANSWERED AND LEFT BEHIND (`Plays`), by the outcome: without a machine, with an output that is sent, or with
-- the run of a session.
use Rattle.std.specs.Prelude.{◌≡◌, ℕ, ◌<◌, ◌≤◌, length, List, [], ◌∷◌, ◌++◌, ◌⊎◌, Option, None, IsSomeAnd, unwrap_or}
use Rattle.std.specs.Prelude.{Result, Ok, Err}
use Rattle.std.specs.Option.{option_map_or}
use Rattle.gx_machine.specs.Log.{no_events}
use Rattle.gx_outside.specs.Outside.{FlatShelf, FlatSink}
use Rattle.gx_outside.specs.Sends.{Send, SinkCall}
use Rattle.gx_outside.specs.Shelves.{Exchange, Trace, ShelfCall}
use Rattle.gx_outside.specs.declared.devices.SendFault.{SendFault}
use Rattle.gx_outside.specs.declared.devices.SendFault.TheVariants as of_send
use Rattle.gx_session.specs.declared.ended.Ended.{Ended}
use Rattle.gx_session.specs.Constants.{status_shelf_fault, status_output_fault, status_no_memory}
use Rattle.gx_session.specs.Devices.{Devices}
use Rattle.gx_session.specs.Configurations.{Configuration}
use Rattle.gx_session.specs.Runs.{IsRun, Report, report_of}
use Rattle.gx_play.specs.Rewinding.{rewind_line}
use Rattle.gx_play.specs.Seeds.{devices_for}
use Rattle.gx_play.specs.Outcomes.{CommandOutcome, refused, answers_with, runs, rewinds}
use Rattle.rand_core.specs.Stream.{Stream}

-- THE ANSWER without a machine, after so many steps: where none was started, or where a job hands none back.
pub record HasNoMachine {A : Type 0} (ended : Ended A) (status fault at steps : ℕ) : Type 0 where
  pub status_is : ended.status ≡ status
  pub fault_is : ended.fault ≡ fault
  pub at_is : ended.at ≡ at
  pub steps_are : ended.steps ≡ steps
  pub machine_is : ended.machine ≡ None

-- This is answered, and the sink wasn't called.
abbrev pub SendsNothing : {A : Type 0} → ℕ → ℕ → ℕ → ℕ → FlatSink → FlatSink → List Send → Ended A → Type 0
SendsNothing status fault at steps before now sends ended =
    HasNoMachine ended status fault at steps × (now ≡ before) × (sends ≡ [])

-- what is answered by the sink's answer to an output: this, or that it failed, or that memory was wanted
abbrev pub AnswersSend : {A : Type 0} → Result (Unit {0}) SendFault → ℕ → ℕ → ℕ → ℕ → Ended A → Type 0
AnswersSend (Ok whole) status fault at steps ended = HasNoMachine ended status fault at steps
AnswersSend (Err of_send.Failed) status fault at steps ended = HasNoMachine ended status_output_fault 0 0 steps
AnswersSend (Err of_send.NoMemory) status fault at steps ended = HasNoMachine ended status_no_memory 0 0 steps

-- The sink was called once, with this output. It took it whole, and this is answered; or it took a front of it.
abbrev pub SendsOutput : {A : Type 0} → ℕ → ℕ → ℕ → ℕ → List ℕ → FlatSink → FlatSink → List Send → Ended A → Type 0
SendsOutput status fault at steps output before now sends ended = (took : Result (Unit {0}) SendFault)
    × AnswersSend took status fault at steps ended × (sends ≡ (output, took) ∷ []) × SinkCall before (output, took) now

-- NO RUN WAS BEGUN: nothing was done but to ask for the file, at most once, and to send an output. No input was read
-- and no random word was drawn.
pub record IsUnrun (entry exit : Devices) : Type 0 where
  pub asked : length exit.asked ≤ 1
  pub source : exit.source ≡ entry.source
  pub reads : exit.reads ≡ entry.reads
  pub words : exit.words ≡ entry.words

-- Nothing was begun, neither a run nor an output, and this is answered.
abbrev pub IsUnbegun : {A : Type 0} → ℕ → ℕ → ℕ → Devices → Devices → Ended A → Type 0
IsUnbegun status fault at entry exit ended =
    IsUnrun entry exit × SendsNothing status fault at 0 entry.sink exit.sink exit.sends ended

-- The session from a start was run over these devices up to this report, with the words of the seed or the device's.
-- Without a seed the device has the words that the run left; with one it wasn't drawn from, and has what it had.
abbrev pub IsRunTo : Option ℕ → Configuration → Devices → Devices → Report → Type 0
IsRunTo seed start entry exit r = (left : Stream) × (exit.words ≡ option_map_or (λ number. entry.words) seed left)
    × IsRun start (devices_for seed entry) (record exit { words = left }) r

-- It was so, and its machine is handed back.
abbrev pub IsRunOf : {A : Type 0} → Option ℕ → Configuration → Devices → Devices → Ended A → Type 0
IsRunOf seed start entry exit ended = IsSomeAnd ended.machine (λ m. IsRunTo seed start entry exit (report_of ended m))

-- After a run that came to its end the line is sent, or memory ran out before; after one that was cut short nothing.
pub record IsRewound {A : Type 0} (back : ℕ) (r : Report) (before now : FlatSink) (sends : List Send)
    (ended : Ended A) : Type 0 where
  pub told : r.status < status_shelf_fault → SendsOutput r.status r.fault r.at r.steps
      (rewind_line back (record { whole = r.machine; log = unwrap_or r.log no_events })) before now sends ended
      ⊎ SendsNothing status_no_memory 0 0 r.steps before now sends ended
  pub early : status_shelf_fault ≤ r.status → SendsNothing r.status r.fault r.at r.steps before now sends ended

-- The session was run so, and left this sink after these sends; and then came the line, of a tape with the machine that
-- the run reports and what is recorded of it.
pub record IsRewindOf {A : Type 0} (seed : Option ℕ) (back : ℕ) (start : Configuration) (entry exit : Devices)
    (ended : Ended A) : Type 0 where
  pub report : Report
  pub sink : FlatSink
  pub sends : List Send
  pub more : List Send
  pub sends_are : exit.sends ≡ sends ++ more
  pub run : IsRunTo seed start entry (record exit { sink = sink; sends = sends }) report
  pub rewound : IsRewound back report sink exit.sink more ended

-- A run was begun, after one call of the shelf. It finds the shelf as it is then, and what it asks is the rest.
pub record BeginsAfter (entry exit : Devices) (Run : Devices → Devices → Type 0) : Type 0 where
  pub load : Exchange
  pub shelf : FlatShelf
  pub asked : Trace
  pub asked_are : exit.asked ≡ load ∷ asked
  pub does : ShelfCall entry.shelf load shelf
  pub run : Run (record entry { shelf = shelf }) (record exit { asked = asked })

-- What is answered and left behind is the outcome's.
abbrev pub Plays : {A : Type 0} → CommandOutcome → Devices → Devices → Ended A → Type 0
Plays (refused status fault at) entry exit ended = IsUnbegun status fault at entry exit ended
Plays (answers_with status output) entry exit ended =
    IsUnrun entry exit × SendsOutput status 0 0 0 output entry.sink exit.sink exit.sends ended
Plays (runs seed start) entry exit ended =
    BeginsAfter entry exit (λ before after. IsRunOf seed start before after ended)
Plays (rewinds seed back start) entry exit ended =
    BeginsAfter entry exit (λ before after. IsRewindOf seed back start before after ended)
