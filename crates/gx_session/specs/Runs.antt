-- What a run reports and leaves behind, against the definition of a session.
use Rattle.std.specs.Prelude.{◌≡◌, ◌≢◌, ℕ, ◌+◌, ◌<◌, ◌≤◌, ◌++◌, ◌⊎◌, true, Option, None, List, []}
use Rattle.std.specs.Prelude.{map, length, take, ◌==◌, if◌then◌else◌, IsSome}
use Rattle.std.specs.List.{concat}
use Rattle.gx_machine.specs.Machine.{Whole}
use Rattle.gx_machine.specs.Log.{Log}
use Rattle.gx_outside.specs.Chains.{Chain}
use Rattle.gx_outside.specs.Outside.{FlatSink}
use Rattle.gx_outside.specs.Reads.{SourceCall}
use Rattle.gx_outside.specs.Sends.{SinkCall}
use Rattle.gx_outside.specs.Shelves.{Request, Answer, Trace, ShelfCall}
use Rattle.gx_outside.specs.declared.devices.SendFault.TheVariants as of_send
use Rattle.gx_session.specs.declared.ended.Ended.{Ended}
use Rattle.gx_session.specs.Constants.{status_ended, status_fault, status_shelf_fault, status_no_memory}
use Rattle.gx_session.specs.Constants.{status_input_fault}
use Rattle.gx_session.specs.declared.session.EndedOn.{EndedOn}
use Rattle.gx_session.specs.declared.ends.Stop.TheVariants as stop
use Rattle.gx_session.specs.Counts.{FailureCounts}
use Rattle.gx_session.specs.Cuts.{RunCut, by_memory, by_sink, cut_status, refused_sends, refused_requests, AsksFor}
use Rattle.gx_session.specs.Cuts.{IsCutShort, IsLineStop}
use Rattle.gx_session.specs.Wants.{IsWait}
use Rattle.gx_session.specs.Devices.{Devices}
use Rattle.gx_session.specs.Endings.{stores_of, store_call, told_all}
use Rattle.gx_session.specs.Saving.{SavesReadBack}
use Rattle.gx_session.specs.Sound.{MovesSoundly}
use Rattle.gx_session.specs.Sending.{whole_send}
use Rattle.gx_session.specs.Configurations.{Configuration}
use Rattle.gx_session.specs.Session.{RunEnd, final_of, StopsByMove}
use Rattle.gx_session.specs.Asked.{asked_at}
use Rattle.gx_session.specs.Session.{stop_status, fault_number, fault_address}
use Rattle.gx_session.specs.Recording.{RecordsRun}
use Rattle.gx_session.specs.Undoing.{LastsUndo}
use Rattle.rand_core.specs.Stream.{next_u32}
use Rattle.gx_session.specs.Reads.{GiveInput, LeavesInput}

-- What a run reports: its status, the number and the address of a fault, the units that it used, the machine with what
-- it asks, and what is recorded of the run.
pub record Report : Type 0 where
  pub status : ℕ
  pub fault : ℕ
  pub at : ℕ
  pub steps : ℕ
  pub machine : Whole
  pub log : Option Log

abbrev pub report_on : {E : Type 0} → (E → Whole) → (E → Option Log) → EndedOn E → Report
report_on whole log ended = record {
  status = ended.status;
  fault = ended.fault;
  at = ended.at;
  steps = ended.steps;
  machine = whole ended.engine;
  log = log ended.engine;
}

abbrev pub report_of : {A : Type 0} → Ended A → Whole → Report
report_of end machine =
    record { status = end.status; fault = end.fault; at = end.at; steps = end.steps; machine = machine; log = None }

-- The run came to its end: all text was sent, with the last screen, and all open files were stored. One more random
-- word may be drawn, which wasn't used.
pub record EndsAt (start : Configuration) (e : RunEnd) (entry exit : Devices) (coming : List ℕ)
    (r : Report) : Type 0 where
  pub status_is : r.status ≡ stop_status e.stop
  pub fault_is : r.fault ≡ fault_number e.stop
  pub at_is : r.at ≡ fault_address e.stop e.configuration.machine
  pub steps_are : r.steps + e.configuration.left ≡ start.left
  pub machine_is : r.machine ≡ record { machine = e.configuration.machine; asking = asked_at e.stop e.configuration }
  pub log_is : r.log ≡ e.configuration.log
  pub text_is : entry.sink.tells ≡ true → exit.sink.taken ≡ entry.sink.taken ++ e.configuration.world.text
  pub sends_are : exit.sends ≡ map whole_send (told_all e.configuration).sent
  pub asked_are : exit.asked ≡ e.configuration.asked ++ map store_call (stores_of e.configuration.world.scene)
  pub input_is : LeavesInput start.input e.configuration.input coming entry.source exit.source (IsLineStop e.stop)
      (e.stop ≡ stop.LineTooLong) 0
  pub words_are : (exit.words ≡ e.configuration.words) ⊎ (exit.words ≡ (next_u32 e.configuration.words).1)
  pub moves_are_sound : MovesSoundly start None

-- The run was cut short, after so many moves or in its ending, at a configuration whose text is a front of the end's; a
-- front of that was sent. The calls of the sink and of the shelf are those of the session up to there, and one that was
-- refused. Where memory was wanted at a wait for a line, nothing is said of the input: more of it may have been read.
pub record StopsEarly (start : Configuration) (entry exit : Devices) (coming : List ℕ) (r : Report) : Type 0 where
  pub cut : RunCut
  pub status_is : r.status ≡ cut_status cut
  pub moves : Option ℕ
  pub configuration : Configuration
  pub is_cut : IsCutShort start moves cut configuration r.machine.asking
  pub steps_are : r.steps + configuration.left ≡ start.left
  pub machine_is : r.machine.machine ≡ configuration.machine
  pub log_is : r.log ≡ configuration.log
  pub shown : (more : List ℕ) × ((final_of start).configuration.world.text ≡ configuration.world.text ++ more)
  pub sent_of : (more : List ℕ) × (configuration.world.text ≡ concat configuration.sent ++ more)
  pub sends_are : exit.sends ≡ map whole_send configuration.sent ++ refused_sends cut configuration
  pub asked_are : exit.asked ≡ configuration.asked ++ refused_requests cut
  pub input_is : (IsSome moves × (cut ≡ by_memory) × AsksFor configuration.phase IsWait → ⊥)
      → LeavesInput start.input configuration.input coming entry.source exit.source
      ((moves ≡ None) × IsLineStop (final_of start).stop) ((moves ≡ None) × ((final_of start).stop ≡ stop.LineTooLong))
      (if r.status == status_input_fault then 1 else 0)
  pub words_are : (exit.words ≡ configuration.words) ⊎ (exit.words ≡ (next_u32 configuration.words).1)
  pub moves_are_sound : MovesSoundly start moves

-- What a sink that tells has taken then: all that was sent before, and a front of a send that was refused. Where memory
-- was wanted at a send, it was by the last call of the sink.
pub record TakesText (before now : FlatSink) (cut : RunCut) (m : Configuration) : Type 0 where
  pub wanted : cut ≡ by_sink of_send.NoMemory → now.calls.wanting ≡ true
  pub count : ℕ
  pub at_least : length (concat m.sent) ≤ count
  pub at_most : count ≤ length m.world.text
  pub whole : refused_sends cut m ≡ [] → count ≡ length (concat m.sent)
  pub text_is : before.tells ≡ true → now.taken ≡ before.taken ++ take count m.world.text

-- The statuses of a run. A fault has a number from 1 to 16, and only a fault has one and an address.
pub record IsReport (status fault at : ℕ) : Type 0 where
  pub status_is : (status ≡ status_ended) ⊎ ((status_fault ≤ status) × (status ≤ status_no_memory))
  pub fault_is : status ≡ status_fault → (1 ≤ fault) × (fault ≤ 16)
  pub no_fault : status ≢ status_fault → (fault ≡ 0) × (at ≡ 0)

-- The run is the session from a start, after which this is to come of the source. The statuses from
-- `status_shelf_fault` on are those of a run that was cut short.
pub record IsSession (start : Configuration) (entry exit : Devices) (coming : List ℕ) (r : Report) : Type 0 where
  pub ended : r.status < status_shelf_fault → EndsAt start (final_of start) entry exit coming r
  pub early : status_shelf_fault ≤ r.status
      → (e : StopsEarly start entry exit coming r) × TakesText entry.sink exit.sink e.cut e.configuration

-- A RUN, between what the devices hold at entry and at exit. It is the session with some input and some answers of the
-- shelf: with what the source has left, where the source tells it, and with what the shelf's files answer, where the
-- shelf tells them. The input begins with the bytes that the reads gave. The session's calls of the shelf are those
-- that were made (`asked_are`), so that its answers are those that the shelf gave. What the devices hold is what the
-- calls made of them. `undo`, `records`, `stops` and `saves` are laws: the first three hold with whatever input and
-- answers, not only with those of this run.
pub record IsRun (start : Configuration) (entry exit : Devices) (r : Report) : Type 0 where
  pub input : List ℕ
  pub input_is : entry.source.tells ≡ true → input ≡ start.input
  pub coming : List ℕ
  pub read : GiveInput exit.reads input coming
  pub answers : Trace → Request → Answer
  pub answers_are : entry.shelf.tells ≡ true → answers ≡ start.answers
  pub session : IsSession (record start { input = input; answers = answers }) entry exit coming r
  pub source_calls : Chain SourceCall entry.source exit.reads exit.source
  pub sink_calls : Chain SinkCall entry.sink exit.sends exit.sink
  pub shelf_calls : Chain ShelfCall entry.shelf exit.asked exit.shelf
  pub counts : FailureCounts entry exit r.status
  pub source_tells : exit.source.tells ≡ entry.source.tells
  pub sink_tells : exit.sink.tells ≡ entry.sink.tells
  pub shelf_tells : exit.shelf.tells ≡ entry.shelf.tells
  pub report : IsReport r.status r.fault r.at
  pub undo : (input : List ℕ) (answers : Trace → Request → Answer)
      → LastsUndo (record start { input = input; answers = answers })
  pub records : (input : List ℕ) (answers : Trace → Request → Answer)
      → RecordsRun (record start { input = input; answers = answers })
  pub stops : (input : List ℕ) (answers : Trace → Request → Answer)
      → StopsByMove (record start { input = input; answers = answers })
  pub saves : SavesReadBack start.machine.flat.story
