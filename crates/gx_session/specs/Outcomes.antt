-- What a part of a run comes to: an event, all events, a call of a device. What contracts say.
use Rattle.std.specs.Prelude.{◌≡◌, ◌≢◌, ℕ, ◌<◌, ◌≤◌, [], ◌⊎◌, length, IsOk, IfOk, OnOk, OnErr, Result, Ok, Err, Option}
use Rattle.std.specs.Prelude.{None}
use Rattle.gx_words.specs.declared.faults.Fault.{Fault}
use Rattle.gx_words.specs.declared.faults.Fault.TheVariants.{NoMemory}
use Rattle.gx_state.specs.declared.effects.Reply.{Reply}
use Rattle.gx_state.specs.Copies.{Copy}
use Rattle.gx_machine.specs.declared.askings.Asking.{Asking}
use Rattle.gx_machine.specs.Machine.{FlatMachine, Whole}
use Rattle.gx_machine.specs.Answer.{answer_of}
use Rattle.gx_machine.specs.Log.{Log, logged}
use Rattle.gx_machine.specs.Advancing.{units_left}
use Rattle.gx_outside.specs.declared.devices.SendFault.{SendFault}
use Rattle.gx_outside.specs.declared.devices.SendFault.TheVariants as of_send
use Rattle.gx_outside.specs.declared.devices.ShelfFault.{ShelfFault}
use Rattle.gx_outside.specs.declared.devices.ShelfFault.TheVariants as of_shelf
use Rattle.glk_world.specs.World.{FlatWorld}
use Rattle.quetzal.specs.declared.faults.SaveFault.{SaveFault}
use Rattle.quetzal.specs.declared.faults.SaveFault.TheVariants as of_save
use Rattle.gx_session.specs.declared.ends.Stop.{Stop}
use Rattle.gx_session.specs.declared.ends.Stop.TheVariants as stop
use Rattle.gx_session.specs.declared.ends.Halt.{Halt}
use Rattle.gx_session.specs.declared.ends.Halt.TheVariants as halt
use Rattle.gx_session.specs.declared.ends.Next.{Next}
use Rattle.gx_session.specs.declared.ends.Next.TheVariants as next
use Rattle.gx_session.specs.declared.lines.NoLine.{NoLine}
use Rattle.gx_session.specs.declared.lines.NoLine.TheVariants as no
use Rattle.gx_session.specs.declared.running.Running.{Running}
use Rattle.gx_session.specs.Counts.{Blames}
use Rattle.gx_session.specs.Devices.{Devices}
use Rattle.gx_session.specs.Sending.{whole_send}
use Rattle.gx_session.specs.Configurations.{Configuration}
use Rattle.gx_session.specs.Holding.{HeldRun, SendStep, Handed}
use Rattle.gx_session.specs.Standing.{Going, HasStopped, Early}

-- WHAT A PART OF A RUN COMES TO
-- an event
abbrev pub EventGives : {K : Type 0} {sending : SendStep K} → Configuration → Handed sending → HeldRun → Option Asking
    → Handed sending → Result Next Halt → Type 0
EventGives start entry h asking d (Ok next.Goes) = Going start entry h d
EventGives start entry h asking d (Ok (next.Stops stop)) = HasStopped start entry h asking d stop
EventGives start entry h asking d (Err why) = Early start entry h asking d why

-- all events
abbrev pub StopGives : {K : Type 0} {sending : SendStep K} → Configuration → Handed sending → HeldRun → Option Asking
    → Handed sending → Result Stop Halt → Type 0
StopGives start entry h asking d (Ok stop) = HasStopped start entry h asking d stop
StopGives start entry h asking d (Err why) = Early start entry h asking d why

-- Want of memory is no fault that a run stops at.
abbrev pub IsStop : Stop → Type 0
IsStop (stop.Faulted fault) = fault ≢ NoMemory
IsStop s = Unit {0}

abbrev pub IsNext : Next → Type 0
IsNext next.Goes = Unit {0}
IsNext (next.Stops stop) = IsStop stop

-- Where a part of a run goes on, nothing is asked any more, and so many units are left at most, for which there is room
-- in what is recorded. A stop is one of a session.
pub record Leads {E : Type 0} (whole : E → Whole) (log : E → Option Log) (old new : Running E) (left : ℕ)
    (result : Result Next Halt) : Type 0 where
  pub none : result ≡ Ok next.Goes → (whole new.engine).asking ≡ None
  pub fewer : result ≡ Ok next.Goes → new.left ≤ left
  pub room : result ≡ Ok next.Goes → new.left ≤ units_left (log new.engine)
  pub no_more : new.left ≤ old.left
  pub stop_is : IfOk result IsNext

-- what a fault comes to
abbrev pub FaultGives : Fault → Result Next Halt → Type 0
FaultGives fault result =
    ((fault ≡ NoMemory) × (result ≡ Err halt.NoMemory))
    ⊎ ((fault ≢ NoMemory) × (result ≡ Ok (next.Stops (stop.Faulted fault))))

-- what a refused send, or a refused question, is to a run
abbrev pub halt_of_send : SendFault → Halt
halt_of_send of_send.Failed = halt.Output
halt_of_send of_send.NoMemory = halt.NoMemory

abbrev pub halt_of_shelf : ShelfFault → Halt
halt_of_shelf of_shelf.Failed = halt.Shelf
halt_of_shelf of_shelf.NoMemory = halt.NoMemory

-- what it is to a run that no line was taken
abbrev pub without_line : NoLine → Result Next Halt
without_line no.Ended = Ok (next.Stops stop.InputEnded)
without_line no.TooLong = Ok (next.Stops stop.LineTooLong)
without_line no.Failed = Err halt.Input
without_line no.NoMemory = Err halt.NoMemory

-- The pending text was sent in one call, which took it whole or was refused.
abbrev pub SendsAll : {K : Type 0} → SendStep K → K → K → FlatWorld → FlatWorld → Result (Unit {0}) Halt → Type 0
SendsAll sending before now old new (Ok u) = sending before (whole_send old.text) now × (new ≡ record old { text = [] })
SendsAll sending before now old new (Err why) =
    (fault : SendFault) × sending before (old.text, Err fault) now × (why ≡ halt_of_send fault)

-- The pending text is sent where it has so many bytes or more, and else nothing happens.
pub record Flushes {K : Type 0} (sending : SendStep K) (enough : ℕ) (before now : K) (old new : FlatWorld)
    (result : Result (Unit {0}) Halt) : Type 0 where
  pub few : length old.text < enough → (now ≡ before) × (new ≡ old) × IsOk result
  pub many : enough ≤ length old.text → SendsAll sending before now old new result

-- The machine became this one, which asks nothing, and the event was recorded; or both stand for want of memory. All
-- else stands.
pub record Becomes {E T : Type 0} (whole : E → Whole) (log : E → Option Log) (old new : Running E)
    (machine : FlatMachine) (left : ℕ) (result : Result T Halt) : Type 0 where
  pub ok : OnOk result ((whole new.engine ≡ record { machine = machine; asking = None })
      × (new ≡ record old { engine = new.engine; left = left })
      × (log new.engine ≡ logged (log old.engine) (whole old.engine).machine))
  pub err : OnErr result ((whole new.engine ≡ whole old.engine) × (new ≡ record old { engine = new.engine })
      × (log new.engine ≡ log old.engine))

abbrev pub TakesReply : {E T : Type 0} → (E → Whole) → (E → Option Log) → Running E → Running E → Reply → ℕ
    → Result T Halt → Type 0
TakesReply whole log old new reply left result =
    Becomes whole log old new (answer_of (whole old.engine).machine reply) left result

-- How the answer of a save relates to its definition: as that of a call that may lose the world (`MayLose`), but that
-- want of memory comes wherever the save is begun.
abbrev pub MaySave : Type 0 → Result Reply Fault → FlatWorld → FlatWorld → Result (FlatWorld × Reply) Fault → Type 0
MaySave begun (Ok reply) old new defined = defined ≡ Ok (new, reply)
MaySave begun (Err e) old new defined = (e ≢ NoMemory → (new ≡ old) × (defined ≡ Err e)) × (e ≡ NoMemory → begun)

-- What it is to a restore that a save is refused: there is no copy, unless memory ran out.
abbrev pub Refuses : SaveFault → Result (Option Copy) Fault → Type 0
Refuses fault result =
    ((fault ≡ of_save.NoMemory) × (result ≡ Err NoMemory)) ⊎ ((fault ≢ of_save.NoMemory) × (result ≡ Ok None))

-- THE DEVICES over a part of a run
-- A device that isn't blamed didn't fail, and each goes on telling what it tells.
pub record Keeps {T : Type 0} (before now : Devices) (result : Result T Halt) : Type 0 where
  pub sink : Blames before.sink.calls now.sink.calls (result ≡ Err halt.Output)
  pub sink_tells : now.sink.tells ≡ before.sink.tells
  pub source : Blames before.source.calls now.source.calls (result ≡ Err halt.Input)
  pub source_tells : now.source.tells ≡ before.source.tells
  pub shelf : Blames before.shelf.calls now.shelf.calls (result ≡ Err halt.Shelf)
  pub shelf_tells : now.shelf.tells ≡ before.shelf.tells
