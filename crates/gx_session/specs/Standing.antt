-- How what is held stands to the run: before a step, in the middle of a Glk call, at its end, or where it is cut
-- short. What contracts say.
use Rattle.std.specs.Prelude.{◌≡◌, ◌≢◌, ℕ, ◌-◌, ◌<◌, ◌≤◌, List, [], ◌++◌, length, IsSome, Bool, true, false}
use Rattle.std.specs.Prelude.{Ok, Option, None, Some}
use Rattle.gx_state.specs.declared.effects.Effect.{Effect}
use Rattle.gx_state.specs.declared.effects.Effect.TheVariants.{Spent}
use Rattle.gx_state.specs.declared.effects.Reply.{Reply}
use Rattle.gx_state.specs.Copies.{Copy}
use Rattle.gx_machine.specs.declared.askings.Asking.{Asking}
use Rattle.gx_machine.specs.Machine.{FlatMachine}
use Rattle.gx_machine.specs.Answer.{answer_of}
use Rattle.gx_machine.specs.SavedCopies.{restored}
use Rattle.gx_machine.specs.Step.{asking_of}
use Rattle.gx_machine.specs.WaysBack.{HasWaysBack}
use Rattle.gx_machine.specs.Log.{Log, logged}
use Rattle.gx_machine.specs.Advancing.{logged_by}
use Rattle.gx_outside.specs.Chains.{Chain}
use Rattle.gx_outside.specs.Outside.{FlatSource, FlatSink}
use Rattle.gx_outside.specs.Reads.{SourceRead}
use Rattle.gx_outside.specs.Sends.{Send}
use Rattle.glk_world.specs.World.{FlatWorld, Said, after}
use Rattle.glk_replies.specs.declared.Turn.{Turn}
use Rattle.glk_replies.specs.declared.Given.{Given}
use Rattle.gx_session.specs.declared.ends.Stop.{Stop}
use Rattle.gx_session.specs.declared.ends.Stop.TheVariants as stop
use Rattle.gx_session.specs.declared.ends.Halt.{Halt}
use Rattle.gx_session.specs.declared.ends.Halt.TheVariants as halt
use Rattle.gx_session.specs.Constants.{status_shelf_fault, status_input_fault, status_output_fault, status_no_memory}
use Rattle.gx_session.specs.Constants.{piece}
use Rattle.gx_session.specs.declared.running.GlkWait.{GlkWait}
use Rattle.gx_session.specs.Wants.{IsWait, ReplyWants, TurnWants, WantsMemory}
use Rattle.gx_session.specs.Cuts.{IsLineStop}
use Rattle.gx_session.specs.Input.{line, next_line}
use Rattle.gx_session.specs.Configurations.{Configuration, Phase, steps, asks, goes_on, Verdict, moves_to}
use Rattle.gx_session.specs.Moves.{act_by, after_effect, after_turn}
use Rattle.gx_session.specs.Moves.{after_given, sends_now}
use Rattle.gx_session.specs.Session.{RunEnd, stop_of, run_of}
use Rattle.gx_session.specs.Asked.{effect_at, asked, asked_at}
use Rattle.gx_session.specs.Reading.{ReadsFew}
use Rattle.gx_session.specs.Runs.{StopsEarly}
use Rattle.gx_session.specs.Sound.{IsSoundStep, IsSoundCall, IsSoundBy, MovesSoundly}
use Rattle.gx_session.specs.Holding.{HeldRun, SendStep, Handed, devices_of, History, configuration_of, IsHistory}
use Rattle.gx_session.specs.Holding.{IsRead}

-- what comes next, where no text is sent
abbrev pub act_of : Configuration → Verdict
act_of m = act_by m.phase m

-- What is held stands after so many moves of the run from the start.
pub record Standing {K : Type 0} {sending : SendStep K} (start : Configuration) (entry : Handed sending) (h : HeldRun)
    (d : Handed sending) (phase : Phase) : Type 0 where
  pub past : History
  pub moves : ℕ
  pub is_past : IsHistory start entry past h d
  pub few : length h.ahead < piece
  pub reads : IsRead start.input entry h d
  pub reached : run_of start moves ≡ Some (configuration_of past phase h d)
  pub sound : MovesSoundly start (Some moves)
  pub same_end : stop_of (configuration_of past phase h d) ≡ stop_of start

-- So it stands, and no text is due.
pub record Ready {K : Type 0} {sending : SendStep K} (start : Configuration) (entry : Handed sending) (h : HeldRun)
    (d : Handed sending) (phase : Phase) : Type 0 where
  pub now : Standing start entry h d phase
  pub quiet : sends_now (configuration_of now.past phase h d) ≡ false

-- So it stands before a step.
abbrev pub Going : {K : Type 0} {sending : SendStep K} → Configuration → Handed sending → HeldRun → Handed sending
    → Type 0
Going start entry h d = Ready start entry h d steps

-- So it stands in the middle of a Glk call, with a machine that asks for it.
pub record IsInCall {K : Type 0} {sending : SendStep K} (start : Configuration) (entry : Handed sending) (h : HeldRun)
    (asking : Option Asking) (d : Handed sending) (phase : Phase) : Type 0 where
  pub now : Standing start entry h d phase
  pub asking_is : asking ≡ asked (configuration_of now.past phase h d)

-- A line was taken at a wait.
pub record TakesInput {K : Type 0} {sending : SendStep K} (start : Configuration) (entry : Handed sending) (h : HeldRun)
    (asking : Option Asking) (d : Handed sending) (chars : List ℕ) (w : GlkWait) : Type 0 where
  -- the wait, and what was held and read before
  pub turn : Turn
  pub ahead : List ℕ
  pub coming : List ℕ
  pub over : Bool
  pub source : FlatSource
  pub is_wait : IsWait turn
  pub going : Ready start entry (record h { ahead = ahead; coming = coming; over = over })
      (record d { source = source }) (asks turn w)
  pub taken : next_line (ahead ++ coming) ≡ line chars (h.ahead ++ h.coming)
  pub few : length h.ahead < piece
  pub left : d.source.tells ≡ true → h.coming ≡ d.source.left
  pub reads : ReadsFew false h.over entry.source d.source start.input h.coming 0
  pub asking_is : asking ≡ asked (configuration_of going.now.past (asks turn w)
      (record h { ahead = ahead; coming = coming; over = over }) (record d { source = source }))

-- The run has come to this end.
pub record ComesTo {K : Type 0} {sending : SendStep K} (end : RunEnd) (start : Configuration)
    (entry : Handed sending) (h : HeldRun) (asking : Option Asking) (d : Handed sending) (why : Stop) : Type 0 where
  pub past : History
  pub phase : Phase
  pub is_past : IsHistory start entry past h d
  pub few : why ≢ stop.LineTooLong → length h.ahead < piece
  pub reads : (IsLineStop why → ⊥) → IsRead start.input entry h d
  pub is_end : end ≡ record { stop = why; configuration = configuration_of past phase h d }
  pub sound : MovesSoundly start None
  pub asking_is : asking ≡ asked_at why (configuration_of past phase h d)

-- A stop has come.
abbrev pub HasStopped : {K : Type 0} {sending : SendStep K} → Configuration → Handed sending → HeldRun → Option Asking
    → Handed sending → Stop → Type 0
HasStopped start entry h asking d why = ComesTo (stop_of start) start entry h asking d why

-- the status of a run that is cut short
abbrev pub halt_status : Halt → ℕ
halt_status halt.Shelf = status_shelf_fault
halt_status halt.Input = status_input_fault
halt_status halt.Output = status_output_fault
halt_status halt.NoMemory = status_no_memory

-- The run is cut short, after these calls of the sink.
pub record Early {K : Type 0} {sending : SendStep K} (start : Configuration) (entry : Handed sending) (h : HeldRun)
    (asking : Option Asking) (d : Handed sending) (why : Halt) : Type 0 where
  pub sends : List Send
  pub chain : Chain sending entry.sink sends d.sink
  pub stops : h.left ≤ start.left → (before now : FlatSink) (reads : List SourceRead)
      → StopsEarly start (devices_of entry before [] []) (devices_of d now reads sends) h.coming (record {
        status = halt_status why;
        fault = 0;
        at = 0;
        steps = start.left - h.left;
        machine = record { machine = h.machine; asking = asking };
        log = h.log;
      })

-- The machine has made a step from a configuration of the run, with this effect and these units left.
pub record Follows {K : Type 0} {sending : SendStep K} (start : Configuration) (entry : Handed sending) (h : HeldRun)
    (d : Handed sending) (left : ℕ) (does : Effect) : Type 0 where
  -- the machine before the step, and what was recorded then
  pub before : FlatMachine
  pub recorded : Option Log
  pub word : ℕ
  pub drawn : h.word ≡ Some word
  pub going : Going start entry (record h { machine = before; log = recorded }) d
  pub event : let m = configuration_of going.now.past steps (record h { machine = before; log = recorded }) d in
      act_of m ≡ after_effect m left (Ok (h.machine, does))
  pub asks : let m = configuration_of going.now.past steps (record h { machine = before; log = recorded }) d in
      IsSome (asking_of does) → asked m ≡ asking_of does
  pub effect : let m = configuration_of going.now.past steps (record h { machine = before; log = recorded }) d in
      does ≢ Spent → effect_at m ≡ Some does
  pub only : let m = configuration_of going.now.past steps (record h { machine = before; log = recorded }) d in
      (other : Effect) → effect_at m ≡ Some other → other ≡ does
  pub backs : HasWaysBack before
  pub stands : IsSome (asking_of does) → h.machine ≡ before
  pub logs : h.log ≡ logged_by does recorded before

-- From a configuration of the run the Glk world has moved on, and the machine becomes this one, with which the event is
-- recorded. It may want memory for that where this holds.
pub record Resumes {K : Type 0} {sending : SendStep K} (start : Configuration) (entry : Handed sending) (h : HeldRun)
    (asking : Option Asking) (d : Handed sending) (left : ℕ) (machine : FlatMachine) (wants : Type 0) : Type 0 where
  -- the world before
  pub world : FlatWorld
  pub said : Said
  pub phase : Phase
  pub moved : h.world ≡ after world said
  pub going : Ready start entry (record h { world = world }) d phase
  pub event : let m = configuration_of going.now.past phase (record h { world = world }) d in
      act_of m ≡ moves_to (record m {
        machine = machine;
        world = after m.world said;
        left = left;
        log = logged m.log m.machine;
        phase = steps;
      })
  pub sound : IsSoundBy phase (configuration_of going.now.past phase (record h { world = world }) d)
  pub asks : let m = configuration_of going.now.past phase (record h { world = world }) d in asking ≡ asked m
  pub memory : let m = configuration_of going.now.past phase (record h { world = world }) d in
      wants → WantsMemory phase m asking

-- It takes a reply.
abbrev pub ResumesWithReply : {K : Type 0} {sending : SendStep K} → Configuration → Handed sending → HeldRun
    → Option Asking → Handed sending → ℕ → Reply → Type 0
ResumesWithReply start entry h asking d left reply =
    Resumes start entry h asking d left (answer_of h.machine reply) (ReplyWants h.log h.machine reply)

-- So it does with a reply to a character that was put to text, for which memory may be wanted.
abbrev pub ResumesFreely : {K : Type 0} {sending : SendStep K} → Configuration → Handed sending → HeldRun
    → Option Asking → Handed sending → ℕ → Reply → Type 0
ResumesFreely start entry h asking d left reply =
    Resumes start entry h asking d left (answer_of h.machine reply) (Unit {0})

-- It goes back to a copy.
abbrev pub GoesBack : {K : Type 0} {sending : SendStep K} → Configuration → Handed sending → HeldRun → Option Asking
    → Handed sending → ℕ → Copy → Type 0
GoesBack start entry h asking d left copy = Resumes start entry h asking d left (restored h.machine copy) (Unit {0})

-- A Glk call has come to a turn from a configuration of the run.
pub record TakesTurn {K : Type 0} {sending : SendStep K} (start : Configuration) (entry : Handed sending) (h : HeldRun)
    (asking : Option Asking) (d : Handed sending) (w : GlkWait) (turn : Turn) : Type 0 where
  pub world : FlatWorld
  pub said : Said
  pub moved : h.world ≡ after world said
  pub going : Going start entry (record h { world = world }) d
  pub event : let m = configuration_of going.now.past steps (record h { world = world }) d in
      act_of m ≡ after_turn m w (Ok (said, turn))
  pub sound : IsSoundStep (configuration_of going.now.past steps (record h { world = world }) d)
  pub asks : let m = configuration_of going.now.past steps (record h { world = world }) d in asking ≡ asked m
  pub memory : let m = configuration_of going.now.past steps (record h { world = world }) d in
      TurnWants h.log h.machine (said, turn) → WantsMemory steps m asking

-- A Glk call that went on has come to a turn from a configuration of the run.
pub record GoesOn {K : Type 0} {sending : SendStep K} (start : Configuration) (entry : Handed sending) (h : HeldRun)
    (asking : Option Asking) (d : Handed sending) (w : GlkWait) (turn : Turn) : Type 0 where
  pub world : FlatWorld
  pub said : Said
  pub given : Given
  pub moved : h.world ≡ after world said
  pub going : Ready start entry (record h { world = world }) d (goes_on given w)
  pub event : let m = configuration_of going.now.past (goes_on given w) (record h { world = world }) d in
      act_of m ≡ after_given m w (Ok (said, turn))
  pub sound : IsSoundCall (configuration_of going.now.past (goes_on given w) (record h { world = world }) d) given w
  pub asks : let m = configuration_of going.now.past (goes_on given w) (record h { world = world }) d in
      asking ≡ asked m
  pub memory : let m = configuration_of going.now.past (goes_on given w) (record h { world = world }) d in
      TurnWants h.log h.machine (said, turn) → WantsMemory (goes_on given w) m asking
