-- What the code of a run holds, and which configuration of the run that is. What contracts say.
use Rattle.std.specs.Prelude.{◌≡◌, ℕ, ◌<◌, ◌≤◌, List, ◌++◌, map, ◌⊎◌, length, Bool, true, false, Option, Some, None}
use Rattle.std.specs.List.{concat}
use Rattle.gx_machine.specs.declared.askings.Asking.{Asking}
use Rattle.gx_machine.specs.Machine.{FlatMachine, Whole}
use Rattle.gx_machine.specs.Log.{Log}
use Rattle.gx_outside.specs.Chains.{Chain}
use Rattle.gx_outside.specs.Outside.{FlatSource, FlatSink, FlatShelf}
use Rattle.gx_outside.specs.Reads.{SourceRead}
use Rattle.gx_outside.specs.Sends.{Send}
use Rattle.gx_outside.specs.Shelves.{Request, Answer, Trace}
use Rattle.glk_world.specs.World.{FlatWorld}
use Rattle.gx_session.specs.declared.running.Running.{Running}
use Rattle.gx_session.specs.Devices.{Devices, devices}
use Rattle.gx_session.specs.Sending.{whole_send}
use Rattle.gx_session.specs.Configurations.{Configuration, Phase}
use Rattle.gx_session.specs.Asked.{asked}
use Rattle.gx_session.specs.Questions.{AreAnswered}
use Rattle.gx_session.specs.Reading.{ReadsFew}
use Rattle.rand_core.specs.Stream.{Stream, next_u32}

-- What a run holds beside its devices: the machine, the world with the text that wasn't sent yet, the input that was
-- read and not taken and what comes after it, whether the source has ended, whether lines are shown, a random word that
-- was drawn and not used, the units left, and what is recorded.
pub record HeldRun : Type 0 where
  pub machine : FlatMachine
  pub world : FlatWorld
  pub ahead : List ℕ
  pub coming : List ℕ
  pub over : Bool
  pub echo : Bool
  pub word : Option ℕ
  pub left : ℕ
  pub log : Option Log

abbrev pub held_by : {E : Type 0} → (E → Whole) → (E → Option Log) → Running E → List ℕ → HeldRun
held_by whole log run coming = record {
  machine = (whole run.engine).machine;
  world = run.world;
  ahead = run.lines.held;
  coming = coming;
  over = run.lines.ended;
  echo = run.echo;
  word = run.word;
  left = run.left;
  log = log run.engine;
}

-- what its machine asks
abbrev pub asking_in : {E : Type 0} → (E → Whole) → Running E → Option Asking
asking_in whole run = (whole run.engine).asking

-- The words to come are these, with the one in hand in front.
abbrev pub WordIs : Option ℕ → Stream → Stream → Type 0
WordIs None stream words = words ≡ stream
WordIs (Some word) stream words = next_u32 words ≡ (word, stream)

-- THE OBJECTS of a run, as contracts see them, but for the sink, which is there itself: `sending` says what one of its
-- calls leads to.
abbrev pub SendStep : Type 0 → Type 1
SendStep K = K → Send → K → Type 0

pub record Handed {K : Type 0} (sending : SendStep K) : Type 0 where
  pub source : FlatSource
  pub sink : K
  pub shelf : FlatShelf
  pub words : Stream
  pub asked : Trace

abbrev pub handed : {K : Type 0} {sending : SendStep K} → FlatSource → K → FlatShelf → Stream → Trace → Handed sending
handed source sink shelf words asked =
    record { source = source; sink = sink; shelf = shelf; words = words; asked = asked }

-- with what contracts see of the sink, and with these calls of the source and of the sink
abbrev pub devices_of : {K : Type 0} {sending : SendStep K} → Handed sending → FlatSink → List SourceRead → List Send
    → Devices
devices_of d sink reads sends = devices d.source sink d.shelf d.words reads sends d.asked

-- What was done so far, and what is to come: the text that was sent, call by call; the answers of the shelf; the
-- random words.
pub record History : Type 0 where
  pub sent : List (List ℕ)
  pub answers : Trace → Request → Answer
  pub words : Stream

-- the configuration that is held
abbrev pub configuration_of : {K : Type 0} {sending : SendStep K} → History → Phase → HeldRun → Handed sending
    → Configuration
configuration_of p phase h d = record {
  machine = h.machine;
  world = record { scene = h.world.scene; text = concat p.sent ++ h.world.text };
  sent = p.sent;
  input = h.ahead ++ h.coming;
  echo = h.echo;
  answers = p.answers;
  asked = d.asked;
  words = p.words;
  left = h.left;
  log = h.log;
  phase = phase;
}

-- The sink was called so since entry, and took each text whole.
abbrev pub HasTaken : {K : Type 0} → SendStep K → K → K → List (List ℕ) → Type 0
HasTaken sending entry now sent = Chain sending entry (map whole_send sent) now

-- The devices are those at entry after what was done so far.
pub record IsHistory {K : Type 0} {sending : SendStep K} (start : Configuration) (entry : Handed sending) (p : History)
    (h : HeldRun) (d : Handed sending) : Type 0 where
  pub taken : HasTaken sending entry.sink d.sink p.sent
  pub answers : p.answers ≡ start.answers
  pub answered : AreAnswered d.asked
  pub word : WordIs h.word d.words p.words
  pub left : d.source.tells ≡ true → h.coming ≡ d.source.left
  pub fewer : length (h.ahead ++ h.coming) ≤ length start.input
  pub reads : ReadsFew false h.over entry.source d.source start.input h.coming 0

-- The source wasn't asked where no line was taken.
abbrev pub IsRead : {K : Type 0} {sending : SendStep K} → List ℕ → Handed sending → HeldRun → Handed sending → Type 0
IsRead first entry h d = (d.source ≡ entry.source) ⊎ (length (h.ahead ++ h.coming) < length first)
