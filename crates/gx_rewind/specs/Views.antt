-- What the fields of a tape stand for.
use Rattle.std.specs.Prelude.{◌≡◌, ◌≢◌, ℕ, ◌+◌, ◌-◌, ◌^◌, ◌≤◌, ◌<◌, List, Bool, true, false, Option, Some, None, Result}
use Rattle.std.specs.Prelude.{Ok, IfSome, All}
use Rattle.gx_words.specs.declared.faults.Fault.{Fault}
use Rattle.gx_words.specs.declared.faults.Fault.TheVariants.{NoMemory}
use Rattle.gx_state.specs.declared.effects.Effect.{Effect}
use Rattle.gx_machine.specs.declared.askings.Asking.{Asking}
use Rattle.gx_machine.specs.Advancing.{Advances, logged_by}
use Rattle.gx_machine.specs.Answer.{answer_of, AnswersAsking}
use Rattle.gx_machine.specs.Log.{Log, units_of}
use Rattle.gx_machine.specs.Machine.{FlatMachine, Whole}
use Rattle.gx_machine.specs.Step.{asking_of, cost_of, step_of}
use Rattle.gx_rewind.specs.declared.books.Book.{Book}
use Rattle.gx_rewind.specs.declared.books.Note.{Note}
use Rattle.gx_rewind.specs.declared.books.Spot.{Spot}
use Rattle.gx_rewind.specs.declared.books.Taken.{Taken}
use Rattle.gx_rewind.specs.declared.books.Taken.TheVariants as taken
use Rattle.gx_rewind.specs.declared.Tape.TheInside.{Inside}
use Rattle.gx_rewind.specs.Path.{begun, machine_after_event, index_after, taken_from, IsPath, IsOn, last_place_within}
use Rattle.gx_rewind.specs.Path.{onward}
use Rattle.gx_rewind.specs.Tape.{FlatTape}

-- the record of a book whose machine is this one
abbrev pub log_of : {A : Type 0} → Book A → FlatMachine → Log
log_of b m = record {
  before = (last_place_within b.notes.items b.units b.units (begun b.opening.machine)).before;
  after = onward b.notes.items b.end b.units m b.index b.end;
}

abbrev pub flat_of : {A : Type 0} → Inside A → FlatTape
flat_of t = record { whole = t.machine; log = log_of t.book t.machine.machine }

-- a machine of the run, with the units that were used before it and the place of its next note
pub record IsAt {A : Type 0} (notes : List (Note A)) (opening m : Whole) (index units : ℕ) : Type 0 where
  pub before : List FlatMachine
  pub path : IsPath notes opening.machine before m.machine index
  pub units_is : units_of before ≡ units
  pub asks : m.asking ≡ None

abbrev pub IsSpotIn : {A : Type 0} → List (Note A) → Whole → Spot A → Type 0
IsSpotIn notes opening s = IsAt notes opening s.machine s.index s.units

-- the same, before so many units
abbrev pub IsCheckpoint : {A : Type 0} → List (Note A) → Whole → ℕ → Spot A → Type 0
IsCheckpoint notes opening end s = IsSpotIn notes opening s × (s.units ≤ end)

-- a book records this run
pub record IsBook {A : Type 0} (b : Book A) (m : FlatMachine) (log : Log) : Type 0 where
  pub path : IsPath b.notes.items b.opening.machine log.before m b.index
  pub units_is : units_of log.before ≡ b.units
  pub on : IsOn b.notes.items b.units m b.index log.after b.end
  pub checkpoints : All (IsCheckpoint b.notes.items b.opening b.end) b.checkpoints.items
  pub opening : b.opening.asking ≡ None

-- some run is recorded
abbrev pub RecordsSomeRun : {A : Type 0} → Book A → Type 0
RecordsSomeRun b = (m : FlatMachine) × (log : Log) × IsBook b m log

-- what is asked is what the next step asks, whose units are pending
pub record IsPendingEvent {A : Type 0} (b : Book A) (m : FlatMachine) (asking : Asking) : Type 0 where
  pub cost : b.pending ≡ cost_of m
  pub room : b.units + b.pending ≤ 2 ^ 64 - 1
  pub effect : Effect
  pub step : step_of m 0 ≡ Ok (m, effect)
  pub asks : asking_of effect ≡ Some asking

pub record IsTape {A : Type 0} (t : Inside A) : Type 0 where
  pub book : IsBook t.book t.machine.machine (log_of t.book t.machine.machine)
  pub pends : IfSome t.machine.asking (IsPendingEvent t.book t.machine.machine)

-- a place of the run that a book records
abbrev pub IsSpot : {A : Type 0} → Book A → Spot A → Type 0
IsSpot b s = IsSpotIn b.notes.items b.opening s

-- books that differ only in their checkpoints
pub record AreLike {A : Type 0} (old new : Book A) : Type 0 where
  pub opening : new.opening ≡ old.opening
  pub notes : new.notes.items ≡ old.notes.items
  pub index : new.index ≡ old.index
  pub units_is : new.units ≡ old.units
  pub end_is : new.end ≡ old.end
  pub pending : new.pending ≡ old.pending

-- An event is made: the machine after it, the units that it took, and the place of the next note.
pub record IsMade {A : Type 0} (t : Option (Taken A)) (old new : Spot A) : Type 0 where
  pub machine : machine_after_event old.machine.machine t ≡ new.machine.machine
  pub index : index_after old.index t ≡ new.index
  pub units_is : new.units ≡ old.units + cost_of old.machine.machine
  pub asks : new.machine.asking ≡ None

-- Whether an event was made within so many units.
pub record IsTried {A : Type 0} (limit : ℕ) (t : Option (Taken A)) (done : Bool) (old new : Spot A) : Type 0 where
  pub made : done ≡ true → IsMade t old new
  pub none : done ≡ false → (new ≡ old) × (limit < old.units + cost_of old.machine.machine)
  pub within : new.units ≤ limit

-- Events that took nothing were made within so many units, and others may follow, or the next one doesn't fit.
pub record RunsQuietly {A : Type 0} (limit : ℕ) (ended : Bool) (old new : Spot A) : Type 0 where
  pub spot : (notes : List (Note A)) (opening : Whole)
      → ((u : ℕ) → old.units ≤ u → u < limit → taken_from notes old.index u ≡ None)
      → IsSpotIn notes opening old → IsSpotIn notes opening new
  pub index : new.index ≡ old.index
  pub within : new.units ≤ limit
  pub after : old.units ≤ new.units
  pub more : ended ≡ true → old.units < new.units
  pub last : ended ≡ false → limit < new.units + cost_of new.machine.machine

-- once the step of an event is made, what it took can be given to the machine
abbrev pub IsTaking : {A : Type 0} → Whole → Taken A → Type 0
IsTaking m (taken.Word word) = m.asking ≡ None
IsTaking m (taken.Reply reply) = AnswersAsking m reply
IsTaking m (taken.Machine gone) = gone.value.asking ≡ None

-- the machine then
abbrev pub gone_to : {A : Type 0} → FlatMachine → Taken A → FlatMachine
gone_to m (taken.Word word) = m
gone_to m (taken.Reply reply) = answer_of m reply
gone_to m (taken.Machine gone) = gone.value.machine

-- Steps were made by a machine that records nothing, and are recorded.
abbrev pub RecordsSteps : {A : Type 0} → ℕ → Result Effect Fault → Whole × ℕ → ℕ → Whole × ℕ → Book A → Book A → Type 0
RecordsSteps word result old budget new b c =
    (log : Log) → IsBook b old.0.machine log
    → (last : Log) × IsBook c new.0.machine last
    × Advances word result old (Some log) budget new (Some last)
    × IfSome new.0.asking (IsPendingEvent c new.0.machine)

-- A step is recorded, as far as its event has ended.
pub record HasEnded {A : Type 0} (effect : Effect) (before new : Whole) (log : Log) (b : Book A) : Type 0 where
  pub last : Log
  pub is : Some last ≡ logged_by effect (Some log) before.machine
  pub book : IsBook b new.machine last
  pub pends : IfSome new.asking (IsPendingEvent b new.machine)

-- a fault that can only be want of memory
abbrev pub IsWant : Fault → Type 0
IsWant fault = fault ≢ NoMemory → ⊥
