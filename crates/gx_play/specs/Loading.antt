-- WHAT CONTRACTS NEED, and no reader of the theorem. How the parts of `play` are put together: what loading a file
-- comes to, what playing or telling it comes to then, and what a command comes to once it is read.
use Rattle.std.specs.Prelude.{◌≡◌, ◌≢◌, ◌≤◌, ◌⊎◌, ℕ, true, List, [], ◌∷◌, length, Option, IsSomeAnd, Result, Ok, Err}
use Rattle.std.specs.Prelude.{IfOk}
use Rattle.gx_outside.specs.Outside.{FlatShelf, FlatSink}
use Rattle.gx_outside.specs.Sends.{Send}
use Rattle.gx_outside.specs.Shelves.{load_file, loaded, load_of, Answer, Trace, ShelfCall}
use Rattle.gx_outside.specs.declared.devices.ShelfFault.{ShelfFault}
use Rattle.gx_story.specs.declared.faults.StoryFault.{StoryFault}
use Rattle.gx_story.specs.Faults.{number_of as story_number_of}
use Rattle.gx_session.specs.declared.ended.Ended.{Ended}
use Rattle.gx_session.specs.Constants.{status_bad_words, status_bad_story, status_shelf_fault, status_output_fault}
use Rattle.gx_session.specs.Constants.{status_no_memory}
use Rattle.gx_session.specs.Counts.{Blames, FailureCounts}
use Rattle.gx_session.specs.Devices.{Devices}
use Rattle.gx_play.specs.declared.command.Job.{Job}
use Rattle.gx_play.specs.declared.command.Job.TheVariants.{Play}
use Rattle.gx_play.specs.declared.loading.Refusal.{Refusal}
use Rattle.gx_play.specs.Commands.{Command}
use Rattle.gx_play.specs.Outcomes.{CommandOutcome, refused, answers_with, runs, rewinds, outcome_of_job}
use Rattle.gx_play.specs.Answers.{HasNoMachine, SendsNothing, SendsOutput, IsUnbegun, IsRunOf, IsRewindOf, Plays}
use Rattle.gx_play.specs.FirstLoad.{LoadsFirst, JobMayWant}
use Rattle.gx_play.specs.Statuses.{PlaysStory, HasItsParts}
use Rattle.gx_outside.specs.declared.devices.ShelfFault.TheVariants as of_shelf
use Rattle.gx_story.specs.declared.faults.StoryFault.TheVariants as of_story
use Rattle.gx_play.specs.declared.loading.Refusal.TheVariants as refusal

-- what a shelf's fault is to a story that is loaded
abbrev pub refusal_of_shelf : ShelfFault → Refusal
refusal_of_shelf of_shelf.Failed = refusal.Shelf
refusal_of_shelf of_shelf.NoMemory = refusal.NoMemory

-- what a story's fault is
abbrev pub refusal_of_story : StoryFault → Refusal
refusal_of_story of_story.NoMemory = refusal.NoMemory
refusal_of_story fault = refusal.BadStory (story_number_of fault)

-- the status and the fault of a refusal
abbrev pub refusal_status : Refusal → ℕ
refusal_status (refusal.BadStory fault) = status_bad_story
refusal_status refusal.Shelf = status_shelf_fault
refusal_status refusal.NoMemory = status_no_memory

abbrev pub refusal_fault : Refusal → ℕ
refusal_fault (refusal.BadStory fault) = fault
refusal_fault r = 0

-- a file that is there and isn't too long
abbrev pub IsLoadable : ℕ → Option (List ℕ) → Type 0
IsLoadable most file = IsSomeAnd file (λ bytes. length bytes ≤ most)

-- The answer is the definition's for a file of at most so many bytes, but for a shelf that failed, and for want of
-- memory once there are bytes.
abbrev pub LoadGives : {X : Type 0} → ℕ → (Option (List ℕ) → Result X ℕ) → Option (List ℕ) → Result X Refusal → Type 0
LoadGives most defined file (Ok x) = defined file ≡ Ok x
LoadGives most defined file (Err (refusal.BadStory fault)) = defined file ≡ Err fault
LoadGives most defined file (Err refusal.Shelf) = Unit {0}
LoadGives most defined file (Err refusal.NoMemory) = IsLoadable most file

-- The shelf was asked once for the file of a name, which one that tells holds; and the answer is that of the file.
pub record LoadsFile {X : Type 0} (most : ℕ) (defined : Option (List ℕ) → Result X ℕ) (before now : FlatShelf)
    (name : List ℕ) (asked : Trace) (result : Result X Refusal) : Type 0 where
  pub answer : Result Answer ShelfFault
  pub asked_are : asked ≡ (load_file name most, answer) ∷ []
  pub does : ShelfCall before (load_file name most, answer) now
  pub file : Option (List ℕ)
  pub file_is : before.tells ≡ true → file ≡ before.files name
  pub handed : IfOk answer (λ a. a ≡ loaded (load_of most file))
  pub gives : LoadGives most defined file result

-- memory ran out before a device was called
abbrev pub IsStill : {A : Type 0} → Devices → Devices → Ended A → Type 0
IsStill entry exit ended = HasNoMachine ended status_no_memory 0 0 0 × (exit ≡ entry)

-- What a story that was loaded comes to, from the devices as they are then.
abbrev pub StoryPlays : {A : Type 0} → CommandOutcome → Devices → Devices → Ended A → Type 0
StoryPlays (refused status fault at) entry exit ended =
    (HasNoMachine ended status fault at 0 × (exit ≡ entry)) ⊎ IsStill entry exit ended
StoryPlays (answers_with status output) entry exit ended = ⊥
StoryPlays (runs seed start) entry exit ended = IsRunOf seed start entry exit ended ⊎ IsStill entry exit ended
StoryPlays (rewinds seed back start) entry exit ended =
    IsRewindOf seed back start entry exit ended ⊎ IsStill entry exit ended

-- What a file that was loaded is told as, where no machine is started: nothing is sent with a refusal; and before an
-- output is sent, memory may run out.
abbrev pub JobTells : {A : Type 0} → CommandOutcome → FlatSink → FlatSink → List Send → Ended A → Type 0
JobTells (refused status fault at) before now sends ended = SendsNothing status fault at 0 before now sends ended
JobTells (answers_with status output) before now sends ended =
    SendsOutput status 0 0 0 output before now sends ended ⊎ SendsNothing status_no_memory 0 0 0 before now sends ended
JobTells outcome before now sends ended = ⊥

-- what goes with the status where a story is played, with the machine or without it
abbrev pub HasRunParts : {A : Type 0} → Type 0 → Ended A → Type 0
HasRunParts handing ended = HasItsParts (Unit {0}) handing ended

-- the sink is blamed exactly where it failed
abbrev pub BlamesSink : FlatSink → FlatSink → ℕ → Type 0
BlamesSink before now status = Blames before.calls now.calls (status ≡ status_output_fault)

-- what a command with this outcome comes to: the outcome, or nothing was begun
abbrev pub PlaysOrNot : {A : Type 0} → CommandOutcome → Devices → Devices → Ended A → Type 0
PlaysOrNot outcome entry exit ended =
    Plays outcome entry exit ended
    ⊎ IsUnbegun status_shelf_fault 0 0 entry exit ended ⊎ IsUnbegun status_no_memory 0 0 entry exit ended

-- WHAT A COMMAND COMES TO with this job: the clauses of `play` for a command line that has one.
pub record IsJobDone {A : Type 0} (job : Job) (command : Command) (entry exit : Devices) (ended : Ended A)
    : Type 0 where
  pub file : Option (List ℕ)
  pub file_is : entry.shelf.tells ≡ true → file ≡ entry.shelf.files command.story
  pub loads : LoadsFirst job command file exit.asked
  pub plays : PlaysOrNot (outcome_of_job job command file entry) entry exit ended
  pub memory : ended.status ≡ status_no_memory → JobMayWant job file
  pub began : ended.status ≢ status_bad_words
  pub counts : FailureCounts entry exit ended.status
  pub parts : HasItsParts (PlaysStory job) (job ≡ Play) ended
