-- What a story that was loaded comes to.
use Rattle.std.proofs.Common.{◌≡◌, ◌≢◌, ℕ, ◌⊎◌, inl, inr, true, List, [], ◌∷◌, Option, Some, None, IsSomeAnd, Result}
use Rattle.std.proofs.Common.{Ok, Err, IfOk, length, refl, ap, subst, sym, ◌∙◌, arith}
use Rattle.gx_words.specs.declared.faults.Fault.{Fault}
use Rattle.gx_words.specs.declared.faults.Fault.TheVariants.{NoMemory}
use Rattle.gx_words.specs.Constants.{ceiling}
use Rattle.gx_words.specs.Faults.{number_of}
use Rattle.gx_outside.specs.Files.{Files}
use Rattle.gx_outside.specs.Outside.{FlatShelf}
use Rattle.gx_outside.specs.Shelves.{Request, load_file, loaded, load_of, Answer, Trace, FilesCall, ShelfCall, told_by}
use Rattle.gx_outside.specs.declared.devices.ShelfFault.{ShelfFault}
use Rattle.gx_story.specs.Stories.{FlatStory}
use Rattle.gx_machine.specs.Log.{no_events}
use Rattle.gx_machine.specs.Machine.{Whole}
use Rattle.gx_machine.specs.Start.{first_machine}
use Rattle.gx_session.specs.declared.ended.Ended.{Ended}
use Rattle.gx_session.specs.Constants.{status_fault, status_shelf_fault, status_no_memory}
use Rattle.gx_session.specs.Devices.{Devices}
use Rattle.gx_session.specs.Counts.{Blames, FailureCounts}
use Rattle.gx_session.specs.Runs.{IsRun, Report, report_of}
use Rattle.gx_play.specs.declared.command.Job.{Job}
use Rattle.gx_play.specs.declared.command.Job.TheVariants.{Play, Rewind}
use Rattle.gx_play.specs.Commands.{Command}
use Rattle.gx_play.specs.Outcomes.{CommandOutcome, refused, answers_with, runs, rewinds, outcome_of_start}
use Rattle.gx_play.specs.Outcomes.{outcome_of_job}
use Rattle.gx_play.specs.Outcomes.{start_for}
use Rattle.gx_play.proofs.Outcomes.{story_in_file, outcome_of_story}
use Rattle.gx_play.specs.Answers.{HasNoMachine, IsUnrun, IsUnbegun, IsRunTo, IsRunOf, IsRewindOf, BeginsAfter}
use Rattle.gx_play.specs.FirstLoad.{LoadsFirst, JobMayWant}
use Rattle.gx_play.specs.Statuses.{PlaysStory}
use Rattle.gx_play.specs.Loading.{IsLoadable, IsStill, StoryPlays, PlaysOrNot}
use Rattle.gx_play.specs.Seeds.{devices_for}
use Rattle.gx_session.proofs.Counting.{well-of, blames-on}
use Rattle.gx_session.specs.Configurations.{Configuration}
use Rattle.gx_outside.specs.declared.devices.ShelfFault.TheVariants as of_shelf

-- THE JOBS THAT PLAY A STORY come to what the story comes to
pub plays-story : (job : Job) (command : Command) (file : Option (List ℕ)) (entry : Devices) → PlaysStory job
    → outcome_of_job job command file entry ≡ outcome_of_story job command entry (story_in_file file)
plays-story Play command file entry plays = refl
plays-story Rewind command file entry plays = refl
plays-story job command file entry plays = absurd plays

-- they ask the shelf for the file
pub first-story : (job : Job) (command : Command) (file : Option (List ℕ)) (answer : Result Answer ShelfFault)
    (rest : Trace) → PlaysStory job → IfOk answer (λ (a : Answer). a ≡ loaded (load_of ceiling file))
    → LoadsFirst job command file ((load_file command.story ceiling, answer) ∷ rest)
first-story Play command file answer rest plays handed = (refl, handed)
first-story Rewind command file answer rest plays handed = (refl, handed)
first-story job command file answer rest plays handed = absurd plays

-- and may want memory where there is one
pub wants-story : (job : Job) (file : Option (List ℕ)) → PlaysStory job → IsLoadable ceiling file → JobMayWant job file
wants-story Play file plays may = may
wants-story Rewind file plays may = may
wants-story job file plays may = absurd plays

-- a load leaves the files
load-keeps : (before now : Files) (name : List ℕ) (most : ℕ) (answer : Result Answer ShelfFault)
    → FilesCall before (load_file name most) answer now → now ≡ before
load-keeps before now name most (Ok a) does = does.1
load-keeps before now name most (Err of_shelf.Failed) does = does
load-keeps before now name most (Err of_shelf.NoMemory) does = does.0

-- The answers of a shelf that doesn't tell are no matter to a run.
answers-moved : (start : Configuration) (answers : Trace → Request → Answer) (entry exit : Devices) (r : Report)
    → (entry.shelf.tells ≡ true → start.answers ≡ answers) → IsRun start entry exit r
    → IsRun (record start { answers = answers }) entry exit r
answers-moved start answers entry exit r same run =
    record {
      input = run.input;
      input_is = run.input_is;
      coming = run.coming;
      read = run.read;
      answers = run.answers;
      answers_are = λ answers_with. run.answers_are answers_with ∙ same answers_with;
      session = run.session;
      source_calls = run.source_calls;
      sink_calls = run.sink_calls;
      shelf_calls = run.shelf_calls;
      counts = run.counts;
      source_tells = run.source_tells;
      sink_tells = run.sink_tells;
      shelf_tells = run.shelf_tells;
      report = run.report;
      undo = run.undo;
      records = run.records;
      stops = run.stops;
      saves = run.saves;
    }

module _ {A : Type 0} (ended : Ended A) where
  still : (job : Job) (command : Command) (story : FlatStory) (entry exit : Devices) (r : Result Whole Fault)
      → IsStill entry exit ended → StoryPlays (outcome_of_start job command story entry r) entry exit ended
  still Rewind command story entry exit (Ok whole) is = inr is
  still job command story entry exit (Ok whole) is = inr is
  still job command story entry exit (Err f) is = inr is

  -- the start function can't be entered, or memory ran out
  pub plays-unstarted : (job : Job) (command : Command) (story : FlatStory) (entry : Devices) (r : Result Whole Fault)
      (f : Fault) → (f ≢ NoMemory → r ≡ Err f)
      → (f ≡ NoMemory → HasNoMachine ended status_no_memory 0 0 0)
      → (f ≢ NoMemory → HasNoMachine ended status_fault (number_of f) story.header.start_function 0)
      → StoryPlays (outcome_of_start job command story entry r) entry entry ended
  plays-unstarted job command story entry r NoMemory is memory stands =
      still job command story entry entry r (memory refl, refl)
  plays-unstarted job command story entry r f is memory stands =
      subst (λ (x : Result Whole Fault). StoryPlays (outcome_of_start job command story entry x) entry entry ended)
      (sym (is (λ e. cc))) (inl (stands (λ e. cc), refl))

  -- it ran, in job rewind and in another
  pub plays-rewound : (job : Job) (command : Command) (story : FlatStory) (entry exit : Devices)
      (r : Result Whole Fault) (whole : Whole) → job ≡ Rewind → r ≡ Ok whole
      → IsRewindOf command.seed command.back (start_for command whole (Some no_events) entry) entry exit ended
      ⊎ IsStill entry exit ended → StoryPlays (outcome_of_start job command story entry r) entry exit ended
  plays-rewound job command story entry exit r whole is good run =
      subst (λ (j : Job). StoryPlays (outcome_of_start j command story entry r) entry exit ended) (sym is)
      (subst (λ (x : Result Whole Fault). StoryPlays (outcome_of_start Rewind command story entry x) entry exit ended)
      (sym good) run)

  run-by : (job : Job) (command : Command) (story : FlatStory) (entry exit : Devices) (whole : Whole) → job ≢ Rewind
      → IsRunOf command.seed (start_for command whole None entry) entry exit ended
      → StoryPlays (outcome_of_start job command story entry (Ok whole)) entry exit ended
  run-by Rewind command story entry exit whole other run = absurd (other refl)
  run-by job command story entry exit whole other run = inl run

  pub plays-run : (job : Job) (command : Command) (story : FlatStory) (entry exit : Devices) (r : Result Whole Fault)
      (whole : Whole) → job ≢ Rewind → r ≡ Ok whole
      → IsRunOf command.seed (start_for command whole None entry) entry exit ended
      → StoryPlays (outcome_of_start job command story entry r) entry exit ended
  plays-run job command story entry exit r whole other good run =
      subst (λ (x : Result Whole Fault). StoryPlays (outcome_of_start job command story entry x) entry exit ended)
      (sym good) (run-by job command story entry exit whole other run)

  -- the shelf of a run is that after the story was loaded
  module _ (entry exit : Devices) (most : ℕ) (name : List ℕ) (answer : Result Answer ShelfFault) (shelf : FlatShelf)
      (asked : Trace) (none-before : entry.asked ≡ []) (none-sent : entry.sends ≡ [])
      (asked-are : exit.asked ≡ (load_file name most, answer) ∷ asked)
      (does : ShelfCall entry.shelf (load_file name most, answer) shelf) where
    abbrev before : Devices
    before = record entry { shelf = shelf }

    abbrev after : Devices
    after = record exit { asked = asked }

    -- its files are those at entry
    same-answers : shelf.tells ≡ true → told_by shelf.files ≡ told_by entry.shelf.files
    same-answers told = ap told_by (load-keeps entry.shelf.files shelf.files name most answer
        (does.files (sym does.tells ∙ told)))

    some-moved : (seed : Option ℕ) (start : Configuration) (answers : Trace → Request → Answer) (m : Option Whole)
        → (shelf.tells ≡ true → start.answers ≡ answers)
        → IsSomeAnd m (λ end. IsRunTo seed start before after (report_of ended end))
        → IsSomeAnd m (λ end. IsRunTo seed (record start { answers = answers }) before after (report_of ended end))
    some-moved seed start answers None same run = absurd run
    some-moved seed start answers (Some end) same run = (
      run.0,
      run.1,
      answers-moved start answers (devices_for seed before) (record after { words = run.0 })
          (report_of ended end) same run.2,
    )

    run-moved : (command : Command) (whole : Whole)
        → IsRunOf command.seed (start_for command whole None before) before after ended ⊎ IsStill before after ended
        → IsRunOf command.seed (start_for command whole None entry) before after ended ⊎ IsStill before after ended
    run-moved command whole (inl run) =
        inl (some-moved command.seed (start_for command whole None before)
        (told_by entry.shelf.files) ended.machine same-answers run)
    run-moved command whole (inr is) = inr is

    rewind-moved : (command : Command) (whole : Whole)
        → IsRewindOf command.seed command.back (start_for command whole (Some no_events) before) before after ended
        ⊎ IsStill before after ended
        → IsRewindOf command.seed command.back (start_for command whole (Some no_events) entry) before after ended
        ⊎ IsStill before after ended
    rewind-moved command whole (inl run) =
        inl (record {
          report = run.report;
          sink = run.sink;
          sends = run.sends;
          more = run.more;
          sends_are = run.sends_are;
          run = (
            run.run.0,
            run.run.1,
            answers-moved (start_for command whole (Some no_events) before) (told_by entry.shelf.files)
                (devices_for command.seed before) (record after
                { sink = run.sink; sends = run.sends; words = run.run.0 }) run.report same-answers run.run.2,
          );
          rewound = run.rewound;
        })
    rewind-moved command whole (inr is) = inr is

    moved : (job : Job) (command : Command) (story : FlatStory) (r : Result Whole Fault)
        → StoryPlays (outcome_of_start job command story before r) before after ended
        → StoryPlays (outcome_of_start job command story entry r) before after ended
    moved Rewind command story (Ok whole) played = rewind-moved command whole played
    moved job command story (Ok whole) played = run-moved command whole played
    moved job command story (Err f) played = played

    module _ (job : Job) (plays : PlaysStory job) where
      abbrev Comes : CommandOutcome → Type 0
      Comes outcome = PlaysOrNot outcome entry exit ended

      unrun : after ≡ before → IsUnrun entry exit
      unrun same =
          let is : exit.asked ≡ (load_file name most, answer) ∷ [] =
          asked-are ∙ ap (λ (t : Trace). (load_file name most, answer) ∷ t)
          (ap (λ (d : Devices). d.asked) same ∙ none-before) in
          let size : length exit.asked ≡ 1 = ap (λ (t : Trace). length t) is in
          record {
            asked = omega (arith, size);
            source = ap (λ (d : Devices). d.source) same;
            reads = ap (λ (d : Devices). d.reads) same;
            words = ap (λ (d : Devices). d.words) same;
          }

      unbegun : (status fault at : ℕ) → HasNoMachine ended status fault at 0 → after ≡ before
          → IsUnbegun status fault at entry exit ended
      unbegun status fault at absent same = (
        unrun same,
        (absent, ap (λ (d : Devices). d.sink) same, ap (λ (d : Devices). d.sends) same ∙ none-sent),
      )

      wanted : IsStill before after ended → IsUnbegun status_no_memory 0 0 entry exit ended
      wanted (absent, same) = unbegun status_no_memory 0 0 absent same

      begins : (Run : Devices → Devices → Type 0) → Run before after → BeginsAfter entry exit Run
      begins Run run = record {
        load = (load_file name most, answer);
        shelf = shelf;
        asked = asked;
        asked_are = asked-are;
        does = does;
        run = run;
      }

      found : (outcome : CommandOutcome) → StoryPlays outcome before after ended → Comes outcome
      found (refused status fault at) (inl (absent, same)) = inl (unbegun status fault at absent same)
      found (refused status fault at) (inr still) = inr (inr (wanted still))
      found (answers_with status output) none = absurd none
      found (runs seed start) (inl run) = inl (begins (λ first last. IsRunOf seed start first last ended) run)
      found (runs seed start) (inr still) = inr (inr (wanted still))
      found (rewinds seed back start) (inl run) =
          inl (begins (λ first last. IsRewindOf seed back start first last ended) run)
      found (rewinds seed back start) (inr still) = inr (inr (wanted still))

      -- the story that was loaded is played
      pub comes-out : (command : Command) (file : Option (List ℕ)) (story : FlatStory) → story_in_file file ≡ Ok story
          → StoryPlays (outcome_of_start job command story before (first_machine story command.undo)) before after ended
          → Comes (outcome_of_job job command file entry)
      comes-out command file story good played =
          let first : Result Whole Fault = first_machine story command.undo in
          let ran : Comes (outcome_of_start job command story entry first) =
          found (outcome_of_start job command story entry first) (moved job command story first played) in
          let told : Comes (outcome_of_story job command entry (story_in_file file)) =
          subst (λ (x : Result FlatStory ℕ). Comes (outcome_of_story job command entry x)) (sym good) ran in
          subst (λ (x : CommandOutcome). Comes x) (sym (plays-story job command file entry plays)) told

-- the counts of a run after the story was loaded
pub counts-after : (entry exit : Devices) (shelf : FlatShelf) (status : ℕ) (failed : Type 0)
    → FailureCounts (record entry { shelf = shelf }) exit status → Blames entry.shelf.calls shelf.calls failed
    → (failed → ⊥) → FailureCounts entry exit status
counts-after entry exit shelf status failed counts blames fine = record {
  shelf = blames-on entry.shelf.calls shelf.calls exit.shelf.calls (status ≡ status_shelf_fault)
      (well-of entry.shelf.calls shelf.calls failed blames fine) counts.shelf;
  source = counts.source;
  sink = counts.sink;
}
