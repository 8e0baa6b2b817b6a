-- Which runs are begun: in the jobs play and rewind alone, and in job play where the machine is handed back.
use Rattle.std.proofs.Common.{◌≡◌, ◌≢◌, ℕ, inl, inr, List, [], Option, Some, None, Result, Ok, Err, IsSomeAnd, ◌⊎◌}
use Rattle.std.proofs.Common.{refl, ap, ◌∙◌}
use Rattle.gx_words.specs.declared.faults.Fault.{Fault}
use Rattle.gx_story.specs.Stories.{FlatStory}
use Rattle.gx_asm.specs.declared.faults.AsmFault.{AsmFault}
use Rattle.gx_asm.specs.declared.faults.ListFault.{ListFault}
use Rattle.gx_asm.specs.Stories.{listed_story}
use Rattle.gx_asm.specs.Texts.{assembled}
use Rattle.gx_machine.specs.Machine.{Whole}
use Rattle.gx_machine.specs.Start.{first_machine}
use Rattle.gx_session.specs.declared.ended.Ended.{Ended}
use Rattle.gx_session.specs.Devices.{Devices}
use Rattle.gx_play.specs.declared.command.Job.{Job}
use Rattle.gx_play.specs.declared.command.Job.TheVariants.{Play, Rewind, Check, Work, Asm, List as Listing}
use Rattle.gx_play.specs.Commands.{Command}
use Rattle.gx_play.specs.Outcomes.{CommandOutcome, refused, answers_with, runs, rewinds, outcome_of}
use Rattle.gx_play.specs.Outcomes.{outcome_of_job, outcome_of_code, outcome_of_listing, outcome_of_start}
use Rattle.gx_play.proofs.Outcomes.{story_in_file, text_in_file, outcome_of_check, outcome_of_text, outcome_of_list}
use Rattle.gx_play.proofs.Outcomes.{outcome_of_story}
use Rattle.gx_play.specs.Answers.{BeginsAfter, IsRewindOf, IsRunOf, IsUnrun, Plays}
use Rattle.gx_play.specs.Statuses.{PlaysStory}
use Rattle.gx_play.specs.Headline.{ComesOut, IsPlayed}

-- the outcome is a run, and it was begun
abbrev pub IsRunBegun : {A : Type 0} → CommandOutcome → Devices → Devices → Ended A → Type 0
IsRunBegun (runs seed start) entry exit ended =
    BeginsAfter entry exit (λ before after. IsRunOf seed start before after ended)
IsRunBegun (rewinds seed back start) entry exit ended =
    BeginsAfter entry exit (λ before after. IsRewindOf seed back start before after ended)
IsRunBegun outcome entry exit ended = ⊥

module _ {A : Type 0} (ended : Ended A) (entry exit : Devices) where
  -- A RUN was begun, or none was
  plays-begun : (outcome : CommandOutcome) → Plays outcome entry exit ended → IsRunBegun outcome entry exit ended
      ⊎ IsUnrun entry exit
  plays-begun (refused status fault at) plays = inr plays.0
  plays-begun (answers_with status output) plays = inr plays.0
  plays-begun (runs seed start) plays = inl plays
  plays-begun (rewinds seed back start) plays = inl plays

  pub begun-or-not : (command : Option Command) (comes : ComesOut command entry exit ended)
      → IsRunBegun (outcome_of command comes.file entry) entry exit ended ⊎ IsUnrun entry exit
  begun-or-not command comes =
      elim comes.plays [
        | inl plays ↦ plays-begun (outcome_of command comes.file entry) plays
        | inr none ↦ elim none [ inl failed ↦ inr failed.0 | inr wanted ↦ inr wanted.0 ]
      ]

  -- OTHER JOBS begin none
  check-begins : (r : Result FlatStory ℕ) → IsRunBegun (outcome_of_check r) entry exit ended → ⊥
  check-begins (Ok story) none = none
  check-begins (Err fault) none = none

  code-begins : (r : Result (List ℕ) AsmFault) → IsRunBegun (outcome_of_code r) entry exit ended → ⊥
  code-begins (Ok code) none = none
  code-begins (Err fault) none = none

  text-begins : (r : Result (List ℕ) ℕ) → IsRunBegun (outcome_of_text r) entry exit ended → ⊥
  text-begins (Ok text) begun = code-begins (assembled text) begun
  text-begins (Err fault) none = none

  listing-begins : (r : Result (List ℕ) ListFault) → IsRunBegun (outcome_of_listing r) entry exit ended → ⊥
  listing-begins (Ok text) none = none
  listing-begins (Err fault) none = none

  list-begins : (r : Result FlatStory ℕ) → IsRunBegun (outcome_of_list r) entry exit ended → ⊥
  list-begins (Ok story) begun = listing-begins (listed_story story) begun
  list-begins (Err fault) none = none

  pub begins-none : (job : Job) (command : Command) (file : Option (List ℕ)) → (PlaysStory job → ⊥)
      → IsRunBegun (outcome_of_job job command file entry) entry exit ended → ⊥
  begins-none Play command file idle begun = idle tt
  begins-none Rewind command file idle begun = idle tt
  begins-none Check command file idle begun = check-begins (story_in_file file) begun
  begins-none (Work number) command file idle begun = begun
  begins-none Asm command file idle begun = text-begins (text_in_file file) begun
  begins-none Listing command file idle begun = list-begins (story_in_file file) begun

  -- IN JOB PLAY the machine is handed back
  some : (P : Whole → Type 0) (m : Option Whole) → IsSomeAnd m P → m ≡ None → ⊥
  some P None there none = there
  some P (Some whole) there none = cc

  start-hands : (command : Command) (story : FlatStory) (r : Result Whole Fault) → ended.machine ≡ None
      → IsRunBegun (outcome_of_start Play command story entry r) entry exit ended → ⊥
  start-hands command story (Ok whole) none begun = some _ ended.machine begun.run none
  start-hands command story (Err fault) none begun = begun

  story-hands : (command : Command) (r : Result FlatStory ℕ) → ended.machine ≡ None
      → IsRunBegun (outcome_of_story Play command entry r) entry exit ended → ⊥
  story-hands command (Ok story) none begun = start-hands command story (first_machine story command.undo) none begun
  story-hands command (Err fault) none begun = begun

  job-hands : (job : Job) (command : Command) (file : Option (List ℕ)) → job ≢ Rewind → ended.machine ≡ None
      → IsRunBegun (outcome_of_job job command file entry) entry exit ended → ⊥
  job-hands Play command file other none begun = story-hands command (story_in_file file) none begun
  job-hands Rewind command file other none begun = other refl
  job-hands job command file other none begun = begins-none job command file (λ plays. plays) begun

  -- So where none is handed back in any job but rewind, no run was begun.
  pub unhanded : (command : Command) → command.job ≢ Rewind → ComesOut (Some command) entry exit ended
      → ended.machine ≡ None → IsUnrun entry exit
  unhanded command other comes none =
      elim (begun-or-not (Some command) comes)
      [ inl begun ↦ absurd (job-hands command.job command comes.file other none begun) | inr unrun ↦ unrun ]

  pub uncommanded : ComesOut None entry exit ended → IsUnrun entry exit
  uncommanded comes = elim (begun-or-not None comes) [ inl begun ↦ absurd begun | inr unrun ↦ unrun ]

  -- NOTHING IS SENT by a job that plays a story where no run was begun, and no machine is handed back
  start-unsent : (job : Job) (command : Command) (story : FlatStory) (r : Result Whole Fault)
      → Plays (outcome_of_start job command story entry r) entry exit ended
      → IsRunBegun (outcome_of_start job command story entry r) entry exit ended
      ⊎ ((exit.sends ≡ []) × (ended.machine ≡ None))
  start-unsent Rewind command story (Ok whole) plays = inl plays
  start-unsent job command story (Ok whole) plays = inl plays
  start-unsent job command story (Err fault) plays = inr (plays.1.2, plays.1.0.machine_is)

  story-unsent : (job : Job) (command : Command) (r : Result FlatStory ℕ)
      → Plays (outcome_of_story job command entry r) entry exit ended
      → IsRunBegun (outcome_of_story job command entry r) entry exit ended
      ⊎ ((exit.sends ≡ []) × (ended.machine ≡ None))
  story-unsent job command (Ok story) plays = start-unsent job command story (first_machine story command.undo) plays
  story-unsent job command (Err fault) plays = inr (plays.1.2, plays.1.0.machine_is)

  job-unsent : (job : Job) (command : Command) (file : Option (List ℕ)) → PlaysStory job
      → Plays (outcome_of_job job command file entry) entry exit ended
      → IsRunBegun (outcome_of_job job command file entry) entry exit ended
      ⊎ ((exit.sends ≡ []) × (ended.machine ≡ None))
  job-unsent Play command file is plays = story-unsent Play command (story_in_file file) plays
  job-unsent Rewind command file is plays = story-unsent Rewind command (story_in_file file) plays
  job-unsent job command file is plays = absurd is

  pub unsent : (command : Command) → PlaysStory command.job → (comes : ComesOut (Some command) entry exit ended)
      → IsRunBegun (outcome_of (Some command) comes.file entry) entry exit ended
      ⊎ ((exit.sends ≡ []) × (ended.machine ≡ None))
  unsent command is comes =
      elim comes.plays [
        | inl plays ↦ job-unsent command.job command comes.file is plays
        | inr none ↦ elim none [
          | inl failed ↦ inr (failed.1.2, failed.1.0.machine_is)
          | inr wanted
              ↦ inr (wanted.1.2, wanted.1.0.machine_is)
        ]
      ]

-- Without a command the shelf isn't asked: nothing is done.
pub asks-none : {A : Type 0} (ended : Ended A) (entry exit : Devices) → IsPlayed None entry exit ended
    → entry.asked ≡ [] → exit.asked ≡ []
asks-none ended entry exit played first = ap (λ (d : Devices). d.asked) (played.unread refl) ∙ first
