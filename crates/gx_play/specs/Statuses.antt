-- THE STATUSES (`HasItsParts`), whatever the devices tell: which there are, and what goes with each.
use Rattle.std.specs.Prelude.{◌≡◌, ◌≢◌, ◌<◌, ◌≤◌, ◌⊎◌, None, IsSome}
use Rattle.gx_session.specs.declared.ended.Ended.{Ended}
use Rattle.gx_session.specs.Constants.{status_ended, status_bad_words, status_bad_story, status_fault, status_spent}
use Rattle.gx_session.specs.Constants.{status_shelf_fault, status_output_fault, status_no_memory, status_bad_text}
use Rattle.gx_session.specs.Constants.{status_no_listing}
use Rattle.gx_play.specs.declared.command.Job.{Job}
use Rattle.gx_play.specs.declared.command.Job.TheVariants.{Play, Rewind}

-- the jobs that play a story
abbrev pub PlaysStory : Job → Type 0
PlaysStory Play = Unit {0}
PlaysStory Rewind = Unit {0}
PlaysStory job = ⊥

-- What goes with each status: the fault's number, its place, and in job play the machine.
pub record HasItsParts {A : Type 0} (playing handing : Type 0) (ended : Ended A) : Type 0 where
  pub status_is : ended.status ≤ status_no_listing
  pub played : playing → ended.status ≤ status_no_memory
  pub story_fault : ended.status ≡ status_bad_story → ended.fault ≤ 7
  pub run_fault : playing → ended.status ≡ status_fault → (1 ≤ ended.fault) × (ended.fault ≤ 16)
  pub text_fault : ended.status ≡ status_bad_text → (1 ≤ ended.fault) × (ended.fault ≤ 4)
  pub listing_fault : ended.status ≡ status_no_listing → (1 ≤ ended.fault) × (ended.fault ≤ 5)
  pub no_fault : ended.status ≢ status_bad_story → ended.status ≢ status_fault → ended.status ≤ status_no_memory
      → ended.fault ≡ 0
  pub no_place : ended.status ≢ status_fault → ended.status ≤ status_no_memory → ended.at ≡ 0
  -- a machine is handed back where one ran, and none where none was started; a fault, a failing shelf and want of
  -- memory may come before
  pub ran : handing → (ended.status ≡ status_ended) ⊎ ((status_spent ≤ ended.status)
      × (ended.status ≤ status_output_fault) × (ended.status ≢ status_shelf_fault)) → IsSome ended.machine
  pub not_run : (ended.status ≡ status_bad_words) ⊎ (ended.status ≡ status_bad_story)
      ⊎ (status_no_memory < ended.status) → ended.machine ≡ None
