-- THE OUTCOME OF A COMMAND LINE (`outcome_of`): what it comes to where no device fails and memory suffices. It is a
-- function of the command, of the file under its name, and of what the devices hold.
use Rattle.std.specs.Prelude.{ℕ, nat_lt, if◌then◌else◌, length, List, Option, Some, None, Result, Ok, Err}
use Rattle.std.specs.Result.{result_map_both}
use Rattle.gx_words.specs.declared.faults.Fault.{Fault}
use Rattle.gx_words.specs.Constants.{ceiling}
use Rattle.gx_words.specs.Faults.{number_of}
use Rattle.gx_story.specs.declared.faults.StoryFault.{StoryFault}
use Rattle.gx_story.specs.declared.faults.StoryFault.TheVariants.{TooLarge}
use Rattle.gx_story.specs.Faults.{number_of as story_number_of}
use Rattle.gx_story.specs.Stories.{FlatStory, accepted, is_checked}
use Rattle.gx_asm.specs.declared.faults.AsmFault.{AsmFault}
use Rattle.gx_asm.specs.declared.faults.ListFault.{ListFault}
use Rattle.gx_asm.specs.Faults.{number_in_text, line_in_text, number_in_code, place_in_code}
use Rattle.gx_asm.specs.Texts.{assembled}
use Rattle.gx_asm.specs.Stories.{wrapped_code, listed_story}
use Rattle.gx_machine.specs.Log.{Log, no_events}
use Rattle.gx_machine.specs.Machine.{Whole}
use Rattle.gx_machine.specs.Start.{first_machine}
use Rattle.glk_world.specs.World.{empty_world}
use Rattle.gx_session.specs.Constants.{status_ended, status_bad_words, status_bad_story, status_fault, status_bad_text}
use Rattle.gx_session.specs.Constants.{status_no_listing}
use Rattle.gx_session.specs.Devices.{Devices}
use Rattle.gx_session.specs.Configurations.{Configuration, start_of}
use Rattle.gx_session.specs.Session.{final_of, stop_status}
use Rattle.gx_play.specs.declared.command.Job.{Job}
use Rattle.gx_play.specs.declared.command.Job.TheVariants.{Rewind, Check, Work, Asm, List as Listing}
use Rattle.gx_play.specs.Commands.{Command}
use Rattle.gx_play.specs.Constants.{no_file, most_text}
use Rattle.gx_play.specs.Jobs.{check_told, work_line}
use Rattle.gx_play.specs.Seeds.{devices_for}

-- THE OUTCOME of a command line.
pub data CommandOutcome : Type 0 where
  -- no command, no story or one that can't be started, a text without a code, or a story without a listing: a status,
  -- a fault and its place
  refused : ℕ → ℕ → ℕ → CommandOutcome
  -- an output is sent, with this status: a line, a story or a listing
  answers_with : ℕ → List ℕ → CommandOutcome
  -- the session from this configuration to its end, with the words of a seed or of the device
  runs : Option ℕ → Configuration → CommandOutcome
  -- the same, recorded, and then the line of so many units before the end
  rewinds : Option ℕ → ℕ → Configuration → CommandOutcome

-- what is read in a file of at most so many bytes, or the number of why there is nothing
abbrev pub in_file : {X : Type 0} → ℕ → (List ℕ → Result X StoryFault) → Option (List ℕ) → Result X ℕ
in_file most read None = Err no_file
in_file most read (Some bytes) = if nat_lt most (length bytes) then Err (story_number_of TooLarge)
    else result_map_both (λ x. x) story_number_of (read bytes)

-- THE JOBS PLAY AND REWIND: the machine of a story runs from its start, with the command's random words, in its view
-- and on its screen, within its budget. In job rewind the run is recorded.
abbrev pub start_for : Command → Whole → Option Log → Devices → Configuration
start_for command whole log entry = start_of whole.machine (empty_world command.view command.columns command.rows)
    (devices_for command.seed entry) command.echo command.steps log

-- A start function that can't be entered is a fault at its address.
abbrev pub outcome_of_start : Job → Command → FlatStory → Devices → Result Whole Fault → CommandOutcome
outcome_of_start job command story entry (Err e) = refused status_fault (number_of e) story.header.start_function
outcome_of_start Rewind command story entry (Ok whole) =
    rewinds command.seed command.back (start_for command whole (Some no_events) entry)
outcome_of_start job command story entry (Ok whole) = runs command.seed (start_for command whole None entry)

-- JOB ASM: the story of a text's code. A text isn't understood exactly where no code is spelled by it.
abbrev pub outcome_of_code : Result (List ℕ) AsmFault → CommandOutcome
outcome_of_code (Ok code) = answers_with status_ended (wrapped_code code)
outcome_of_code (Err fault) = refused status_bad_text (number_in_text fault) (line_in_text fault)

-- JOB LIST: the text of a story's start function, up to the first quit or return.
abbrev pub outcome_of_listing : Result (List ℕ) ListFault → CommandOutcome
outcome_of_listing (Ok text) = answers_with status_ended text
outcome_of_listing (Err fault) = refused status_no_listing (number_in_code fault) (place_in_code fault)

-- THE OUTCOME OF A JOB over the file under the command's name: what is made of its story, or of its text, or the
-- refusal of a file that holds none.
abbrev pub outcome_with : {X : Type 0} → Result X ℕ → (X → CommandOutcome) → CommandOutcome
outcome_with (Ok held) made = made held
outcome_with (Err fault) made = refused status_bad_story fault 0

abbrev pub outcome_of_job : Job → Command → Option (List ℕ) → Devices → CommandOutcome
outcome_of_job (Work number) command file entry = answers_with status_ended (work_line number)
outcome_of_job Asm command file entry =
    outcome_with (in_file most_text (λ bytes. Ok bytes) file) (λ text. outcome_of_code (assembled text))
outcome_of_job Check command file entry =
    outcome_with (in_file ceiling accepted file) (λ s. let t = check_told (is_checked s) in answers_with t.0 t.1)
outcome_of_job Listing command file entry =
    outcome_with (in_file ceiling accepted file) (λ story. outcome_of_listing (listed_story story))
-- play and rewind
outcome_of_job job command file entry = outcome_with (in_file ceiling accepted file)
    (λ story. outcome_of_start job command story entry (first_machine story command.undo))

-- The outcome of a command over what the devices hold, where this file stands under the name.
abbrev pub outcome_of : Option Command → Option (List ℕ) → Devices → CommandOutcome
outcome_of None file entry = refused status_bad_words 0 0
outcome_of (Some command) file entry = outcome_of_job command.job command file entry

-- COMPLETENESS
-- the status of an outcome, where nothing cuts it short
abbrev pub status_of_outcome : CommandOutcome → ℕ
status_of_outcome (refused status fault at) = status
status_of_outcome (answers_with status output) = status
status_of_outcome (runs seed start) = stop_status (final_of start).stop
status_of_outcome (rewinds seed back start) = stop_status (final_of start).stop
