-- The outcomes of jobs by what was loaded.
use Rattle.std.proofs.Common.{ℕ, List, Option, Result, Ok}
use Rattle.std.specs.Result.{result_map_both}
use Rattle.gx_story.specs.declared.faults.StoryFault.{StoryFault}
use Rattle.gx_story.specs.Faults.{number_of}
use Rattle.gx_story.specs.Stories.{FlatStory, accepted, is_checked}
use Rattle.gx_asm.specs.Texts.{assembled}
use Rattle.gx_asm.specs.Stories.{listed_story}
use Rattle.gx_machine.specs.Start.{first_machine}
use Rattle.gx_session.specs.Devices.{Devices}
use Rattle.gx_play.specs.declared.command.Job.{Job}
use Rattle.gx_play.specs.Commands.{Command}
use Rattle.gx_words.specs.Constants.{ceiling}
use Rattle.gx_play.specs.Constants.{most_text}
use Rattle.gx_play.specs.Jobs.{check_told}
use Rattle.gx_play.specs.Outcomes.{CommandOutcome, answers_with, in_file, outcome_with, outcome_of_start}
use Rattle.gx_play.specs.Outcomes.{outcome_of_code, outcome_of_listing}

-- the story in a file, and the text, or the number of why there is none
abbrev pub story_in_file : Option (List ℕ) → Result FlatStory ℕ
story_in_file = in_file ceiling accepted

abbrev pub text_in_file : Option (List ℕ) → Result (List ℕ) ℕ
text_in_file = in_file most_text (λ bytes. Ok bytes)

-- the story, or the number of its fault
abbrev pub story_or_number : Result FlatStory StoryFault → Result FlatStory ℕ
story_or_number r = result_map_both (λ (story : FlatStory). story) number_of r

abbrev pub outcome_of_story : Job → Command → Devices → Result FlatStory ℕ → CommandOutcome
outcome_of_story job command entry r =
    outcome_with r (λ (story : FlatStory). outcome_of_start job command story entry (first_machine story command.undo))

abbrev pub outcome_of_check : Result FlatStory ℕ → CommandOutcome
outcome_of_check r = outcome_with r (λ (story : FlatStory). answers_with (check_told (is_checked story)).0
    (check_told (is_checked story)).1)

abbrev pub outcome_of_text : Result (List ℕ) ℕ → CommandOutcome
outcome_of_text r = outcome_with r (λ (text : List ℕ). outcome_of_code (assembled text))

abbrev pub outcome_of_list : Result FlatStory ℕ → CommandOutcome
outcome_of_list r = outcome_with r (λ (story : FlatStory). outcome_of_listing (listed_story story))
