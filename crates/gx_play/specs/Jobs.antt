-- The jobs check and work, each of which sends one line.
use Rattle.std.specs.Prelude.{ℕ, zero, suc, ◌+◌, ◌-◌, ◌*◌, ◌/◌, ◌%◌, ◌^◌, Bool, true, false, List, [], ◌∷◌, ◌++◌}
use Rattle.std.specs.Prelude.{length, replicate, Option, None, codes, decimal}
use Rattle.std.specs.Option.{option_and_then, option_map_or}
use Rattle.std.specs.Result.{result_ok}
use Rattle.gx_words.specs.Numbers.{word}
use Rattle.gx_outside.specs.Files.{no_files}
use Rattle.gx_outside.specs.Outside.{no_call}
use Rattle.gx_story.specs.Stories.{FlatStory, accepted}
use Rattle.gx_state.specs.Flat.{FlatState}
use Rattle.gx_machine.specs.Machine.{Whole}
use Rattle.gx_machine.specs.Start.{first_machine}
use Rattle.glk_world.specs.World.{empty_world}
use Rattle.gx_session.specs.Constants.{status_ended, status_fault}
use Rattle.gx_session.specs.Devices.{devices}
use Rattle.gx_session.specs.Session.{final_of}
use Rattle.gx_work.specs.Work.{work_story}
use Rattle.gx_play.specs.Constants.{usual_depth}
use Rattle.rand_core.specs.Stream.{Stream}
use Rattle.gx_session.specs.Configurations.{Configuration, start_of}
use Rattle.glk_world.specs.declared.views.View.TheVariants as view

-- JOB CHECK: the status and the line, by whether a story has the checksum that its header states. A wrong one is a
-- fault without a number.
abbrev pub check_told : Bool → ℕ × List ℕ
check_told true = (status_ended, codes "checksum ok" ++ 10 ∷ [])
check_told false = (status_fault, codes "checksum differs" ++ 10 ∷ [])

-- JOB WORK: the story of a number is played to its end over devices that hold nothing, in the usual view, on a screen
-- of 80 columns and 24 rows, with the usual depth of undo and within the largest budget, whatever the options say; what
-- it comes to is told in three numbers.

-- the machine that starts the story of a number, where the story is accepted and can be started (every one is and can:
-- `works` in Headline)
unfoldable pub work_machine : ℕ → Option Whole
work_machine number = option_and_then (λ (story : FlatStory). result_ok (first_machine story usual_depth))
    (result_ok (accepted (work_story number)))

-- every random word is 0
abbrev pub zeros : Stream
zeros = record { u32_after = λ calls. 0; u64_after = λ calls. 0; bytes_after = λ calls n. replicate n 0 }

-- the start of its run: no input, no text, no files
abbrev pub work_start : Whole → Configuration
work_start whole = start_of whole.machine (empty_world view.Rows 80 24)
    (devices (record { calls = no_call; offered = 0; tells = true; left = [] })
    (record { calls = no_call; tells = true; taken = [] }) (record { calls = no_call; tells = true; files = no_files })
    zeros [] [] []) false (2 ^ 64 - 1) None

-- the sum of so many words from an address on
unfoldable pub sum_from : ℕ → List ℕ → ℕ → ℕ
sum_from zero memory at = 0
sum_from (suc n) memory at = sum_from n memory at + word memory (at + 4 * n)

-- the sum modulo 2^32 of the words of RAM
abbrev pub ram_sum_of : FlatState → ℕ
ram_sum_of f = sum_from ((length f.memory - f.story.header.ramstart) / 4) f.memory f.story.header.ramstart % 2 ^ 32

-- THE LINE: the units that were used up to the end of the run, the length of its text, and the sum of its RAM.
unfoldable pub work_line : ℕ → List ℕ
work_line number =
    option_map_or (λ (whole : Whole). let start = work_start whole in let end = (final_of start).configuration in
    (decimal (start.left - end.left) ++ 32 ∷ decimal (length end.world.text)
    ++ 32 ∷ decimal (ram_sum_of end.machine.flat)) ++ 10 ∷ []) (work_machine number) []
