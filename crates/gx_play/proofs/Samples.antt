-- Command lines and story files with what they come to.
use Rattle.std.proofs.Common.{◌≡◌, ℕ, List, [], ◌∷◌, ◌++◌, replicate, take, Option, Some, None, Err, is_ok, true, refl}
use Rattle.gx_story.specs.Stories.{accepted, bare, header}
use Rattle.gx_session.specs.Constants.{status_bad_words, status_bad_story}
use Rattle.gx_session.specs.Devices.{Devices}
use Rattle.gx_play.proofs.Outcomes.{story_in_file}
use Rattle.gx_play.specs.declared.command.Job.TheVariants.{Play, Rewind, Check, Asm, List as Listing}
use Rattle.gx_play.specs.Commands.{Command}
use Rattle.gx_play.specs.Outcomes.{outcome_of, refused}

bad-words : (file : Option (List ℕ)) (d : Devices) → outcome_of None file d ≡ refused status_bad_words 0 0
bad-words file d = refl

no-such-file : (command : Command) (d : Devices) → outcome_of (Some (record command { job = Play })) None d
    ≡ refused status_bad_story 0 0
no-such-file command d = refl

nothing-to-rewind : (command : Command) (d : Devices) → outcome_of (Some (record command { job = Rewind })) None d
    ≡ refused status_bad_story 0 0
nothing-to-rewind command d = refl

nothing-to-check : (command : Command) (d : Devices) → outcome_of (Some (record command { job = Check })) None d
    ≡ refused status_bad_story 0 0
nothing-to-check command d = refl

nothing-to-assemble : (command : Command) (d : Devices) → outcome_of (Some (record command { job = Asm })) None d
    ≡ refused status_bad_story 0 0
nothing-to-assemble command d = refl

nothing-to-list : (command : Command) (d : Devices) → outcome_of (Some (record command { job = Listing })) None d
    ≡ refused status_bad_story 0 0
nothing-to-list command d = refl

-- a story of one page with this magic and version
abbrev page : List ℕ → List ℕ → List ℕ
page magic version =
    magic ++ version ++ (0 ∷ 0 ∷ 1 ∷ 0 ∷ 0 ∷ 0 ∷ 1 ∷ 0 ∷ 0 ∷ 0 ∷ 1 ∷ 0 ∷ 0 ∷ 0 ∷ 1 ∷ 0 ∷ 0 ∷ 0 ∷ 0 ∷ 0x24 ∷ 0 ∷ 0 ∷ 0
    ∷ 0 ∷ []) ++ replicate 224 0

abbrev glul : List ℕ
glul = 0x47 ∷ 0x6C ∷ 0x75 ∷ 0x6C ∷ []

empty-file : story_in_file (Some []) ≡ Err 1
unfolding accepted bare header
empty-file = refl

short-file : story_in_file (Some (take 35 (page glul (0 ∷ 3 ∷ 1 ∷ 2 ∷ [])))) ≡ Err 1
unfolding accepted bare header
short-file = refl

other-magic : story_in_file (Some (page (0x48 ∷ 0x6C ∷ 0x75 ∷ 0x6C ∷ []) (0 ∷ 3 ∷ 1 ∷ 2 ∷ []))) ≡ Err 2
unfolding accepted bare header
other-magic = refl

old-version : story_in_file (Some (page glul (0 ∷ 1 ∷ 0xFF ∷ 0xFF ∷ []))) ≡ Err 3
unfolding accepted bare header
old-version = refl

first-version : is_ok (story_in_file (Some (page glul (0 ∷ 2 ∷ 0 ∷ 0 ∷ [])))) ≡ true
unfolding accepted bare header
first-version = refl

last-version : is_ok (story_in_file (Some (page glul (0 ∷ 3 ∷ 1 ∷ 0xFF ∷ [])))) ≡ true
unfolding accepted bare header
last-version = refl

new-version : story_in_file (Some (page glul (0 ∷ 3 ∷ 2 ∷ 0 ∷ []))) ≡ Err 3
unfolding accepted bare header
new-version = refl
