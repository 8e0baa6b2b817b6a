-- Command lines with what they ask for.
use Rattle.std.proofs.Common.{refl, codes, ◌≡◌, true, false, List, [], ◌∷◌, Some, None}
use Rattle.clap.specs.Words.{Text}
use Rattle.clap.specs.declared.error.kind.ErrorKind.TheVariants as kind
use Rattle.clap.proofs.OnLiterals.{clap_on_literals}
use Rattle.glk_world.specs.declared.views.View.TheVariants as view
use Rattle.gx_play.specs.declared.command.Job.TheVariants.{Play, Rewind, Check, Work, Asm, List as Listing}
use Rattle.gx_play.specs.Commands.{Command, player, faults_of, matched_in, command_of}

-- after the program's name
abbrev words : List Text → List Text
words rest = codes "gx_player" ∷ rest

-- a story that is played as usual
abbrev usual : Text → Command
usual story = record {
  story = story;
  steps = 1000000000000000;
  columns = 80;
  rows = 24;
  undo = 16;
  seed = None;
  back = 0;
  echo = false;
  view = view.Rows;
  job = Play;
}

story-alone : command_of (words (codes "hall.ulx" ∷ [])) ≡ Some (usual (codes "hall.ulx"))
unfolding clap_on_literals command_of faults_of matched_in player
story-alone = refl

abbrev many-options : List Text
many-options =
    codes "--steps" ∷ codes "0011" ∷ codes "--echo" ∷ codes "--plain" ∷ codes "7" ∷ codes "--seed=5" ∷ codes "--rows" ∷
    codes "1" ∷ codes "--undo" ∷ codes "064" ∷ codes "--columns=255" ∷ codes "--back=12" ∷ codes "--job=work" ∷ []

all-options : command_of (words many-options) ≡ Some (record {
  story = codes "7";
  steps = 11;
  columns = 255;
  rows = 1;
  undo = 64;
  seed = Some 5;
  back = 12;
  echo = true;
  view = view.Plain;
  job = Work 7;
})
unfolding clap_on_literals command_of faults_of matched_in player
all-options = refl

most-steps : command_of (words ([] ∷ codes "--steps" ∷ codes "18446744073709551615" ∷ []))
    ≡ Some (record (usual []) { steps = 18446744073709551615 })
unfolding clap_on_literals command_of faults_of matched_in player
most-steps = refl

too-many-steps : command_of (words (codes "hall.ulx" ∷ codes "--steps" ∷ codes "18446744073709551616" ∷ [])) ≡ None
unfolding clap_on_literals command_of faults_of matched_in player
too-many-steps = refl

no-number : command_of (words (codes "hall.ulx" ∷ codes "--steps=" ∷ [])) ≡ None
unfolding clap_on_literals command_of faults_of matched_in player
no-number = refl

a-sign : command_of (words (codes "hall.ulx" ∷ codes "--steps" ∷ codes "+5" ∷ [])) ≡ None
unfolding clap_on_literals command_of faults_of matched_in player
a-sign = refl

no-columns : command_of (words (codes "hall.ulx" ∷ codes "--columns" ∷ codes "0" ∷ [])) ≡ None
unfolding clap_on_literals command_of faults_of matched_in player
no-columns = refl

no-undo : command_of (words (codes "hall.ulx" ∷ codes "--undo" ∷ codes "0" ∷ [])) ≡ None
unfolding clap_on_literals command_of faults_of matched_in player
no-undo = refl

least-undo : command_of (words (codes "hall.ulx" ∷ codes "--undo=1" ∷ []))
    ≡ Some (record (usual (codes "hall.ulx")) { undo = 1 })
unfolding clap_on_literals command_of faults_of matched_in player
least-undo = refl

too-much-undo : command_of (words (codes "hall.ulx" ∷ codes "--undo" ∷ codes "65" ∷ [])) ≡ None
unfolding clap_on_literals command_of faults_of matched_in player
too-much-undo = refl

least-seed : command_of (words (codes "hall.ulx" ∷ codes "--seed" ∷ codes "0" ∷ []))
    ≡ Some (record (usual (codes "hall.ulx")) { seed = Some 0 })
unfolding clap_on_literals command_of faults_of matched_in player
least-seed = refl

too-large-a-seed : command_of (words (codes "hall.ulx" ∷ codes "--seed" ∷ codes "18446744073709551616" ∷ [])) ≡ None
unfolding clap_on_literals command_of faults_of matched_in player
too-large-a-seed = refl

no-seed : command_of (words (codes "hall.ulx" ∷ codes "--seed" ∷ codes "x" ∷ [])) ≡ None
unfolding clap_on_literals command_of faults_of matched_in player
no-seed = refl

a-rewind : command_of (words (codes "hall.ulx" ∷ codes "--job" ∷ codes "rewind" ∷ []))
    ≡ Some (record (usual (codes "hall.ulx")) { job = Rewind })
unfolding clap_on_literals command_of faults_of matched_in player
a-rewind = refl

most-back : command_of (words (codes "hall.ulx" ∷ codes "--back" ∷ codes "18446744073709551615" ∷ codes "--job=rewind"
    ∷ []))
    ≡ Some (record (usual (codes "hall.ulx")) { back = 18446744073709551615; job = Rewind })
unfolding clap_on_literals command_of faults_of matched_in player
most-back = refl

too-far-back : command_of (words (codes "hall.ulx" ∷ codes "--back" ∷ codes "18446744073709551616"
    ∷ codes "--job=rewind" ∷ [])) ≡ None
unfolding clap_on_literals command_of faults_of matched_in player
too-far-back = refl

a-word-that-isn't-an-option : command_of (words (codes "--" ∷ codes "--echo" ∷ [])) ≡ Some (usual (codes "--echo"))
unfolding clap_on_literals command_of faults_of matched_in player
a-word-that-isn't-an-option = refl

a-dash : command_of (words (codes "-" ∷ [])) ≡ Some (usual (codes "-"))
unfolding clap_on_literals command_of faults_of matched_in player
a-dash = refl

most-work : command_of (words (codes "4294967295" ∷ codes "--job" ∷ codes "work" ∷ []))
    ≡ Some (record (usual (codes "4294967295")) { job = Work 4294967295 })
unfolding clap_on_literals command_of faults_of matched_in player
most-work = refl

too-much-work : command_of (words (codes "4294967296" ∷ codes "--job" ∷ codes "work" ∷ [])) ≡ None
unfolding clap_on_literals command_of faults_of matched_in player
too-much-work = refl

a-text : command_of (words (codes "hall.txt" ∷ codes "--job" ∷ codes "asm" ∷ []))
    ≡ Some (record (usual (codes "hall.txt")) { job = Asm })
unfolding clap_on_literals command_of faults_of matched_in player
a-text = refl

a-listing : command_of (words (codes "--job=list" ∷ codes "hall.ulx" ∷ []))
    ≡ Some (record (usual (codes "hall.ulx")) { job = Listing })
unfolding clap_on_literals command_of faults_of matched_in player
a-listing = refl

other-job : command_of (words (codes "hall.ulx" ∷ codes "--job" ∷ codes "Check" ∷ [])) ≡ None
unfolding clap_on_literals command_of faults_of matched_in player
other-job = refl

-- how the text is put together
the-screen : command_of (words (codes "hall.ulx" ∷ codes "--screen" ∷ []))
    ≡ Some (record (usual (codes "hall.ulx")) { view = view.Screen })
unfolding clap_on_literals command_of faults_of matched_in player
the-screen = refl

text-alone : command_of (words (codes "hall.ulx" ∷ codes "--plain" ∷ []))
    ≡ Some (record (usual (codes "hall.ulx")) { view = view.Plain })
unfolding clap_on_literals command_of faults_of matched_in player
text-alone = refl

text-alone-with-lines : command_of (words (codes "--plain" ∷ codes "--echo" ∷ codes "hall.ulx" ∷ []))
    ≡ Some (record (usual (codes "hall.ulx")) { echo = true; view = view.Plain })
unfolding clap_on_literals command_of faults_of matched_in player
text-alone-with-lines = refl

text-alone-in-check : command_of (words (codes "hall.ulx" ∷ codes "--plain" ∷ codes "--job=check" ∷ []))
    ≡ Some (record (usual (codes "hall.ulx")) { view = view.Plain; job = Check })
unfolding clap_on_literals command_of faults_of matched_in player
text-alone-in-check = refl

the-screen-in-rewind : command_of (words (codes "hall.ulx" ∷ codes "--screen" ∷ codes "--job=rewind" ∷ [])) ≡ None
unfolding clap_on_literals command_of faults_of matched_in player
the-screen-in-rewind = refl

wrapped-text : command_of (words (codes "hall.ulx" ∷ codes "--wrap" ∷ codes "--echo" ∷ []))
    ≡ Some (record (usual (codes "hall.ulx")) { echo = true; view = view.WrappedRows })
unfolding clap_on_literals command_of faults_of matched_in player
wrapped-text = refl

wrapped-text-alone : command_of (words (codes "hall.ulx" ∷ codes "--plain" ∷ codes "--wrap" ∷ codes "--job=check" ∷ []))
    ≡ Some (record (usual (codes "hall.ulx")) { view = view.WrappedPlain; job = Check })
unfolding clap_on_literals command_of faults_of matched_in player
wrapped-text-alone = refl

wrapped-screen : command_of (words (codes "hall.ulx" ∷ codes "--screen" ∷ codes "--wrap" ∷ [])) ≡ None
unfolding clap_on_literals command_of faults_of matched_in player
wrapped-screen = refl

both-views : command_of (words (codes "hall.ulx" ∷ codes "--screen" ∷ codes "--plain" ∷ [])) ≡ None
unfolding clap_on_literals command_of faults_of matched_in player
both-views = refl

the-screen-with-lines : command_of (words (codes "hall.ulx" ∷ codes "--echo" ∷ codes "--screen" ∷ [])) ≡ None
unfolding clap_on_literals command_of faults_of matched_in player
the-screen-with-lines = refl

the-screen-in-check : command_of (words (codes "hall.ulx" ∷ codes "--screen" ∷ codes "--job=check" ∷ [])) ≡ None
unfolding clap_on_literals command_of faults_of matched_in player
the-screen-in-check = refl

-- options are looked at in every job
steps-in-check : command_of (words (codes "hall.ulx" ∷ codes "--job=check" ∷ codes "--steps=x" ∷ [])) ≡ None
unfolding clap_on_literals command_of faults_of matched_in player
steps-in-check = refl

undo-in-check : command_of (words (codes "hall.ulx" ∷ codes "--job=check" ∷ codes "--undo=65" ∷ [])) ≡ None
unfolding clap_on_literals command_of faults_of matched_in player
undo-in-check = refl

seed-in-work : command_of (words (codes "7" ∷ codes "--job=work" ∷ codes "--seed=" ∷ [])) ≡ None
unfolding clap_on_literals command_of faults_of matched_in player
seed-in-work = refl

back-in-check : command_of (words (codes "hall.ulx" ∷ codes "--job=check" ∷ codes "--back=" ∷ [])) ≡ None
unfolding clap_on_literals command_of faults_of matched_in player
back-in-check = refl

-- why other words have no matches
repeated : faults_of (words (codes "hall.ulx" ∷ codes "--echo" ∷ codes "--echo" ∷ [])) ≡ kind.ArgumentConflict ∷ []
unfolding clap_on_literals faults_of player
repeated = refl

help : faults_of (words (codes "--help" ∷ [])) ≡ kind.DisplayHelp ∷ []
unfolding clap_on_literals faults_of player
help = refl

version : faults_of (words (codes "--version" ∷ [])) ≡ kind.UnknownArgument ∷ []
unfolding clap_on_literals faults_of player
version = refl

no-words : faults_of [] ≡ kind.MissingRequiredArgument ∷ []
unfolding clap_on_literals faults_of player
no-words = refl

two-stories : faults_of (words (codes "hall.ulx" ∷ codes "hall.ulx" ∷ [])) ≡ kind.UnknownArgument ∷ []
unfolding clap_on_literals faults_of player
two-stories = refl

a-front-of-an-option : faults_of (words (codes "hall.ulx" ∷ codes "--step=5" ∷ [])) ≡ kind.UnknownArgument ∷ []
unfolding clap_on_literals faults_of player
a-front-of-an-option = refl

a-value-for-the-flag : faults_of (words (codes "hall.ulx" ∷ codes "--echo=true" ∷ [])) ≡ kind.TooManyValues ∷ []
unfolding clap_on_literals faults_of player
a-value-for-the-flag = refl

an-option-without-its-value : faults_of (words (codes "hall.ulx" ∷ codes "--steps" ∷ [])) ≡ kind.InvalidValue ∷ []
unfolding clap_on_literals faults_of player
an-option-without-its-value = refl
