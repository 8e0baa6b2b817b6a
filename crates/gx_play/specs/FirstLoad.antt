-- THE ONE LOAD of the file that a command line names, and where memory may be wanted for it.
use Rattle.std.specs.Prelude.{◌≡◌, ℕ, ◌≤◌, length, List, [], ◌∷◌, Option, IsSomeAnd, IfOk}
use Rattle.gx_words.specs.Constants.{ceiling}
use Rattle.gx_outside.specs.Shelves.{load_file, loaded, Trace, load_of}
use Rattle.gx_play.specs.declared.command.Job.{Job}
use Rattle.gx_play.specs.declared.command.Job.TheVariants.{Work, Asm}
use Rattle.gx_play.specs.Commands.{Command}
use Rattle.gx_play.specs.Constants.{most_text}

-- a job loads files of at most so many bytes
abbrev pub most_of : Job → ℕ
most_of Asm = most_text
most_of job = ceiling

-- The first call of the shelf asks for the command's file, and hands it out or is refused. In job work there is none.
abbrev pub LoadsFirst : Job → Command → Option (List ℕ) → Trace → Type 0
LoadsFirst (Work number) command file asked = asked ≡ []
LoadsFirst job command file [] = ⊥
LoadsFirst job command file (load ∷ asked) =
    (load.0 ≡ load_file command.story (most_of job)) × IfOk load.1 (λ a. a ≡ loaded (load_of (most_of job) file))

-- Once a device was called, memory is wanted in the jobs that load a file only where it is there and isn't too long.
abbrev pub JobMayWant : Job → Option (List ℕ) → Type 0
JobMayWant (Work number) file = Unit {0}
JobMayWant job file = IsSomeAnd file (λ bytes. length bytes ≤ most_of job)
