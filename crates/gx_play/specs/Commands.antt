-- The command line: gx_player STORY [--steps N] [--columns N] [--rows N] [--undo N] [--seed N] [--back N] [--echo]
-- [--screen | [--plain] [--wrap]] [--job JOB].
--
-- The words are those of one simple command of clap, the program's name first, so `--steps N` and `--steps=N` are
-- alike, options stand before or after STORY, and after `--` every word is STORY. A question for help is no command. N
-- is one decimal digit or more. All options are looked at in every job, also where it uses them for nothing.
use Rattle.std.specs.Prelude.{ℕ, ◌-◌, ◌^◌, ◌&&◌, Bool, true, false, List, [], ◌∷◌, Option, Some, None, codes, length}
use Rattle.std.specs.Prelude.{nat_le, nat_lt, if◌then◌else◌, fold, option_map, option_and_then}
use Rattle.std.specs.Char.{is_ascii_digit}
use Rattle.std.specs.List.{list_all}
use Rattle.std.specs.Option.{option_map_or}
use Rattle.std.specs.Str.{bytes_eq}
use Rattle.std.specs.Str.Parse.{digits_value}
use Rattle.clap.specs.Words.{App, Kinds, Row, Rule, Text, first_of, fault_of, matches_of, new_app, new_rule, with_rule}
use Rattle.clap.specs.Walk.{is_empty}
use Rattle.clap.specs.declared.builder.ArgAction.TheVariants.{SetTrue}
use Rattle.gx_play.specs.declared.command.Job.{Job}
use Rattle.gx_play.specs.declared.command.Job.TheVariants.{Play, Rewind, Check, Work, Asm, List as Listing}
use Rattle.glk_world.specs.declared.views.View.{View}
use Rattle.glk_world.specs.declared.views.View.TheVariants as view
use Rattle.gx_undo.specs.Undo.{most_undo}

-- THE RULES of the words
-- `--NAME TEXT`, with the text that stands for it where it isn't there, if there is one
abbrev pub text_rule : Text → List Text → Rule
text_rule name usual = record (new_rule name) { long = Some name; defaults = usual }

-- `--NAME`, which is set or not
abbrev pub flag_rule : Text → Rule
flag_rule name = record (new_rule name) { long = Some name; action = Some SetTrue }

-- STORY, which has to be there, and the options that take a number
abbrev pub with_numbers : App
with_numbers = fold with_rule (new_app (codes "gx_player")) (record (new_rule (codes "STORY")) { required = true }
    ∷ text_rule (codes "steps") (codes "1000000000000000" ∷ []) ∷ text_rule (codes "columns") (codes "80" ∷ [])
    ∷ text_rule (codes "rows") (codes "24" ∷ []) ∷ text_rule (codes "undo") (codes "16" ∷ [])
    ∷ text_rule (codes "seed") [] ∷ text_rule (codes "back") (codes "0" ∷ []) ∷ [])

-- and the others
unfoldable pub player : App
player = fold with_rule with_numbers (flag_rule (codes "echo") ∷ flag_rule (codes "screen") ∷ flag_rule (codes "plain")
    ∷ flag_rule (codes "wrap") ∷ text_rule (codes "job") (codes "play" ∷ []) ∷ [])

-- WHAT A COMMAND LINE ASKS FOR: the name of the file, the budget of the run, the size of the screen, how many copies
-- are kept for undo, the seed of the random words, if there is one, how many units job rewind goes back, whether each
-- line that is taken is shown, how the text is put together, and the job.
pub record Command : Type 0 where
  pub story : Text
  pub steps : ℕ
  pub columns : ℕ
  pub rows : ℕ
  pub undo : ℕ
  pub seed : Option ℕ
  pub back : ℕ
  pub echo : Bool
  pub view : View
  pub job : Job

-- the number that one decimal digit or more spell, where it is from the least to the most
abbrev pub number_spelled : ℕ → ℕ → Text → Option ℕ
number_spelled least most text = if nat_lt 0 (length text) && (list_all is_ascii_digit text
    && (nat_le least (digits_value 10 text) && nat_le (digits_value 10 text) most))
    then Some (digits_value 10 text) else None

-- the seed, if there is one
abbrev pub seed_of : Option Text → Option (Option ℕ)
seed_of None = Some None
seed_of (Some text) = option_map (λ number. Some number) (number_spelled 0 (2 ^ 64 - 1) text)

-- the job of this name; in job work STORY is a number
abbrev pub job_of : Text → Text → Option Job
job_of story name =
    if bytes_eq name (codes "play") then Some Play else
    if bytes_eq name (codes "rewind") then Some Rewind else
    if bytes_eq name (codes "check") then Some Check else
    if bytes_eq name (codes "work") then option_map (λ number. Work number) (number_spelled 0 (2 ^ 32 - 1) story) else
    if bytes_eq name (codes "asm") then Some Asm else
    if bytes_eq name (codes "list") then Some Listing else None

-- HOW THE TEXT IS PUT TOGETHER, by the flags screen, plain, wrap and echo, and the job. With `--screen` the screen is
-- composed; that isn't understood with `--plain`, `--wrap` or `--echo`, nor in a job other than play. With `--plain`
-- grids are shown nowhere. Else rows of grids stand behind a bar. With `--wrap` all other text is wrapped.
abbrev pub view_for : Bool → Bool → Bool → Bool → Job → Option View
view_for false false false echo job = Some view.Rows
view_for false true false echo job = Some view.Plain
view_for false false true echo job = Some view.WrappedRows
view_for false true true echo job = Some view.WrappedPlain
view_for true false false false Play = Some view.Screen
view_for screen plain wrap echo job = None

-- a flag is set
abbrev pub is_set : Option Text → Bool
is_set text = option_map_or (λ t. bytes_eq t (codes "true")) text false

-- one that isn't there makes none of what follows
infixl 10 ◌>>=◌
abbrev ◌>>=◌ : {A B : Type 0} → Option A → (A → Option B) → Option B
o >>= f = option_and_then f o

-- what the texts under the names ask for, where each is as it has to be
abbrev pub command_in : (Text → Option Text) → Option Command
command_in under = do
  story ← under (codes "STORY")
  steps ← under (codes "steps") >>= number_spelled 0 (2 ^ 64 - 1)
  columns ← under (codes "columns") >>= number_spelled 1 255
  rows ← under (codes "rows") >>= number_spelled 1 255
  undo ← under (codes "undo") >>= number_spelled 1 most_undo
  seed ← seed_of (under (codes "seed"))
  back ← under (codes "back") >>= number_spelled 0 (2 ^ 64 - 1)
  job ← under (codes "job") >>= job_of story
  view ← view_for (is_set (under (codes "screen"))) (is_set (under (codes "plain"))) (is_set (under (codes "wrap")))
      (is_set (under (codes "echo"))) job
  Some (record {
    story = story;
    steps = steps;
    columns = columns;
    rows = rows;
    undo = undo;
    seed = seed;
    back = back;
    echo = is_set (under (codes "echo"));
    view = view;
    job = job;
  })

-- why the words have no matches: nothing where they have
unfoldable pub faults_of : List Text → Kinds
faults_of words = fault_of player words

-- what is matched in the words, where they have matches
unfoldable pub matched_in : List Text → List Row
matched_in words = matches_of player words

-- THE COMMAND of the words, and none where they have no matches or a text isn't as it has to be.
unfoldable pub command_of : List Text → Option Command
command_of words = if is_empty (faults_of words) then command_in (λ name. first_of name (matched_in words)) else None
