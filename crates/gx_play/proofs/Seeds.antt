-- With a seed the device's words are neither drawn nor looked at.
use Rattle.std.proofs.Common.{◌≡◌, ℕ, inl, inr, List, Option, Some, None, Result, Ok, Err, IsSome, IsSomeAnd, refl, ap}
use Rattle.std.proofs.Common.{subst, sym}
use Rattle.std.specs.Option.{option_map_or}
use Rattle.gx_words.specs.declared.faults.Fault.{Fault}
use Rattle.gx_outside.specs.Outside.{FlatShelf}
use Rattle.gx_outside.specs.Shelves.{Trace}
use Rattle.gx_story.specs.Stories.{FlatStory}
use Rattle.gx_machine.specs.Log.{Log, no_events}
use Rattle.gx_machine.specs.Machine.{Whole}
use Rattle.gx_machine.specs.Start.{first_machine}
use Rattle.glk_world.specs.World.{empty_world}
use Rattle.gx_session.specs.declared.ended.Ended.{Ended}
use Rattle.gx_session.specs.Devices.{Devices}
use Rattle.gx_session.specs.Runs.{IsRun, Report, report_of}
use Rattle.gx_play.specs.declared.command.Job.{Job}
use Rattle.gx_play.specs.declared.command.Job.TheVariants.{Play, Rewind, Check, Work, Asm, List as Listing}
use Rattle.gx_play.specs.Commands.{Command}
use Rattle.gx_play.specs.Seeds.{devices_for}
use Rattle.gx_play.specs.Outcomes.{runs, rewinds, outcome_of_job, outcome_of_start, start_for}
use Rattle.gx_play.specs.Outcomes.{outcome_of}
use Rattle.gx_play.proofs.Outcomes.{story_in_file, outcome_of_story}
use Rattle.gx_play.specs.Answers.{IsRunTo}
use Rattle.gx_play.specs.Headline.{ComesOut}
use Rattle.gx_play.proofs.Begun.{IsRunBegun, begins-none, begun-or-not}
use Rattle.rand_core.specs.Steps.{stream_of, steps_u32}
use Rattle.rand_core.specs.Stream.{Stream}
use Rattle.rand_pcg.specs.Pcg.{pcg32}
use Rattle.ops_calc.specs.Generator.{pcg32_of}
use Rattle.gx_session.specs.Configurations.{Configuration, start_of}

-- the words of a seed, and those of a run
abbrev pub seeded_words : ℕ → Stream
seeded_words seed = stream_of (steps_u32 pcg32) (pcg32_of seed)

abbrev pub words_for : Option ℕ → Stream → Stream
words_for seed words = option_map_or (λ number. stream_of (steps_u32 pcg32) (pcg32_of number)) seed words

module _ (entry exit : Devices) (command : Command) (whole : Whole) (log : Option Log) (r : Report) where
  abbrev start_with : Devices → Configuration
  start_with d =
      start_of whole.machine (empty_world command.view command.columns command.rows) d command.echo command.steps log

  abbrev RunsWith : Stream → Stream → Type 0
  RunsWith words left = IsRun (start_with (record entry { words = words })) (record entry { words = words })
      (record exit { words = left }) r

  -- A RUN with the words of the device
  pub run-drawn : command.seed ≡ None → RunsWith entry.words exit.words
      → IsRunTo command.seed (start_for command whole log entry) entry exit r
  run-drawn is run =
      subst (λ (seed : Option ℕ). IsRunTo seed (start_with (devices_for seed entry)) entry exit r) (sym is)
      (exit.words, refl, run)

  -- and with those of a seed, of which these are left
  pub run-seeded : (seed : ℕ) (words left : Stream) → command.seed ≡ Some seed → words ≡ seeded_words seed
      → exit.words ≡ entry.words → RunsWith words left
      → IsRunTo command.seed (start_for command whole log entry) entry exit r
  run-seeded seed words left is same stays run =
      subst (λ (seed : Option ℕ). IsRunTo seed (start_with (devices_for seed entry)) entry exit r) (sym is)
      (left, stays, subst (λ (w : Stream). RunsWith w left) same run)

module _ {A : Type 0} (ended : Ended A) (entry exit : Devices) where
  left-alone : (seed : Option ℕ) → IsSome seed → (left : Stream)
      → exit.words ≡ option_map_or (λ (number : ℕ). entry.words) seed left → exit.words ≡ entry.words
  left-alone None is left are = absurd cc
  left-alone (Some seed) is left are = are

  some-alone : (seed : Option ℕ) (start : Configuration) (shelf : FlatShelf) (asked : Trace) (m : Option Whole)
      → IsSome seed
      → IsSomeAnd m (λ end. IsRunTo seed start (record entry { shelf = shelf }) (record exit { asked = asked })
      (report_of ended end)) → exit.words ≡ entry.words
  some-alone seed start shelf asked None is run = absurd run
  some-alone seed start shelf asked (Some end) is run = left-alone seed is run.0 run.1

  -- A RUN THAT WAS BEGUN has the command's seed
  start-undrawn : (job : Job) (command : Command) (story : FlatStory) (r : Result Whole Fault) → IsSome command.seed
      → IsRunBegun (outcome_of_start job command story entry r) entry exit ended → exit.words ≡ entry.words
  start-undrawn Rewind command story (Ok whole) is begun = left-alone command.seed is begun.run.run.0 begun.run.run.1
  start-undrawn job command story (Ok whole) is begun =
      some-alone command.seed (start_for command whole None entry) begun.shelf begun.asked ended.machine is begun.run
  start-undrawn job command story (Err fault) is none = absurd none

  story-undrawn : (job : Job) (command : Command) (r : Result FlatStory ℕ) → IsSome command.seed
      → IsRunBegun (outcome_of_story job command entry r) entry exit ended → exit.words ≡ entry.words
  story-undrawn job command (Ok story) is begun =
      start-undrawn job command story (first_machine story command.undo) is begun
  story-undrawn job command (Err fault) is none = absurd none

  job-undrawn : (job : Job) (command : Command) (file : Option (List ℕ)) → IsSome command.seed
      → IsRunBegun (outcome_of_job job command file entry) entry exit ended → exit.words ≡ entry.words
  job-undrawn Play command file is begun = story-undrawn Play command (story_in_file file) is begun
  job-undrawn Rewind command file is begun = story-undrawn Rewind command (story_in_file file) is begun
  job-undrawn job command file is begun = absurd (begins-none ended entry exit job command file (λ plays. plays) begun)

  -- THE DEVICE has the words that it had
  pub undrawn : (command : Option Command) → ComesOut command entry exit ended
      → IsSomeAnd command (λ (c : Command). IsSome c.seed) → exit.words ≡ entry.words
  undrawn None comes is = absurd is
  undrawn (Some command) comes is =
      elim (begun-or-not ended entry exit (Some command) comes)
      [ inl begun ↦ job-undrawn command.job command comes.file is begun | inr unrun ↦ unrun.words ]

-- THE OUTCOME is the same over other words
same-words : (seed : Option ℕ) → IsSome seed → (a b : Stream) → words_for seed a ≡ words_for seed b
same-words None is a b = absurd cc
same-words (Some seed) is a b = refl

module _ (command : Command) (entry : Devices) (other : Stream) (is : IsSome command.seed) where
  abbrev start_over : Whole → Option Log → Stream → Configuration
  start_over whole log words =
      start_of whole.machine (empty_world command.view command.columns command.rows)
      (record entry { words = words }) command.echo command.steps log

  start-settled : (job : Job) (story : FlatStory) (r : Result Whole Fault)
      → outcome_of_start job command story (record entry { words = other }) r
      ≡ outcome_of_start job command story entry r
  start-settled Rewind story (Ok whole) =
      ap (λ (w : Stream). rewinds command.seed command.back (start_over whole (Some no_events) w))
      (same-words command.seed is other entry.words)
  start-settled job story (Ok whole) = ap (λ (w : Stream). runs command.seed (start_over whole None w))
      (same-words command.seed is other entry.words)
  start-settled job story (Err fault) = refl

  story-settled : (job : Job) (r : Result FlatStory ℕ)
      → outcome_of_story job command (record entry { words = other }) r ≡ outcome_of_story job command entry r
  story-settled job (Ok story) = start-settled job story (first_machine story command.undo)
  story-settled job (Err fault) = refl

  job-settled : (job : Job) (file : Option (List ℕ))
      → outcome_of_job job command file (record entry { words = other }) ≡ outcome_of_job job command file entry
  job-settled Play file = story-settled Play (story_in_file file)
  job-settled Rewind file = story-settled Rewind (story_in_file file)
  job-settled Check file = refl
  job-settled (Work number) file = refl
  job-settled Asm file = refl
  job-settled Listing file = refl

pub settled : (command : Option Command) (entry : Devices) → IsSomeAnd command (λ (c : Command). IsSome c.seed)
    → (file : Option (List ℕ)) (other : Stream) → outcome_of command file (record entry { words = other })
    ≡ outcome_of command file entry
settled None entry is = absurd is
settled (Some command) entry is = λ file other. job-settled command entry other is command.job file
