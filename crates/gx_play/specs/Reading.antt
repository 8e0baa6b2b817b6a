-- WHAT CONTRACTS NEED, and no reader of the theorem. How the reading of a command line is done: in two steps, each
-- exact but for want of memory.
use Rattle.std.specs.Prelude.{◌≡◌, ◌<◌, ◌≤◌, ◌^◌, true, None, List}
use Rattle.clap.specs.Walk.{is_empty}
use Rattle.clap.specs.Words.{Text, found_of, rows_of}
use Rattle.clap.specs.declared.parser.matches.ArgMatches.{ArgMatches}
use Rattle.gx_undo.specs.Undo.{most_undo}
use Rattle.gx_play.specs.declared.command.Command as declared
use Rattle.gx_play.specs.declared.command.CommandFault.{CommandFault}
use Rattle.gx_play.specs.declared.command.CommandFault.TheVariants.{BadWords, NoMemory}
use Rattle.gx_play.specs.Commands.{Command, faults_of, matched_in, command_of}

-- what a command asks for
abbrev pub command_seen : declared.Command → Command
command_seen c = record {
  story = c.story.now;
  steps = c.steps;
  columns = c.columns;
  rows = c.rows;
  undo = c.undo;
  seed = c.seed;
  back = c.back;
  echo = c.echo;
  view = c.view;
  job = c.job;
}

-- numbers that a run can be played with: fewer than 2^64 units, a screen from 1 by 1 to 255 by 255, and from 1 to 64
-- copies for undo
pub record IsInRange (c : declared.Command) : Type 0 where
  pub steps : c.steps < 2 ^ 64
  pub columns : (1 ≤ c.columns) × (c.columns ≤ 255)
  pub rows : (1 ≤ c.rows) × (c.rows ≤ 255)
  pub undo : (1 ≤ c.undo) × (c.undo ≤ most_undo)

-- the words are matched so
abbrev pub HasMatches : List Text → ArgMatches → Type 0
HasMatches words matches = (is_empty (faults_of words) ≡ true) × (rows_of (found_of matches) ≡ matched_in words)

-- they are no command, or memory ran out
abbrev pub IsUnread : List Text → CommandFault → Type 0
IsUnread words BadWords = command_of words ≡ None
IsUnread words NoMemory = Unit {0}
