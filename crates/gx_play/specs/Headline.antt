-- THE HEADLINE: what `play` does (crates/gx_play/src/entry.rt), the call that the program makes.
--
-- Give it a command line, and an input, an output, a shelf of files and random words of any kind. It comes to the
-- outcome that `outcome_of` of specs/Outcomes gives for the command line and for the file of the name in it, and to
-- nothing else. (Names without a file are defined at the end of this file: they are the contract and its fields.)
--
-- - The words are not understood. This is so exactly where specs/Commands has no command for them. Then nothing at all
--   is done. Or there is no story: the status and the number of the fault say so. No input is read, no text sent, no
--   word drawn and no machine made.
-- - The story's start function can't be entered: status 3, with the fault and the function's address. Nothing is read,
--   sent or drawn then either.
-- - Else the story runs. The run is the session of gx_session/specs/Session, from the story's first machine, with the
--   command's depth of undo, to the session's end (`IsRun` of gx_session/specs/Runs, and there `EndsAt`). Its status,
--   fault, address and steps are those of that end. So are the machine and what it asks, the text, and the input and
--   the random words that are left (one more word may be drawn, since a step is handed the word that it may use). So
--   are the calls of the sink, one by one: which bytes of the text each was handed, and that it took them whole
--   (`sends_are` of `EndsAt`). And so are the calls of the shelf, one by one: what was loaded, stored, removed and
--   looked for, under which names and in which order, and what the shelf answered (`asked_are` of `EndsAt`).
-- - Or the run was cut short, because a device failed or memory ran out (`StopsEarly` of Runs). Then the machine stands
--   at one of the session's configurations. The calls of the sink and of the shelf are those up to there, and the
--   refused one, if it was one of these two that refused.
-- - In job rewind the story runs just so, and its run is recorded. If it came to its end, with a status below 8, one
--   line of specs/Rewinding follows the text as it stands, also in mid-line. The line tells of the machine at the
--   newest beginning of a step since when at least so many units were used as the command says; at the first one, if
--   fewer were used; at the end, if the command says 0. That machine is one of the run's, with the units that were used
--   up to it (`records` of `IsRun`). A step whose Glk call ended the program isn't recorded, so that the end is then
--   where it began. Text, files, status, fault, address and steps are those of the run. But the sink may fail at the
--   line (status 10), or memory may run out (11): then some front of the line was sent. No machine is handed back.
-- - In the jobs check and work one line of specs/Jobs is sent, with its status, or a front of it if the output fails or
--   wants memory. No machine is handed back. Every number has a story that can be started (`works`).
-- - In job asm the story of the code that the file's text spells is sent, and in job list the text of the story's start
--   function, or a front of it. A text without a code, and a story without a listing, come to a status of their own,
--   with the fault that the definitions of gx_asm have for it and the line or the address where it stands. Nothing is
--   sent then.
-- - Or nothing was begun, because the shelf failed or memory ran out before.
--
-- If no run was begun, no machine is handed back, no step is done, no input is read and no random word is drawn. In the
-- jobs that play a story no text is sent then (`IsUnrun` and `HasNoMachine` in `Plays` of specs/Answers, whose outcome
-- in these jobs is `refused`).
--
-- The text of a session is that of the view that the command line chooses (`view_for` in specs/Commands; what each view
-- shows is said in glk_world/specs/Shown and Putting). All of this holds in each view:
--
-- - As usual it is what is put to text buffer windows, in that order, with the prompts for names of files, and with
--   `--echo` the lines that are taken; and before a line is awaited the rows of each grid that has changed, each row
--   behind a bar.
-- - With `--plain` it is the same without the rows of grids: text alone.
-- - With `--screen` it is the whole screen, composed of all windows (`composed` in glk_screen/specs/Screen): at each
--   wait for a line, with the prompt behind it where a name is asked for, and at the end once more, where it differs
--   from the screen that was shown last (`final_of` of gx_session/specs/Session). Nothing else is text then.
-- - With `--wrap`, beside `--plain` or not, all of that text but the rows of grids is cut into rows of the screen's
--   columns as it comes (`wrapped_char` in glk_screen/specs/Wrapper). A row that isn't full is held back, and is no
--   text before it is full or ends, or a wait, a prompt or the end of the run lets it go. Whatever characters come,
--   what is let go and what is held is these characters, but for the breaks: each took the place of one blank, or was
--   added. And no row is wider, but for one that a single character makes so; a row begins anew after a line that was
--   taken (`wrapping`). The characters that come are those of the same run without `--wrap` (`wrapped`, with
--   `IsWrappedRun` of specs/Wrapped): with whatever input and answers of the shelf, that run stops in the same way,
--   with the same machine, input, calls of the shelf and objects of Glk, and the texts of both are made of the same
--   parts. Only where text is sent differs, since the one has other bytes than the other. Of runs that are cut short
--   this law says nothing.
--
-- The random words are the device's, or with `--seed` those of specs/Seeds. Then the device isn't asked for any, in any
-- job and whatever the end (`undrawn`), and the outcome is the same for any other words that it might hold (`settled`).
-- So status, fault, address, steps, text, files and machine of a session are a function of the command line, the story,
-- the files and the input alone.
--
-- Text and code spell each other (`spelling`). A text is assembled to a code exactly if it spells it, and a code is
-- listed as a text exactly if the text spells it, so that each undoes the other. The story of a code is accepted, and
-- listed as its instructions up to the first quit or return. A machine that comes to an instruction's bytes sees that
-- instruction.
--
-- The shelf is asked once for the file, and then exactly as the session asks it. In job work it isn't asked. If it
-- tells what it holds, each answer is that of its files as the calls before left them, and its files at the end are
-- what the calls make of them, but for the one that a refused store or remove leaves open (`shelf_calls`). What a
-- source and a sink that tell hold at the end follows likewise (`source_calls`, `sink_calls`).
--
-- Text is sent before the shelf or the source is asked for anything (below it is said why: no clause sets the calls of
-- two devices in order). Each read of the source has room for 4,096 bytes, and none is read where no line is awaited.
-- Fewer than 4,096 bytes are read ahead of the lines that were taken. There are three exceptions: a line that was
-- awaited and is too long; one in which the source failed (then fewer than 65,536; `LeavesInput` of
-- gx_session/specs/Reads); and one in which memory was wanted, of which nothing is said.
--
-- The status blames a device exactly if a call of it failed in this run, which was then its last one (`counts`; of a
-- counter that is at the end of its type nothing is said). If the source and the shelf tell what they hold and no count
-- of failures rose, the status is the outcome's, or memory ran out (`complete`). Every session comes to its stop by a
-- move, so that `final_in` of gx_session/specs/Session is never left without moves (`StopsByMove` there).
--
-- Each restoreundo of the session goes back to the newest saveundo that was neither used, nor discarded, nor dropped as
-- the oldest (`LastsUndo` of gx_session/specs/Undoing), whatever was restored from files in between. The protected
-- range keeps its bytes. No way back has a fault (`IsSoundStep` of gx_session/specs/Sound). At each step that the run
-- makes, each copy that is kept can be gone back to, and -1 is delivered to the store operand of its saveundo. So can
-- the copy that a restore reads, and -1 is delivered to the store operand of its save. The bytes that each save of the
-- session puts to its stream are read as the very copy that was saved (`IsSoundStep` too), and so are those of every
-- copy that fits the story. A save that was one while memory had a lower ceiling, such as 0x04000000, is restored as
-- the same copy (`SavesReadBack` of gx_session/specs/Saving).
--
-- A Glk call goes on only where one waits for what it is given. Then it has an answer, or a fault, and no further turn
-- (`IsSoundCall` of Sound). Where a call asks a device, a line is awaited, or the shelf is asked for something
-- (`IsSoundBy`). All this, and what is said of the ways back and of saves, holds of each move of the run, the one that
-- stops it among them; of a run that was cut short it holds up to there (`moves_are_sound` of `EndsAt` and of
-- `StopsEarly`).
--
-- Premises: that the story's file is the one that the shelf holds is said of a shelf that tells what it holds, as one
-- in memory does. A real one doesn't. There the run is that of the bytes that it handed out (`loads`), and the
-- session's answers are those that it gave (`answers` in `IsRun` of gx_session/specs/Runs): whatever a shelf does, the
-- session's calls are those that were made, with the answers that came. Likewise the input is what a source that tells
-- has left; for a real one it is the bytes that its reads gave, one after another, and some that may be still to come
-- (`GiveInput` of gx_session/specs/Reads). Which bytes a sink was handed, call by call, is said of every sink; which of
-- them it took, of one that tells. What a call does to a device, `called`, may be no more than how it is counted, as
-- with the program's own devices. For these no clause says that the calls here are those that were made: that rests on
-- `play` being proved for every source, sink and shelf.
--
-- Each of the three devices has a trace of its own. No clause sets a call of one beside a call of another, but their
-- order follows. Any of them may fail at any call, and `play` can't know that a call will fail before it is made. If
-- one fails, the run is cut short at one configuration, and the traces of the other two are those of the session up to
-- there (`StopsEarly`): no later send or store is among them, and no earlier one is missing. So the same calls came
-- before it in a run where it doesn't fail. A read may be made ahead of what is taken. But it may give all 4,096 bytes,
-- and fewer are held then (`LeavesInput`), so that none is made before its line is awaited.
--
-- Limits: nothing is said of time, nor of how much memory a run takes; that ample memory suffices is only tested.
-- Nothing is said of what a terminal makes of the text: the composed screen counts columns by the crate unicode_width.
-- Some definitions are total where no run comes to one of their cases, and no clause here says that none does. Those
-- that a reader meets are
--   - in gx_session/specs/Moves a step that is Spent by itself (`after_effect`; no row has this effect, and that isn't
--     proved apart);
--   - in gx_machine/specs/Step a step with an empty stack (`step_of`; the run has ended once its start function has
--     returned);
--   - an answer or a copy where the instruction at PC is none that asks (`answered_row` and `answered_in` of
--     gx_machine/specs/Answer, `saved_copy` of its SavedCopies; `IsPendingAnswer` of its Views holds of every machine
--     that has asked).
-- Status 11 (`status_no_memory`) is a free answer wherever memory may be wanted: before anything is done, whatever the
-- words are, so that a body that does nothing and answers so meets the contract; once the file was asked for, only
-- where there is something that may want it (`ComesOut.memory`; `StopsEarly` of gx_session/specs/Runs; `IsRewound` and
-- `AnswersSend` of specs/Answers). docs/PROVED.md names each place, under "Where memory may be wanted".
--
-- The definitions on which the contract stands, in the order of reading: Outcomes (what a command line comes to),
-- Answers (what is answered and left behind then, with a run or without one), FirstLoad (the one load of the file),
-- Statuses (what goes with each status), Wrapped (a run with `--wrap` beside the same without it); Commands, Jobs,
-- Rewinding, Seeds, Spelling and Constants, which these name.
-- Loading, Reading and Silent are no part of it: they are what the contracts of the parts of `play` need.
use Rattle.std.specs.Prelude.{◌≡◌, ◌≢◌, ℕ, List, ◌⊎◌, ◌↔◌, true, Option, None, IsSome, IfSome, IsSomeAnd}
use Rattle.std.specs.Option.{option_and_then}
use Rattle.glk_screen.specs.Laws.{WrappingKeeps}
use Rattle.gx_outside.specs.Chains.{Chain}
use Rattle.gx_outside.specs.Outside.{raised_by}
use Rattle.gx_outside.specs.Reads.{SourceCall}
use Rattle.gx_outside.specs.Sends.{SinkCall}
use Rattle.gx_outside.specs.Shelves.{ShelfCall}
use Rattle.gx_session.specs.declared.ended.Ended.{Ended}
use Rattle.gx_session.specs.Constants.{status_bad_words, status_shelf_fault, status_no_memory}
use Rattle.gx_session.specs.Devices.{Devices}
use Rattle.gx_play.specs.declared.command.Job.TheVariants.{Play}
use Rattle.gx_play.specs.Commands.{Command}
use Rattle.gx_play.specs.Jobs.{work_machine}
use Rattle.gx_play.specs.Spelling.{IsSpelling}
use Rattle.gx_play.specs.Outcomes.{outcome_of, status_of_outcome}
use Rattle.gx_play.specs.Answers.{IsUnbegun, Plays}
use Rattle.gx_play.specs.FirstLoad.{LoadsFirst, JobMayWant}
use Rattle.gx_play.specs.Statuses.{PlaysStory, HasItsParts}
use Rattle.gx_play.specs.Wrapped.{WrapsRuns}
use Rattle.rand_core.specs.Stream.{Stream}
use Rattle.gx_session.specs.Counts.{FailureCounts}

-- A COMMAND LINE COMES TO ITS OUTCOME, or nothing was begun, because the shelf failed or memory ran out. The file is
-- loaded first, unless memory ran out before anything was done.
pub record ComesOut {A : Type 0} (command : Option Command) (entry exit : Devices) (ended : Ended A) : Type 0 where
  pub file : Option (List ℕ)
  pub file_is : IfSome command (λ c. entry.shelf.tells ≡ true → file ≡ entry.shelf.files c.story)
  pub loads : IfSome command
      (λ c. LoadsFirst c.job c file exit.asked ⊎ ((ended.status ≡ status_no_memory) × (exit ≡ entry)))
  pub plays : Plays (outcome_of command file entry) entry exit ended
      ⊎ IsUnbegun status_shelf_fault 0 0 entry exit ended ⊎ IsUnbegun status_no_memory 0 0 entry exit ended
  pub memory : ended.status ≡ status_no_memory → (exit ≡ entry) ⊎ IsSomeAnd command (λ c. JobMayWant c.job file)

-- No count of failures rose. (One that stands at 2^64 - 1 counts as one that rose.)
pub record HasNoFailure (entry exit : Devices) : Type 0 where
  pub source : exit.source.calls.faults ≢ raised_by 1 entry.source.calls.faults
  pub sink : exit.sink.calls.faults ≢ raised_by 1 entry.sink.calls.faults
  pub shelf : exit.shelf.calls.faults ≢ raised_by 1 entry.shelf.calls.faults

-- THE CONTRACT OF `play`, by what the words of the command line ask for, between what the devices hold at entry and at
-- exit.
pub record IsPlayed {A : Type 0} (command : Option Command) (entry exit : Devices) (ended : Ended A) : Type 0 where
  pub headline : ComesOut command entry exit ended
  pub source_calls : Chain SourceCall entry.source exit.reads exit.source
  pub sink_calls : Chain SinkCall entry.sink exit.sends exit.sink
  pub shelf_calls : Chain ShelfCall entry.shelf exit.asked exit.shelf
  pub bad_words : (ended.status ≡ status_bad_words) ↔ ((command ≡ None) × (ended.status ≢ status_no_memory))
  -- without a command nothing is done
  pub unread : command ≡ None → exit ≡ entry
  -- with a seed no word is drawn, and the outcome is the same whatever words the device holds
  pub undrawn : IsSomeAnd command (λ c. IsSome c.seed) → exit.words ≡ entry.words
  pub settled : IsSomeAnd command (λ c. IsSome c.seed) → (file : Option (List ℕ)) (other : Stream)
      → outcome_of command file (record entry { words = other }) ≡ outcome_of command file entry
  pub counts : FailureCounts entry exit ended.status
  -- where the source and the shelf tell what they hold and no device failed, the status is the outcome's, or memory ran
  -- out
  pub complete : entry.source.tells ≡ true → entry.shelf.tells ≡ true → HasNoFailure entry exit
      → (let file = option_and_then (λ (c : Command). entry.shelf.files c.story) command in
      (ended.status ≡ status_of_outcome (outcome_of command file entry)) ⊎ (ended.status ≡ status_no_memory))
  pub parts : HasItsParts (IfSome command (λ c. PlaysStory c.job)) (IfSome command (λ c. c.job ≡ Play)) ended
  pub works : (number : ℕ) → IsSome (work_machine number)
  pub spelling : IsSpelling
  pub wrapping : WrappingKeeps
  pub wrapped : WrapsRuns
