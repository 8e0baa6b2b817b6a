-- A run with `--wrap`, beside the same run without it.
use Rattle.std.specs.Prelude.{◌≡◌, ◌≤◌, ℕ, suc, Bool, List, [], Option}
use Rattle.std.specs.Str.{encode_utf8_all}
use Rattle.gx_machine.specs.Machine.{Whole}
use Rattle.gx_machine.specs.Log.{Log}
use Rattle.gx_outside.specs.Shelves.{Request, Answer, Trace}
use Rattle.glk_screen.specs.Wrapper.{no_row}
use Rattle.glk_screen.specs.Laws.{IsWrapped}
use Rattle.glk_world.specs.declared.views.View.{View}
use Rattle.glk_world.specs.World.{FlatWorld}
use Rattle.glk_views.specs.Parts.{Part, as_it_comes, lines_taken, wrapped}
use Rattle.glk_views.specs.Laws.{RowsStay}
use Rattle.glk_views.specs.Beside.{wrapping_view, plain_view, in_plain}
use Rattle.gx_session.specs.Devices.{Devices}
use Rattle.gx_session.specs.Input.{line, next_line}
use Rattle.gx_session.specs.Configurations.{Configuration}
use Rattle.gx_session.specs.Session.{RunEnd, final_of}
use Rattle.gx_play.specs.Commands.{Command}
use Rattle.gx_play.specs.Outcomes.{start_for}

-- a configuration in the view that doesn't wrap, with this text, of which this was sent
abbrev pub unwrapped : Bool → ℕ → List ℕ → List (List ℕ) → Configuration → Configuration
unwrapped grids columns text sent m =
    let world : FlatWorld = record { scene = in_plain grids columns m.world.scene; text = text } in
    record m { world = world; sent = sent }

-- So many lines were taken from an input, one after another, and this is left.
pub data TakesLines (input : List ℕ) : ℕ → List ℕ → Type 0 where
  none_taken : TakesLines input 0 input
  one_more : {n : ℕ} {left chars rest : List ℕ} → TakesLines input n left → next_line left ≡ line chars rest
      → TakesLines input (suc n) rest

-- The two ends of a run, with `--wrap` and without, are the same but for the view, its row, the text and what was sent
-- of it call by call: the same stop, machine, input left, words and units left, calls of the shelf, record and objects
-- of Glk. Both texts are made of the same parts (`Part` of glk_views/specs/Parts), one of them wrapped from an empty
-- row on, of which nothing is held back in the end. So the wrapped text is the other one but for the breaks, and its
-- rows stay within the columns. A row begins after a line that was taken; of these the parts have no more than were
-- taken from the input.
pub record IsWrappedRun (grids : Bool) (columns : ℕ) (input : List ℕ) (with_wrap without : RunEnd) : Type 0 where
  pub stop : with_wrap.stop ≡ without.stop
  pub rest : let end = without.configuration in
      unwrapped grids columns end.world.text end.sent with_wrap.configuration ≡ end
  pub parts : List Part
  pub text : without.configuration.world.text ≡ encode_utf8_all (as_it_comes parts)
  pub wrapped_text : with_wrap.configuration.world.text ≡ encode_utf8_all (wrapped (no_row columns) parts).0
  pub none_held : (wrapped (no_row columns) parts).1.row ≡ []
  pub kept : IsWrapped (as_it_comes parts) (wrapped (no_row columns) parts).0
  pub within : RowsStay (no_row columns) parts
  pub count : ℕ
  pub takes : TakesLines input count without.configuration.input
  pub lines : lines_taken parts ≤ count

-- the configuration in which a command's run begins in this view, with this input and these answers of the shelf
abbrev pub start_with_input : View → Command → Whole → Option Log → Devices → List ℕ → (Trace → Request → Answer)
    → Configuration
start_with_input v command whole log entry input answers =
    record (start_for (record command { view = v }) whole log entry) { input = input; answers = answers }

-- THE RUN OF A COMMAND WITH `--wrap`, with rows of grids or without them, is so beside its run without `--wrap`, with
-- whatever input and answers of the shelf.
abbrev pub WrapsRuns : Type 0
WrapsRuns = (grids : Bool) (command : Command) (whole : Whole) (log : Option Log) (entry : Devices) (input : List ℕ)
    (answers : Trace → Request → Answer)
    → IsWrappedRun grids command.columns input
    (final_of (start_with_input (wrapping_view grids) command whole log entry input answers))
    (final_of (start_with_input (plain_view grids) command whole log entry input answers))
