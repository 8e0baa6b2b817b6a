-- What stands between two moves of a session, and what a move comes to.
use Rattle.std.specs.Prelude.{ℕ, Bool, List, [], Option}
use Rattle.gx_outside.specs.Shelves.{Request, Answer, Trace, told_by}
use Rattle.gx_machine.specs.Machine.{FlatMachine}
use Rattle.gx_machine.specs.Log.{Log}
use Rattle.glk_world.specs.World.{FlatWorld}
use Rattle.glk_replies.specs.declared.Turn.{Turn}
use Rattle.glk_replies.specs.declared.Given.{Given}
use Rattle.gx_session.specs.Devices.{Devices}
use Rattle.gx_session.specs.declared.ends.Stop.{Stop}
use Rattle.gx_session.specs.declared.running.GlkWait.{GlkWait}
use Rattle.rand_core.specs.Stream.{Stream}

-- What comes next.
pub data Phase : Type 0 where
  steps : Phase  -- a step of the machine
  asks : Turn → GlkWait → Phase  -- a device is asked for what the turn of a Glk call says
  goes_on : Given → GlkWait → Phase  -- the call goes on with what it was given

-- What stands after some moves.
pub record Configuration : Type 0 where
  pub machine : FlatMachine
  pub world : FlatWorld  -- with all the text that was shown
  pub sent : List (List ℕ)  -- what was sent of it, call by call
  pub input : List ℕ  -- the bytes of input that weren't taken
  pub echo : Bool  -- each line that is taken is shown
  pub answers : Trace → Request → Answer  -- what the shelf answers to a request, after these calls
  pub asked : Trace  -- the calls of the shelf
  pub words : Stream  -- the random words that weren't used
  pub left : ℕ  -- the units of the budget that weren't used
  pub log : Option Log  -- what is recorded of the run, where it is: see gx_machine
  pub phase : Phase

-- What a move comes to: the next configuration, or a stop at one.
pub data Verdict : Type 0 where
  moves_to : Configuration → Verdict
  stops : Stop → Configuration → Verdict

-- The first configuration: nothing was taken of what the devices hold, and the shelf answers by its files.
abbrev pub start_of : FlatMachine → FlatWorld → Devices → Bool → ℕ → Option Log → Configuration
start_of machine world d echo left log = record {
  machine = machine;
  world = world;
  sent = [];
  input = d.source.left;
  echo = echo;
  answers = told_by d.shelf.files;
  asked = [];
  words = d.words;
  left = left;
  log = log;
  phase = steps;
}
