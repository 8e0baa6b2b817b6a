-- What holds of each move that a run makes, beside what it comes to.
--
-- Some definitions have a case that no run comes to: a copy to which there is no way back, a call that goes on where
-- none waits for that, or that goes on to a further turn, and a turn that asks for nothing. A sound move comes to none
-- of these. And what it saves is read back.
use Rattle.std.specs.Prelude.{◌≡◌, ℕ, ◌<◌, ◌⊎◌, false, Option, Some, None, Ok, IsSome, IfSome, IfOk, IsTrue}
use Rattle.gx_words.specs.Constants.{ceiling}
use Rattle.gx_state.specs.declared.effects.Effect.TheVariants as effect
use Rattle.gx_state.specs.Flat.{FlatState}
use Rattle.gx_machine.specs.SavedCopies.{saved_copy}
use Rattle.gx_machine.specs.WaysBack.{HasWayBack, HasWaysBack}
use Rattle.glk_replies.specs.declared.Given.{Given}
use Rattle.glk_replies.specs.Turns.{IsAnswered}
use Rattle.glk_dispatch.specs.Going.{glk_go_on}
use Rattle.glk_dispatch.specs.Turns.{Awaits}
use Rattle.quetzal.specs.ReadingSaves.{copy_in_save}
use Rattle.quetzal.specs.Writing.{save_bytes}
use Rattle.gx_session.specs.Saving.{restoring, is_save_begun}
use Rattle.gx_session.specs.declared.running.GlkWait.{GlkWait}
use Rattle.gx_session.specs.Configurations.{Configuration, Phase, steps, asks, goes_on}
use Rattle.gx_session.specs.Moves.{request_of, sends_now}
use Rattle.gx_session.specs.Session.{run_of}
use Rattle.gx_session.specs.Asked.{effect_at}
use Rattle.gx_session.specs.Wants.{IsWait}

-- What is saved of a state is read back as it was.
abbrev pub IsReadBack : FlatState → Type 0
IsReadBack f = copy_in_save ceiling (save_bytes f.story (saved_copy f)) f.story ≡ Ok (saved_copy f)

-- A step, and what Glk does for it.
pub record IsSoundStep (m : Configuration) : Type 0 where
  -- The way back to each copy that is kept for undo has no fault, so that a restoreundo with a copy delivers -1.
  pub backs : HasWaysBack m.machine
  -- A restore that reads a copy goes back to it without a fault, and delivers -1.
  pub restores : (stream : ℕ) → effect_at m ≡ Some (effect.Restore stream)
      → IfOk (restoring m.world.scene m.machine.flat stream) (λ r. IfSome r.1 (HasWayBack m.machine.flat))
  -- If a save is begun, what it saves of the state is read back as it was.
  pub saves : (stream : ℕ) → effect_at m ≡ Some (effect.Save stream)
      → IsTrue (is_save_begun m.world.scene m.machine.flat stream) → IsReadBack m.machine.flat

-- A call that goes on with what it was given.
pub record IsSoundCall (m : Configuration) (g : Given) (w : GlkWait) : Type 0 where
  -- A call waits, and for this.
  pub awaits : Awaits m.world.scene g
  -- It has an answer, or a fault, and no further turn.
  pub answers : IfOk (glk_go_on m.world.scene m.machine.flat w.room g) (λ r. IsAnswered r.1)

-- What comes next. Where a device is asked, a line is awaited, or the shelf is asked for something.
abbrev pub IsSoundBy : Phase → Configuration → Type 0
IsSoundBy steps m = IsSoundStep m
IsSoundBy (asks t w) m = IsWait t ⊎ IsSome (request_of t)
IsSoundBy (goes_on g w) m = IsSoundCall m g w

-- The move from here, unless it sends text: such a move does nothing else.
abbrev pub IsSoundMove : Configuration → Type 0
IsSoundMove m = sends_now m ≡ false → IsSoundBy m.phase m

-- So it is with the first so many moves of a run, or else with all of them, the one that stops it among them.
abbrev pub MovesSoundly : Configuration → Option ℕ → Type 0
MovesSoundly start (Some moves) = (i : ℕ) (m : Configuration) → i < moves → run_of start i ≡ Some m → IsSoundMove m
MovesSoundly start None = (i : ℕ) (m : Configuration) → run_of start i ≡ Some m → IsSoundMove m
