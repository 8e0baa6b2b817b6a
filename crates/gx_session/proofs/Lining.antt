-- A line that was taken is shown, and the call goes on with it.
use Rattle.std.proofs.Common.{◌≡◌, ℕ, List, if◌then◌else◌, Option, Bool, true, false, Err, refl, subst, sym}
use Rattle.gx_machine.specs.Machine.{Whole}
use Rattle.gx_machine.specs.Log.{Log}
use Rattle.glk_world.specs.World.{FlatWorld, after}
use Rattle.glk_world.specs.Shown.{show_line}
use Rattle.glk_dispatch.specs.Turns.{Awaits}
use Rattle.glk_replies.specs.declared.Given.{Given}
use Rattle.glk_replies.specs.declared.Given.TheVariants as given
use Rattle.glk_dispatch.proofs.Awaited.{awaits-line}
use Rattle.gx_session.specs.declared.ends.Halt.{Halt}
use Rattle.gx_session.specs.declared.ends.Halt.TheVariants as halt
use Rattle.gx_session.specs.declared.running.Running.{Running}
use Rattle.gx_session.specs.declared.running.GlkWait.{GlkWait}
use Rattle.gx_session.specs.Configurations.{Configuration, goes_on}
use Rattle.gx_session.specs.Holding.{SendStep, Handed, held_by, asking_in}
use Rattle.gx_session.specs.Standing.{IsInCall, TakesInput}
use Rattle.gx_session.specs.Outcomes.{EventGives}
use Rattle.gx_session.proofs.Asking.{line-wants, line-taken}

-- what a call awaits is the same once a line is shown
pub awaits-shown : (w : FlatWorld) (chars : List ℕ) (g : Given) (b : Bool) → Awaits w.scene g
    → Awaits (if b then after w (show_line w.scene chars) else w).scene g
awaits-shown w chars g true is = awaits-line w.scene chars g is
awaits-shown w chars g false is = is

module _ {K : Type 0} {sending : SendStep K} {E : Type 0} (whole : E → Whole) (log : E → Option Log)
    (old mid : Running E) (coming chars : List ℕ) (w : GlkWait) (start : Configuration) (entry d : Handed sending)
    (r : TakesInput start entry (held_by whole log old coming) (asking_in whole old) d chars w) where
  -- the showing wants memory
  pub line-refused : (e : Halt) → e ≡ halt.NoMemory → old.echo ≡ true → mid ≡ record old { world = mid.world }
      → EventGives start entry (held_by whole log mid coming) (asking_in whole mid) d (Err e)
  line-refused e memory shows same =
      subst (λ (x : Halt). EventGives start entry (held_by whole log mid coming) (asking_in whole mid) d (Err x))
      (sym memory)
      (subst (λ (x : Running E). EventGives start entry (held_by whole log x coming) (asking_in whole x) d
      (Err halt.NoMemory)) (sym same)
      (line-wants start entry (held_by whole log old coming) d (asking_in whole old) w chars r
      (held_by whole log (record old { world = mid.world }) coming) shows refl refl refl))

  -- it is shown
  pub line-shown : mid ≡ record old {
    world = if old.echo then after old.world (show_line old.world.scene chars)
        else old.world;
  }
      → IsInCall start entry (held_by whole log mid coming) (asking_in whole mid) d (goes_on (given.Line chars) w)
  line-shown same =
      subst (λ (x : Running E). IsInCall start entry (held_by whole log x coming) (asking_in whole x) d
      (goes_on (given.Line chars) w)) (sym same)
      (line-taken start entry (held_by whole log old coming) d (asking_in whole old) w chars r
      (if old.echo then after old.world (show_line old.world.scene chars) else old.world) refl)
