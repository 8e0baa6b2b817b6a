-- What calls come to in both views, by what they are made of.
use Rattle.std.proofs.Common.{ℕ, Bool, true, false, if◌then◌else◌, Result, Ok, Err}
use Rattle.gx_words.specs.declared.faults.Fault.{Fault}
use Rattle.gx_words.specs.Results.{◌>>=◌}
use Rattle.gx_state.specs.declared.effects.Reply.{Reply}
use Rattle.glk_screen.specs.Wrapper.{FlatWrapper, restarted}
use Rattle.glk_world.specs.World.{Scene, silent, Outcome}
use Rattle.glk_object_calls.specs.Answers.{replying, as_turn}
use Rattle.glk_views.specs.Beside.{in_wrapping, in_plain, SaysBeside, ComesBeside, comes_to, fails}
use Rattle.glk_views.proofs.Says.{quiet, after_taken}

module _ (rows : Bool) (limit : ℕ) where
  pub turned : {most : ℕ} {r : FlatWrapper} {o p : Outcome Reply} → ComesBeside most rows limit r o p
      → ComesBeside most rows limit r (as_turn o) (as_turn p)
  turned (comes_to says) = comes_to says
  turned (fails e) = fails e

  pub comes_if : {X : Type 0} (c : Bool) {most : ℕ} {r : FlatWrapper} {o1 p1 o2 p2 : Outcome X}
      → ComesBeside most rows limit r o1 p1 → ComesBeside most rows limit r o2 p2
      → ComesBeside most rows limit r (if c then o1 else o2) (if c then p1 else p2)
  comes_if true h k = h
  comes_if false h k = k

  -- the scene where something holds, or another
  pub scene_if : (c : Bool) {r : FlatWrapper} {v1 v2 u1 u2 : Scene} → SaysBeside 0 rows limit r (silent v1) (silent v2)
      → SaysBeside 0 rows limit r (silent u1) (silent u2)
      → SaysBeside 0 rows limit r (silent (if c then v1 else u1)) (silent (if c then v2 else u2))
  scene_if true h k = h
  scene_if false h k = k

  -- a look first
  pub looked : {X : Type 0} (look : Result (Unit {0}) Fault) {most : ℕ} {r : FlatWrapper} {o p : Outcome X}
      → ComesBeside most rows limit r o p → ComesBeside most rows limit r (look >>= λ there. o) (look >>= λ there. p)
  looked (Ok there) h = h
  looked (Err e) h = fails e

  -- something first that both find
  pub bound : {X Y : Type 0} (first : Result Y Fault) (call : Scene → Y → Outcome X) (r : FlatWrapper) (w : Scene)
      → ((y : Y) → ComesBeside 0 rows limit r (call (in_wrapping rows r w) y) (call (in_plain rows limit w) y))
      → ComesBeside 0 rows limit r (first >>= call (in_wrapping rows r w)) (first >>= call (in_plain rows limit w))
  bound (Ok y) call r w h = h y
  bound (Err e) call r w h = fails e

  pub replied : (given : Result Reply Fault) (r : FlatWrapper) (w : Scene)
      → ComesBeside 0 rows limit r (replying (in_wrapping rows r w) given) (replying (in_plain rows limit w) given)
  replied (Ok reply) r w = comes_to (quiet rows limit r w)
  replied (Err e) r w = fails e

  -- after a line was taken
  pub comes_taken : {X : Type 0} {r : FlatWrapper} {o p : Outcome X} → ComesBeside 0 rows limit (restarted r) o p
      → ComesBeside 1 rows limit r o p
  comes_taken (comes_to says) = comes_to (after_taken rows limit says)
  comes_taken (fails e) = fails e
