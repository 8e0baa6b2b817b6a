-- The moves of a run are sound.
use Rattle.std.proofs.Common.{◌≡◌, ℕ, zero, suc, ◌≤◌, inl, inr, true, Option, Some, None, option_and_then, ap}
use Rattle.std.proofs.Common.{subst, sym, ◌∙◌, arith, Result, IfOk, IfSome}
use Rattle.std.proofs.lemmas.Bool.{cases_lt}
use Rattle.gx_words.specs.declared.faults.Fault.{Fault}
use Rattle.gx_state.specs.Copies.{Copy}
use Rattle.gx_state.specs.declared.effects.Effect.{Effect}
use Rattle.gx_state.specs.declared.effects.Effect.TheVariants as effect
use Rattle.gx_machine.specs.WaysBack.{HasWayBack, HasWaysBack}
use Rattle.glk_world.specs.World.{Said}
use Rattle.gx_session.specs.declared.ends.Stop.{Stop}
use Rattle.gx_session.specs.Configurations.{Configuration, stops}
use Rattle.gx_session.specs.Moves.{sends_now, move_of}
use Rattle.gx_session.specs.Saving.{restoring}
use Rattle.gx_session.specs.Session.{next_configuration, run_of}
use Rattle.gx_session.specs.Asked.{effect_at}
use Rattle.gx_session.specs.Sound.{IsReadBack, IsSoundStep, IsSoundMove, MovesSoundly}
use Rattle.gx_session.proofs.Parts.{BeginsSave}

-- an effect that restores goes back to the copy that it reads
abbrev pub RestoresBack : Configuration → Option Effect → Type 0
RestoresBack m (Some (effect.Restore stream)) =
    IfOk (restoring m.world.scene m.machine.flat stream) (λ r. IfSome r.1 (HasWayBack m.machine.flat))
RestoresBack m e = Unit {0}

-- a step that does this, if it has an effect
pub step-sound : (m : Configuration) (does : Effect) → ((other : Effect) → effect_at m ≡ Some other → other ≡ does)
    → HasWaysBack m.machine → RestoresBack m (Some does)
    → (BeginsSave m (Some does) → IsReadBack m.machine.flat) → IsSoundStep m
step-sound m does only backs restores saves = record {
  backs = backs;
  restores = λ stream at. subst (λ (e : Effect). RestoresBack m (Some e)) (sym (only (effect.Restore stream) at)) restores;
  saves = λ stream at begins.
      saves (subst (λ (e : Effect). BeginsSave m (Some e)) (only (effect.Save stream) at) begins);
}

pub some-is : {A : Type 0} (a b : A) → Some a ≡ Some b → a ≡ b
some-is a b e = cc

-- one that has this effect
pub only-one : (m : Configuration) (does : Effect) → effect_at m ≡ Some does
    → (other : Effect) → effect_at m ≡ Some other → other ≡ does
only-one m does at other at' = some-is other does (sym at' ∙ at)

-- one that has none
pub only-none : (m : Configuration) (does : Effect) → effect_at m ≡ None
    → (other : Effect) → effect_at m ≡ Some other → other ≡ does
only-none m does none other at = cc

-- a restore that has a fault, or reads no copy, or reads this one
pub reads-so : (m : Configuration) (stream : ℕ) (r : Result (Said × Option Copy) Fault)
    → restoring m.world.scene m.machine.flat stream ≡ r → IfOk r (λ p. IfSome p.1 (HasWayBack m.machine.flat))
    → RestoresBack m (Some (effect.Restore stream))
reads-so m stream r is back =
    subst (λ (x : Result (Said × Option Copy) Fault). IfOk x (λ p. IfSome p.1 (HasWayBack m.machine.flat))) (sym is) back

-- one more move
pub sound-more : (start : Configuration) (n : ℕ) (m : Configuration) → run_of start n ≡ Some m → IsSoundMove m
    → MovesSoundly start (Some n) → MovesSoundly start (Some (suc n))
sound-more start n m reached sound before i m' less reached' =
    elim (cases_lt i n) [
      | inl low ↦ before i m' low reached'
      | inr high ↦ let at : i ≡ n = omega arith in
          subst IsSoundMove (some-is m m' (sym reached ∙ ap (λ (k : ℕ). run_of start k) (sym at) ∙ reached')) sound
    ]

-- nothing comes after the end
none-after : (start : Configuration) (n i : ℕ) → n ≤ i → run_of start n ≡ None → run_of start i ≡ None
none-after start n zero low none =
    let at : n ≡ 0 = omega arith in
    subst (λ (k : ℕ). run_of start k ≡ None) at none
none-after start n (suc i) low none =
    elim (cases_lt i n) [
      | inl less ↦ let at : n ≡ suc i = omega arith in subst (λ (k : ℕ). run_of start k ≡ None) at none
      | inr high ↦ ap (λ (o : Option Configuration). option_and_then (λ m. next_configuration (move_of m)) o)
          (none-after start n i high none)
    ]

-- a run that stops at this move
pub sound-all : (start : Configuration) (n : ℕ) (m m' : Configuration) (why : Stop) → run_of start n ≡ Some m
    → move_of m ≡ stops why m' → IsSoundMove m → MovesSoundly start (Some n) → MovesSoundly start None
sound-all start n m m' why reached stop sound before i m1 reached1 =
    let none : run_of start (suc n) ≡ None =
    ap (λ (o : Option Configuration). option_and_then (λ m. next_configuration (move_of m)) o) reached
    ∙ ap next_configuration stop in
    elim (cases_lt i (suc n)) [
      | inl low ↦ sound-more start n m reached sound before i m1 low reached1
      | inr high ↦ absurd (let gone = none-after start (suc n) i high none in cc)
    ]

-- nothing but sends moves from a configuration where text is due
pub sends-soundly : (m : Configuration) → sends_now m ≡ true → IsSoundMove m
sends-soundly m due quiet = absurd cc
