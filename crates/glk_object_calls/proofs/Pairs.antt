-- Two words are given to a reference that was looked at before.
use Rattle.std.proofs.Common.{◌≡◌, ◌≢◌, ◌==◌, ℕ, Bool, true, false, List, [], ◌∷◌, Result, Ok, Err, if◌then◌else◌}
use Rattle.std.proofs.Common.{length, refl, ap, arith, ◌||◌, not, IsTrue}
use Rattle.std.proofs.lemmas.Bool.Decides.{nat_tests}
use Rattle.gx_words.specs.declared.faults.Fault.{Fault}
use Rattle.gx_words.specs.declared.faults.Fault.TheVariants.{NoMemory}
use Rattle.gx_words.specs.Results.{◌>>=◌}
use Rattle.gx_state.specs.Flat.{FlatState}
use Rattle.gx_state.specs.declared.effects.Reply.{Reply}
use Rattle.glk_windows.specs.Changes.{closing_grows}
use Rattle.glk_world.specs.World.{Scene, FlatWorld, MakesCall, after, silent, arg}
use Rattle.glk_world.specs.Calls.{without_window, window_counts}
use Rattle.glk_replies.specs.Constants.{on_stack}
use Rattle.glk_replies.specs.Parts.{can_give, pushes_for, writes_for, give, can_give_pair, MayWant}
use Rattle.glk_object_calls.specs.Answers.{replying}
use Rattle.glk_object_calls.specs.Windows.{window_close}

pushed : (on : Bool) (a b : ℕ) → length (if on then a ∷ b ∷ [] else []) ≡ (if on then 2 else 0)
pushed true a b = refl
pushed false a b = refl

regrouped : {A B C : Type 0} (r : Result A Fault) (f : A → Result B Fault) (g : B → Result C Fault)
    → (r >>= λ x. f x >>= g) ≡ ((r >>= f) >>= g)
regrouped (Ok x) f g = refl
regrouped (Err e) f g = refl

by_look : (f : FlatState) (room at a b : ℕ) → give f room 0 at (a ∷ b ∷ [])
    ≡ (can_give_pair f room at >>= λ there. Ok (record {
      value = 0;
      pushes = pushes_for at (a ∷ b ∷ []);
      writes = writes_for at (a ∷ b ∷ []);
    }))
unfolding give can_give_pair
by_look f room at a b = rw (pushed (at == on_stack) a b) (regrouped (can_give f at 2) _ _)

-- memory is wanted where a grid grows, or for what is given
abbrev pub WantsToClose : FlatWorld → List ℕ → Type 0
WantsToClose old args = IsTrue (closing_grows old.scene.windows (arg args 0) || not (arg args 1 == 0))

for_grids : (grows given : Bool) → IsTrue grows → IsTrue (grows || given)
for_grids grows given is = rw is refl

for_counts : (grows : Bool) (at : ℕ) → at ≢ 0 → IsTrue (grows || not (at == 0))
for_counts true at some = refl
for_counts false at some = grind (arith, nat_tests, some)

answered_pair : (wants : Type 0) (old new : FlatWorld) (w : Scene) (f : FlatState) (room at a b : ℕ)
    (result : Result Reply Fault) → new ≡ after old (silent w) → can_give_pair f room at ≡ Ok tt → (at ≢ 0 → wants)
    → MayWant (at ≢ 0) (λ reply. reply) result (give f room 0 at (a ∷ b ∷ []))
    → MakesCall wants result old new (replying w (give f room 0 at (a ∷ b ∷ [])))
answered_pair wants old new w f room at a b (Ok reply) is there some done = rw (done, is) refl
answered_pair wants old new w f room at a b (Err e) is there some refused =
    let fine = rw there at (by_look f room at a b) in
    let none : (e ≢ NoMemory) → ⊥ = λ other. absurd (cc (refused.0 other, fine)) in
    (λ other. absurd (none other), (λ other. absurd (none other), λ wanted. (some (refused.1 wanted).0, rw fine refl)))

pub window_refused : (old : FlatWorld) (f : FlatState) (room at : ℕ) (args : List ℕ) (e : Fault) → at ≡ arg args 1
    → can_give_pair f room at ≡ Err e → e ≢ NoMemory
    → MakesCall (WantsToClose old args) (Err e) old old (window_close old.scene f room args)
unfolding window_close
window_refused old f room at args e to is other =
    rw (← to, by_look f room at _ _, is) (λ any. refl, (λ any. refl, λ wanted. absurd (other wanted)))

pub window_lost : (old new : FlatWorld) (f : FlatState) (room at win : ℕ) (args : List ℕ) → at ≡ arg args 1
    → win ≡ arg args 0 → IsTrue (closing_grows old.scene.windows win) → can_give_pair f room at ≡ Ok tt
    → MakesCall (WantsToClose old args) (Err NoMemory) old new (window_close old.scene f room args)
unfolding window_close
window_lost old new f room at win args to of grows there =
    let wants : WantsToClose old args =
    for_grids (closing_grows old.scene.windows (arg args 0)) (not (arg args 1 == 0)) (rw of at grows) in
    rw (← to, by_look f room at _ _, there)
    (λ other. absurd (other refl), (λ other. absurd (other refl), λ wanted. (rw to wants, refl)))

pub window_given : (old new : FlatWorld) (f : FlatState) (room at win : ℕ) (args : List ℕ) (read written : ℕ)
    (result : Result Reply Fault) → at ≡ arg args 1 → win ≡ arg args 0
    → new ≡ after old (silent (without_window old.scene win)) → (read, written) ≡ window_counts old.scene win
    → can_give_pair f room at ≡ Ok tt
    → MayWant (at ≢ 0) (λ reply. reply) result (give f room 0 at (read ∷ written ∷ []))
    → MakesCall (WantsToClose old args) result old new (window_close old.scene f room args)
unfolding window_close
window_given old new f room at win args read written result to of is counts there done =
    rw (← to, ← of, ← ap (λ (p : ℕ × ℕ). p.0) counts, ← ap (λ (p : ℕ × ℕ). p.1) counts)
    (answered_pair (IsTrue (closing_grows old.scene.windows win || not (at == 0))) old new
    (without_window old.scene win) f room at read written result is there
    (for_counts (closing_grows old.scene.windows win) at) done)
