-- A call goes by the looks of its row, and the objects that a row names are there once its arguments were looked at.
use Rattle.std.proofs.Common.{◌≡◌, ◌⊎◌, ◌≤◌, ◌==◌, ◌||◌, ◌&&◌, nat_le, ℕ, Bool, true, false, List}
use Rattle.std.proofs.Common.{if◌then◌else◌, IsTrue, Option, Some, None, refl, subst, inl, inr, arith, Result, Ok, Err}
use Rattle.std.specs.Option.{option_map}
use Rattle.std.proofs.lemmas.Grind.{common_steps}
use Rattle.std.proofs.lemmas.Bool.Decides.{nat_tests}
use Rattle.gx_words.specs.declared.faults.Fault.{Fault}
use Rattle.gx_words.specs.declared.faults.Fault.TheVariants.{BadGlk}
use Rattle.gx_words.specs.Results.{◌>>=◌}
use Rattle.gx_state.specs.Flat.{FlatState}
use Rattle.glk_replies.specs.declared.Turn.{Turn}
use Rattle.glk_world.specs.World.{Scene, FlatWorld, MakesCall, Outcome, arg}
use Rattle.glk_dispatch.specs.declared.table.ObjectClass.{ObjectClass}
use Rattle.glk_dispatch.specs.declared.table.Selector.{Selector}
use Rattle.glk_dispatch.specs.CallRows.{CallRow}
use Rattle.glk_dispatch.specs.Table.{row_for, is_dropped, selector_fits}
use Rattle.glk_object_calls.specs.Answers.{tells, as_turn}
use Rattle.glk_dispatch.specs.Calls.{has_object, named, looked_at, is_on_none, nothing, done, gives_nothing, glk_call}
use Rattle.glk_dispatch.specs.Calls.{grows}
use Rattle.glk_dispatch.specs.Calls.{IsGrowing}
use Rattle.glk_dispatch.specs.Ready.{IsNamed, IsFirst, IsReady, IsReadyBy, done_by, wants_by, call_looked, wants_looked}

-- ---- by the looks

-- a call by its row, and where it may want memory
abbrev pub call_by : Option CallRow → Scene → FlatState → ℕ → ℕ → List ℕ → Outcome Turn
call_by found w f room selector args =
    elim found [
      | None ↦ if is_dropped selector then as_turn (tells w 0) else Err BadGlk
      | Some row ↦ do
        there ← looked_at w row.looks args
        if is_on_none row.looks args then as_turn (nothing w f room row.looks args) else done row.does w f room args
    ]

abbrev pub grows_by : Option CallRow → Scene → FlatState → List ℕ → Bool
grows_by found w f args =
    elim found [
      | None ↦ false
      | Some row ↦ if is_on_none row.looks args then gives_nothing row.looks args else row.wants w f args
    ]

call_is : (found : Option CallRow) (w : Scene) (f : FlatState) (room selector : ℕ) (args : List ℕ)
    → call_by found w f room selector args
    ≡ call_looked (option_map (λ row. row.looks) found) (done_by found w f room args) w f room selector args
call_is None w f room selector args = refl
call_is (Some row) w f room selector args = refl

grows_is : (found : Option CallRow) (w : Scene) (f : FlatState) (args : List ℕ)
    → grows_by found w f args ≡ wants_looked (option_map (λ row. row.looks) found) (wants_by found w f args) args
grows_is None w f args = refl
grows_is (Some row) w f args = refl

pub glk_call_is : (w : Scene) (f : FlatState) (room selector : ℕ) (args : List ℕ) → glk_call w f room selector args
    ≡ call_looked (option_map (λ row. row.looks) (row_for selector))
    (done_by (row_for selector) w f room args) w f room selector args
unfolding glk_call
glk_call_is w f room selector args = call_is (row_for selector) w f room selector args

pub glk_grows_is : (w : Scene) (f : FlatState) (selector : ℕ) (args : List ℕ) → grows w f selector args
    ≡ wants_looked (option_map (λ row. row.looks) (row_for selector)) (wants_by (row_for selector) w f args) args
unfolding grows
glk_grows_is w f selector args = grows_is (row_for selector) w f args

-- ---- the objects

-- an identifier that was looked at is 0 or there
first_named : (w : Scene) (row : Selector) (args : List ℕ) → looked_at w row args ≡ Ok tt
    → named w row.first (arg args 0) ≡ Ok tt
unfolding looked_at
first_named w row args ok = grind (arith, common_steps, nat_tests)

other_named : (w : Scene) (row : Selector) (args : List ℕ) → looked_at w row args ≡ Ok tt
    → named w row.other (arg args row.other_place) ≡ Ok tt
unfolding looked_at
other_named w row args ok = grind (arith, common_steps, nat_tests)

is_named : (w : Scene) (class : ObjectClass) (id : ℕ) → named w class id ≡ Ok tt → (id == 0 || has_object w class id) ≡ true
is_named w class id ok = grind (arith, common_steps)

or_named : (a b : Bool) → (a || b) ≡ true → (a ≡ true) ⊎ (b ≡ true)
or_named true b h = inl refl
or_named false b h = inr h

zero_or : (w : Scene) (class : ObjectClass) (id : ℕ) → named w class id ≡ Ok tt → IsNamed w class id
zero_or w class id ok =
    elim (or_named (id == 0) (has_object w class id) (is_named w class id ok)) as
    (λ _. (id ≡ 0) ⊎ (has_object w class id ≡ true)) [
      | inl none ↦ inl (grind (arith, nat_tests))
      | inr there ↦ inr there
    ]

-- the first argument of a row that needs it isn't 0
first_there : (needs_first : Bool) (w : Scene) (class : ObjectClass) (id : ℕ) → IsNamed w class id
    → (needs_first && id == 0) ≡ false → IsFirst needs_first w class id
first_there true w class id (inl none) some = absurd (grind (arith, nat_tests, some, none))
first_there true w class id (inr there) some = there
first_there false w class id named some = named

pub ready_looks : (w : Scene) (row : Selector) (args : List ℕ) → looked_at w row args ≡ Ok tt
    → is_on_none row args ≡ false
    → IsReady row w args
ready_looks w row args ok some = (
  first_there row.needs_first w row.first (arg args 0)
      (zero_or w row.first (arg args 0) (first_named w row args ok)) some,
  zero_or w row.other (arg args row.other_place) (other_named w row args ok),
)

by_row : (found : Option CallRow) (row : Selector) (w : Scene) (args : List ℕ)
    → option_map (λ row. row.looks) found ≡ Some row → IsReady row w args → IsReadyBy found w args
by_row None row w args is ready = tt
by_row (Some found) row w args is ready = let same : row ≡ found.looks = (cc) in
    subst (λ looks. IsReady looks w args) same ready

pub ready_row : (selector : ℕ) (w : Scene) (row : Selector) (args : List ℕ)
    → option_map (λ row. row.looks) (row_for selector) ≡ Some row → looked_at w row args ≡ Ok tt
    → is_on_none row args ≡ false
    → IsReadyBy (row_for selector) w args
ready_row selector w row args is ok some = by_row (row_for selector) row w args is (ready_looks w row args ok some)

both : (a b : Bool) → (a && b) ≡ true → (a ≡ true) × (b ≡ true)
both true b h = (refl, h)
both false b h = absurd (cc)

pub words_few : (row : Selector) → selector_fits row ≡ true → row.words ≤ 4
words_few row fits = let b = both (nat_le row.references 3) (nat_le row.words 4) fits in grind (arith, nat_tests, b.1)

-- so a call by its row is that of its selector
pub called : (looks : Option Selector) (result : Result Turn Fault) (old new : FlatWorld) (f : FlatState)
    (room selector : ℕ) (args : List ℕ) → looks ≡ option_map (λ row. row.looks) (row_for selector)
    → MakesCall (IsTrue (wants_looked looks (wants_by (row_for selector) old.scene f args) args)) result old new
    (call_looked looks (done_by (row_for selector) old.scene f room args) old.scene f room selector args)
    → MakesCall (IsGrowing old.scene f selector args) result old new (glk_call old.scene f room selector args)
called looks result old new f room selector args same is = rw (glk_call_is, glk_grows_is) (rw same at is)
