-- The ending of a run. What contracts say.
use Rattle.std.specs.Prelude.{ℕ, ◌≡◌, ◌≢◌, ◌<◌, List, [], ◌∷◌, ◌++◌, map, length, Result, Ok, Err, Option, None}
use Rattle.gx_machine.specs.declared.askings.Asking.{Asking}
use Rattle.gx_outside.specs.Outside.{FlatShelf}
use Rattle.gx_outside.specs.Shelves.{store_file, Trace}
use Rattle.gx_outside.specs.declared.devices.ShelfFault.{ShelfFault}
use Rattle.gx_session.specs.declared.ends.Stop.{Stop}
use Rattle.gx_session.specs.declared.ends.Stop.TheVariants as stop
use Rattle.gx_session.specs.declared.ends.Halt.{Halt}
use Rattle.gx_session.specs.Constants.{piece}
use Rattle.gx_session.specs.Cuts.{IsLineStop}
use Rattle.gx_session.specs.Endings.{stores_of, store_call, told_all}
use Rattle.gx_session.specs.Configurations.{Configuration, Phase}
use Rattle.gx_session.specs.Session.{final_of}
use Rattle.gx_session.specs.Asked.{asked_at}
use Rattle.gx_session.specs.Sound.{MovesSoundly}
use Rattle.gx_session.specs.Holding.{HeldRun, SendStep, Handed, History, configuration_of, IsHistory, IsRead}
use Rattle.gx_session.specs.Standing.{ComesTo, Early}
use Rattle.gx_session.specs.Outcomes.{halt_of_shelf}

-- THE ENDING
-- A stop has come, and the last screen was shown.
abbrev pub HasShown : {K : Type 0} {sending : SendStep K} → Configuration → Handed sending → HeldRun → Option Asking
    → Handed sending → Stop → Type 0
HasShown start entry h asking d why = ComesTo (final_of start) start entry h asking d why

-- Then all text was sent.
pub record Told {K : Type 0} {sending : SendStep K} (start : Configuration) (entry : Handed sending) (h : HeldRun)
    (asking : Option Asking) (d : Handed sending) (why : Stop) : Type 0 where
  pub past : History
  pub phase : Phase
  pub is_past : IsHistory start entry past h d
  pub few : why ≢ stop.LineTooLong → length h.ahead < piece
  pub reads : (IsLineStop why → ⊥) → IsRead start.input entry h d
  pub stop_is : (final_of start).stop ≡ why
  pub is_end : told_all (final_of start).configuration ≡ configuration_of past phase h d
  pub sound : MovesSoundly start None
  pub asking_is : asking ≡ asked_at (final_of start).stop (final_of start).configuration
  pub none_left : h.world.text ≡ []

-- Then all open files were stored, after these calls of the shelf, which was this one.
pub record Finished {K : Type 0} {sending : SendStep K} (start : Configuration) (entry : Handed sending) (h : HeldRun)
    (asking : Option Asking) (d : Handed sending) (why : Stop) : Type 0 where
  pub shelf : FlatShelf
  pub before : Trace
  pub told : Told start entry h asking (record d { shelf = shelf; asked = before }) why
  pub asked_are : d.asked ≡ before ++ map store_call (stores_of h.world.scene)

-- what the ending comes to
abbrev pub EndingGives : {K : Type 0} {sending : SendStep K} → Configuration → Handed sending → HeldRun → Option Asking
    → Handed sending → Stop → Result (Unit {0}) Halt → Type 0
EndingGives start entry h asking d stop (Ok u) = Finished start entry h asking d stop
EndingGives start entry h asking d stop (Err why) = Early start entry h asking d why

-- what a run comes to
abbrev pub RunGives : {K : Type 0} {sending : SendStep K} → Configuration → Handed sending → HeldRun → Option Asking
    → Handed sending → Result Stop Halt → Type 0
RunGives start entry h asking d (Ok stop) = Finished start entry h asking d stop
RunGives start entry h asking d (Err why) = Early start entry h asking d why

-- Some files were stored, and the next one was refused.
pub record StoredSome (files : List (List ℕ × List ℕ)) (calls : Trace) (why : Halt) : Type 0 where
  pub front : List (List ℕ × List ℕ)
  pub next : List ℕ × List ℕ
  pub rest : List (List ℕ × List ℕ)
  pub split : files ≡ front ++ next ∷ rest
  pub fault : ShelfFault
  pub calls_are : calls ≡ map store_call front ++ (store_file next.0 next.1, Err fault) ∷ []
  pub why_is : why ≡ halt_of_shelf fault

-- how the stores of the ending go, each in one call
abbrev pub StoresAll : List (List ℕ × List ℕ) → Trace → Result (Unit {0}) Halt → Type 0
StoresAll files calls (Ok u) = calls ≡ map store_call files
StoresAll files calls (Err why) = StoredSome files calls why
