-- What a shelf is asked and what it answers, call by call.
use Rattle.std.specs.Prelude.{◌≡◌, ◌≤◌, ℕ, nat_lt, if◌then◌else◌, List, [], ◌∷◌, length, Bool, true, Option, Some, None}
use Rattle.std.specs.Prelude.{is_some, Result, Ok, Err, IfOk}
use Rattle.gx_outside.specs.declared.devices.Load.{Load}
use Rattle.gx_outside.specs.declared.devices.Load.TheVariants.{Missing, TooLong, Found}
use Rattle.gx_outside.specs.declared.devices.ShelfFault.{ShelfFault}
use Rattle.gx_outside.specs.declared.devices.ShelfFault.TheVariants as fault
use Rattle.gx_outside.specs.Files.{Files, with_file}
use Rattle.gx_outside.specs.Outside.{FlatShelf, HasCause, IsBounded, KeepsOthers, shelf_cause}

-- What is asked: the file of a name, if it has at most so many bytes; that a name hold these bytes; that the file of a
-- name be removed; whether a name has a file.
pub data Request : Type 0 where
  load_file : List ℕ → ℕ → Request
  store_file : List ℕ → List ℕ → Request
  remove_file : List ℕ → Request
  find_file : List ℕ → Request

-- What is answered, where the call isn't refused.
pub data Answer : Type 0 where
  loaded : Load → Answer
  was_stored : Answer
  was_there : Bool → Answer

-- A call: what was asked, and the answer or the fault. A trace has the calls of a shelf, in order.
abbrev pub Exchange : Type 0
Exchange = Request × Result Answer ShelfFault

abbrev pub Trace : Type 0
Trace = List Exchange

-- what a call answers, as an answer
abbrev pub answer_as : {T : Type 0} → (T → Answer) → Result T ShelfFault → Result Answer ShelfFault
answer_as answer (Ok x) = Ok (answer x)
answer_as answer (Err e) = Err e

-- FILES
-- what is handed out of a file
abbrev pub load_of : ℕ → Option (List ℕ) → Load
load_of most None = Missing
load_of most (Some bytes) = if nat_lt most (length bytes) then TooLong else Found bytes

-- the answer that files have for a request
abbrev pub answer_for : Files → Request → Answer
answer_for files (load_file name most) = loaded (load_of most (files name))
answer_for files (store_file name bytes) = was_stored
answer_for files (remove_file name) = was_there (is_some (files name))
answer_for files (find_file name) = was_there (is_some (files name))

-- the files after it
abbrev pub files_after : Files → Request → Files
files_after files (store_file name bytes) = with_file files name (Some bytes)
files_after files (remove_file name) = with_file files name None
files_after files _ = files

-- After a refusal the file of a name that was to be stored or removed is open: it may be the old one, the new one, a
-- part of the new one, or gone. The others stand, and so do all after every other refusal.
abbrev pub LeavesFiles : Files → Request → Files → Type 0
LeavesFiles before (store_file name bytes) now = KeepsOthers before now name
LeavesFiles before (remove_file name) now = KeepsOthers before now name
LeavesFiles before _ now = now ≡ before

-- Memory may run out in place of this answer: at a load only where there are bytes to be handed out.
abbrev pub AnswerMayWant : Request → Answer → Type 0
AnswerMayWant (load_file name most) (loaded (Found bytes)) = length bytes ≤ most
AnswerMayWant (load_file name most) answer = ⊥
AnswerMayWant request answer = Unit {0}

-- what a call does to files
abbrev pub FilesCall : Files → Request → Result Answer ShelfFault → Files → Type 0
FilesCall before r (Ok answer) now = (answer ≡ answer_for before r) × (now ≡ files_after before r)
FilesCall before r (Err fault.Failed) now = LeavesFiles before r now
FilesCall before r (Err fault.NoMemory) now = LeavesFiles before r now × AnswerMayWant r (answer_for before r)

-- an answer of the request's kind; a file that is handed out is within the bound, whatever stands on the shelf
abbrev pub IsAnswerTo : Request → Answer → Type 0
IsAnswerTo (load_file name most) (loaded load) = IsBounded most load
IsAnswerTo (store_file name bytes) was_stored = Unit {0}
IsAnswerTo (remove_file name) (was_there b) = Unit {0}
IsAnswerTo (find_file name) (was_there b) = Unit {0}
IsAnswerTo request answer = ⊥

-- ONE CALL of a shelf.
pub record ShelfCall (before : FlatShelf) (c : Exchange) (now : FlatShelf) : Type 0 where
  pub cause : HasCause before.calls now.calls (shelf_cause c.1).0 (shelf_cause c.1).1
  pub tells : now.tells ≡ before.tells
  pub answer : IfOk c.1 (IsAnswerTo c.0)
  pub files : before.tells ≡ true → FilesCall before.files c.0 c.1 now.files

-- what a shelf of these files, which tells, answers after some calls that weren't refused
abbrev pub told_by : Files → Trace → Request → Answer
told_by files [] r = answer_for files r
told_by files (c ∷ trace) r = told_by (files_after files c.0) trace r
