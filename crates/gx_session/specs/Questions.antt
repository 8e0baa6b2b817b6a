-- What the shelf is asked for the turn of a Glk call, and what it answers.
use Rattle.std.specs.Prelude.{◌≡◌, [], ◌∷◌, ◌++◌, Result, Ok, Err}
use Rattle.gx_outside.specs.Shelves.{Request, load_file, store_file, remove_file, find_file}
use Rattle.gx_outside.specs.Shelves.{Answer, Trace, AnswerMayWant}
use Rattle.gx_outside.specs.declared.devices.ShelfFault.{ShelfFault}
use Rattle.gx_outside.specs.declared.devices.ShelfFault.TheVariants as fault
use Rattle.glk_replies.specs.declared.Turn.{Turn}
use Rattle.glk_replies.specs.declared.Turn.TheVariants as turn
use Rattle.glk_replies.specs.declared.Given.{Given}
use Rattle.gx_session.specs.declared.questions.Question.{Question}
use Rattle.gx_session.specs.declared.questions.Question.TheVariants as asks
use Rattle.gx_session.specs.Constants.{most_loaded}
use Rattle.gx_session.specs.Moves.{given_of}

-- the turn that asks it
abbrev pub turn_of : Question → Turn
turn_of (asks.Load name) = turn.Load name
turn_of (asks.Store name bytes) = turn.Store name bytes
turn_of (asks.Remove name) = turn.Remove name
turn_of (asks.Has name) = turn.Has name

-- what the shelf is asked
abbrev pub request_for : Question → Request
request_for (asks.Load name) = load_file name most_loaded
request_for (asks.Store name bytes) = store_file name bytes
request_for (asks.Remove name) = remove_file name
request_for (asks.Has name) = find_file name

-- It was asked this once, and what it answered is given.
abbrev pub AsksOnce : Question → Trace → Result Given ShelfFault → Type 0
AsksOnce q trace (Ok g) = (answer : Answer) × (trace ≡ (request_for q, Ok answer) ∷ []) × (g ≡ given_of answer)
AsksOnce q trace (Err e) = trace ≡ (request_for q, Err e) ∷ []

-- WHAT A RUN IS TOLD
-- none of these calls was refused
abbrev pub AreAnswered : Trace → Type 0
AreAnswered [] = Unit {0}
AreAnswered ((r, Ok answer) ∷ trace) = AreAnswered trace
AreAnswered ((r, Err e) ∷ trace) = ⊥

-- These are the answers after the calls so far, up to a call that is refused.
abbrev pub AreTold : (Trace → Request → Answer) → Trace → Trace → Type 0
AreTold answers asked [] = Unit {0}
AreTold answers asked ((r, Ok answer) ∷ trace) =
    (answers asked r ≡ answer) × AreTold answers (asked ++ (r, Ok answer) ∷ []) trace
AreTold answers asked ((r, Err fault.Failed) ∷ trace) = Unit {0}
AreTold answers asked ((r, Err fault.NoMemory) ∷ trace) = AnswerMayWant r (answers asked r)
