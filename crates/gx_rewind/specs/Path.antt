-- The run that notes record: each event follows from the machine before it and from what was taken from outside.
use Rattle.std.specs.Prelude.{◌≡◌, ℕ, zero, suc, ◌+◌, ◌==◌, nat_lt, if◌then◌else◌, List, [], ◌∷◌, slice_get, Option}
use Rattle.std.specs.Prelude.{Some, None, IsSome, Result, Ok, Err}
use Rattle.gx_words.specs.declared.faults.Fault.{Fault}
use Rattle.gx_state.specs.declared.effects.Effect.{Effect}
use Rattle.gx_state.specs.declared.effects.Effect.TheVariants.{Went, Drew, Put, Glk, Save, Restore, Quit, Spent}
use Rattle.gx_state.specs.declared.effects.Reply.{Reply}
use Rattle.gx_state.specs.Replies.{IsReply}
use Rattle.gx_machine.specs.declared.askings.Asking.{Asking}
use Rattle.gx_machine.specs.Answer.{answer_of}
use Rattle.gx_machine.specs.Log.{units_of}
use Rattle.gx_machine.specs.Machine.{FlatMachine}
use Rattle.gx_machine.specs.Step.{asking_of, cost_of, room_of, step_of}
use Rattle.gx_rewind.specs.declared.books.Note.{Note}
use Rattle.gx_rewind.specs.declared.books.Taken.{Taken}
use Rattle.gx_rewind.specs.declared.books.Taken.TheVariants as taken

-- the reply that pushes and writes nothing
abbrev pub empty_reply : Reply
empty_reply = record { value = 0; pushes = []; writes = [] }

-- the machine after an event of one step, which is answered with nothing where it asks
abbrev pub answered_by_nothing : FlatMachine → Option Asking → FlatMachine
answered_by_nothing m None = m
answered_by_nothing m (Some asking) = answer_of m empty_reply

abbrev pub machine_after_step : FlatMachine → Result (FlatMachine × Effect) Fault → FlatMachine
machine_after_step m (Ok r) = answered_by_nothing r.0 (asking_of r.1)
machine_after_step m (Err fault) = m

-- the machine after an event, by what it took from outside
abbrev pub machine_after_event : {A : Type 0} → FlatMachine → Option (Taken A) → FlatMachine
machine_after_event m None = machine_after_step m (step_of m 0)
machine_after_event m (Some (taken.Word word)) = machine_after_step m (step_of m word)
machine_after_event m (Some (taken.Reply reply)) = answer_of m reply
machine_after_event m (Some (taken.Machine gone)) = gone.value.machine

-- the word of the step of an event that took this
abbrev pub word_in : {A : Type 0} → Taken A → ℕ
word_in (taken.Word word) = word
word_in (taken.Reply reply) = 0
word_in (taken.Machine gone) = 0

-- what an event took that began after so many units: that of the note, where it is this event's
abbrev pub taken_at : {A : Type 0} → ℕ → Option (Note A) → Option (Taken A)
taken_at units None = None
taken_at units (Some note) = if note.units == units then Some note.taken else None

abbrev pub taken_from : {A : Type 0} → List (Note A) → ℕ → ℕ → Option (Taken A)
taken_from notes index units = taken_at units (slice_get notes index)

-- the next note is that after one which was used
abbrev pub index_after : {A : Type 0} → ℕ → Option (Taken A) → ℕ
index_after index None = index
index_after index (Some t) = index + 1

-- the effects of a step whose event may take nothing from outside: it asks nothing, or is answered with nothing
abbrev pub IsQuiet : Effect → Type 0
IsQuiet Went = Unit {0}
IsQuiet Drew = ⊥
IsQuiet (Put c) = Unit {0}
IsQuiet (Glk selector args room) = Unit {0}
IsQuiet (Save stream) = Unit {0}
IsQuiet (Restore stream) = Unit {0}
IsQuiet Quit = Unit {0}
IsQuiet Spent = ⊥

-- An event took what its step takes. A reply that was given fits what is asked, and a machine that was gone to asks
-- nothing.
abbrev pub IsFit : {A : Type 0} → FlatMachine → Option (Taken A) → Type 0
IsFit m None = (n : FlatMachine) × (effect : Effect) × (step_of m 0 ≡ Ok (n, effect)) × IsQuiet effect
IsFit m (Some (taken.Word word)) = (n : FlatMachine) × (step_of m word ≡ Ok (n, Drew))
IsFit m (Some (taken.Reply reply)) =
    (effect : Effect) × (step_of m 0 ≡ Ok (m, effect)) × IsSome (asking_of effect)
    × IsReply m.flat (room_of (asking_of effect)) reply
IsFit m (Some (taken.Machine gone)) = (effect : Effect) × (step_of m 0 ≡ Ok (m, effect)) × (gone.value.asking ≡ None)

-- A place of the run: the machines before it, its machine, and the place of the next note.
pub record RunPlace : Type 0 where
  pub before : List FlatMachine
  pub machine : FlatMachine
  pub index : ℕ

abbrev pub begun : FlatMachine → RunPlace
begun m = record { before = []; machine = m; index = 0 }

abbrev pub taken_in : {A : Type 0} → List (Note A) → RunPlace → Option (Taken A)
taken_in notes p = taken_from notes p.index (units_of p.before)

-- the next place
abbrev pub following_place : {A : Type 0} → List (Note A) → RunPlace → RunPlace
following_place notes p = record {
  before = p.machine ∷ p.before;
  machine = machine_after_event p.machine (taken_in notes p);
  index = index_after p.index (taken_in notes p);
}

-- the run from one machine leads to a place
abbrev pub IsPath : {A : Type 0} → List (Note A) → FlatMachine → List FlatMachine → FlatMachine → ℕ → Type 0
IsPath notes opening [] m i = (m ≡ opening) × (i ≡ 0)
IsPath notes opening (p ∷ ps) m i =
    (j : ℕ) × IsPath notes opening ps p j
    × (machine_after_event p (taken_from notes j (units_of ps)) ≡ m)
    × (index_after j (taken_from notes j (units_of ps)) ≡ i)
    × IsFit p (taken_from notes j (units_of ps))

-- and it leads on from there, to so many units
abbrev pub IsOn : {A : Type 0} → List (Note A) → ℕ → FlatMachine → ℕ → List FlatMachine → ℕ → Type 0
IsOn notes units m i [] end = units ≡ end
IsOn notes units m i (n ∷ ns) end =
    (machine_after_event m (taken_from notes i units) ≡ n)
    × IsFit m (taken_from notes i units)
    × IsOn notes (units + cost_of m) n (index_after i (taken_from notes i units)) ns end

-- the last place before which at most so many units were used
unfoldable pub last_place_within : {A : Type 0} → List (Note A) → ℕ → ℕ → RunPlace → RunPlace
last_place_within notes units zero p = p
last_place_within notes units (suc n) p =
    if nat_lt units (units_of p.before + cost_of p.machine)
    then p
    else last_place_within notes units n (following_place notes p)

-- the machines after a place, up to so many units
unfoldable pub onward : {A : Type 0} → List (Note A) → ℕ → ℕ → FlatMachine → ℕ → ℕ → List FlatMachine
onward notes zero units m i end = []
onward notes (suc n) units m i end =
    if nat_lt units end
    then machine_after_event m (taken_from notes i units)
    ∷ onward notes n (units + cost_of m) (machine_after_event m (taken_from notes i units))
    (index_after i (taken_from notes i units)) end
    else []
