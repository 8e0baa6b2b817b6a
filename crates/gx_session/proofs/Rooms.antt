-- There is room in what is recorded for the units that a step leaves.
use Rattle.std.proofs.Common.{◌≡◌, ◌≢◌, ◌≤◌, ◌+◌, List, [], ◌∷◌, ℕ, zero, suc, Option, Some, None, IsSome, Ok, refl}
use Rattle.std.proofs.Common.{subst, sym, arith}
use Rattle.gx_state.specs.declared.effects.Effect.{Effect}
use Rattle.gx_state.specs.declared.effects.Effect.TheVariants as effect
use Rattle.gx_machine.specs.declared.askings.Asking.{Asking}
use Rattle.gx_machine.specs.Machine.{FlatMachine, Whole}
use Rattle.gx_machine.specs.Step.{cost_of, stepped, asking_of}
use Rattle.gx_machine.specs.Log.{Log, logged, units_of}
use Rattle.gx_machine.specs.Advancing.{units_left, left_once_answered, left_after, Passes, Advances, logged_by}
use Rattle.gx_session.proofs.Passing.{passed-asks, advanced}
use Rattle.gx_session.proofs.Steps.{step-answers, step-cost}

-- the units of one more machine
pub units-more : (m : FlatMachine) (ms : List FlatMachine) → units_of (m ∷ ms) ≡ cost_of m + units_of ms
unfolding units_of
units-more m ms = refl

pub units-none : units_of [] ≡ 0
unfolding units_of
units-none = refl

-- an event that is recorded takes its units of those that are left
room-taken : (log : Option Log) (m : FlatMachine) (budget left : ℕ) → budget ≤ units_left log
    → left + cost_of m ≡ budget → left ≤ units_left (logged log m)
room-taken None m budget left room units = omega arith
room-taken (Some log) m budget left room units = let all = units-more m log.before in omega arith

room-lower : (log : Option Log) (budget left : ℕ) → budget ≤ units_left log → left ≤ budget → left ≤ units_left log
room-lower log budget left room less = omega arith

-- an asking is recorded once it is answered
room-by : (does : Effect) (log : Option Log) (m m' : FlatMachine) (left : ℕ) → (IsSome (asking_of does) → m' ≡ m)
    → left ≤ units_left log → (does ≢ effect.Spent → left ≤ units_left (logged log m))
    → left ≤ left_once_answered (asking_of does) (logged_by does log m) m'
room-by effect.Went log m m' left stands room after = after (λ e. cc)
room-by effect.Drew log m m' left stands room after = after (λ e. cc)
room-by (effect.Put c) log m m' left stands room after =
    subst (λ (x : FlatMachine). left ≤ units_left (logged log x)) (sym (stands refl)) (after (λ e. cc))
room-by (effect.Glk selector args room) log m m' left stands room' after =
    subst (λ (x : FlatMachine). left ≤ units_left (logged log x)) (sym (stands refl)) (after (λ e. cc))
room-by (effect.Save stream) log m m' left stands room after =
    subst (λ (x : FlatMachine). left ≤ units_left (logged log x)) (sym (stands refl)) (after (λ e. cc))
room-by (effect.Restore stream) log m m' left stands room after =
    subst (λ (x : FlatMachine). left ≤ units_left (logged log x)) (sym (stands refl)) (after (λ e. cc))
room-by effect.Quit log m m' left stands room after = after (λ e. cc)
room-by effect.Spent log m m' left stands room after = room

-- after one step
pub step-room : (w w' : Whole) (word budget left : ℕ) (does : Effect) (log last : Option Log) → w.asking ≡ None
    → budget ≤ units_left log → stepped w word budget ≡ Ok ((w', left), does)
    → (IsSome (asking_of does) → w'.machine ≡ w.machine) → last ≡ logged_by does log w.machine
    → left ≤ left_after last w'
step-room w w' word budget left does log last none room e stands logs =
    let s = step-answers w w' word budget left does none e in
    let by : left ≤ left_once_answered (asking_of does) (logged_by does log w.machine) w'.machine =
    room-by does log w.machine w'.machine left stands (room-lower log budget left room s.no_more)
    (λ other. room-taken log w.machine budget left room (step-cost w w' word budget left does e other)) in
    subst (λ (a : Option Asking). left ≤ left_once_answered a last w'.machine) (sym s.asks)
    (subst (λ (l : Option Log). left ≤ left_once_answered (asking_of does) l w'.machine) (sym logs) by)

-- after steps that ask nothing
pub passed-room : (word n : ℕ) (w w' : Whole) (left left' : ℕ) (first last : Option Log) → left ≤ units_left first
    → Passes word n (w, left) first (w', left') last → left' ≤ units_left last
passed-room word zero w w' left left' first last room p =
    subst (λ (l : Option Log). left' ≤ units_left l) p.1 (subst (λ (q : Whole × ℕ). q.1 ≤ units_left first) p.0 room)
passed-room word (suc n) w w' left left' first last room p =
    let before = passed-room word n w p.0.0 left p.0.1 first p.1 room p.2 in
    subst (λ (l : Option Log). left' ≤ units_left l) (sym p.4)
    (room-taken p.1 p.0.0.machine p.0.1 left' before
    (step-cost p.0.0 w' word p.0.1 left' effect.Went p.3 (λ e. cc)))

-- after both
pub advanced-room : (word : ℕ) (does : Effect) (w w' : Whole) (budget budget' left : ℕ) (first last : Option Log)
    → w.asking ≡ None → budget ≤ units_left first
    → Advances word (Ok does) (w, budget) first budget' (w', left) last → left ≤ left_after last w'
advanced-room word does w w' budget budget' left first last none room a =
    step-room a.before w' word budget' left does a.log last
    (passed-asks word a.count w a.before budget budget' first a.log none a.passes)
    (passed-room word a.count w a.before budget budget' first a.log room a.passes)
    (advanced word does w w' budget budget' left first last a) a.stands a.logs
