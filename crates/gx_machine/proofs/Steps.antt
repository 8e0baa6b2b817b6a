-- A step within a budget is one within what its own unit leaves.
use Rattle.std.proofs.Common.{◌≡◌, ◌≢◌, ◌≤◌, ◌<◌, ◌+◌, ◌-◌, ◌==◌, ℕ, nat_lt, if◌then◌else◌, Bool, true, false, Option}
use Rattle.std.proofs.Common.{Some, None, IsSome, IfSome, Result, Ok, Err, IsOk, IfOk, refl, ap, subst, sym, ◌∙◌}
use Rattle.std.proofs.Common.{arith}
use Rattle.std.proofs.lemmas.Bool.{lt-ltb, le-ltb, ltb-true, ltb-false, eq-eqb}
use Rattle.std.proofs.lemmas.Bool.Decides.{nat_tests}
use Rattle.gx_words.specs.declared.faults.Fault.{Fault}
use Rattle.gx_words.specs.declared.faults.Fault.TheVariants.{BadFrame}
use Rattle.gx_words.specs.Faults.{IsRefused}
use Rattle.gx_words.specs.Results.{◌>>=◌}
use Rattle.gx_state.specs.declared.effects.Effect.{Effect}
use Rattle.gx_state.specs.declared.effects.Effect.TheVariants.{Put, Spent, Went}
use Rattle.gx_state.specs.declared.modes.Mode.{Mode}
use Rattle.gx_state.specs.declared.modes.Mode.TheVariants.{Running, Printing}
use Rattle.gx_state.specs.Flat.{FlatState, sp_of}
use Rattle.ops_memory.specs.Charges.{lowered, charged, IsAfforded}
use Rattle.ops_print.specs.Asks.{item_by, printed, is_put}
use Rattle.std.specs.Option.{option_map}
use Rattle.gx_undo.specs.Undo.{FlatUndo}
use Rattle.gx_machine.specs.declared.askings.Asking.{Asking}
use Rattle.gx_machine.specs.declared.askings.Asking.TheVariants as asking
use Rattle.gx_machine.specs.declared.machine.Pending.{Pending}
use Rattle.gx_machine.specs.Machine.{FlatMachine, Whole}
use Rattle.gx_machine.specs.MachineRows.{with_copies}
use Rattle.gx_machine.specs.Step.{asking_of, cost_of, mode_step, probes_in, step_of, stepped, IsModeWriting}
use Rattle.gx_machine.specs.Step.{IsStepWriting}

-- what a step makes of a machine and its budget, where that has the step's cost
abbrev paid : ℕ → ℕ → Result (FlatMachine × Effect) Fault → Result ((Whole × ℕ) × Effect) Fault
paid budget cost r = r >>= (λ (x : FlatMachine × Effect).
    Ok ((record { machine = x.0; asking = asking_of x.1 }, budget - cost), x.1))

abbrev tested : Whole → ℕ → ℕ → Bool → Result (FlatMachine × Effect) Fault → Result ((Whole × ℕ) × Effect) Fault
tested w budget cost b r = if b then Ok ((w, budget), Spent) else paid budget cost r

-- a step of a machine with a stack, that costs its own unit and the probes
by_cost : (w : Whole) (word budget : ℕ) (b : Bool) → b ≡ false
    → tested w budget (1 + (if b then 0 else probes_in w.machine.flat w.machine.flat.mode))
    (nat_lt budget (1 + (if b then 0 else probes_in w.machine.flat w.machine.flat.mode)))
    (if b then Err BadFrame else mode_step w.machine word w.machine.flat.mode)
    ≡ tested w budget (1 + probes_in w.machine.flat w.machine.flat.mode)
    (nat_lt budget (1 + probes_in w.machine.flat w.machine.flat.mode))
    (mode_step w.machine word w.machine.flat.mode)
by_cost w word budget true has = absurd cc
by_cost w word budget false has = refl

not-zero : (n : ℕ) → 0 < n → (n == 0) ≡ false
not-zero n some = grind (arith, nat_tests)

by_mode : (w : Whole) (word budget : ℕ) (mode : Mode) → 0 < sp_of w.machine.flat → w.machine.flat.mode ≡ mode
    → stepped w word budget ≡ tested w budget (1 + probes_in w.machine.flat mode)
    (nat_lt budget (1 + probes_in w.machine.flat mode)) (mode_step w.machine word mode)
unfolding stepped step_of cost_of
by_mode w word budget mode live is =
    by_cost w word budget (sp_of w.machine.flat == 0) (not-zero (sp_of w.machine.flat) live)
    ∙ ap (λ (m : Mode). tested w budget (1 + probes_in w.machine.flat m)
    (nat_lt budget (1 + probes_in w.machine.flat m)) (mode_step w.machine word m)) is

-- no budget
pub step_none : (w : Whole) (word budget : ℕ) → budget ≡ 0 → stepped w word budget ≡ Ok ((w, budget), Spent)
unfolding stepped cost_of
step_none w word budget none = let less : nat_lt budget (cost_of w.machine) ≡ true =
    lt-ltb budget (cost_of w.machine) (omega (arith, none)) in rw less refl

-- no frame
no-frame : (w : Whole) (word budget : ℕ) (b : Bool) → b ≡ true → 1 ≤ budget
    → tested w budget (1 + (if b then 0 else probes_in w.machine.flat w.machine.flat.mode))
    (nat_lt budget (1 + (if b then 0 else probes_in w.machine.flat w.machine.flat.mode)))
    (if b then Err BadFrame else mode_step w.machine word w.machine.flat.mode) ≡ Err BadFrame
no-frame w word budget true is some = let enough : nat_lt budget 1 ≡ false = le-ltb budget 1 some in rw enough refl
no-frame w word budget false is some = absurd cc

pub step_empty : (w : Whole) (word budget : ℕ) → 1 ≤ budget → sp_of w.machine.flat ≡ 0
    → stepped w word budget ≡ Err BadFrame
unfolding stepped step_of cost_of
step_empty w word budget some none = no-frame w word budget (sp_of w.machine.flat == 0)
    (eq-eqb (sp_of w.machine.flat) 0 none) (omega (arith, some))

-- the probes are within what the unit leaves exactly where the cost is within the budget
same-test : (budget probes : ℕ) (b : Bool) → 1 ≤ budget → nat_lt (budget - 1) probes ≡ b
    → nat_lt budget (1 + probes) ≡ b
same-test budget probes true some is = let less : budget - 1 < probes = ltb-true (budget - 1) probes is in
    lt-ltb budget (1 + probes) (omega (arith, some))
same-test budget probes false some is = let enough : probes ≤ budget - 1 = ltb-false (budget - 1) probes is in
    le-ltb budget (1 + probes) (omega (arith, some))

-- the same step, by what the unit leaves
abbrev left_by : FlatMachine → ℕ → ℕ → Bool → Result (FlatMachine × Effect) Fault
    → Result ((FlatMachine × ℕ) × Effect) Fault
left_by m left probes b r = if b then Ok ((m, left), Spent) else lowered left probes r

abbrev value_or : {A : Type 0} → A → Result A Fault → A
value_or d (Ok x) = x
value_or d (Err f) = d

ok-is : {A : Type 0} (x y : A) → (let a : Result A Fault = Ok x in a ≡ Ok y) → x ≡ y
ok-is x y e = ap (value_or x) e

err-by : (w : Whole) (budget probes : ℕ) (r : Result (FlatMachine × Effect) Fault) (fault : Fault) (b : Bool)
    → left_by w.machine (budget - 1) probes b r ≡ Err fault → tested w budget (1 + probes) b r ≡ Err fault
err-by w budget probes (Ok x) fault true h = absurd cc
err-by w budget probes (Err f) fault true h = absurd cc
err-by w budget probes (Ok x) fault false h = absurd cc
err-by w budget probes (Err f) fault false h = cc

can-by : (w : Whole) (budget probes : ℕ) (r : Result (FlatMachine × Effect) Fault) (b : Bool)
    → IsOk (left_by w.machine (budget - 1) probes b r) → IsOk (tested w budget (1 + probes) b r)
can-by w budget probes r true ok = ok
can-by w budget probes (Ok x) false ok = ok
can-by w budget probes (Err f) false ok = ok

-- a step that is done: it isn't spent, or it would have been before
ok-by : (w : Whole) (budget probes left : ℕ) (r : Result (FlatMachine × Effect) Fault) (m' : FlatMachine) (e : Effect)
    (asking : Option Asking) (b : Bool) → 1 ≤ budget → e ≢ Spent → asking_of e ≡ asking
    → left_by w.machine (budget - 1) probes b r ≡ Ok ((m', left), e)
    → tested w budget (1 + probes) b r ≡ Ok ((record { machine = m'; asking = asking }, left), e)
ok-by w budget probes left r m' e asking true some done asks h =
    absurd (done (sym (ap (λ (y : (FlatMachine × ℕ) × Effect). y.1)
    (ok-is {A = (FlatMachine × ℕ) × Effect} ((w.machine, budget - 1), Spent) ((m', left), e) h))))
ok-by w budget probes left (Ok x) m' e asking false some done asks h =
    let same : ((x.0, budget - 1 - probes), x.1) ≡ ((m', left), e) =
    ok-is {A = (FlatMachine × ℕ) × Effect} ((x.0, budget - 1 - probes), x.1) ((m', left), e) h in
    let units : budget - (1 + probes) ≡ budget - 1 - probes = omega (arith, some) in
    let all : tested w budget (1 + probes) false (Ok x)
    ≡ Ok ((record { machine = m'; asking = asking_of e }, left), e) =
    ap (λ (n : ℕ). Ok ((record { machine = x.0; asking = asking_of x.1 }, n), x.1)) units
    ∙ ap (λ (y : (FlatMachine × ℕ) × Effect). Ok ((record { machine = y.0.0; asking = asking_of y.1 }, y.0.1), y.1))
    same in
    all ∙ ap (λ (a : Option Asking). Ok ((record { machine = m'; asking = a }, left), e)) asks
ok-by w budget probes left (Err f) m' e asking false some done asks h = absurd cc

by_left : (w : Whole) (word budget : ℕ) → 1 ≤ budget → 0 < sp_of w.machine.flat → w.machine.flat.mode ≡ Running
    → stepped w word budget ≡ tested w budget (1 + probes_in w.machine.flat Running)
    (nat_lt (budget - 1) (probes_in w.machine.flat Running)) (mode_step w.machine word Running)
by_left w word budget some live running =
    let probes : ℕ = probes_in w.machine.flat Running in
    by_mode w word budget Running live running
    ∙ ap (λ (t : Bool). tested w budget (1 + probes) t (mode_step w.machine word Running))
    (same-test budget probes (nat_lt (budget - 1) probes) some refl)

pub step_err : (w : Whole) (word budget : ℕ) (fault : Fault) → 1 ≤ budget → 0 < sp_of w.machine.flat
    → w.machine.flat.mode ≡ Running
    → charged (budget - 1) (probes_in w.machine.flat Running) w.machine (mode_step w.machine word Running) ≡ Err fault
    → stepped w word budget ≡ Err fault
step_err w word budget fault some live running h =
    let probes : ℕ = probes_in w.machine.flat Running in
    by_left w word budget some live running ∙ err-by w budget probes (mode_step w.machine word Running) fault
    (nat_lt (budget - 1) probes) h

pub step_can : (w : Whole) (word budget : ℕ) → 1 ≤ budget → 0 < sp_of w.machine.flat → w.machine.flat.mode ≡ Running
    → IsOk (charged (budget - 1) (probes_in w.machine.flat Running) w.machine (mode_step w.machine word Running))
    → IsOk (stepped w word budget)
step_can w word budget some live running ok =
    let probes : ℕ = probes_in w.machine.flat Running in
    subst IsOk (sym (by_left w word budget some live running))
    (can-by w budget probes (mode_step w.machine word Running) (nat_lt (budget - 1) probes) ok)

pub step_ok : (w : Whole) (word budget left : ℕ) (m' : FlatMachine) (e : Effect) (asking : Option Asking) → 1 ≤ budget
    → 0 < sp_of w.machine.flat → w.machine.flat.mode ≡ Running → e ≢ Spent → asking_of e ≡ asking
    → charged (budget - 1) (probes_in w.machine.flat Running) w.machine (mode_step w.machine word Running)
    ≡ Ok ((m', left), e)
    → stepped w word budget ≡ Ok ((record { machine = m'; asking = asking }, left), e)
step_ok w word budget left m' e asking some live running done asks h =
    let probes : ℕ = probes_in w.machine.flat Running in
    by_left w word budget some live running ∙ ok-by w budget probes left
    (mode_step w.machine word Running) m' e asking (nat_lt (budget - 1) probes) some done asks h

-- a step that isn't done: the budget is less than its cost
pub step_spent : (w : Whole) (word budget : ℕ) → 1 ≤ budget → 0 < sp_of w.machine.flat → w.machine.flat.mode ≡ Running
    → budget - 1 < probes_in w.machine.flat Running → stepped w word budget ≡ Ok ((w, budget), Spent)
step_spent w word budget some live running less =
    let probes : ℕ = probes_in w.machine.flat Running in
    let is : nat_lt budget (1 + probes) ≡ true = same-test budget probes true some (lt-ltb (budget - 1) probes less) in
    by_mode w word budget Running live running
    ∙ ap (λ (t : Bool). tested w budget (1 + probes) t (mode_step w.machine word Running)) is

-- and it leaves the machine
spent-by : (m m' : FlatMachine) (left left' probes : ℕ) (r : Result (FlatMachine × Effect) Fault) (b : Bool)
    → b ≡ true → left_by m left probes b r ≡ Ok ((m', left'), Spent) → m' ≡ m
spent-by m m' left left' probes r true is h =
    sym (ap (λ (y : (FlatMachine × ℕ) × Effect). y.0.0)
    (ok-is {A = (FlatMachine × ℕ) × Effect} ((m, left), Spent) ((m', left'), Spent) h))
spent-by m m' left left' probes r false is h = absurd cc

pub spent_stands : (m m' : FlatMachine) (left left' probes : ℕ) (r : Result (FlatMachine × Effect) Fault) (e : Effect)
    → e ≡ Spent → left < probes → charged left probes m r ≡ Ok ((m', left'), e) → m' ≡ m
spent_stands m m' left left' probes r e spent less h =
    let is : charged left probes m r ≡ Ok ((m', left'), Spent) = h ∙ ap (λ (x : Effect). Ok ((m', left'), x)) spent in
    spent-by m m' left left' probes r (nat_lt left probes) (lt-ltb left probes less) is

-- a step of printing
printing-is : (w : Whole) (word : ℕ) (mode : Mode) → (mode ≡ Running → ⊥)
    → mode_step w.machine word mode ≡ with_copies w.machine.undo (item_by w.machine.flat mode)
printing-is w word Running printing = absurd (printing refl)
printing-is w word (Printing p) printing = refl

pub no-probes : (f : FlatState) (mode : Mode) → (mode ≡ Running → ⊥) → probes_in f mode ≡ 0
no-probes f Running printing = absurd (printing refl)
no-probes f (Printing p) printing = refl

printed-is : (w : Whole) (word budget : ℕ) → 1 ≤ budget → 0 < sp_of w.machine.flat → (w.machine.flat.mode ≡ Running → ⊥)
    → stepped w word budget ≡ paid budget 1 (with_copies w.machine.undo (printed w.machine.flat))
printed-is w word budget some live printing =
    let f : FlatState = w.machine.flat in
    let enough : nat_lt budget 1 ≡ false = le-ltb budget 1 (omega (arith, some)) in
    by_mode w word budget f.mode live refl
    ∙ ap (λ (n : ℕ). tested w budget (1 + n) (nat_lt budget (1 + n)) (mode_step w.machine word f.mode))
    (no-probes f f.mode printing)
    ∙ ap (λ (t : Bool). tested w budget 1 t (mode_step w.machine word f.mode)) enough
    ∙ ap (paid budget 1) (printing-is w word f.mode printing)

pub print_err : (w : Whole) (word budget : ℕ) (fault : Fault) → 1 ≤ budget → 0 < sp_of w.machine.flat
    → (w.machine.flat.mode ≡ Running → ⊥) → printed w.machine.flat ≡ Err fault → stepped w word budget ≡ Err fault
print_err w word budget fault some live printing h =
    printed-is w word budget some live printing
    ∙ ap (λ (r : Result (FlatState × Effect) Fault). paid budget 1 (with_copies w.machine.undo r)) h

pub print_ok : (w : Whole) (word budget : ℕ) (g : FlatState) (e : Effect) (asking : Option Asking) → 1 ≤ budget
    → 0 < sp_of w.machine.flat → (w.machine.flat.mode ≡ Running → ⊥) → asking_of e ≡ asking
    → printed w.machine.flat ≡ Ok (g, e) → stepped w word budget
    ≡ Ok ((record { machine = record { flat = g; undo = w.machine.undo }; asking = asking }, budget - 1), e)
print_ok w word budget g e asking some live printing asks h =
    printed-is w word budget some live printing
    ∙ ap (λ (r : Result (FlatState × Effect) Fault). paid budget 1 (with_copies w.machine.undo r)) h
    ∙ ap (λ (a : Option Asking). Ok (
      (
        record { machine = record { flat = g; undo = w.machine.undo }; asking = a },
        budget - 1,
      ),
      e,
    )) asks

-- a character is asked to be put, and the machine stands
pub puts_ok : (w : Whole) (budget : ℕ) (pending : Option Pending) (r : Option ℕ) → 1 ≤ budget → 0 < sp_of w.machine.flat
    → IfSome r (λ c. (u : FlatUndo) (word : ℕ)
    → mode_step (record { flat = w.machine.flat; undo = u }) word w.machine.flat.mode
    ≡ Ok (record { flat = w.machine.flat; undo = u }, Put c))
    → IfSome r (λ c. probes_in w.machine.flat w.machine.flat.mode ≡ 0)
    → IfSome r (λ c. option_map (λ (p : Pending). p.asking) pending ≡ Some asking.Put)
    → IfSome r (λ c. (word : ℕ) → stepped w word budget
    ≡ Ok (
      (
        record {
          machine = record { flat = w.machine.flat; undo = w.machine.undo };
          asking = option_map (λ (p : Pending). p.asking) pending;
        },
        budget - 1,
      ),
      Put c,
    ))
puts_ok w budget pending None some live value probes asks = tt
puts_ok w budget pending (Some c) some live value probes asks = λ word.
    let f : FlatState = w.machine.flat in
    let enough : nat_lt budget 1 ≡ false = le-ltb budget 1 (omega (arith, some)) in
    by_mode w word budget f.mode live refl
    ∙ ap (λ (n : ℕ). tested w budget (1 + n) (nat_lt budget (1 + n)) (mode_step w.machine word f.mode)) probes
    ∙ ap (λ (t : Bool). tested w budget 1 t (mode_step w.machine word f.mode)) enough
    ∙ ap (paid budget 1) (value w.machine.undo word)
    ∙ ap (λ (a : Option Asking). Ok (
      (
        record { machine = record { flat = f; undo = w.machine.undo }; asking = a },
        budget - 1,
      ),
      Put c,
    )) (sym asks)

-- an item is the step of a machine that prints
pub item_steps : (f : FlatState) (c : ℕ) → (f.mode ≡ Running → ⊥) → printed f ≡ Ok (f, Put c)
    → (u : FlatUndo) (word : ℕ)
    → mode_step (record { flat = f; undo = u }) word f.mode ≡ Ok (record { flat = f; undo = u }, Put c)
item_steps f c printing is u word =
    printing-is (record { machine = record { flat = f; undo = u }; asking = None }) word f.mode printing
    ∙ ap (with_copies u) is

-- a step of printing that puts no character, and one that isn't made
paid-rest : (budget : ℕ) (undo : FlatUndo) (r : Result (FlatState × Effect) Fault) → IfOk r (λ x. is_put x.1 ≡ false)
    → IfOk (paid budget 1 (with_copies undo r)) (λ x. is_put x.1 ≡ false)
paid-rest budget undo (Ok x) rest = rest
paid-rest budget undo (Err fault) rest = tt

pub prints_rest : (w : Whole) (word budget : ℕ) → 1 ≤ budget → 0 < sp_of w.machine.flat
    → (w.machine.flat.mode ≡ Running → ⊥)
    → IfOk (printed w.machine.flat) (λ x. is_put x.1 ≡ false) → IfOk (stepped w word budget) (λ x. is_put x.1 ≡ false)
prints_rest w word budget some live printing rest =
    subst (λ (r : Result ((Whole × ℕ) × Effect) Fault). IfOk r (λ x. is_put x.1 ≡ false))
    (sym (printed-is w word budget some live printing))
    (paid-rest budget w.machine.undo (printed w.machine.flat) rest)

-- a step that the budget has the cost of, and that writes
cost-by : (m : FlatMachine) (b : Bool) → b ≡ false
    → 1 + (if b then 0 else probes_in m.flat m.flat.mode) ≡ 1 + probes_in m.flat m.flat.mode
cost-by m true has = absurd cc
cost-by m false has = refl

cost-is : (m : FlatMachine) → 0 < sp_of m.flat → m.flat.mode ≡ Running → cost_of m ≡ 1 + probes_in m.flat Running
unfolding cost_of
cost-is m live running = cost-by m (sp_of m.flat == 0) (not-zero (sp_of m.flat) live)
    ∙ ap (λ (d : Mode). 1 + probes_in m.flat d) running

pub step_writes : (m : FlatMachine) (budget : ℕ) → 1 ≤ budget → 0 < sp_of m.flat → m.flat.mode ≡ Running
    → probes_in m.flat Running ≤ budget - 1 → IsModeWriting m Running → IsStepWriting m budget
step_writes m budget some live running enough writes =
    let cost = cost-is m live running in
    (omega (arith, cost, some, enough), subst (λ (d : Mode). IsModeWriting m d) (sym running) writes)

-- a fault leaves the machine and its budget, and so does want of memory
pub run_err : (w : Whole) (word budget left : ℕ) (m' : FlatMachine) (fault : Fault) → 1 ≤ budget
    → 0 < sp_of w.machine.flat → w.machine.flat.mode ≡ Running
    → ◌≡◌ {A = FlatMachine × ℕ} (m', left) (w.machine, budget - 1)
    → IsAfforded (budget - 1) (probes_in w.machine.flat Running) fault
    → IsRefused (IsModeWriting w.machine Running) fault
    (charged (budget - 1) (probes_in w.machine.flat Running) w.machine (mode_step w.machine word Running))
    → ◌≡◌ {A = Whole × ℕ} (record { machine = m'; asking = w.asking }, budget) (w, budget)
    × IsRefused (IsStepWriting w.machine budget) fault (stepped w word budget)
run_err w word budget left m' fault some live running same affords does = (
  ap (λ (x : FlatMachine × ℕ). (record { machine = x.0; asking = w.asking }, budget)) same,
  (
    (λ given. step_err w word budget fault some live running (does.0 given)),
    (λ none. let free = does.1 none in (
      step_writes w.machine budget some live running (affords none) free.0,
      step_can w word budget some live running free.1,
    )),
  ),
)

pub print_stands : (w : Whole) (word budget : ℕ) (g : FlatState) (fault : Fault) → 1 ≤ budget
    → 0 < sp_of w.machine.flat → (w.machine.flat.mode ≡ Running → ⊥) → g ≡ w.machine.flat
    → IsRefused ⊥ fault (printed w.machine.flat)
    → ◌≡◌ {A = Whole × ℕ} (record { machine = record { flat = g; undo = w.machine.undo }; asking = w.asking }, budget)
    (w, budget) × IsRefused ⊥ fault (stepped w word budget)
print_stands w word budget g fault some live printing same does = (
  ap (λ (f : FlatState). (record { machine = record { flat = f; undo = w.machine.undo }; asking = w.asking }, budget))
      same,
  (
    (λ given. print_err w word budget fault some live printing (does.0 given)),
    (λ none. absurd (does.1 none).0),
  ),
)

-- what is asked is pending
pub some_of : (o : Option Pending) → IsSome (option_map (λ (p : Pending). p.asking) o) → IsSome o
some_of None asks = asks
some_of (Some p) asks = refl

spent-not-went : Spent ≡ Went → ⊥
spent-not-went same = cc

err-not-ok : {A : Type 0} (f : Fault) (x : A) → (let r : Result A Fault = Err f in r ≡ Ok x) → ⊥
err-not-ok f x same = cc

-- a step that went takes a unit at least, and asks nothing
went-by : (w w' : Whole) (budget cost left : ℕ) (r : Result (FlatMachine × Effect) Fault) (b : Bool) → 1 ≤ cost
    → nat_lt budget cost ≡ b
    → tested w budget cost b r ≡ Ok ((w', left), Went) → (left < budget) × (w'.asking ≡ None)
went-by w w' budget cost left r true some is h =
    absurd (spent-not-went (ap (λ (y : (Whole × ℕ) × Effect). y.1)
    (ok-is {A = (Whole × ℕ) × Effect} ((w, budget), Spent) ((w', left), Went) h)))
went-by w w' budget cost left (Ok x) false some is h =
    let same : ((record { machine = x.0; asking = asking_of x.1 }, budget - cost), x.1) ≡ ((w', left), Went) =
    ok-is {A = (Whole × ℕ) × Effect} ((record { machine = x.0; asking = asking_of x.1 }, budget - cost), x.1)
    ((w', left), Went) h in
    let units : budget - cost ≡ left = ap (λ (y : (Whole × ℕ) × Effect). y.0.1) same in
    let asks : asking_of x.1 ≡ w'.asking = ap (λ (y : (Whole × ℕ) × Effect). y.0.0.asking) same in
    let went : x.1 ≡ Went = ap (λ (y : (Whole × ℕ) × Effect). y.1) same in
    let enough : cost ≤ budget = ltb-false budget cost is in
    (omega (arith, units, enough, some), sym asks ∙ ap asking_of went)
went-by w w' budget cost left (Err f) false some is h = absurd (err-not-ok f ((w', left), Went) h)

pub went_lower : (w w' : Whole) (word budget left : ℕ) → stepped w word budget ≡ Ok ((w', left), Went) → left < budget
unfolding stepped cost_of
went_lower w w' word budget left h = (went-by w w' budget (cost_of w.machine) left (step_of w.machine word)
    (nat_lt budget (cost_of w.machine)) (omega arith) refl h).0

pub went_asks : (w w' : Whole) (word budget left : ℕ) → stepped w word budget ≡ Ok ((w', left), Went) → w'.asking ≡ None
unfolding stepped cost_of
went_asks w w' word budget left h = (went-by w w' budget (cost_of w.machine) left (step_of w.machine word)
    (nat_lt budget (cost_of w.machine)) (omega arith) refl h).1

pub ruleset steps = (step_none, step_empty, step_err, step_ok, step_spent, spent_stands, print_err, print_ok)
