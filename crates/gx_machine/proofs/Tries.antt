-- What the quick way does is the machine's step.
use Rattle.std.proofs.Common.{◌≡◌, ◌≤◌, ◌<◌, ◌==◌, ◌&&◌, ◌||◌, not, ℕ, Bool, true, false, nat_le, refl, ap, subst}
use Rattle.std.proofs.Common.{sym, ◌∙◌, arith, Result, Ok, Err, IsOk, IsOkAnd}
use Rattle.std.specs.List.{list_all}
use Rattle.std.specs.Option.{ok_or}
use Rattle.std.proofs.lemmas.Bool.Decides.{nat_tests}
use Rattle.std.proofs.lemmas.List.Sums.{AllPass-from_list_all}
use Rattle.gx_words.specs.declared.faults.Fault.{Fault}
use Rattle.gx_words.specs.declared.faults.Fault.TheVariants.{BadOpcode}
use Rattle.gx_words.specs.Results.{◌>>=◌}
use Rattle.gx_rows.specs.declared.instructions.Class.{Class}
use Rattle.gx_rows.specs.declared.instructions.Class.TheVariants as class
use Rattle.gx_rows.specs.declared.instructions.Row.{Row}
use Rattle.gx_rows.specs.Numbers as numbers
use Rattle.gx_rows.specs.Table.{table, row_at, row_of, row_count}
use Rattle.gx_rows.proofs.Places.{rows_counted}
use Rattle.gx_state.specs.declared.effects.Effect.{Effect}
use Rattle.gx_state.specs.declared.modes.Mode.TheVariants.{Running}
use Rattle.gx_state.specs.Flat.{FlatState}
use Rattle.gx_operands.specs.Instructions.{Operands, Instruction, opcode, all_operands, instruction}
use Rattle.gx_undo.specs.Undo.{FlatUndo}
use Rattle.ops_memory.specs.Costs.{probes_of}
use Rattle.ops_flow.proofs.Acts.{calc_act, branch_act}
use Rattle.gx_machine.specs.Machine.{FlatMachine}
use Rattle.gx_machine.specs.Quick.{Tries, IsPlain, IsQuick, quick_effect, IsQuickWriting, quick_row, IsRowWriting}
use Rattle.gx_machine.specs.Quick.{read_as}
use Rattle.gx_machine.specs.MachineRows.{row_effect, with_copies, IsWriting}
use Rattle.gx_machine.specs.Step.{mode_step, probes_in, IsModeWriting}
use Rattle.gx_machine.proofs.Costs.{probes_by}

-- ---- the shapes of the table's rows

abbrev is_plain : Row → Bool
is_plain r = r.width == 4 && not r.store_first

-- a row of at most three loads is no search, and is plain where it isn't a load and a store
abbrev is_short : Row → Bool
is_short r = nat_le 4 r.loads || (not (r.number == numbers.linearsearch || r.number == numbers.binarysearch ||
    r.number == numbers.linkedsearch) && (r.loads == 0 || (r.loads == 1 && r.stores == 1) || is_plain r))

all_short : list_all is_short table ≡ true
unfolding table
all_short = refl

short : (place : ℕ) → place < row_count → is_short (row_at place) ≡ true
unfolding row_at
short place within = AllPass-from_list_all is_short table all_short place _ (omega (arith, rows_counted))

plain_by : (r : Row) → is_plain r ≡ true → IsPlain r
plain_by r is = record { width = grind (arith, nat_tests); in_order = grind (arith, nat_tests) }

pub one_plain : (place : ℕ) → place < row_count → (row_at place).loads ≡ 1 → (row_at place).stores ≡ 0
    → IsPlain (row_at place)
one_plain place within one none = let is = short place within in plain_by (row_at place) (grind (arith, nat_tests))

pub two_plain : (place : ℕ) → place < row_count → (row_at place).loads ≡ 2 → IsPlain (row_at place)
two_plain place within two = let is = short place within in plain_by (row_at place) (grind (arith, nat_tests))

pub three_plain : (place : ℕ) → place < row_count → (row_at place).loads ≡ 3 → IsPlain (row_at place)
three_plain place within three = let is = short place within in plain_by (row_at place) (grind (arith, nat_tests))

-- a row that copies loads first
is_copy : Class → Bool
is_copy class.Copy = true
is_copy class.Calc = false
is_copy class.Branch = false
is_copy class.Flow = false
is_copy class.Memory = false
is_copy class.Stack = false
is_copy class.Print = false
is_copy class.Game = false
is_copy class.Glk = false

abbrev copies_in_order : Row → Bool
copies_in_order r = not (is_copy r.class && r.store_first)

all_in_order : list_all copies_in_order table ≡ true
unfolding table is_copy
all_in_order = refl

ordered_by : (c : Class) (first : Bool) → not (is_copy c && first) ≡ true → c ≡ class.Copy → first ≡ false
unfolding is_copy
ordered_by c first is copy = let ordered : not first ≡ true = (rw copy at is) in grind (arith, nat_tests)

pub copy_in_order : (place : ℕ) → place < row_count → (row_at place).class ≡ class.Copy
    → (row_at place).store_first ≡ false
unfolding row_at
copy_in_order place within copy = ordered_by (row_at place).class (row_at place).store_first
    (AllPass-from_list_all copies_in_order table all_in_order place _ (omega (arith, rows_counted))) copy

-- ---- a short row begins no probes

no_search : (place : ℕ) → place < row_count → (row_at place).loads ≤ 3 → (f : FlatState) (i : Instruction)
    → i.row ≡ row_at place → probes_of class.Memory f i ≡ 0
no_search place within few f i is =
    let all = short place within in
    let linear : ((row_at place).number == numbers.linearsearch) ≡ false = grind (arith, nat_tests) in
    let binary : ((row_at place).number == numbers.binarysearch) ≡ false = grind (arith, nat_tests) in
    let linked : ((row_at place).number == numbers.linkedsearch) ≡ false = grind (arith, nat_tests) in
    rw (is, linear, binary, linked) refl

by_class : (c : Class) (f : FlatState) (i : Instruction) → probes_of class.Memory f i ≡ 0 → probes_of c f i ≡ 0
by_class class.Calc f i none = refl
by_class class.Branch f i none = refl
by_class class.Flow f i none = refl
by_class class.Copy f i none = refl
by_class class.Memory f i none = none
by_class class.Stack f i none = refl
by_class class.Print f i none = refl
by_class class.Game f i none = refl
by_class class.Glk f i none = refl

abbrev instruction_by : FlatState → Row → Result Operands Fault → Result Instruction Fault
instruction_by f row r = r >>= (λ (o : Operands). Ok (read_as f row o))

by_operands : (place : ℕ) → place < row_count → (row_at place).loads ≤ 3 → (f : FlatState) (r : Result Operands Fault)
    → probes_by f (instruction_by f (row_at place) r) ≡ 0
by_operands place within few f (Ok o) = by_class (row_at place).class f (read_as f (row_at place) o)
    (no_search place within few f (read_as f (row_at place) o) refl)
by_operands place within few f (Err e) = refl

pub instruction_is : (f : FlatState) (number modes : ℕ) (row : Row) → opcode f ≡ Ok (number, modes)
    → ok_or (row_of number) BadOpcode ≡ Ok row → instruction f ≡ instruction_by f row (all_operands f row modes)
unfolding instruction
instruction_is f number modes row read found = rw (read, found) refl

pub no_probes : (f : FlatState) (number modes place : ℕ) → opcode f ≡ Ok (number, modes)
    → ok_or (row_of number) BadOpcode ≡ Ok (row_at place) → place < row_count → (row_at place).loads ≤ 3
    → probes_in f Running ≡ 0
no_probes f number modes place read found within few =
    ap (probes_by f) (instruction_is f number modes (row_at place) read found)
    ∙ by_operands place within few f (all_operands f (row_at place) modes)

-- ---- a fault before the row

pub no_number : (m : FlatMachine) (word : ℕ) (e : Fault) → opcode m.flat ≡ Err e → mode_step m word Running ≡ Err e
unfolding instruction
no_number m word e fails = rw fails refl

pub no_number_probes : (f : FlatState) (e : Fault) → opcode f ≡ Err e → probes_in f Running ≡ 0
unfolding instruction
no_number_probes f e fails = rw fails refl

pub no_row : (m : FlatMachine) (word number modes : ℕ) (e : Fault) → opcode m.flat ≡ Ok (number, modes)
    → ok_or (row_of number) BadOpcode ≡ Err e → mode_step m word Running ≡ Err e
unfolding instruction
no_row m word number modes e read fails = rw (read, fails) refl

pub no_row_probes : (f : FlatState) (number modes : ℕ) (e : Fault) → opcode f ≡ Ok (number, modes)
    → ok_or (row_of number) BadOpcode ≡ Err e → probes_in f Running ≡ 0
unfolding instruction
no_row_probes f number modes e read fails = rw (read, fails) refl

-- ---- the row

effect_is : (c : Class) → IsQuick c → (m : FlatMachine) (word : ℕ) (i : Instruction)
    → row_effect c m word i ≡ with_copies m.undo (quick_effect c m.flat i)
effect_is class.Calc q m word i = refl
effect_is class.Branch q m word i = refl
effect_is class.Flow q m word i = refl
effect_is class.Copy q m word i = refl
effect_is class.Memory q m word i = refl
effect_is class.Stack q m word i = absurd q
effect_is class.Print q m word i = absurd q
effect_is class.Game q m word i = absurd q
effect_is class.Glk q m word i = absurd q

writing_is : (c : Class) → IsQuick c → (m : FlatMachine) (i : Instruction) → IsQuickWriting c m.flat i → IsWriting c m i
writing_is class.Calc q m i w = w
writing_is class.Branch q m i w = w
writing_is class.Flow q m i w = w
writing_is class.Copy q m i w = w
writing_is class.Memory q m i w = w
writing_is class.Stack q m i w = absurd q
writing_is class.Print q m i w = absurd q
writing_is class.Game q m i w = absurd q
writing_is class.Glk q m i w = absurd q

step_by : (m : FlatMachine) (word : ℕ) (row : Row) → IsQuick row.class → (r : Result Operands Fault)
    → (instruction_by m.flat row r >>= (λ (i : Instruction). row_effect i.row.class m word i))
    ≡ with_copies m.undo (r >>= (λ (o : Operands). quick_effect row.class m.flat (read_as m.flat row o)))
step_by m word row q (Ok o) = effect_is row.class q m word (read_as m.flat row o)
step_by m word row q (Err e) = refl

step_is : (m : FlatMachine) (word number modes : ℕ) (row : Row) → opcode m.flat ≡ Ok (number, modes)
    → ok_or (row_of number) BadOpcode ≡ Ok row → IsQuick row.class
    → mode_step m word Running ≡ with_copies m.undo (quick_row m.flat row modes)
step_is m word number modes row read found q =
    ap (λ (r : Result Instruction Fault). r >>= (λ (i : Instruction). row_effect i.row.class m word i))
    (instruction_is m.flat number modes row read found)
    ∙ step_by m word row q (all_operands m.flat row modes)

wants_by : (m : FlatMachine) (row : Row) → IsQuick row.class → (r : Result Operands Fault)
    → IsOkAnd r (λ o. IsQuickWriting row.class m.flat (read_as m.flat row o))
    → IsOkAnd (instruction_by m.flat row r) (λ i. IsWriting i.row.class m i)
wants_by m row q (Ok o) w = writing_is row.class q m (read_as m.flat row o) w
wants_by m row q (Err e) w = absurd w

wants_is : (m : FlatMachine) (number modes : ℕ) (row : Row) → opcode m.flat ≡ Ok (number, modes)
    → ok_or (row_of number) BadOpcode ≡ Ok row → IsQuick row.class
    → IsRowWriting m.flat row modes → IsModeWriting m Running
wants_is m number modes row read found q w =
    subst (λ (r : Result Instruction Fault). IsOkAnd r (λ i. IsWriting i.row.class m i))
    (sym (instruction_is m.flat number modes row read found)) (wants_by m row q (all_operands m.flat row modes) w)

copies-ok : (u : FlatUndo) (r : Result (FlatState × Effect) Fault) → IsOk r → IsOk (with_copies u r)
copies-ok u (Ok x) ok = ok
copies-ok u (Err e) ok = ok

lifted : (A B : Type 0) (f g : FlatState) (u : FlatUndo) (r : Result Bool Fault)
    (d : Result (FlatState × Effect) Fault) (d' : Result (FlatMachine × Effect) Fault)
    → d' ≡ with_copies u d → (A → B) → Tries {S = FlatState} A r f g d
    → Tries {S = FlatMachine} B r (record { flat = f; undo = u }) (record { flat = g; undo = u }) d'
lifted A B f g u (Ok true) d d' same wants t = same ∙ ap (with_copies u) t
lifted A B f g u (Ok false) d d' same wants t = ap (λ (x : FlatState). record { flat = x; undo = u }) t
lifted A B f g u (Err e) d d' same wants t = (
  ap (λ (x : FlatState). record { flat = x; undo = u }) t.0,
  (
    (λ given. same ∙ ap (with_copies u) (t.1.0 given)),
    (λ none. let free = t.1.1 none in (wants free.0, subst IsOk (sym same) (copies-ok u d free.1))),
  ),
)

pub row_tried : (f g : FlatState) (u : FlatUndo) (word number modes : ℕ) (row : Row) (r : Result Bool Fault)
    → opcode f ≡ Ok (number, modes) → ok_or (row_of number) BadOpcode ≡ Ok row → IsQuick row.class
    → Tries {S = FlatState} (IsRowWriting f row modes) r f g (quick_row f row modes)
    → Tries {S = FlatMachine} (IsModeWriting (record { flat = f; undo = u }) Running) r
    (record { flat = f; undo = u }) (record { flat = g; undo = u })
    (mode_step (record { flat = f; undo = u }) word Running)
row_tried f g u word number modes row r read found q t =
    lifted (IsRowWriting f row modes) (IsModeWriting (record { flat = f; undo = u }) Running) f g u r
    (quick_row f row modes) _
    (step_is (record { flat = f; undo = u }) word number modes row read found q)
    (wants_is (record { flat = f; undo = u }) number modes row read found q) t

pub ruleset rows = (
  calc_act,
  branch_act,
  one_plain,
  two_plain,
  three_plain,
  copy_in_order,
  no_probes,
  no_number,
  no_number_probes,
  no_row,
  no_row_probes,
  row_tried,
)
