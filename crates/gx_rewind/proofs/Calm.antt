-- A step that is done is never said to be spent.
use Rattle.std.proofs.Common.{◌≡◌, ◌==◌, ◌+◌, ℕ, if◌then◌else◌, Bool, true, false, List, [], ◌∷◌, length, Option}
use Rattle.std.proofs.Common.{Some, None, Result, Ok, Err, subst}
use Rattle.std.specs.Prelude.{max}
use Rattle.gx_words.specs.declared.faults.Fault.{Fault}
use Rattle.gx_words.specs.declared.faults.Fault.TheVariants.{BadFrame}
use Rattle.gx_words.specs.Numbers.{rounded_up}
use Rattle.gx_words.specs.Results.{◌>>=◌}
use Rattle.gx_rows.specs.declared.instructions.Class.{Class}
use Rattle.gx_rows.specs.declared.instructions.Class.TheVariants as class
use Rattle.gx_state.specs.declared.effects.Effect.{Effect}
use Rattle.gx_state.specs.declared.effects.Effect.TheVariants.{Went, Drew, Put, Glk, Save, Restore, Quit, Spent}
use Rattle.gx_state.specs.declared.modes.Mode.{Mode}
use Rattle.gx_state.specs.declared.modes.Mode.TheVariants as mode
use Rattle.gx_state.specs.Copies.{Copy}
use Rattle.gx_state.specs.Flat.{FlatState, sp_of}
use Rattle.gx_state.specs.Returns.{returned}
use Rattle.gx_state.specs.Space.{with_size, with_block}
use Rattle.gx_words.specs.declared.strings.Printing.{Printing}
use Rattle.gx_operands.specs.Instructions.{Instruction, instruction, L1, going_to}
use Rattle.gx_operands.specs.Stores.{stores}
use Rattle.gx_undo.specs.Undo.{FlatUndo}
use Rattle.gx_strings.specs.declared.items.Item.{Item}
use Rattle.gx_strings.specs.declared.items.Item.TheVariants.{Char, Sub, Call, End}
use Rattle.ops_calc.specs.declared.random.Generator.{Generator}
use Rattle.ops_calc.specs.declared.random.Generator.TheVariants.{Outside, Seeded}
use Rattle.ops_calc.specs.Generator.{is_outside}
use Rattle.ops_flow.specs.FlowRows as flow
use Rattle.ops_memory.specs.MemoryRows as memory
use Rattle.ops_memory.specs.Searching as searching
use Rattle.ops_memory.specs.Space as space
use Rattle.ops_print.specs.Items as items
use Rattle.ops_print.specs.PrintRows as print
use Rattle.ops_game.specs.GameRows as game
use Rattle.gx_machine.specs.Machine.{FlatMachine}
use Rattle.gx_machine.specs.MachineRows.{glk, row_effect, with_copies}
use Rattle.gx_machine.proofs.Games.{with_both}
use Rattle.gx_machine.specs.Step.{mode_step, step_of}

abbrev IsCalm : Effect → Type 0
IsCalm Went = Unit {0}
IsCalm Drew = Unit {0}
IsCalm (Put c) = Unit {0}
IsCalm (Glk selector args room) = Unit {0}
IsCalm (Save stream) = Unit {0}
IsCalm (Restore stream) = Unit {0}
IsCalm Quit = Unit {0}
IsCalm Spent = ⊥

abbrev Calm : {X : Type 0} → Result (X × Effect) Fault → Type 0
Calm (Ok r) = IsCalm r.1
Calm (Err f) = Unit {0}

bind : {X Y : Type 0} (r : Result Y Fault) (k : Y → Result (X × Effect) Fault) → ((y : Y) → Calm (k y)) → Calm (r >>= k)
bind (Ok y) k h = h y
bind (Err f) k h = tt

choose : {X : Type 0} (b : Bool) (x y : Result (X × Effect) Fault) → Calm x → Calm y → Calm (if b then x else y)
choose true x y p q = p
choose false x y p q = q

ended-calm : (b : Bool) → IsCalm (if b then Quit else Went)
ended-calm true = tt
ended-calm false = tt

returns-calm : (f : FlatState) (next v : ℕ) → Calm (flow.returns f next v)
returns-calm f next v = bind (returned (going_to f next) f.fp v) (λ r. Ok (r.0, if r.1 then Quit else Went))
    (λ r. ended-calm r.1)

flow-calm : (f : FlatState) (i : Instruction) → Calm (flow.flow f i)
unfolding flow.flow flow.call flow.catch flow.throw flow.tailcall flow.callf
flow-calm f i = search (bind, choose, returns-calm) depth 40

stack-calm : (f : FlatState) (i : Instruction) → Calm (flow.stack f i)
unfolding flow.stack flow.stkcount flow.stkpeek flow.stkswap flow.stkroll flow.stkcopy
stack-calm f i = search (bind, choose) depth 40

computes-calm : (f : FlatState) (i : Instruction) → Calm (flow.computes f i)
unfolding flow.computes
computes-calm f i = search bind

jumps-calm : (f : FlatState) (i : Instruction) → Calm (flow.jumps f i)
unfolding flow.jumps
jumps-calm f i = search (choose, returns-calm) depth 40

flow-class-calm : (c : Class) (f : FlatState) (i : Instruction) → Calm (flow.row_effect c f i)
flow-class-calm class.Calc f i = computes-calm f i
flow-class-calm class.Branch f i = jumps-calm f i
flow-class-calm class.Flow f i = flow-calm f i
flow-class-calm class.Copy f i = tt
flow-class-calm class.Memory f i = tt
flow-class-calm class.Stack f i = stack-calm f i
flow-class-calm class.Print f i = tt
flow-class-calm class.Game f i = tt
flow-class-calm class.Glk f i = tt

copy-calm : (f : FlatState) (i : Instruction) → Calm (memory.copy f i)
unfolding memory.copy
copy-calm f i = search bind

kept : {X Y : Type 0} (r : Result (X × Effect) Fault) (g : X → Y) → Calm r → Calm (r >>= (λ x. Ok (g x.0, x.1)))
kept (Ok x) g h = h
kept (Err f) g h = tt

stores-calm : (f : FlatState) (i : Instruction) (v : ℕ) → Calm (stores f i v)
stores-calm f i v = search bind

found-calm : (f : FlatState) (i : Instruction) (o : Option ℕ) → Calm (space.allocated f i o)
found-calm f i None = stores-calm f i 0
found-calm f i (Some at) =
    kept (stores (with_size f (max (length f.memory) (rounded_up (at + L1 i)))) i at)
    (λ (g : FlatState). with_block g (length f.memory) at (L1 i))
    (stores-calm (with_size f (max (length f.memory) (rounded_up (at + L1 i)))) i at)

memory-calm : (f : FlatState) (i : Instruction) → Calm (memory.memory f i)
unfolding memory.memory memory.aload memory.aloads memory.aloadb memory.aloadbit memory.astore memory.astores
    memory.astoreb memory.astorebit space.getmemsize space.setmemsize searching.linearsearch searching.binarysearch
    searching.linkedsearch space.mzero space.mcopy space.malloc space.mfree
memory-calm f i = search (bind, choose, found-calm) depth 60

print-calm : (f : FlatState) (i : Instruction) → Calm (print.row_effect f i)
unfolding print.streamchar print.streamnum print.streamstr print.streamunichar
print-calm f i = search (bind, choose) depth 40

called-calm : (f : FlatState) (started : Bool) (p : Printing) (at : ℕ) (args : List ℕ)
    → Calm (items.function_called f started p at args)
unfolding items.function_called
called-calm f started p at args = search bind

printed-calm : (f : FlatState) (started : Bool) (i : Item) → Calm (items.item_printed f started i)
unfolding items.item_printed items.character_printed
printed-calm f started (Char value next) = search (choose, called-calm) depth 20
printed-calm f started (Sub back inner) = search bind
printed-calm f started (Call back at args_at count) = search (bind, called-calm) depth 20
printed-calm f started End = search (bind, choose) depth 20

item-calm : (f : FlatState) (p : Printing) → Calm (items.item f p)
unfolding items.item
item-calm f p = search (bind, choose, printed-calm) depth 20

leaving : (u : FlatUndo) (r : Result (FlatState × Effect) Fault) → Calm r → Calm (game.leaving_copies u r)
leaving u (Ok r) h = h
leaving u (Err f) h = tt

drawing-calm : (g : Generator) → IsCalm (if is_outside g then Drew else Went)
drawing-calm Outside = tt
drawing-calm (Seeded pcg) = tt

random-calm : (f : FlatState) (word : ℕ) (i : Instruction) → Calm (game.random f word i)
unfolding game.random
random-calm f word i = bind (game.drawn f word i)
    (λ g. Ok (going_to g i.next, if is_outside f.generator then Drew else Went)) (λ g. drawing-calm f.generator)

from-calm : (f : FlatState) (u : FlatUndo) (i : Instruction) (copies : List Copy)
    → Calm (game.restored_from f u i copies)
from-calm f u i [] = search (bind, leaving) depth 20
from-calm f u i (c ∷ older) = tt

game-calm : (f : FlatState) (u : FlatUndo) (word : ℕ) (i : Instruction) → Calm (game.row_effect f u word i)
unfolding game.row_effect game.gestalt game.setrandom game.quit game.verify game.restart game.save game.restore
    game.saveundo game.restoreundo game.protect game.hasundo game.discardundo game.getstringtbl game.setstringtbl
    game.getiosys game.setiosys
game-calm f u word i = search (bind, choose, leaving, random-calm, from-calm) depth 60

glk-calm : (f : FlatState) (i : Instruction) → Calm (glk f i)
unfolding glk
glk-calm f i = search bind

copies-calm : (u : FlatUndo) (r : Result (FlatState × Effect) Fault) → Calm r → Calm (with_copies u r)
copies-calm u (Ok r) h = h
copies-calm u (Err f) h = tt

both-calm : (r : Result ((FlatState × FlatUndo) × Effect) Fault) → Calm r → Calm (with_both r)
both-calm (Ok r) h = h
both-calm (Err f) h = tt

row-calm : (c : Class) (m : FlatMachine) (word : ℕ) (i : Instruction) → Calm (row_effect c m word i)
row-calm class.Calc m word i = copies-calm m.undo (flow.row_effect class.Calc m.flat i)
    (flow-class-calm class.Calc m.flat i)
row-calm class.Branch m word i = copies-calm m.undo (flow.row_effect class.Branch m.flat i)
    (flow-class-calm class.Branch m.flat i)
row-calm class.Flow m word i = copies-calm m.undo (flow.row_effect class.Flow m.flat i)
    (flow-class-calm class.Flow m.flat i)
row-calm class.Copy m word i = copies-calm m.undo (memory.copy m.flat i) (copy-calm m.flat i)
row-calm class.Memory m word i = copies-calm m.undo (memory.memory m.flat i) (memory-calm m.flat i)
row-calm class.Stack m word i = copies-calm m.undo (flow.row_effect class.Stack m.flat i)
    (flow-class-calm class.Stack m.flat i)
row-calm class.Print m word i = copies-calm m.undo (print.row_effect m.flat i) (print-calm m.flat i)
row-calm class.Game m word i = both-calm (game.row_effect m.flat m.undo word i) (game-calm m.flat m.undo word i)
row-calm class.Glk m word i = copies-calm m.undo (glk m.flat i) (glk-calm m.flat i)

mode-calm : (m : FlatMachine) (word : ℕ) (mode : Mode) → Calm (mode_step m word mode)
mode-calm m word mode.Running = bind (instruction m.flat) (λ i. row_effect i.row.class m word i)
    (λ i. row-calm i.row.class m word i)
mode-calm m word (mode.Printing p) = copies-calm m.undo (items.item m.flat p) (item-calm m.flat p)

step-calm : (m : FlatMachine) (word : ℕ) → Calm (step_of m word)
unfolding step_of
step-calm m word = choose (sp_of m.flat == 0) (Err BadFrame) (mode_step m word m.flat.mode) tt
    (mode-calm m word m.flat.mode)

pub never-spent : (m : FlatMachine) (word : ℕ) (n : FlatMachine) → step_of m word ≡ Ok (n, Spent) → ⊥
never-spent m word n is = subst (λ (r : Result (FlatMachine × Effect) Fault). Calm r) is (step-calm m word)
