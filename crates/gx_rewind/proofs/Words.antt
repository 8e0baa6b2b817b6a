-- A step that draws no word from outside is the same with every word.
use Rattle.std.proofs.Common.{◌≡◌, ◌≢◌, ◌==◌, ◌⊎◌, inl, inr, ℕ, if◌then◌else◌, Bool, true, false, Result, Ok, Err}
use Rattle.std.proofs.Common.{refl, ap, subst, ◌∙◌}
use Rattle.gx_words.specs.declared.faults.Fault.{Fault}
use Rattle.gx_words.specs.declared.faults.Fault.TheVariants.{BadFrame}
use Rattle.gx_words.specs.Results.{◌>>=◌}
use Rattle.gx_rows.specs.Numbers as numbers
use Rattle.gx_rows.specs.declared.instructions.Class.{Class}
use Rattle.gx_rows.specs.declared.instructions.Class.TheVariants as class
use Rattle.gx_state.specs.declared.effects.Effect.{Effect}
use Rattle.gx_state.specs.declared.effects.Effect.TheVariants.{Went, Drew}
use Rattle.gx_state.specs.declared.modes.Mode.{Mode}
use Rattle.gx_state.specs.declared.modes.Mode.TheVariants as mode
use Rattle.gx_state.specs.Flat.{FlatState, sp_of}
use Rattle.gx_operands.specs.Instructions.{Instruction, instruction, L1, going_to}
use Rattle.gx_operands.specs.Stores.{settled}
use Rattle.gx_undo.specs.Undo.{FlatUndo}
use Rattle.ops_calc.specs.declared.random.Generator.{Generator}
use Rattle.ops_calc.specs.declared.random.Generator.TheVariants.{Outside, Seeded}
use Rattle.ops_calc.specs.Generator.{pick, word_from, after_word, is_outside}
use Rattle.ops_game.specs.GameRows as game
use Rattle.gx_machine.specs.Machine.{FlatMachine}
use Rattle.gx_machine.specs.MachineRows.{row_effect}
use Rattle.gx_machine.proofs.Games.{with_both}
use Rattle.gx_machine.specs.Step.{mode_step, step_of}

-- the step draws or has a fault, or it ends the same
abbrev HasDrawn : {X : Type 0} → Result (X × Effect) Fault → Type 0
HasDrawn (Ok x) = x.1 ≡ Drew
HasDrawn (Err f) = Unit {0}

abbrev IsFree : {X : Type 0} → Result (X × Effect) Fault → Result (X × Effect) Fault → Type 0
IsFree r s = HasDrawn r ⊎ (s ≡ r)

free-else : {X : Type 0} (b : Bool) (x y y' : Result (X × Effect) Fault) → IsFree y y'
    → IsFree (if b then x else y) (if b then x else y')
free-else true x y y' h = inr refl
free-else false x y y' h = h

free-then : {X : Type 0} (b : Bool) (x x' y : Result (X × Effect) Fault) → IsFree x x'
    → IsFree (if b then x else y) (if b then x' else y)
free-then true x x' y h = h
free-then false x x' y h = inr refl

leaving-drawn : (u : FlatUndo) (r : Result (FlatState × Effect) Fault) → HasDrawn r → HasDrawn (game.leaving_copies u r)
leaving-drawn u (Ok x) h = h
leaving-drawn u (Err f) h = h

leaving-free : (u : FlatUndo) (r s : Result (FlatState × Effect) Fault) → IsFree r s
    → IsFree (game.leaving_copies u r) (game.leaving_copies u s)
leaving-free u r s (inl d) = inl (leaving-drawn u r d)
leaving-free u r s (inr e) = inr (ap (game.leaving_copies u) e)

both-drawn : (r : Result ((FlatState × FlatUndo) × Effect) Fault) → HasDrawn r → HasDrawn (with_both r)
both-drawn (Ok x) h = h
both-drawn (Err f) h = h

both-free : (r s : Result ((FlatState × FlatUndo) × Effect) Fault) → IsFree r s → IsFree (with_both r) (with_both s)
both-free r s (inl d) = inl (both-drawn r d)
both-free r s (inr e) = inr (ap with_both e)

-- a random word, by the generator
abbrev drawn-by : FlatState → Generator → ℕ → Instruction → Result FlatState Fault
drawn-by f g word i = settled f i.sp 4 i.dest (pick (L1 i) (word_from g word))
    >>= (λ (h : FlatState). Ok (record h { generator = after_word g }))

abbrev random-by : FlatState → Generator → ℕ → Instruction → Result (FlatState × Effect) Fault
random-by f g word i = drawn-by f g word i
    >>= (λ (h : FlatState). Ok (going_to h i.next, if is_outside g then Drew else Went))

draws-by : (r : Result FlatState Fault) (next : ℕ) → HasDrawn (r >>= (λ (h : FlatState). Ok (going_to h next, Drew)))
draws-by (Ok h) next = refl
draws-by (Err f) next = tt

free-by : (f : FlatState) (g : Generator) (word : ℕ) (i : Instruction)
    → IsFree (random-by f g word i) (random-by f g 0 i)
free-by f Outside word i = inl (draws-by (drawn-by f Outside word i) i.next)
free-by f (Seeded pcg) word i = inr refl

random-free : (f : FlatState) (word : ℕ) (i : Instruction) → IsFree (game.random f word i) (game.random f 0 i)
unfolding game.random
random-free f word i = free-by f f.generator word i

game-free : (f : FlatState) (u : FlatUndo) (word : ℕ) (i : Instruction)
    → IsFree (game.row_effect f u word i) (game.row_effect f u 0 i)
unfolding game.row_effect
game-free f u word i =
    free-else (i.row.number == numbers.gestalt) _ _ _
    (free-else (i.row.number == numbers.debugtrap) _ _ _
    (free-then (i.row.number == numbers.random) _ _ _
    (leaving-free u (game.random f word i) (game.random f 0 i) (random-free f word i))))

row-free : (c : Class) (m : FlatMachine) (word : ℕ) (i : Instruction)
    → IsFree (row_effect c m word i) (row_effect c m 0 i)
row-free class.Calc m word i = inr refl
row-free class.Branch m word i = inr refl
row-free class.Flow m word i = inr refl
row-free class.Copy m word i = inr refl
row-free class.Memory m word i = inr refl
row-free class.Stack m word i = inr refl
row-free class.Print m word i = inr refl
row-free class.Game m word i = both-free (game.row_effect m.flat m.undo word i) (game.row_effect m.flat m.undo 0 i)
    (game-free m.flat m.undo word i)
row-free class.Glk m word i = inr refl

run-free : (m : FlatMachine) (word : ℕ) (r : Result Instruction Fault)
    → IsFree (r >>= (λ (i : Instruction). row_effect i.row.class m word i))
    (r >>= (λ (i : Instruction). row_effect i.row.class m 0 i))
run-free m word (Ok i) = row-free i.row.class m word i
run-free m word (Err f) = inr refl

mode-free : (m : FlatMachine) (word : ℕ) (mode : Mode) → IsFree (mode_step m word mode) (mode_step m 0 mode)
mode-free m word mode.Running = run-free m word (instruction m.flat)
mode-free m word (mode.Printing p) = inr refl

step-free : (m : FlatMachine) (word : ℕ) → IsFree (step_of m word) (step_of m 0)
unfolding step_of
step-free m word = free-else (sp_of m.flat == 0) (Err BadFrame) (mode_step m word m.flat.mode)
    (mode_step m 0 m.flat.mode) (mode-free m word m.flat.mode)

same-by : (r s : Result (FlatMachine × Effect) Fault) (n : FlatMachine) (e : Effect) → IsFree r s → r ≡ Ok (n, e)
    → e ≢ Drew → s ≡ Ok (n, e)
same-by r s n e (inl d) is other = absurd (other (subst (λ (x : Result (FlatMachine × Effect) Fault). HasDrawn x) is d))
same-by r s n e (inr same) is other = same ∙ is

pub same-step : (m : FlatMachine) (word : ℕ) (n : FlatMachine) (e : Effect) → e ≢ Drew → step_of m word ≡ Ok (n, e)
    → step_of m 0 ≡ Ok (n, e)
same-step m word n e other is = same-by (step_of m word) (step_of m 0) n e (step-free m word) is other
