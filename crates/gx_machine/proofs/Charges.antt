-- The rows of Copy and Memory within a budget.
use Rattle.std.proofs.Common.{◌≡◌, ◌⊎◌, inl, inr, ℕ, nat_lt, if◌then◌else◌, Bool, true, false, Result, Ok, Err, IsOk}
use Rattle.std.proofs.Common.{ap, subst, sym, ◌∙◌, refl}
use Rattle.gx_words.specs.declared.faults.Fault.{Fault}
use Rattle.gx_words.specs.Faults.{Does}
use Rattle.gx_rows.specs.declared.instructions.Class.{Class}
use Rattle.gx_rows.specs.declared.instructions.Class.TheVariants as class
use Rattle.gx_state.specs.declared.effects.Effect.{Effect}
use Rattle.gx_state.specs.declared.effects.Effect.TheVariants.{Spent}
use Rattle.gx_state.specs.Flat.{FlatState}
use Rattle.gx_undo.specs.Undo.{FlatUndo}
use Rattle.gx_operands.specs.Instructions.{Instruction}
use Rattle.ops_memory.specs.MemoryRows as memory
use Rattle.ops_memory.specs.Writes as memory_writes
use Rattle.ops_memory.specs.Costs.{probes_of}
use Rattle.ops_memory.specs.Charges.{lowered, charged, acted}
use Rattle.gx_machine.specs.Machine.{FlatMachine}
use Rattle.gx_machine.specs.MachineRows.{row_effect, with_copies, IsWriting}

-- what a row makes of a state and a budget, beside copies that stay
abbrev beside : FlatUndo → Result ((FlatState × ℕ) × Effect) Fault → Result ((FlatMachine × ℕ) × Effect) Fault
beside u (Ok x) = Ok ((record { flat = x.0.0; undo = u }, x.0.1), x.1)
beside u (Err fault) = Err fault

beside-ok : (u : FlatUndo) (r : Result ((FlatState × ℕ) × Effect) Fault) → IsOk r → IsOk (beside u r)
beside-ok u (Ok x) ok = ok
beside-ok u (Err fault) ok = ok

charged-by : (m : FlatMachine) (left probes : ℕ) (b : Bool) (r : Result (FlatState × Effect) Fault)
    → (if b then Ok ((m, left), Spent) else lowered left probes (with_copies m.undo r))
    ≡ beside m.undo (if b then Ok ((m.flat, left), Spent) else lowered left probes r)
charged-by m left probes true r = refl
charged-by m left probes false (Ok x) = refl
charged-by m left probes false (Err fault) = refl

charged-beside : (m : FlatMachine) (left probes : ℕ) (r : Result (FlatState × Effect) Fault)
    → charged left probes m (with_copies m.undo r) ≡ beside m.undo (charged left probes m.flat r)
charged-beside m left probes r = charged-by m left probes (nat_lt left probes) r

acted-beside : (m : FlatMachine) (c : Class) (i : Instruction) (left : ℕ)
    → charged left (probes_of c m.flat i) m (with_copies m.undo (memory.row_effect c m.flat i))
    ≡ beside m.undo (acted c m.flat i left)
unfolding acted
acted-beside m c i left = charged-beside m left (probes_of c m.flat i) (memory.row_effect c m.flat i)

-- the two classes
memory-beside : (m : FlatMachine) (c : Class) (word left : ℕ) (i : Instruction) → (c ≡ class.Copy)
    ⊎ (c ≡ class.Memory) → charged left (probes_of c m.flat i) m (row_effect c m word i)
    ≡ beside m.undo (acted c m.flat i left)
memory-beside m c word left i (inl is) = rw is (acted-beside m class.Copy i left)
memory-beside m c word left i (inr is) = rw is (acted-beside m class.Memory i left)

memory-writing : (m : FlatMachine) (c : Class) (i : Instruction) → (c ≡ class.Copy) ⊎ (c ≡ class.Memory)
    → memory_writes.IsWriting c m.flat i → IsWriting c m i
memory-writing m c i (inl is) writes = subst (λ (x : Class). IsWriting x m i) (sym is)
    (subst (λ (x : Class). memory_writes.IsWriting x m.flat i) is writes)
memory-writing m c i (inr is) writes = subst (λ (x : Class). IsWriting x m i) (sym is)
    (subst (λ (x : Class). memory_writes.IsWriting x m.flat i) is writes)

-- a call that does it to the state does it to the machine
does-beside : (A B : Type 0) (f g : FlatState) (u : FlatUndo) (left left' : ℕ) (r : Result Effect Fault)
    (d : Result ((FlatState × ℕ) × Effect) Fault) (d' : Result ((FlatMachine × ℕ) × Effect) Fault)
    → d' ≡ beside u d → (A → B)
    → Does {X = Effect} {Y = Effect} {S = FlatState × ℕ} A (λ effect. effect) r (f, left) (g, left') d
    → Does {X = Effect} {Y = Effect} {S = FlatMachine × ℕ} B (λ effect. effect) r
    (record { flat = f; undo = u }, left) (record { flat = g; undo = u }, left') d'
does-beside A B f g u left left' (Ok x) d d' same wants does = same ∙ ap (beside u) does
does-beside A B f g u left left' (Err fault) d d' same wants does = (
  ap (λ (x : FlatState × ℕ). (record { flat = x.0; undo = u }, x.1)) does.0,
  (
    (λ given. same ∙ ap (beside u) (does.1.0 given)),
    (λ none. let free = does.1.1 none in (wants free.0, subst IsOk (sym same) (beside-ok u d free.1))),
  ),
)

pub memory_does : (m : FlatMachine) (c : Class) (word left left' : ℕ) (i : Instruction) (g : FlatState)
    (r : Result Effect Fault) → (c ≡ class.Copy) ⊎ (c ≡ class.Memory)
    → Does {X = Effect} {Y = Effect} {S = FlatState × ℕ} (memory_writes.IsWriting c m.flat i) (λ effect. effect) r
    (m.flat, left) (g, left') (acted c m.flat i left)
    → Does {X = Effect} {Y = Effect} {S = FlatMachine × ℕ} (IsWriting c m i) (λ effect. effect) r (m, left)
    (record { flat = g; undo = m.undo }, left') (charged left (probes_of c m.flat i) m (row_effect c m word i))
memory_does m c word left left' i g r is does =
    does-beside (memory_writes.IsWriting c m.flat i) (IsWriting c m i) m.flat g m.undo left left' r
    (acted c m.flat i left) _ (memory-beside m c word left i is) (memory-writing m c i is) does
