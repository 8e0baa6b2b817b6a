-- The quick way of a step: an instruction of one of the commonest rows is read and done in one go. Which rows
-- these are is no part of what a step does.
use Rattle.std.specs.Prelude.{◌≡◌, ℕ, ◌-◌, ◌*◌, Bool, true, false, List, [], ◌∷◌, None, Result, Ok, Err, IsOkAnd}
use Rattle.std.specs.Option.{ok_or}
use Rattle.gx_words.specs.declared.faults.Fault.{Fault}
use Rattle.gx_words.specs.declared.faults.Fault.TheVariants.{Divide}
use Rattle.gx_words.specs.Faults.{IsRefused}
use Rattle.gx_words.specs.Results.{◌>>=◌}
use Rattle.gx_pages.specs.Memory.{number_in}
use Rattle.gx_rows.specs.declared.instructions.Class.{Class}
use Rattle.gx_rows.specs.declared.instructions.Class.TheVariants as class
use Rattle.gx_rows.specs.declared.instructions.Row.{Row}
use Rattle.gx_state.specs.declared.effects.Effect.{Effect}
use Rattle.gx_state.specs.declared.effects.Effect.TheVariants.{Went, Put}
use Rattle.gx_state.specs.declared.modes.Dest.{Dest}
use Rattle.gx_state.specs.declared.modes.Dest.TheVariants as dest
use Rattle.gx_state.specs.Flat.{FlatState, cut, sp_of}
use Rattle.gx_state.specs.Entry.{entered}
use Rattle.gx_state.specs.Returns.{stub_of}
use Rattle.ops_calc.specs.Arithmetic.{calc}
use Rattle.gx_operands.specs.declared.cursor.Cursor.{Cursor}
use Rattle.gx_operands.specs.Instructions.{Operands, Instruction, all_operands, going_to, instruction, destination}
use Rattle.gx_operands.specs.Stores.{settled, goes_to}
use Rattle.gx_machine.specs.Machine.{Whole}
use Rattle.gx_machine.specs.Step.{stepped, IsStepWriting}
use Rattle.gx_machine.specs.Advancing.{Passes}
use Rattle.ops_flow.specs.FlowRows as flow
use Rattle.ops_flow.specs.Writes as flow_writes
use Rattle.ops_memory.specs.MemoryRows as memory
use Rattle.ops_memory.specs.Writes as memory_writes
use Rattle.ops_print.specs.PrintRows as print

-- How a try ends: it is done as defined, and the machine goes on; or nothing is done, whatever it may be; or it has
-- a fault, and all stands.
abbrev pub Tries : {S : Type 0} → Type 0 → Result Bool Fault → S → S → Result (S × Effect) Fault → Type 0
Tries wants (Ok true) old new defined = defined ≡ Ok (new, Went)
Tries wants (Ok false) old new defined = new ≡ old
Tries wants (Err e) old new defined = (new ≡ old) × IsRefused wants e defined

-- the classes that have such rows
abbrev pub IsQuick : Class → Type 0
IsQuick class.Calc = Unit {0}
IsQuick class.Branch = Unit {0}
IsQuick class.Flow = Unit {0}
IsQuick class.Copy = Unit {0}
IsQuick class.Memory = Unit {0}
IsQuick class.Stack = ⊥
IsQuick class.Print = ⊥
IsQuick class.Game = ⊥
IsQuick class.Glk = ⊥

-- what a row of these classes makes of a state, and whether it may want memory
abbrev pub quick_effect : Class → FlatState → Instruction → Result (FlatState × Effect) Fault
quick_effect class.Copy f i = memory.row_effect class.Copy f i
quick_effect class.Memory f i = memory.row_effect class.Memory f i
quick_effect c f i = flow.row_effect c f i

abbrev pub IsQuickWriting : Class → FlatState → Instruction → Type 0
IsQuickWriting class.Copy f i = memory_writes.IsWriting class.Copy f i
IsQuickWriting class.Memory f i = memory_writes.IsWriting class.Memory f i
IsQuickWriting c f i = flow_writes.IsWriting c f i

-- the stack pointer that the pops of operands leave
abbrev pub sp_after : FlatState → Cursor → ℕ
sp_after f p = sp_of f - 4 * p.popped

-- an instruction whose operands were read
abbrev pub read_as : FlatState → Row → Operands → Instruction
read_as f row o =
    record {
      row = row;
      loads = o.loads;
      dest = o.dest;
      second = o.second;
      next = o.cursor.at;
      sp = sp_after f o.cursor;
    }

-- the instruction of a row whose modes stand at an address
abbrev pub quick_row : FlatState → Row → ℕ → Result (FlatState × Effect) Fault
quick_row f row modes = do
  o ← all_operands f row modes
  quick_effect row.class f (read_as f row o)

abbrev pub IsRowWriting : FlatState → Row → ℕ → Type 0
IsRowWriting f row modes = IsOkAnd (all_operands f row modes) (λ o. IsQuickWriting row.class f (read_as f row o))

-- a result is stored once the pops are made, and the next instruction follows
abbrev pub stored_on : FlatState → ℕ → Dest → ℕ → Cursor → Result (FlatState × Effect) Fault
stored_on f width d v p = do
  g ← settled f (sp_after f p) width d v
  Ok (going_to g p.at, Went)

-- what arithmetic makes of two operands is stored
abbrev pub computed_on : FlatState → ℕ → ℕ → ℕ → Dest → Cursor → Result (FlatState × Effect) Fault
computed_on f act a b d p = do
  v ← ok_or (calc act a b) Divide
  stored_on f 4 d v p

-- the fault of a division that has no result: that of its store operand comes first
abbrev pub without_result : FlatState → ℕ → Cursor → Result (FlatState × Effect) Fault
without_result f nibble p = do
  d ← destination f nibble p
  Err Divide

-- the number of so many bytes at an address is stored
abbrev pub fetched_on : FlatState → ℕ → ℕ → Dest → Cursor → Result (FlatState × Effect) Fault
fetched_on f width at d p = do
  v ← number_in width f.memory at
  stored_on f 4 d v p

-- a function is called with arguments
abbrev pub called_on : FlatState → ℕ → List ℕ → Dest → Cursor → Result (FlatState × Effect) Fault
called_on f at args d p = do
  g ← entered f (sp_after f p) (stub_of f d p.at ∷ []) at args
  Ok (g, Went)

-- on at an address, once the pops are made
abbrev pub jumped_on : FlatState → ℕ → Cursor → Result (FlatState × Effect) Fault
jumped_on f pc p = goes_to (cut f (sp_after f p)) pc

-- what the row makes of the values that were read, with its destination; and whether it may want memory
abbrev pub operands_read : List ℕ → Dest → Bool → Cursor → Operands
operands_read loads d stored p = record { loads = loads; dest = d; second = dest.Nowhere; stored = stored; cursor = p }

abbrev pub read_effect : FlatState → Row → List ℕ → Dest → Cursor → Result (FlatState × Effect) Fault
read_effect f row loads d p = quick_effect row.class f (read_as f row (operands_read loads d true p))

abbrev pub IsReadWriting : FlatState → Row → List ℕ → Dest → Cursor → Type 0
IsReadWriting f row loads d p = IsQuickWriting row.class f (read_as f row (operands_read loads d true p))

-- operands of four bytes, loads before stores
pub record IsPlain (row : Row) : Type 0 where
  pub width : row.width ≡ 4
  pub in_order : row.store_first ≡ false

-- Steps that go on and ask nothing, and after them a fault where there is one: all stands then as the steps left it.
abbrev pub PassesUntil : ℕ → Result (Unit {0}) Fault → Whole × ℕ → Whole × ℕ → Type 0
PassesUntil word (Ok x) old new = (n : ℕ) × Passes word n old None new None
PassesUntil word (Err e) old new =
    (n : ℕ) × Passes word n old None new None
    × IsRefused (IsStepWriting new.0.machine new.1) e (stepped new.0 word new.1)

-- the instruction at PC asks for a character to be put, and what its pops and its operands leave
pub record IsStreamed (f : FlatState) (c sp next : ℕ) : Type 0 where
  pub i : Instruction
  pub reads : instruction f ≡ Ok i
  pub prints : i.row.class ≡ class.Print
  pub pops : i.sp ≡ sp
  pub goes : i.next ≡ next
  pub puts : print.row_effect f i ≡ Ok (f, Put c)
