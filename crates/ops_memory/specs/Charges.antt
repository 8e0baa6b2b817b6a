-- A row within a budget, as contracts say it.
use Rattle.std.specs.Prelude.{◌≡◌, ℕ, ◌-◌, ◌<◌, ◌≤◌, nat_lt, if◌then◌else◌, Result, Ok}
use Rattle.gx_words.specs.declared.faults.Fault.{Fault}
use Rattle.gx_words.specs.declared.faults.Fault.TheVariants.{NoMemory}
use Rattle.gx_words.specs.Results.{◌>>=◌}
use Rattle.gx_rows.specs.declared.instructions.Class.{Class}
use Rattle.gx_state.specs.declared.effects.Effect.{Effect}
use Rattle.gx_state.specs.declared.effects.Effect.TheVariants.{Spent}
use Rattle.gx_state.specs.Replies.{IsDone}
use Rattle.gx_state.specs.Flat.{FlatState}
use Rattle.gx_operands.specs.Instructions.{Instruction}
use Rattle.ops_memory.specs.MemoryRows.{row_effect}
use Rattle.ops_memory.specs.Costs.{probes_of}

-- the budget is lowered by probes
abbrev pub lowered : {S : Type 0} → ℕ → ℕ → Result (S × Effect) Fault → Result ((S × ℕ) × Effect) Fault
lowered left probes r = do
  x ← r
  Ok ((x.0, left - probes), x.1)

-- A row that begins so many probes, with a budget: it isn't done where they are more than the budget.
abbrev pub charged : {S : Type 0} → ℕ → ℕ → S → Result (S × Effect) Fault → Result ((S × ℕ) × Effect) Fault
charged left probes s r = if nat_lt left probes then Ok ((s, left), Spent) else lowered left probes r

-- a step that begins so many probes ends with the row done, or isn't done where they are more than the budget
abbrev pub EndsWithin : ℕ → ℕ → Effect → Type 0
EndsWithin left probes Spent = left < probes
EndsWithin left probes e = IsDone e

-- memory is wanted only where the budget has the probes: a row that isn't done takes none
abbrev pub IsAfforded : ℕ → ℕ → Fault → Type 0
IsAfforded left probes e = e ≡ NoMemory → probes ≤ left

-- The row of an instruction, with the budget that its own step left.
unfoldable pub acted : Class → FlatState → Instruction → ℕ → Result ((FlatState × ℕ) × Effect) Fault
acted c f i left = charged left (probes_of c f i) f (row_effect c f i)
