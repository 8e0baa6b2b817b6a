-- Steps that an engine makes one after the other, and what it records of them.
use Rattle.std.specs.Prelude.{◌≡◌, ℕ, zero, suc, ◌⊎◌, Option, IsSome, Result, Ok, Err, IfOk, ◌-◌, ◌^◌, Some, None}
use Rattle.gx_words.specs.declared.faults.Fault.{Fault}
use Rattle.gx_words.specs.declared.faults.Fault.TheVariants.{NoMemory}
use Rattle.gx_words.specs.Faults.{Does}
use Rattle.gx_state.specs.declared.effects.Effect.{Effect}
use Rattle.gx_state.specs.declared.effects.Effect.TheVariants.{Went, Drew, Quit}
use Rattle.gx_machine.specs.Machine.{FlatMachine, Whole}
use Rattle.gx_machine.specs.Step.{stepped, asking_of, IsStepWriting}
use Rattle.gx_machine.specs.Log.{Log, logged, units_of}
use Rattle.gx_machine.specs.WaysBack.{HasWaysBack}
use Rattle.gx_machine.specs.declared.askings.Asking.{Asking}

-- So many steps with one word, each of which goes on, asks nothing and leaves the word: from a machine and its budget
-- to those that it comes to, with what is recorded before and after them. From each of them there is a way back to the
-- copies that are kept.
abbrev pub Passes : ℕ → ℕ → Whole × ℕ → Option Log → Whole × ℕ → Option Log → Type 0
Passes word zero start first end last = (start ≡ end) × (first ≡ last)
Passes word (suc n) start first end last =
    (before : Whole × ℕ) × (log : Option Log) × Passes word n start first before log
    × (stepped before.0 word before.1 ≡ Ok (end, Went)) × (last ≡ logged log before.0.machine)
    × HasWaysBack before.0.machine

-- What is recorded after a step from this machine: its event has ended, unless it asks something or wasn't made.
abbrev pub logged_by : Effect → Option Log → FlatMachine → Option Log
logged_by Went log m = logged log m
logged_by Drew log m = logged log m
logged_by Quit log m = logged log m
logged_by effect log m = log

abbrev pub logged_after : Result Effect Fault → Option Log → FlatMachine → Option Log
logged_after (Ok effect) log m = logged_by effect log m
logged_after (Err fault) log m = log

-- There was no memory for the record, and the step wasn't made.
pub record IsUnrecorded (log : Option Log) (result : Result Effect Fault) (old new : Whole × ℕ) : Type 0 where
  pub recorded : IsSome log
  pub refused : result ≡ Err NoMemory
  pub stands : new ≡ old

-- Such steps, and then one more: the budget stands as before that last step, and `new` is the machine after it with
-- what it leaves. Where memory is wanted for the record, that step isn't made.
pub record Advances (word : ℕ) (result : Result Effect Fault) (old : Whole × ℕ) (first : Option Log) (budget : ℕ)
    (new : Whole × ℕ) (last : Option Log) : Type 0 where
  pub count : ℕ
  pub before : Whole
  pub log : Option Log
  pub passes : Passes word count old first (before, budget) log
  pub step : Does (IsStepWriting before.machine budget) (λ effect. effect) result (before, budget) new
      (stepped before word budget) ⊎ IsUnrecorded log result (before, budget) new
  pub stands : IfOk result (λ effect. IsSome (asking_of effect) → new.0.machine ≡ before.machine)
  pub logs : last ≡ logged_after result log before.machine
  pub backs : HasWaysBack before.machine

-- How many units can still be taken: the units of a record are a number below 2^64.
abbrev pub units_left : Option Log → ℕ
units_left None = 2 ^ 64 - 1
units_left (Some log) = 2 ^ 64 - 1 - units_of log.before

-- the same once what is asked is answered, where something is asked
abbrev pub left_once_answered : Option Asking → Option Log → FlatMachine → ℕ
left_once_answered None log m = units_left log
left_once_answered (Some asking) log m = units_left (logged log m)

abbrev pub left_after : Option Log → Whole → ℕ
left_after log m = left_once_answered m.asking log m.machine
