-- What the calls of a source, a sink and a shelf do to what they hold, and to their counts.
use Rattle.std.specs.Prelude.{◌≡◌, ℕ, zero, suc, ◌+◌, ◌-◌, ◌^◌, ◌≤◌, min, if◌then◌else◌, List, ◌++◌, length}
use Rattle.std.specs.Prelude.{Bool, true, false, Result, Ok, Err, OnOk}
use Rattle.std.specs.Str.{bytes_eq}
use Rattle.gx_outside.specs.declared.calls.Calls.{Calls}
use Rattle.gx_outside.specs.declared.devices.SendFault.{SendFault}
use Rattle.gx_outside.specs.declared.devices.SendFault.TheVariants as of_send
use Rattle.gx_outside.specs.declared.devices.ShelfFault.{ShelfFault}
use Rattle.gx_outside.specs.declared.devices.ShelfFault.TheVariants as of_shelf
use Rattle.gx_outside.specs.declared.devices.Load.{Load}
use Rattle.gx_outside.specs.declared.devices.Load.TheVariants as of_load
use Rattle.gx_outside.specs.Files.{Files}

-- What contracts see of a source: its counts, for how many bytes its reads had room in all, whether it tells what is
-- left, and the bytes that are left.
pub record FlatSource : Type 0 where
  pub calls : Calls
  pub offered : ℕ
  pub tells : Bool
  pub left : List ℕ

-- of a sink: its counts, whether it tells what it has taken, and the bytes that it has taken
pub record FlatSink : Type 0 where
  pub calls : Calls
  pub tells : Bool
  pub taken : List ℕ

-- the same of a shelf, with its files
pub record FlatShelf : Type 0 where
  pub calls : Calls
  pub tells : Bool
  pub files : Files

-- the counts before the first call
abbrev pub no_call : Calls
no_call = record { made = 0; faults = 0; failing = false; wanting = false }

-- a count so much higher, which stands still at 2^64 - 1
abbrev pub raised_by : ℕ → ℕ → ℕ
raised_by more count = min (count + more) (2 ^ 64 - 1)

-- a count that rises by as much so many times
abbrev pub raised_times : ℕ → ℕ → ℕ → ℕ
raised_times zero more count = count
raised_times (suc n) more count = raised_by more (raised_times n more count)

-- the counts after one more call, which failed or not, and wanted memory or not
abbrev pub counted_call : Calls → Bool → Bool → Calls
counted_call c failed wanted =
    record {
      made = raised_by 1 c.made;
      faults = if failed then raised_by 1 c.faults else c.faults;
      failing = failed;
      wanting = wanted;
    }

-- One more call was made. The failures rose by it where it failed, and stand where it didn't; the device knows
-- whether it failed, and whether it wanted memory.
pub record HasCause (before now : Calls) (failed wanted : Bool) : Type 0 where
  pub made : now.made ≡ raised_by 1 before.made
  pub later : before.faults ≤ now.faults
  pub rose : failed ≡ true → now.faults ≡ raised_by 1 before.faults
  pub kept : failed ≡ false → now.faults ≡ before.faults
  pub last : now.failing ≡ failed
  pub want : now.wanting ≡ wanted

-- whether a call of a sink or a shelf failed, and whether memory ran out in it, which is no failure of the device
abbrev pub send_cause : {T : Type 0} → Result T SendFault → Bool × Bool
send_cause (Ok x) = (false, false)
send_cause (Err of_send.Failed) = (true, false)
send_cause (Err of_send.NoMemory) = (false, true)

abbrev pub shelf_cause : {T : Type 0} → Result T ShelfFault → Bool × Bool
shelf_cause (Ok x) = (false, false)
shelf_cause (Err of_shelf.Failed) = (true, false)
shelf_cause (Err of_shelf.NoMemory) = (false, true)

-- A front of the bytes was taken, and all of them at Ok.
pub record Sends {T E : Type 0} (tells : Bool) (before after bytes : List ℕ) (result : Result T E) : Type 0 where
  pub more : List ℕ
  pub rest : List ℕ
  pub front : bytes ≡ more ++ rest
  pub whole : OnOk result (more ≡ bytes)
  pub taken : tells ≡ true → after ≡ before ++ more

-- what `load` hands out is within the bound, whatever stands on the shelf
abbrev pub IsBounded : ℕ → Load → Type 0
IsBounded most (of_load.Found bytes) = length bytes ≤ most
IsBounded most load = Unit {0}

-- the files of other names stand
abbrev pub KeepsOthers : Files → Files → List ℕ → Type 0
KeepsOthers before after name = (other : List ℕ) → bytes_eq other name ≡ false → after other ≡ before other
