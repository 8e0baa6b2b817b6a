-- The calls and the failures of the devices over a run, or a part of one.
use Rattle.std.specs.Prelude.{◌≡◌, ◌≤◌, ◌⊎◌, ℕ, true, false}
use Rattle.gx_outside.specs.Outside.{raised_by}
use Rattle.gx_outside.specs.declared.calls.Calls.{Calls}
use Rattle.gx_session.specs.Devices.{Devices}
use Rattle.gx_session.specs.Constants.{status_shelf_fault, status_input_fault, status_output_fault}

-- The failures of a device don't fall. Where the run failed for its sake, one of its calls failed, the last one.
-- Where the run didn't, none did.
pub record Blames (before now : Calls) (failed : Type 0) : Type 0 where
  pub later : before.faults ≤ now.faults
  pub rose : failed → now.faults ≡ raised_by 1 before.faults
  pub last : failed → now.failing ≡ true
  pub kept : (failed → ⊥) → now.faults ≡ before.faults
  pub well : (failed → ⊥) → (now ≡ before) ⊎ (now.failing ≡ false)

-- The failures of the three devices.
pub record FailureCounts (entry exit : Devices) (status : ℕ) : Type 0 where
  pub shelf : Blames entry.shelf.calls exit.shelf.calls (status ≡ status_shelf_fault)
  pub source : Blames entry.source.calls exit.source.calls (status ≡ status_input_fault)
  pub sink : Blames entry.sink.calls exit.sink.calls (status ≡ status_output_fault)
