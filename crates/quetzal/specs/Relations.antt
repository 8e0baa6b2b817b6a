-- How the answer of a call that reads a save relates to its definition.
use Rattle.std.specs.Prelude.{◌≡◌, ◌≢◌, ◌⊎◌, Result, Ok, Err, IsOk}
use Rattle.quetzal.specs.declared.faults.SaveFault.{SaveFault}
use Rattle.quetzal.specs.declared.faults.SaveFault.TheVariants as fault

-- The answer, seen by `view`, is the definition's. Want of memory comes only where the definition has no fault, or in
-- place of the fault of blocks that meet, where they may: to see whether they do they are sorted, in memory.
abbrev pub MaySort : {X Y : Type 0} → Type 0 → (X → Y) → Result X SaveFault → Result Y SaveFault → Type 0
MaySort meet view (Ok x) defined = defined ≡ Ok (view x)
MaySort meet view (Err e) defined =
    (e ≢ fault.NoMemory → defined ≡ Err e) × (e ≡ fault.NoMemory → IsOk defined ⊎ ((defined ≡ Err fault.Blocks) × meet))
