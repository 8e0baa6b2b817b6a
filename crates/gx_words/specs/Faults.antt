-- The faults of the machine: their numbers, and how the answer of a call that may meet one relates to its
-- definition.
use Rattle.std.specs.Prelude.{◌≡◌, ◌≢◌, ℕ, Result, Ok, Err, IsOk}
use Rattle.gx_words.specs.declared.faults.Fault.{Fault}
use Rattle.gx_words.specs.declared.faults.Fault.TheVariants as fault

abbrev pub number_of : Fault → ℕ
number_of fault.BadOpcode = 1
number_of fault.BadMode = 2
number_of fault.BadAddress = 3
number_of fault.ReadOnly = 4
number_of fault.Divide = 5
number_of fault.Overflow = 6
number_of fault.Underflow = 7
number_of fault.BadFrame = 8
number_of fault.BadLocal = 9
number_of fault.BadFunction = 10
number_of fault.BadString = 11
number_of fault.BadToken = 12
number_of fault.MemSize = 13
number_of fault.HeapUse = 14
number_of fault.DebugTrap = 15
number_of fault.BadGlk = 16
number_of fault.NoMemory = 17

-- How a call's answer relates to its definition, where the fault may be want of memory: this is the one free
-- answer, and a narrow one. It comes only where the definition has no fault, and only where `wants` holds.
abbrev pub IsRefused : {Y : Type 0} → Type 0 → Fault → Result Y Fault → Type 0
IsRefused wants e defined = (e ≢ fault.NoMemory → defined ≡ Err e) × (e ≡ fault.NoMemory → wants × IsOk defined)

-- The call changes nothing and takes no memory: its answer, seen by `view`, is the definition's.
abbrev pub Reads : {X Y : Type 0} → (X → Y) → Result X Fault → Result Y Fault → Type 0
Reads view (Ok x) defined = defined ≡ Ok (view x)
Reads view (Err e) defined = (defined ≡ Err e) × (e ≢ fault.NoMemory)

-- The same for a call that may want memory.
abbrev pub Makes : {X Y : Type 0} → (X → Y) → Result X Fault → Result Y Fault → Type 0
Makes view (Ok x) defined = defined ≡ Ok (view x)
Makes view (Err e) defined = IsRefused (Unit {0}) e defined

-- The call makes a value what the definition says, which stands after every fault, and answers something, seen by
-- `view`.
abbrev pub Does : {X Y S : Type 0} → Type 0 → (X → Y) → Result X Fault → S → S → Result (S × Y) Fault → Type 0
Does wants view (Ok x) old new defined = defined ≡ Ok (new, view x)
Does wants view (Err e) old new defined = (new ≡ old) × IsRefused wants e defined

-- The same where the value is lost after want of memory: it can only be dropped then.
abbrev pub MayLose : {X Y S : Type 0} → Type 0 → (X → Y) → Result X Fault → S → S → Result (S × Y) Fault → Type 0
MayLose wants view (Ok x) old new defined = defined ≡ Ok (new, view x)
MayLose wants view (Err e) old new defined = (e ≢ fault.NoMemory → new ≡ old) × IsRefused wants e defined

-- The call is never refused for want of memory.
abbrev pub TakesNone : {X : Type 0} → Result X Fault → Type 0
TakesNone (Ok x) = Unit {0}
TakesNone (Err e) = e ≢ fault.NoMemory
