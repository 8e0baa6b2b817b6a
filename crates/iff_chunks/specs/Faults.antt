-- The faults of a form: their numbers, and how the answer of a call that may meet one relates to its definition.
use Rattle.std.specs.Prelude.{◌≡◌, ◌≢◌, ℕ, Result, Ok, Err, IsOk}
use Rattle.iff_chunks.specs.declared.faults.IffFault.{IffFault}
use Rattle.iff_chunks.specs.declared.faults.IffFault.TheVariants as fault

abbrev pub number_of : IffFault → ℕ
number_of fault.Cut = 1
number_of fault.NotForm = 2
number_of fault.WrongKind = 3
number_of fault.NoMemory = 4

-- a definition with faults is a `Result` written line by line: the first line with a fault gives it
infixl 10 ◌>>=◌
abbrev pub ◌>>=◌ : {A B : Type 0} → Result A IffFault → (A → Result B IffFault) → Result B IffFault
(Ok x) >>= f = f x
(Err e) >>= f = Err e

-- The call changes nothing and takes no memory: its answer, seen by `view`, is the definition's.
abbrev pub Reads : {X Y : Type 0} → (X → Y) → Result X IffFault → Result Y IffFault → Type 0
Reads view (Ok x) defined = defined ≡ Ok (view x)
Reads view (Err e) defined = (defined ≡ Err e) × (e ≢ fault.NoMemory)

-- The same for a call that may want memory, which it does only where the definition has no fault.
abbrev pub Makes : {X Y : Type 0} → (X → Y) → Result X IffFault → Result Y IffFault → Type 0
Makes view (Ok x) defined = defined ≡ Ok (view x)
Makes view (Err e) defined = (e ≢ fault.NoMemory → defined ≡ Err e) × (e ≡ fault.NoMemory → IsOk defined)
