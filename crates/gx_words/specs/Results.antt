-- How a call's answer relates to a definition that may meet a fault.
--
-- A definition with faults is a `Result` written line by line: the first line that has a fault
-- gives it. The words below say of a call what it answers, what it changes and what stands.
-- A call answers something or only changes a value; it takes no memory, or may want some.
--
--                                   takes no memory   may want memory
--   answers, and changes nothing    Is                Gives
--   changes a value                 Alters
--   changes a value, and answers    Turns
--
-- They serve every type of faults. For the machine's own, of which want of memory is one, there are
-- `Reads`, `Makes` and `Does` of specs/Faults, and for a state those of gx_state/specs/Relations.
use Rattle.std.specs.Prelude.{◌≡◌, ◌≢◌, Result, Ok, Err, IsOk}

infixl 10 ◌>>=◌
abbrev pub ◌>>=◌ : {A B E : Type 0} → Result A E → (A → Result B E) → Result B E
(Ok x) >>= f = f x
(Err e) >>= f = Err e

-- The answer, seen by `view`, is the definition's.
abbrev pub Is : {X Y E : Type 0} → (X → Y) → Result X E → Result Y E → Type 0
Is view (Ok x) defined = defined ≡ Ok (view x)
Is view (Err e) defined = defined ≡ Err e

-- The same where the fault `free` stands for want of memory, which comes only where the definition has none.
abbrev pub Gives : {X Y E : Type 0} → E → (X → Y) → Result X E → Result Y E → Type 0
Gives free view (Ok x) defined = defined ≡ Ok (view x)
Gives free view (Err e) defined = (e ≢ free → defined ≡ Err e) × (e ≡ free → IsOk defined)

-- The value becomes what the definition says, and stands after a fault.
abbrev pub Alters : {X S E : Type 0} → Result X E → S → S → Result S E → Type 0
Alters (Ok x) old new defined = defined ≡ Ok new
Alters (Err e) old new defined = (new ≡ old) × (defined ≡ Err e)

-- The same, and the answer, seen by `view`, is the definition's.
abbrev pub Turns : {X Y S E : Type 0} → (X → Y) → Result X E → S → S → Result (S × Y) E → Type 0
Turns view (Ok x) old new defined = defined ≡ Ok (new, view x)
Turns view (Err e) old new defined = (new ≡ old) × (defined ≡ Err e)
