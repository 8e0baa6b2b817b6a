-- How a call's answer, and the state that it leaves, relate to a definition.
--
--                      takes no memory   may want memory, where `wants` holds
--   answers nothing    Acts              Stores
--   answers            Goes              Works
--
-- After a fault, and after want of memory, the state stands; want of memory comes only where the definition has no
-- fault. The story always stands. `Acts` and `Stores` are of a state with the room in its list of blocks, which
-- stands too; `Begins` is `Stores` of the flat state alone, for a restart, which gives that room back.
use Rattle.std.specs.Prelude.{◌≡◌, ◌≢◌, Result, Ok, Err, ◌≤◌, Bool, true, false, Option, Some, None}
use Rattle.gx_words.specs.declared.faults.Fault.{Fault}
use Rattle.gx_words.specs.declared.faults.Fault.TheVariants.{NoMemory}
use Rattle.gx_words.specs.Faults.{IsRefused}
use Rattle.gx_state.specs.Flat.{FlatState, HeldState}

abbrev pub Acts : {X : Type 0} → Result X Fault → HeldState → HeldState → Result FlatState Fault → Type 0
Acts (Ok x) old new defined = (defined ≡ Ok new.flat) × (new.spare ≡ old.spare) × (new.flat.story ≡ old.flat.story)
Acts (Err e) old new defined = (new ≡ old) × (defined ≡ Err e) × (e ≢ NoMemory)

abbrev pub Stores : {X : Type 0} → Type 0 → Result X Fault → HeldState → HeldState → Result FlatState Fault → Type 0
Stores wants (Ok x) old new defined =
    (defined ≡ Ok new.flat) × (new.spare ≡ old.spare) × (new.flat.story ≡ old.flat.story)
Stores wants (Err e) old new defined = (new ≡ old) × IsRefused wants e defined

abbrev pub Begins : {X : Type 0} → Type 0 → Result X Fault → FlatState → FlatState → Result FlatState Fault → Type 0
Begins wants (Ok x) old new defined = (defined ≡ Ok new) × (new.story ≡ old.story)
Begins wants (Err e) old new defined = (new ≡ old) × IsRefused wants e defined

abbrev pub Goes : {X : Type 0} → Result X Fault → FlatState → FlatState → Result (FlatState × X) Fault → Type 0
Goes (Ok x) old new defined = (defined ≡ Ok (new, x)) × (new.story ≡ old.story)
Goes (Err e) old new defined = (new ≡ old) × (defined ≡ Err e) × (e ≢ NoMemory)

abbrev pub Works : {X : Type 0} → Type 0 → Result X Fault → FlatState → FlatState → Result (FlatState × X) Fault
    → Type 0
Works wants (Ok x) old new defined = (defined ≡ Ok (new, x)) × (new.story ≡ old.story)
Works wants (Err e) old new defined = (new ≡ old) × IsRefused wants e defined

-- What a call that frees a block answers and leaves: nothing changes where no block begins there, and no
-- room is lost.
abbrev pub FreesBlock : HeldState → HeldState → Option FlatState → Bool → Type 0
FreesBlock old new None answer = (answer ≡ false) × (new ≡ old)
FreesBlock old new (Some f) answer = (answer ≡ true) × (new.flat ≡ f) × (old.spare ≤ new.spare)
