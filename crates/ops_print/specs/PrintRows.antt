-- The rows of the class Print (Glulx 3.1.2, "Output" and "Calling and Returning During Output Filtering"), in
-- the order of their numbers.
--
-- An instruction's pops are made in its `sp`, and PC becomes `next` where nothing else is said. A fault in any
-- line leaves the state as it is.
use Rattle.std.specs.Prelude.{ℕ, ◌%◌, ◌==◌, if◌then◌else◌, false, [], ◌∷◌, Result, Ok, Err}
use Rattle.gx_words.specs.declared.faults.Fault.{Fault}
use Rattle.gx_words.specs.declared.faults.Fault.TheVariants.{BadOpcode}
use Rattle.gx_words.specs.Constants.{filter_system, glk_system}
use Rattle.gx_words.specs.declared.strings.Printing.{Printing}
use Rattle.gx_words.specs.declared.strings.PrintKind.TheVariants.{Number}
use Rattle.gx_words.specs.Results.{◌>>=◌}
use Rattle.gx_strings.specs.Objects.{string_at}
use Rattle.gx_state.specs.declared.effects.Effect.{Effect}
use Rattle.gx_state.specs.declared.effects.Effect.TheVariants.{Went, Put}
use Rattle.gx_state.specs.declared.modes.Dest.TheVariants.{Nowhere}
use Rattle.gx_state.specs.declared.modes.Mode.TheVariants as mode
use Rattle.gx_state.specs.Flat.{FlatState, cut}
use Rattle.gx_state.specs.Entry.{entered}
use Rattle.gx_state.specs.Returns.{stub_of}
use Rattle.gx_operands.specs.Instructions.{Instruction, L1, going_to}
use Rattle.gx_operands.specs.Stores.{goes}
use Rattle.gx_rows.specs.Numbers as numbers

-- WHAT ROWS SHARE

-- A character that code prints, under each I/O system: the filter is the function at the rock, which is called with
-- it, and whose result is dropped; under Glk it is asked to be put to the current stream, with the state standing;
-- the null system drops it.
abbrev pub character_streamed : FlatState → Instruction → ℕ → Result (FlatState × Effect) Fault
character_streamed f i c = if f.iosys.0 == filter_system
    then (entered f i.sp (stub_of f Nowhere i.next ∷ []) f.iosys.1 (c ∷ []) >>= λ g. Ok (g, Went)) else
    if f.iosys.0 == glk_system then Ok (f, Put c) else goes f i

-- a string or number is printed from now on, and then the next instruction follows
abbrev pub printing_begun : FlatState → Instruction → Printing → FlatState × Effect
printing_begun f i p = (record (going_to (cut f i.sp) i.next) { mode = mode.Printing p }, Went)

-- OUTPUT

-- 70 streamchar (L1): prints the low eight bits of L1 as a character
unfoldable pub streamchar : FlatState → Instruction → Result (FlatState × Effect) Fault
streamchar f i = character_streamed f i (L1 i % 256)

-- 71 streamnum (L1): prints the signed number L1 in decimal, from its first digit on
unfoldable pub streamnum : FlatState → Instruction → Result (FlatState × Effect) Fault
streamnum f i = Ok (printing_begun f i (record { kind = Number; at = L1 i; bit = 0; started = false }))

-- 72 streamstr (L1): prints the string at L1, whose type is looked at
unfoldable pub streamstr : FlatState → Instruction → Result (FlatState × Effect) Fault
streamstr f i = string_at f.memory (L1 i) >>= λ p. Ok (printing_begun f i p)

-- 73 streamunichar (L1): prints L1 as a character
unfoldable pub streamunichar : FlatState → Instruction → Result (FlatState × Effect) Fault
streamunichar f i = character_streamed f i (L1 i)

-- THE ROW OF AN INSTRUCTION

abbrev pub row_effect : FlatState → Instruction → Result (FlatState × Effect) Fault
row_effect f i =
    if i.row.number == numbers.streamchar then streamchar f i else
    if i.row.number == numbers.streamnum then streamnum f i else
    if i.row.number == numbers.streamstr then streamstr f i else
    if i.row.number == numbers.streamunichar then streamunichar f i else Err BadOpcode
