-- One step of printing: the next item of a string or number under each I/O system (Glulx 3.1.2, "Strings", "Output"
-- and "Calling and Returning During Output Filtering").
--
-- A fault in any line leaves the state as it is.
use Rattle.std.specs.Prelude.{ℕ, zero, suc, ◌+◌, ◌==◌, min, if◌then◌else◌, Bool, true, List, [], ◌∷◌, Result, Ok, Err}
use Rattle.gx_words.specs.declared.faults.Fault.{Fault}
use Rattle.gx_words.specs.declared.faults.Fault.TheVariants.{BadFrame}
use Rattle.gx_words.specs.Constants.{filter_system, glk_system}
use Rattle.gx_words.specs.declared.strings.Printing.{Printing}
use Rattle.gx_words.specs.declared.strings.PrintKind.{PrintKind}
use Rattle.gx_words.specs.declared.strings.PrintKind.TheVariants.{E1}
use Rattle.gx_words.specs.Numbers.{is_bit}
use Rattle.gx_words.specs.Results.{◌>>=◌}
use Rattle.gx_pages.specs.Memory.{number_in}
use Rattle.gx_strings.specs.declared.items.Item.{Item}
use Rattle.gx_strings.specs.declared.items.Item.TheVariants.{Char, Sub, Call, End}
use Rattle.gx_strings.specs.Items.{next_item}
use Rattle.gx_state.specs.declared.effects.Effect.{Effect}
use Rattle.gx_state.specs.declared.effects.Effect.TheVariants.{Went, Put}
use Rattle.gx_state.specs.declared.modes.Mode.{Mode}
use Rattle.gx_state.specs.declared.modes.Mode.TheVariants as mode
use Rattle.gx_state.specs.Flat.{FlatState, sp_of}
use Rattle.gx_state.specs.Entry.{entered}
use Rattle.gx_state.specs.Returns.{pushed_stubs}
use Rattle.ops_print.specs.Stubs.{ways_back, inner_ended}

-- so many words of memory from an address on
unfoldable pub words_in : List ℕ → ℕ → ℕ → Result (List ℕ) Fault
words_in memory at zero = Ok []
words_in memory at (suc n) = number_in 4 memory at >>= λ w. words_in memory (at + 4) n >>= λ ws. Ok (w ∷ ws)

-- a function is called in the midst of printing, whose result is dropped
unfoldable pub function_called : FlatState → Bool → Printing → ℕ → List ℕ → Result (FlatState × Effect) Fault
function_called f started back at args =
    entered f (sp_of f) (ways_back f started back) at args >>= λ g. Ok (record g { mode = mode.Running }, Went)

-- A character under each I/O system: the filter is the function at the rock, which is called with it; under Glk it is
-- asked to be put to the current stream, with the state standing; the null system drops it.
unfoldable pub character_printed : FlatState → Bool → ℕ → Printing → Result (FlatState × Effect) Fault
character_printed f started c next =
    if f.iosys.0 == filter_system then function_called f started next f.iosys.1 (c ∷ []) else
    if f.iosys.0 == glk_system then Ok (f, Put c) else Ok (record f { mode = mode.Printing next }, Went)

-- What an item of a string or number does; `started` is the mark of the present one. A character is printed, an inner
-- string is begun, a function is called with the arguments of a reference, or all ends. No more than 256 arguments are
-- read, since more than 255 are a fault of the entry.
unfoldable pub item_printed : FlatState → Bool → Item → Result (FlatState × Effect) Fault
item_printed f started (Char value next) = character_printed f started value next
item_printed f started (Sub back inner) =
    pushed_stubs f (ways_back f started back) >>= λ g. Ok (record g { mode = mode.Printing inner }, Went)
item_printed f started (Call back at args_at count) =
    words_in f.memory args_at (min count 256) >>= λ args. function_called f started back at args
item_printed f started End =
    if started then (inner_ended f >>= λ g. Ok (g, Went)) else Ok (record f { mode = mode.Running }, Went)

-- a compressed string stands at one of the eight bits of a byte
abbrev pub is_printing_place : PrintKind → ℕ → Bool
is_printing_place E1 bit = is_bit bit
is_printing_place kind bit = true

-- One step of printing. A place that no string has is the fault of a stub with it.
unfoldable pub item : FlatState → Printing → Result (FlatState × Effect) Fault
item f p = if is_printing_place p.kind p.bit
    then (next_item f.memory f.table p >>= λ i. item_printed f p.started i) else Err BadFrame

-- The mode after a character that was put: on behind it.
abbrev pub mode_behind : Mode → Result Item Fault → Mode
mode_behind m (Ok (Char value next)) = mode.Printing next
mode_behind m item = m
