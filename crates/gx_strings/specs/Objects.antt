-- String objects, and references from a string to an object (Glulx 3.1.2, "Strings", "Functions" and
-- "Calling and Returning Within Strings").
use Rattle.std.specs.Prelude.{ℕ, ◌+◌, true, false, ◌==◌, ◌&&◌, ◌||◌, nat_le, if◌then◌else◌, List, Option, Some, None}
use Rattle.std.specs.Prelude.{ok_or, Result, Ok, Err}
use Rattle.gx_words.specs.declared.faults.Fault.{Fault}
use Rattle.gx_words.specs.declared.faults.Fault.TheVariants.{BadFunction, BadString}
use Rattle.gx_words.specs.declared.strings.Printing.{Printing}
use Rattle.gx_words.specs.declared.strings.PrintKind.{PrintKind}
use Rattle.gx_words.specs.declared.strings.PrintKind.TheVariants.{E0, E1, E2}
use Rattle.gx_words.specs.Constants.{stack_function, locals_function, c_string, compressed_string, unicode_string}
use Rattle.gx_words.specs.Results.{◌>>=◌}
use Rattle.gx_pages.specs.Memory.{number_in}
use Rattle.gx_strings.specs.Constants.{last_function}
use Rattle.gx_strings.specs.declared.items.Item.{Item}
use Rattle.gx_strings.specs.declared.items.Item.TheVariants.{Sub, Call}

-- a string whose first byte or word is at an address
abbrev pub from_start : PrintKind → ℕ → Printing
from_start kind at = record { kind = kind; at = at; bit = 0; started = false }

-- the same string where a reference begins it
abbrev pub as_inner : Printing → Printing
as_inner p = record p { started = true }

-- The string that an object of a type is. Three bytes that aren't looked at follow the type of a Unicode string.
abbrev pub string_of : ℕ → ℕ → Option Printing
string_of type_byte at =
    if type_byte == c_string then Some (from_start E0 (at + 1)) else
    if type_byte == compressed_string then Some (from_start E1 (at + 1)) else
    if type_byte == unicode_string then Some (from_start E2 (at + 4)) else None

-- the string at an address
unfoldable pub string_at : List ℕ → ℕ → Result Printing Fault
string_at memory at = number_in 1 memory at >>= λ type_byte. ok_or (string_of type_byte at) BadString

-- The call of a function. Where the reference has arguments, their count stands at an address, and
-- they follow it.
unfoldable pub call_of : List ℕ → Printing → ℕ → Option ℕ → Result Item Fault
call_of memory back object None = Ok (Call back object 0 0)
call_of memory back object (Some count_at) =
    number_in 4 memory count_at >>= λ count. Ok (Call back object (count_at + 4) count)

-- The reference to the object at an address; `back` is the place after it. The count of a string's arguments isn't
-- looked at.
unfoldable pub reference : List ℕ → Printing → ℕ → Option ℕ → Result Item Fault
reference memory back object count_at = number_in 1 memory object >>= λ type_byte.
    elim (string_of type_byte object) [
      | Some string ↦ Ok (Sub back (as_inner string))
      | None ↦
          if type_byte == stack_function || type_byte == locals_function then call_of memory back object count_at else
          if nat_le stack_function type_byte && nat_le type_byte last_function then Err BadFunction else Err BadString
    ]
