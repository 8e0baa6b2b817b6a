-- The nodes of a decoding table (Glulx 3.1.2, "The String-Decoding Table").
use Rattle.std.specs.Prelude.{ℕ, ◌+◌, Bool, ◌==◌, if◌then◌else◌, List, [], ◌∷◌, Some, None, Result, Ok, Err}
use Rattle.gx_words.specs.declared.faults.Fault.{Fault}
use Rattle.gx_words.specs.declared.faults.Fault.TheVariants.{BadAddress, BadString}
use Rattle.gx_words.specs.declared.strings.Printing.{Printing}
use Rattle.gx_words.specs.declared.strings.PrintKind.TheVariants.{E0, E2}
use Rattle.gx_words.specs.Results.{◌>>=◌}
use Rattle.gx_pages.specs.Memory.{number_in}
use Rattle.gx_strings.specs.Constants as types
use Rattle.gx_strings.specs.declared.items.Item.{Item}
use Rattle.gx_strings.specs.declared.items.Item.TheVariants.{Char, Sub, End}
use Rattle.gx_strings.specs.Objects.{from_start, as_inner, reference}

-- The walk from a node, a bit at each branch, after so many bits: the first node that is no branch, and the bits that
-- led there. From a branch 0 leads to the left address, 1 to the right one.
unfoldable pub walk : List ℕ → ℕ → ℕ → List Bool → Result (ℕ × ℕ) Fault
walk memory node used [] = number_in 1 memory node >>= λ type_byte.
    if type_byte == types.branch then Err BadAddress else Ok (node, used)
walk memory node used (one ∷ rest) = number_in 1 memory node >>= λ type_byte.
    if type_byte == types.branch then (number_in 4 memory (if one then node + 5 else node + 1) >>= λ next.
    walk memory next (used + 1) rest) else Ok (node, used)

-- the address in a node, and the one that stands at that address
abbrev pub direct : List ℕ → ℕ → Result ℕ Fault
direct memory node = number_in 4 memory (node + 1)

abbrev pub indirect : List ℕ → ℕ → Result ℕ Fault
indirect memory node = direct memory node >>= λ at. number_in 4 memory at

-- what a node that is no branch gives; `next` is the place after the bits that led there
unfoldable pub node_item : List ℕ → ℕ → Printing → Result Item Fault
node_item memory node next = number_in 1 memory node >>= λ kind.
    if kind == types.string_terminator then Ok End else
    if kind == types.single_character then (number_in 1 memory (node + 1) >>= λ c. Ok (Char c next)) else
    if kind == types.c_style_string then Ok (Sub next (as_inner (from_start E0 (node + 1)))) else
    if kind == types.single_unicode_character then (number_in 4 memory (node + 1) >>= λ c. Ok (Char c next)) else
    if kind == types.c_style_unicode_string then Ok (Sub next (as_inner (from_start E2 (node + 1)))) else
    if kind == types.indirect_reference then (direct memory node >>= λ at. reference memory next at None) else
    if kind == types.double_indirect_reference then (indirect memory node >>= λ at. reference memory next at None) else
    if kind == types.indirect_reference_with_arguments
    then (direct memory node >>= λ at. reference memory next at (Some (node + 5))) else
    if kind == types.double_indirect_reference_with_arguments
    then (indirect memory node >>= λ at. reference memory next at (Some (node + 5))) else Err BadString
