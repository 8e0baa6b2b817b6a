-- Strings in memory (Glulx 3.1.2, "Strings"): a type and characters up to a zero, in bytes or in words.
use Rattle.std.specs.Prelude.{ℕ, zero, suc, ◌+◌, ◌==◌, if◌then◌else◌, List, length, Result, Ok, Err}
use Rattle.gx_words.specs.declared.faults.Fault.{Fault}
use Rattle.gx_words.specs.declared.faults.Fault.TheVariants.{BadAddress, BadString}
use Rattle.gx_words.specs.Constants.{c_string, unicode_string}
use Rattle.gx_words.specs.Results.{◌>>=◌}
use Rattle.gx_pages.specs.Memory.{number_in}
use Rattle.gx_state.specs.Flat.{FlatState}
use Rattle.glk_replies.specs.Parts.{numbers_in}

-- how many characters stand before the first zero, of so many at most
unfoldable pub count_to_zero : ℕ → ℕ → List ℕ → ℕ → Result ℕ Fault
count_to_zero zero width memory at = Err BadAddress
count_to_zero (suc most) width memory at = number_in width memory at >>= λ c.
    if c == 0 then Ok 0 else (count_to_zero most width memory (at + width) >>= λ count. Ok (count + 1))

-- a string of characters of a width: its first character stands one character behind the address
unfoldable pub string_length : FlatState → ℕ → ℕ → Result ℕ Fault
string_length f width at = number_in 1 f.memory at >>= λ kind.
    if kind == (if width == 1 then c_string else unicode_string)
    then count_to_zero (length f.memory) width f.memory (at + width) else Err BadString

abbrev pub string_chars : FlatState → ℕ → ℕ → ℕ → List ℕ
string_chars f width at count = numbers_in width f.memory (at + width) count
