-- The memory of a machine as a list of bytes (Glulx 3.1.2, "The Memory Map").
--
-- An address is a place in the list, and a size is the list's length.
use Rattle.std.specs.Prelude.{◌≡◌, ◌⊎◌, ℕ, ◌+◌, ◌-◌, ◌%◌, ◌<◌, ◌≤◌, ◌&&◌, nat_lt, nat_le, if◌then◌else◌, List, [], ◌∷◌}
use Rattle.std.specs.Prelude.{◌++◌, length, take, map, slice_index, replicate, Result, Ok, Err}
use Rattle.std.specs.List.{range_with_len}
use Rattle.gx_words.specs.Constants.{ceiling}
use Rattle.gx_words.specs.Numbers.{number, spliced}
use Rattle.gx_words.specs.declared.faults.Fault.{Fault}
use Rattle.gx_words.specs.declared.faults.Fault.TheVariants.{BadAddress}

-- memory is whole pages of 256 bytes, up to the ceiling
pub record IsSize (size : ℕ) : Type 0 where
  pub whole : size % 256 ≡ 0
  pub capped : size ≤ ceiling

-- some write has a byte
abbrev pub HasBytes : List (ℕ × List ℕ) → Type 0
HasBytes [] = ⊥
HasBytes (w ∷ ws) = (0 < length w.1) ⊎ HasBytes ws

-- the number of 1, 2 or 4 bytes at an address, all of which have to be in memory
unfoldable pub number_in : ℕ → List ℕ → ℕ → Result ℕ Fault
number_in width memory at =
    if nat_le (at + width) (length memory) then Ok (number width memory at) else Err BadAddress

-- memory after writes of bytes at addresses, the first of them first
abbrev pub all_spliced : List ℕ → List (ℕ × List ℕ) → List ℕ
all_spliced memory [] = memory
all_spliced memory (w ∷ ws) = all_spliced (spliced memory w.0 w.1) ws

-- memory of another size: cut, or with zeros at its end
abbrev pub resized : List ℕ → ℕ → List ℕ
resized memory size = take size memory ++ replicate (size - length memory) 0

-- a kept memory, but for so many addresses from one on (the protected range): these have the present
-- byte, and 0 where the present memory doesn't reach
abbrev pub put_back_of : List ℕ → List ℕ → ℕ → ℕ → List ℕ
put_back_of present kept from count =
    map (λ a. if nat_le from a && nat_lt a (from + count) then slice_index present a else slice_index kept a)
    (range_with_len 0 (length kept))

-- WHAT CONTRACTS ASK FOR

-- so many bytes from an address on lie in memory; where they are none, any address will do
abbrev pub IsInside : ℕ → ℕ → ℕ → Type 0
IsInside at count size = 0 < count → at + count ≤ size

-- the same for the bytes of each write
abbrev pub AreInside : List (ℕ × List ℕ) → ℕ → Type 0
AreInside [] size = Unit {0}
AreInside (w ∷ ws) size = IsInside w.0 (length w.1) size × AreInside ws size
