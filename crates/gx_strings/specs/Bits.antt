-- The bits of a compressed string (Glulx 3.1.2, "Strings").
use Rattle.std.specs.Prelude.{ℕ, ◌/◌, ◌%◌, ◌^◌, Bool, ◌==◌, List, [], ◌∷◌}
use Rattle.gx_words.specs.declared.strings.Printing.{Printing}

abbrev pub bit : ℕ → ℕ → Bool
bit byte i = byte / 2 ^ i % 2 == 1

-- the bits of a list of bytes, bit 0 of each byte first
unfoldable pub bits : List ℕ → List Bool
bits [] = []
bits (b ∷ bytes) = bit b 0 ∷ bit b 1 ∷ bit b 2 ∷ bit b 3 ∷ bit b 4 ∷ bit b 5 ∷ bit b 6 ∷ bit b 7 ∷ bits bytes

-- the place that has an index among the bits of memory
abbrev pub with_index : Printing → ℕ → Printing
with_index p i = record p { at = i / 8; bit = i % 8 }
