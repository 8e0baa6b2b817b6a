-- What contracts say of an item beside its definition.
use Rattle.std.specs.Prelude.{◌≡◌, Bool, true, false, Result, Ok, IsTrue}
use Rattle.gx_words.specs.Numbers.{is_bit}
use Rattle.gx_words.specs.declared.faults.Fault.{Fault}
use Rattle.gx_words.specs.declared.strings.Printing.{Printing}
use Rattle.gx_words.specs.declared.strings.PrintKind.TheVariants.{E1}
use Rattle.gx_strings.specs.declared.items.Item.{Item}
use Rattle.gx_strings.specs.declared.items.Item.TheVariants.{Char, Sub, Call, End}
use Rattle.gx_strings.specs.declared.items.CharOrEnd.{CharOrEnd}
use Rattle.gx_strings.specs.declared.items.CharOrEnd.TheVariants as told

-- whether it is a character, or the end
abbrev pub is_char_or_end : Result Item Fault → Bool
is_char_or_end (Ok (Char value next)) = true
is_char_or_end (Ok End) = true
is_char_or_end _ = false

-- what is told of an item of what is printed
abbrev pub Tells : CharOrEnd → Printing → Result Item Fault → Type 0
Tells (told.Char value at bit) p item = item ≡ Ok (Char value (record p { at = at; bit = bit }))
Tells told.End p item = item ≡ Ok End
Tells told.Neither p item = is_char_or_end item ≡ false

-- a place in a compressed string is at one of the eight bits of a byte
abbrev pub HasBit : Printing → Type 0
HasBit p = p.kind ≡ E1 → IsTrue (is_bit p.bit)

-- the same for all places of an item
abbrev pub HasBits : Item → Type 0
HasBits (Char value next) = HasBit next
HasBits (Sub back inner) = HasBit back × HasBit inner
HasBits (Call back at args_at args) = HasBit back
HasBits End = Unit {0}
