-- The items of what is printed: strings of the three types, and numbers (Glulx 3.1.2, "Strings" and
-- "Calling and Returning Within Strings").
use Rattle.std.specs.Prelude.{ℕ, ◌+◌, ◌*◌, ◌%◌, ◌^◌, ◌==◌, if◌then◌else◌, List, drop, slice_get, Some, None, Result}
use Rattle.std.specs.Prelude.{Ok, Err}
use Rattle.std.specs.Int.{w32, cast_signed}
use Rattle.std.specs.Fmt.{signed_decimal}
use Rattle.gx_words.specs.Results.{◌>>=◌}
use Rattle.gx_words.specs.declared.faults.Fault.{Fault}
use Rattle.gx_words.specs.declared.faults.Fault.TheVariants.{BadString}
use Rattle.gx_words.specs.declared.strings.Printing.{Printing}
use Rattle.gx_words.specs.declared.strings.PrintKind.TheVariants.{E0, E1, E2, Number}
use Rattle.gx_pages.specs.Memory.{number_in}
use Rattle.gx_strings.specs.declared.items.Item.{Item}
use Rattle.gx_strings.specs.declared.items.Item.TheVariants.{Char, End}
use Rattle.gx_strings.specs.Bits.{bits, with_index}
use Rattle.gx_strings.specs.Nodes.{walk, node_item}

-- E0: bytes up to a zero byte; E2: words up to a zero word
unfoldable pub plain_item : ℕ → List ℕ → Printing → Result Item Fault
plain_item width memory p = number_in width memory p.at >>= λ value.
    Ok (if value == 0 then End else Char value (record p { at = p.at + width }))

-- E1: the node to which the bits lead from the root of the table
unfoldable pub compressed_item : List ℕ → ℕ → Printing → Result Item Fault
compressed_item memory table p =
    let index = 8 * p.at + p.bit in
    if table == 0 then Err BadString else number_in 4 memory ((table + 8) % 2 ^ 32) >>= λ root.
    walk memory root 0 (drop index (bits memory)) >>= λ end. node_item memory end.0 (with_index p (index + end.1))

-- a number: the characters of its decimal text
unfoldable pub number_item : Printing → Item
number_item p = elim (slice_get (signed_decimal (cast_signed w32 p.at)) p.bit)
    [ Some digit ↦ Char digit (record p { bit = p.bit + 1 }) | None ↦ End ]

-- the next item of what is printed, under a decoding table
unfoldable pub next_item : List ℕ → ℕ → Printing → Result Item Fault
next_item memory table p = elim p.kind [
  | E0 ↦ plain_item 1 memory p
  | E1 ↦ compressed_item memory table p
  | E2 ↦ plain_item 4 memory p
  | Number ↦ Ok (number_item p)
]
