-- A search as a whole, and those that look at one struct after another: linearsearch and linkedsearch
-- (Glulx 3.1.2, "Searching").
use Rattle.std.specs.Prelude.{ℕ, zero, suc, ◌+◌, ◌%◌, ◌^◌, Bool, not, ◌==◌, ◌&&◌, nat_le, if◌then◌else◌, List, Option}
use Rattle.std.specs.Prelude.{Some, None, Result, Ok, Err}
use Rattle.gx_words.specs.declared.faults.Fault.{Fault}
use Rattle.gx_words.specs.declared.faults.Fault.TheVariants.{BadMode}
use Rattle.gx_pages.specs.Memory.{number_in}
use Rattle.gx_search.specs.declared.asks.Ask.{Ask}
use Rattle.gx_search.specs.declared.keys.Seen.{Seen}
use Rattle.gx_search.specs.declared.keys.Seen.TheVariants.{Match, Zero, Other}
use Rattle.gx_search.specs.declared.turns.Layout.{Layout}
use Rattle.gx_search.specs.declared.turns.Layout.TheVariants as layout
use Rattle.gx_search.specs.Keys.{has_size, probe}

-- A SEARCH AS A WHOLE

-- a struct that is found: its address, and its index modulo 2^32
pub record Struct : Type 0 where
  pub address : ℕ
  pub index : ℕ

-- What a search comes to: a struct, none or a fault; and how many probes it begins, of which one may meet the fault.
pub record Search : Type 0 where
  pub outcome : Result (Option Struct) Fault
  pub probes : ℕ

abbrev pub no_probe : Result (Option Struct) Fault → Search
no_probe outcome = record { outcome = outcome; probes = 0 }

-- one probe begins, and the rest follows
abbrev pub with_probe : Search → Search
with_probe rest = record rest { probes = rest.probes + 1 }

-- ONE STRUCT AFTER ANOTHER

-- the address after that of a struct: a row has the next struct there, and in a list a struct holds it
unfoldable pub next_address : Layout → List ℕ → Ask → ℕ → Result ℕ Fault
next_address layout.Row memory ask at = Ok ((at + ask.struct_size) % 2 ^ 32)
next_address layout.List memory ask at = number_in 4 memory ((at + ask.next_offset) % 2 ^ 32)

-- a row has `count` structs, and no end where that is FFFFFFFF; address 0 ends a list
unfoldable pub is_past : Layout → Ask → ℕ → ℕ → Bool
is_past layout.Row ask i at = not (ask.count == 0xFFFFFFFF) && nat_le ask.count i
is_past layout.List ask i at = at == 0

-- what the probe of an index makes of the search; `rest` is the search of the structs after it
abbrev pub after_probe : ℕ → ℕ → Search → Result Seen Fault → Search
after_probe i at rest (Ok Match) = no_probe (Ok (Some (record { address = at; index = i % 2 ^ 32 })))
after_probe i at rest (Ok Zero) = no_probe (Ok None)
after_probe i at rest (Ok Other) = rest
after_probe i at rest (Err e) = no_probe (Err e)

-- the search through so many structs, from an index and its address on
unfoldable pub search_from : Layout → List ℕ → Ask → ℕ → ℕ → Result ℕ Fault → Search
search_from l memory ask zero i at = no_probe (Ok None)
search_from l memory ask (suc left) i (Err e) = no_probe (Err e)
search_from l memory ask (suc left) i (Ok at) =
    let rest = search_from l memory ask left (i + 1) (next_address l memory ask at) in
    if is_past l ask i at then no_probe (Ok None) else with_probe (after_probe i at rest (probe memory ask at))

-- linearsearch in a row, linkedsearch in a list. Without an end it begins 2^64 probes, more than any call may.
unfoldable pub search_of : Layout → List ℕ → Ask → Search
search_of l memory ask =
    if has_size ask then search_from l memory ask (2 ^ 64) 0 (Ok ask.start) else no_probe (Err BadMode)
