-- The search that halves a row of rising keys: binarysearch (Glulx 3.1.2, "Searching").
use Rattle.std.specs.Prelude.{ℕ, zero, suc, ◌+◌, ◌-◌, ◌*◌, ◌/◌, ◌%◌, ◌^◌, Bool, not, ◌==◌, ◌||◌, nat_lt, nat_le}
use Rattle.std.specs.Prelude.{if◌then◌else◌, List, length, Some, None, Result, Ok, Err}
use Rattle.std.specs.declared.cmp.Ordering.{Ordering}
use Rattle.std.specs.declared.cmp.Ordering.TheVariants.{Less, Equal, Greater}
use Rattle.gx_words.specs.declared.faults.Fault.{Fault}
use Rattle.gx_words.specs.declared.faults.Fault.TheVariants.{BadMode, BadAddress}
use Rattle.gx_search.specs.declared.asks.Ask.{Ask}
use Rattle.gx_search.specs.Keys.{has_size, compared}
use Rattle.gx_search.specs.Searches.{Struct, Search, no_probe, with_probe}

-- The keys of all structs are in memory: that of the last ends there, its address summed without
-- wrapping. Where there is no struct, or no byte in a key, none has to be.
abbrev pub has_all_keys : List ℕ → Ask → Bool
has_all_keys memory ask = ask.count == 0 || ask.key_size == 0 ||
    nat_le (ask.start + (ask.count - 1) * ask.struct_size + ask.key_offset + ask.key_size) (length memory)

-- the address of the struct of an index
abbrev pub struct_at : Ask → ℕ → ℕ
struct_at ask i = (ask.start + i * ask.struct_size) % 2 ^ 32

-- what the probe of a struct makes of the search: it ends, or goes on below the struct or above it
abbrev pub after_order : Struct → Search → Search → Result Ordering Fault → Search
after_order s below above (Ok Less) = below
after_order s below above (Ok Equal) = no_probe (Ok (Some s))
after_order s below above (Ok Greater) = above
after_order s below above (Err e) = no_probe (Err e)

-- the search among the indices from `low` to below `high`, which are so many at most
unfoldable pub halving : List ℕ → Ask → ℕ → ℕ → ℕ → Search
halving memory ask zero low high = no_probe (Ok None)
halving memory ask (suc left) low high =
    let index = (low + high) / 2 in let at = struct_at ask index in
    let below = halving memory ask left low index in let above = halving memory ask left (index + 1) high in
    let rest = after_order (record { address = at; index = index }) below above (compared memory ask at) in
    if nat_lt low high then with_probe rest else no_probe (Ok None)

unfoldable pub binary : List ℕ → Ask → Search
binary memory ask =
    if not (has_size ask) then no_probe (Err BadMode) else
    if has_all_keys memory ask then halving memory ask ask.count 0 ask.count else no_probe (Err BadAddress)
