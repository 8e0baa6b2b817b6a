-- The key of a search, and how a struct's key compares with it (Glulx 3.1.2, "Searching").
use Rattle.std.specs.Prelude.{ℕ, ◌+◌, ◌/◌, ◌%◌, ◌^◌, Bool, not, ◌==◌, ◌&&◌, ◌||◌, nat_le, if◌then◌else◌, List, length}
use Rattle.std.specs.Prelude.{take, drop, Result, Ok, Err}
use Rattle.std.specs.List.{list_all}
use Rattle.std.specs.Str.{bytes_eq}
use Rattle.std.specs.Ordering.{nat_cmp}
use Rattle.std.specs.declared.cmp.Ordering.{Ordering}
use Rattle.std.specs.Cmp.Lexicographic.{slice_cmp}
use Rattle.gx_words.specs.declared.faults.Fault.{Fault}
use Rattle.gx_words.specs.declared.faults.Fault.TheVariants.{BadAddress}
use Rattle.gx_words.specs.Numbers.{bytes_of_number}
use Rattle.gx_search.specs.declared.asks.Ask.{Ask}
use Rattle.gx_search.specs.Constants.{key_indirect, zero_key_terminates}
use Rattle.gx_search.specs.declared.keys.Seen.{Seen}
use Rattle.gx_search.specs.declared.keys.Seen.TheVariants.{Match, Zero, Other}

-- an option, which is a power of two, is in the sum of options
abbrev pub has_option : Ask → ℕ → Bool
has_option ask option = ask.options / option % 2 == 1

-- KeyIndirect: the key is the bytes at an address; one that isn't has 1, 2 or 4 bytes
abbrev pub has_size : Ask → Bool
has_size ask = has_option ask key_indirect || (ask.key_size == 1 || ask.key_size == 2 || ask.key_size == 4)

-- so many bytes from an address on lie in memory; where they are none, any address will do
abbrev pub is_inside : List ℕ → ℕ → ℕ → Bool
is_inside memory at count = count == 0 || nat_le (at + count) (length memory)

-- the key that is looked for
abbrev pub sought_key : List ℕ → Ask → List ℕ
sought_key memory ask = if has_option ask key_indirect
    then take ask.key_size (drop ask.key memory) else bytes_of_number ask.key_size ask.key

-- the address of the key of the struct at an address, and its bytes
abbrev pub key_address : Ask → ℕ → ℕ
key_address ask at = (at + ask.key_offset) % 2 ^ 32

abbrev pub key_at : List ℕ → Ask → ℕ → List ℕ
key_at memory ask at = take ask.key_size (drop (key_address ask at) memory)

-- all bytes that a probe of the struct at an address looks at are in memory
abbrev pub can_probe : List ℕ → Ask → ℕ → Bool
can_probe memory ask at = (not (has_option ask key_indirect) || is_inside memory ask.key ask.key_size)
    && is_inside memory (key_address ask at) ask.key_size

-- what the probe of the struct at an address sees: a match counts first, and ZeroKeyTerminates: a key of zeros ends
-- the search
unfoldable pub probe : List ℕ → Ask → ℕ → Result Seen Fault
probe memory ask at = let there = key_at memory ask at in
    if not (can_probe memory ask at) then Err BadAddress else
    if bytes_eq (sought_key memory ask) there then Ok Match else
    if has_option ask zero_key_terminates && list_all (λ b. b == 0) there then Ok Zero else Ok Other

-- the same for an order of keys, which is that of their first bytes that differ, read as unsigned
unfoldable pub compared : List ℕ → Ask → ℕ → Result Ordering Fault
compared memory ask at = if can_probe memory ask at
    then Ok (slice_cmp nat_cmp (sought_key memory ask) (key_at memory ask at)) else Err BadAddress
