-- What a call that searches answers, and what it means that something was found (Glulx 3.1.2, "Searching").
use Rattle.std.specs.Prelude.{◌≡◌, ◌⊎◌, ℕ, zero, suc, ◌+◌, ◌%◌, ◌^◌, ◌<◌, ◌≤◌, nat_lt, if◌then◌else◌, List, Option}
use Rattle.std.specs.Prelude.{Some, None, Result, Ok, Err, ◌≢◌}
use Rattle.gx_words.specs.declared.faults.Fault.{Fault}
use Rattle.gx_search.specs.declared.asks.Ask.{Ask}
use Rattle.gx_search.specs.declared.asks.Found.{Found}
use Rattle.gx_search.specs.declared.asks.Found.TheVariants.{At, Nothing, More}
use Rattle.gx_search.specs.declared.keys.Seen.{Seen}
use Rattle.gx_search.specs.declared.keys.Seen.TheVariants.{Match, Zero, Other}
use Rattle.gx_search.specs.declared.turns.Layout.{Layout}
use Rattle.gx_search.specs.Keys.{probe, sought_key, key_at}
use Rattle.gx_search.specs.Searches.{Struct, Search, next_address, is_past}
use Rattle.std.specs.Ordering.{nat_cmp}
use Rattle.std.specs.declared.cmp.Ordering.TheVariants.{Less}
use Rattle.std.specs.Cmp.Lexicographic.{slice_cmp}
use Rattle.gx_words.specs.Results.{◌>>=◌}
use Rattle.gx_search.specs.Halving.{struct_at}

-- What a call answers that may begin so many probes: More exactly where the search begins more.
abbrev pub found_by : ℕ → Option Struct → Found
found_by probes None = Nothing probes
found_by probes (Some s) = At s.address s.index probes

unfoldable pub found_within : ℕ → Search → Result Found Fault
found_within bound whole =
    if nat_lt bound whole.probes then Ok More else (do
      found ← whole.outcome
      Ok (found_by whole.probes found))

-- the address of an index, to which so many steps lead from the start
unfoldable pub address_of : Layout → List ℕ → Ask → ℕ → Result ℕ Fault
address_of l memory ask zero = Ok ask.start
address_of l memory ask (suc i) = address_of l memory ask i >>= λ at. next_address l memory ask at

-- the address of the struct of an index; None past the last
unfoldable pub struct_of_index : Layout → List ℕ → Ask → ℕ → Result (Option ℕ) Fault
struct_of_index l memory ask i =
    address_of l memory ask i >>= λ at. Ok (if is_past l ask i at then None else Some at)

-- the struct of an index is at an address, and its probe sees this
abbrev pub IsSeen : Layout → List ℕ → Ask → ℕ → ℕ → Seen → Type 0
IsSeen l memory ask i at what = (struct_of_index l memory ask i ≡ Ok (Some at)) × (probe memory ask at ≡ Ok what)

-- each probe below an index has no fault, and sees neither the key nor zeros that end the search
unfoldable pub ArePassed : Layout → List ℕ → Ask → ℕ → Type 0
ArePassed l memory ask n = (k : ℕ) → k < n → (at : ℕ) × IsSeen l memory ask k at Other

-- What a search found: the least index at which something ends it. A match counts first, then
-- zeros; with nothing, they end it or there is no struct at the index; with `More`, no index below
-- the bound ends it; and a fault is that of the index's struct or of its probe.
unfoldable pub IsFound : Layout → List ℕ → Ask → ℕ → Result Found Fault → Type 0
IsFound l memory ask bound (Ok (At address index probes)) =
    (i : ℕ) × ArePassed l memory ask i × IsSeen l memory ask i address Match × (index ≡ i % 2 ^ 32) × (probes ≡ i + 1)
    × (i < bound)
IsFound l memory ask bound (Ok (Nothing probes)) =
    (ArePassed l memory ask probes × (struct_of_index l memory ask probes ≡ Ok None) × (probes ≤ bound))
    ⊎ ((i : ℕ) × (at : ℕ) × ArePassed l memory ask i × IsSeen l memory ask i at Zero × (probes ≡ i + 1)
    × (i < bound))
IsFound l memory ask bound (Ok More) =
    (at : ℕ) × ArePassed l memory ask bound × (struct_of_index l memory ask bound ≡ Ok (Some at))
IsFound l memory ask bound (Err e) =
    (i : ℕ) × ArePassed l memory ask i
    × (((struct_of_index l memory ask i ≡ Err e) × (i ≤ bound))
    ⊎ ((at : ℕ) × (struct_of_index l memory ask i ≡ Ok (Some at)) × (probe memory ask at ≡ Err e) × (i < bound)))

-- the key of the struct of an index
abbrev pub key_in_row : List ℕ → Ask → ℕ → List ℕ
key_in_row memory ask i = key_at memory ask (struct_at ask i)

-- the keys of the row rise
abbrev pub IsRisingRow : List ℕ → Ask → Type 0
IsRisingRow memory ask =
    (i j : ℕ) → i < j → j < ask.count → slice_cmp nat_cmp (key_in_row memory ask i) (key_in_row memory ask j) ≡ Less

-- What a search of a row of rising keys found: a struct with the key, or that none has it.
unfoldable pub IsFoundInRow : List ℕ → Ask → Result Found Fault → Type 0
IsFoundInRow memory ask (Ok (At address index probes)) =
    (index < ask.count) × (address ≡ struct_at ask index) × (key_in_row memory ask index ≡ sought_key memory ask)
IsFoundInRow memory ask (Ok (Nothing probes)) =
    IsRisingRow memory ask → (i : ℕ) → i < ask.count → key_in_row memory ask i ≢ sought_key memory ask
IsFoundInRow memory ask (Ok More) = Unit {0}
IsFoundInRow memory ask (Err e) = Unit {0}
