-- What a search of one struct after another finds, and that this is its definition.
use Rattle.std.proofs.Common.{◌≡◌, inl, inr, ◌≤◌, ◌<◌, ◌+◌, ◌-◌, ◌%◌, ◌^◌, ℕ, zero, suc, Bool, true, false, List}
use Rattle.std.proofs.Common.{Option}
use Rattle.std.proofs.Common.{Some, None, Result, Ok, Err, refl, subst, arith, below_more, if◌then◌else◌, ◌∙◌}
use Rattle.gx_words.specs.declared.faults.Fault.{Fault}
use Rattle.gx_words.specs.Faults.{Reads, TakesNone}
use Rattle.gx_words.specs.Results.{◌>>=◌}
use Rattle.gx_search.specs.declared.asks.Ask.{Ask}
use Rattle.gx_search.specs.declared.asks.Found.{Found}
use Rattle.gx_search.specs.declared.asks.Found.TheVariants.{At, Nothing, More}
use Rattle.gx_search.specs.declared.keys.Seen.TheVariants.{Match, Zero, Other}
use Rattle.gx_search.specs.declared.turns.Layout.{Layout}
use Rattle.gx_search.specs.Keys.{has_size, probe}
use Rattle.gx_search.specs.Searches.{Struct, Search, no_probe, with_probe, next_address, is_past, after_probe}
use Rattle.gx_search.specs.Searches.{search_from, search_of}
use Rattle.gx_search.specs.Finding.{found_by, found_within, address_of, struct_of_index, ArePassed, IsFound}
use Rattle.gx_search.proofs.Within.{IsAfter, after_none, after_one, ended_within, spent_within}

-- ---- the struct of an index

pub address_first : (l : Layout) (m : List ℕ) (q : Ask) → address_of l m q 0 ≡ Ok q.start
unfolding address_of
address_first l m q = refl

address_after : (l : Layout) (m : List ℕ) (q : Ask) (i at : ℕ) → address_of l m q i ≡ Ok at
    → address_of l m q (i + 1) ≡ next_address l m q at
unfolding address_of
address_after l m q i at here = let turn : i + 1 ≡ suc i = omega arith in rw (turn, here) refl

pub address_next : (l : Layout) (m : List ℕ) (q : Ask) (i at next : ℕ) → address_of l m q i ≡ Ok at
    → next_address l m q at ≡ Ok next → address_of l m q (i + 1) ≡ Ok next
address_next l m q i at next here link = rw (address_after l m q i at here) link

is_place : (l : Layout) (m : List ℕ) (q : Ask) (i at : ℕ) → address_of l m q i ≡ Ok at → is_past l q i at ≡ false
    → struct_of_index l m q i ≡ Ok (Some at)
unfolding struct_of_index
is_place l m q i at here on = rw (here, on) refl

-- ---- what is found, by each end of a search

pub passed_none : (l : Layout) (m : List ℕ) (q : Ask) → ArePassed l m q 0
unfolding ArePassed
passed_none l m q = λ k h. absurd (omega arith)

pub passed_more : (l : Layout) (m : List ℕ) (q : Ask) (i at : ℕ) → ArePassed l m q i → address_of l m q i ≡ Ok at
    → is_past l q i at ≡ false → probe m q at ≡ Ok Other → ArePassed l m q (i + 1)
unfolding ArePassed
passed_more l m q i at below here on sees = below_more _ _ below (at, (is_place l m q i at here on, sees))

pub found_match : (l : Layout) (m : List ℕ) (q : Ask) (bound i at : ℕ) → ArePassed l m q i
    → address_of l m q i ≡ Ok at → is_past l q i at ≡ false → probe m q at ≡ Ok Match → i < bound
    → IsFound l m q bound (Ok (At at (i % 2 ^ 32) (i + 1)))
unfolding IsFound
found_match l m q bound i at below here on sees h = (i, below, (is_place l m q i at here on, sees), refl, refl, h)

pub found_zeros : (l : Layout) (m : List ℕ) (q : Ask) (bound i at : ℕ) → ArePassed l m q i
    → address_of l m q i ≡ Ok at → is_past l q i at ≡ false → probe m q at ≡ Ok Zero → i < bound
    → IsFound l m q bound (Ok (Nothing (i + 1)))
unfolding IsFound
found_zeros l m q bound i at below here on sees h = inr (i, at, below, (is_place l m q i at here on, sees), refl, h)

pub found_end : (l : Layout) (m : List ℕ) (q : Ask) (bound i at : ℕ) → ArePassed l m q i → address_of l m q i ≡ Ok at
    → is_past l q i at ≡ true → i ≤ bound → IsFound l m q bound (Ok (Nothing i))
unfolding IsFound struct_of_index
found_end l m q bound i at below here past h = inl (below, rw (here, past) refl, h)

pub found_more : (l : Layout) (m : List ℕ) (q : Ask) (bound i at : ℕ) → ArePassed l m q i → address_of l m q i ≡ Ok at
    → is_past l q i at ≡ false → i ≡ bound → IsFound l m q bound (Ok More)
unfolding IsFound
found_more l m q bound i at below here on is = rw (← is) (at, below, is_place l m q i at here on)

pub found_fault : (l : Layout) (m : List ℕ) (q : Ask) (bound i at : ℕ) (e : Fault) → ArePassed l m q i
    → address_of l m q i ≡ Ok at → is_past l q i at ≡ false → probe m q at ≡ Err e → i < bound
    → IsFound l m q bound (Err e)
unfolding IsFound
found_fault l m q bound i at e below here on fault h = (i, below, inr (at, is_place l m q i at here on, fault, h))

pub found_cut : (l : Layout) (m : List ℕ) (q : Ask) (bound i at : ℕ) (e : Fault) → ArePassed l m q i
    → address_of l m q i ≡ Ok at → is_past l q i at ≡ false → probe m q at ≡ Ok Other → next_address l m q at ≡ Err e
    → i < bound
    → IsFound l m q bound (Err e)
unfolding IsFound struct_of_index
found_cut l m q bound i at e below here on sees link h =
    (i + 1, passed_more l m q i at below here on sees, inl (rw (address_after l m q i at here, link) refl, omega arith))

pub ruleset finding = (
  address_first,
  address_next,
  passed_none,
  passed_more,
  found_match,
  found_zeros,
  found_end,
  found_more,
  found_fault,
  found_cut,
)

-- ---- what is found is the definition's

-- the search through so many structs from an index on, whose address is that of its index
abbrev searched : Layout → List ℕ → Ask → ℕ → ℕ → Search
searched l m q left i = search_from l m q left i (address_of l m q i)

-- what the struct of an index makes of the search
abbrev at_struct : List ℕ → Ask → ℕ → Search → Result (Option ℕ) Fault → Search
at_struct m q i rest (Ok None) = no_probe (Ok None)
at_struct m q i rest (Ok (Some at)) = with_probe (after_probe i at rest (probe m q at))
at_struct m q i rest (Err e) = no_probe (Err e)

turn_past : (l : Layout) (m : List ℕ) (q : Ask) (left i at : ℕ) (b : Bool) → is_past l q i at ≡ b
    → search_from l m q (suc left) i (Ok at)
    ≡ at_struct m q i (search_from l m q left (i + 1) (next_address l m q at)) (Ok (if b then None else Some at))
unfolding search_from
turn_past l m q left i at true is = rw is refl
turn_past l m q left i at false is = rw is refl

turn_by : (l : Layout) (m : List ℕ) (q : Ask) (left i : ℕ) (r : Result ℕ Fault) → address_of l m q i ≡ r
    → searched l m q (suc left) i ≡ at_struct m q i (searched l m q left (i + 1)) (struct_of_index l m q i)
unfolding search_from struct_of_index
turn_by l m q left i (Ok at) is = rw (address_after l m q i at is, is)
    (turn_past l m q left i at (is_past l q i at) refl)
turn_by l m q left i (Err e) is = rw is refl

turn : (l : Layout) (m : List ℕ) (q : Ask) (left i : ℕ)
    → searched l m q (suc left) i ≡ at_struct m q i (searched l m q left (i + 1)) (struct_of_index l m q i)
turn l m q left i = turn_by l m q left i (address_of l m q i) refl

passed_is : (l : Layout) (m : List ℕ) (q : Ask) (i left n : ℕ) → ArePassed l m q i → n ≡ i + left
    → IsAfter i (searched l m q n 0) (searched l m q left i)
unfolding ArePassed
passed_is l m q zero left n below is =
    let same : n ≡ left = omega arith in
    rw same (after_none (searched l m q left 0))
passed_is l m q (suc i) left n below is =
    let sees = below i (omega arith) in
    let one : searched l m q (suc left) i ≡ with_probe (searched l m q left (i + 1)) =
    turn l m q left i ∙ rw (sees.1.0, sees.1.1) refl in
    let before = passed_is l m q i (suc left) n (λ k h. below k (omega arith)) (omega arith) in
    let next : i + 1 ≡ suc i = omega arith in
    subst (λ (k : ℕ). IsAfter k (searched l m q n 0) (searched l m q left k)) next
    (after_one i (searched l m q n 0) (searched l m q left (i + 1)) (subst (IsAfter i (searched l m q n 0)) one before))

-- the whole search, from an index that it comes to
comes_to : (l : Layout) (m : List ℕ) (q : Ask) (i n : ℕ) → i < n → ArePassed l m q i
    → (rest : Search) × IsAfter i (searched l m q n 0) (at_struct m q i rest (struct_of_index l m q i))
comes_to l m q i n h below = (
  searched l m q (n - (i + 1)) (i + 1),
  subst (IsAfter i (searched l m q n 0)) (turn l m q (n - (i + 1)) i)
      (passed_is l m q i (suc (n - (i + 1))) n below (omega arith)),
)

ends_at : (l : Layout) (m : List ℕ) (q : Ask) (bound i n last : ℕ) (r : Result (Option Struct) Fault) → i < n
    → ArePassed l m q i
    → ((rest : Search) → ((at_struct m q i rest (struct_of_index l m q i)).outcome ≡ r)
    × (i + (at_struct m q i rest (struct_of_index l m q i)).probes ≡ last)) → last ≤ bound
    → found_within bound (searched l m q n 0) ≡ (r >>= (λ (s : Option Struct). Ok (found_by last s)))
ends_at l m q bound i n last r h below ends within =
    let to = comes_to l m q i n h below in
    let here = ends to.0 in
    ended_within bound (searched l m q n 0) last r (cc (to.1.outcome, here.0))
    (omega (arith, to.1.probes, here.1)) within

search_is : (l : Layout) (m : List ℕ) (q : Ask) (bound n : ℕ) (r : Result Found Fault) → bound < n
    → IsFound l m q bound r → found_within bound (searched l m q n 0) ≡ r
unfolding IsFound
search_is l m q bound n (Ok (At address index probes)) h (i, below, sees, is, count, within) =
    rw (is, count) (ends_at l m q bound i n (i + 1) (Ok (Some (record { address = address; index = i % 2 ^ 32 })))
    (omega arith) below (λ rest. rw (sees.0, sees.1) (refl, refl)) (omega arith))
search_is l m q bound n (Ok (Nothing probes)) h (inl (below, none, within)) =
    ends_at l m q bound probes n probes (Ok None) (omega arith) below (λ rest. rw none (refl, omega arith)) within
search_is l m q bound n (Ok (Nothing probes)) h (inr (i, at, below, sees, count, within)) =
    rw count (ends_at l m q bound i n (i + 1) (Ok None) (omega arith) below (λ rest. rw (sees.0, sees.1) (refl, refl))
    (omega arith))
search_is l m q bound n (Ok More) h (at, below, some) =
    let to = comes_to l m q bound n h below in
    let after = rw some at to.1 in
    spent_within bound (searched l m q n 0) (omega (arith, after.probes))
search_is l m q bound n (Err e) h (i, below, inl (fault, within)) =
    ends_at l m q bound i n i (Err e) (omega arith) below (λ rest. rw fault (refl, omega arith)) within
search_is l m q bound n (Err e) h (i, below, inr (at, some, fault, within)) =
    ends_at l m q bound i n (i + 1) (Err e) (omega arith) below (λ rest. rw (some, fault) (refl, refl)) (omega arith)

reads_by : (r defined : Result Found Fault) → TakesNone r → defined ≡ r → Reads (λ (found : Found). found) r defined
reads_by (Ok found) defined takes is = is
reads_by (Err e) defined takes is = (is, takes)

pub searched_is : (l : Layout) (m : List ℕ) (q : Ask) (bound : ℕ) (r : Result Found Fault) → has_size q ≡ true
    → bound < 2 ^ 64 → IsFound l m q bound r → TakesNone r
    → Reads (λ (found : Found). found) r (found_within bound (search_of l m q))
unfolding search_of address_of
searched_is l m q bound r sized h found takes = reads_by r _ takes (rw sized (search_is l m q bound (2 ^ 64) r h found))

-- what the proof of a whole search opens
unfoldable pub searching : Unit {0}
unfolding search_of found_within
searching = tt
