-- What a search of a row of rising keys finds, and that this is its definition.
use Rattle.std.proofs.Common.{◌≡◌, ◌≢◌, ◌⊎◌, inl, inr, ◌≤◌, ◌<◌, ◌+◌, ◌-◌, ◌*◌, ◌/◌, ◌^◌, ℕ, zero, suc, Bool, true}
use Rattle.std.proofs.Common.{false}
use Rattle.std.proofs.Common.{List, Some, None, Result, Ok, Err, refl, sym, subst, ap, cond, ◌∙◌, arith}
use Rattle.std.specs.Ordering.{nat_cmp, is_eq}
use Rattle.std.specs.declared.cmp.Ordering.{Ordering}
use Rattle.std.specs.declared.cmp.Ordering.TheVariants.{Less, Equal, Greater}
use Rattle.std.specs.Cmp.Lexicographic.{slice_cmp}
use Rattle.std.proofs.lemmas.Bool.{cases_eq, cases_lt, lt-ltb, le-ltb}
use Rattle.std.proofs.lemmas.Grind.{pow_more}
use Rattle.std.proofs.lemmas.Cmp.{nat_list_cmp_total, tied_itself}
use Rattle.std.proofs.lemmas.Map.Text.{is_eq-slice_cmp}
use Rattle.std.proofs.lemmas.Slice.Eq.{bytes_eq-Decides}
use Rattle.gx_words.specs.declared.faults.Fault.{Fault}
use Rattle.gx_words.specs.declared.faults.Fault.TheVariants.{BadAddress}
use Rattle.gx_search.specs.declared.asks.Ask.{Ask}
use Rattle.gx_search.specs.declared.asks.Found.TheVariants.{At, Nothing, More}
use Rattle.gx_search.specs.Keys.{sought_key, key_at, can_probe, compared}
use Rattle.gx_search.specs.Searches.{no_probe, with_probe}
use Rattle.gx_search.specs.Finding.{found_within, key_in_row, IsRisingRow, IsFoundInRow}
use Rattle.gx_search.specs.Halving.{struct_at, after_order, halving, binary}
use Rattle.gx_search.proofs.Within.{IsAfter, after_none, after_one, ended_within, spent_within}

-- ---- keys in order

compared_if : (b : Bool) (o p : Ordering) → (cond b (Ok o) (Err BadAddress)) ≡ Ok p → o ≡ p
compared_if true o p h = cc
compared_if false o p h = absurd cc

compared_is : (m : List ℕ) (q : Ask) (at : ℕ) (o : Ordering) → compared m q at ≡ Ok o
    → slice_cmp nat_cmp (sought_key m q) (key_at m q at) ≡ o
unfolding compared
compared_is m q at o h = compared_if (can_probe m q at) _ o h

same_if_equal : (xs ys : List ℕ) → slice_cmp nat_cmp xs ys ≡ Equal → ys ≡ xs
same_if_equal xs ys h =
    let same : is_eq (slice_cmp nat_cmp xs ys) ≡ true = rw h refl in
    sym ((bytes_eq-Decides xs ys).0 (sym (is_eq-slice_cmp xs ys) ∙ same))

less_apart : (key there other : List ℕ) → slice_cmp nat_cmp key there ≡ Less → slice_cmp nat_cmp there other ≡ Less
    → other ≢ key
less_apart key there other below rises same =
    let both = nat_list_cmp_total.trans key there other below rises in
    let itself = tied_itself nat_list_cmp_total key in
    let less : slice_cmp nat_cmp key key ≡ Less = subst (λ (xs : List ℕ). slice_cmp nat_cmp key xs ≡ Less) same both in
    absurd (cc (less, itself))

-- no struct outside of these indices has the key
abbrev HasNoneOutside : List ℕ → Ask → ℕ → ℕ → Type 0
HasNoneOutside m q low high = IsRisingRow m q → (k : ℕ) → k < q.count → (k < low) ⊎ (high ≤ k)
    → key_in_row m q k ≢ sought_key m q

none_from : (m : List ℕ) (q : Ask) (low high index : ℕ) → HasNoneOutside m q low high
    → slice_cmp nat_cmp (sought_key m q) (key_in_row m q index) ≡ Less → HasNoneOutside m q low index
none_from m q low high index outside less rises k h (inl below) = outside rises k h (inl below)
none_from m q low high index outside less rises k h (inr above) =
    elim (cases_eq k index) [
      | inl same ↦ λ equal. absurd (cc (
        tied_itself nat_list_cmp_total (sought_key m q),
        ap (key_in_row m q) same,
        less,
        equal,
      ))
      | inr other ↦ less_apart (sought_key m q) (key_in_row m q index) (key_in_row m q k) less
          (rises index k (omega arith) h)
    ]

none_to : (m : List ℕ) (q : Ask) (low high index : ℕ) → index < q.count → HasNoneOutside m q low high
    → slice_cmp nat_cmp (sought_key m q) (key_in_row m q index) ≡ Greater → HasNoneOutside m q (index + 1) high
none_to m q low high index inside outside greater rises k h (inr above) = outside rises k h (inr above)
none_to m q low high index inside outside greater rises k h (inl below) =
    elim (cases_eq k index) [
      | inl same ↦ λ equal. absurd (cc (
        tied_itself nat_list_cmp_total (sought_key m q),
        ap (key_in_row m q) same,
        greater,
        equal,
      ))
      | inr other ↦ λ equal. absurd (cc (rises k index (omega arith) inside, greater, equal))
    ]

-- ---- one probe after another

half_over : (m : List ℕ) (q : Ask) (left low high : ℕ) → high ≤ low → halving m q left low high ≡ no_probe (Ok None)
unfolding halving
half_over m q zero low high h = refl
half_over m q (suc left) low high h = rw (le-ltb low high h) refl

half_turn : (m : List ℕ) (q : Ask) (left rest low high index : ℕ) (r : Result Ordering Fault) → low < high
    → index ≡ (low + high) / 2 → left ≡ rest + 1 → compared m q (struct_at q index) ≡ r
    → halving m q left low high ≡ with_probe
    (after_order (record { address = struct_at q index; index = index }) (halving m q rest low index)
    (halving m q rest (index + 1) high) r)
unfolding halving
half_turn m q left rest low high index r h is more order =
    let next : left ≡ suc rest = omega arith in
    rw (next, lt-ltb low high h, ← is, order) refl

-- what is left after so many probes: each leaves less than half
pub record IsLeft (m : List ℕ) (q : Ask) (made low high : ℕ) : Type 0 where
  pub capped : high ≤ q.count
  pub fewer : high + made ≤ low + q.count
  pub few : high < low + 2 ^ (32 - made)
  pub after : IsAfter made (halving m q q.count 0 q.count) (halving m q (q.count - made) low high)
  pub outside : HasNoneOutside m q low high

pub left_all : (m : List ℕ) (q : Ask) → q.count < 2 ^ 32 → IsLeft m q 0 0 q.count
left_all m q fits =
    let none : q.count - 0 ≡ q.count = omega arith in
    record {
      capped = omega arith;
      fewer = omega arith;
      few = omega arith;
      after = rw none (after_none (halving m q q.count 0 q.count));
      outside = λ rises k inside w. elim w [ inl below ↦ absurd (omega arith) | inr above ↦ absurd (omega arith) ];
    }

halved : (made low high : ℕ) → low < high → high < low + 2 ^ (32 - made) → 2 ^ (32 - made) ≡ 2 ^ (32 - (made + 1)) * 2
halved made low high h few =
    elim (cases_lt made 32) [
      | inl more ↦ let next : 32 - made ≡ 32 - (made + 1) + 1 = omega arith in rw next (pow_more 2 (32 - (made + 1)))
      | inr all ↦ let none : 32 - made ≡ 0 = omega arith in absurd (let one = rw none at few in omega arith)
    ]

-- the probe of the middle
goes_on : (m : List ℕ) (q : Ask) (made low high index : ℕ) (r : Result Ordering Fault) → IsLeft m q made low high
    → low < high → index ≡ (low + high) / 2 → compared m q (struct_at q index) ≡ r
    → IsAfter made (halving m q q.count 0 q.count)
    (with_probe (after_order (record { address = struct_at q index; index = index })
    (halving m q (q.count - (made + 1)) low index) (halving m q (q.count - (made + 1)) (index + 1) high) r))
goes_on m q made low high index r l h is order =
    subst (IsAfter made (halving m q q.count 0 q.count))
    (half_turn m q (q.count - made) (q.count - (made + 1)) low high index r h is (omega (arith, l.fewer)) order)
    l.after

pub left_less : (m : List ℕ) (q : Ask) (made low high index : ℕ) → IsLeft m q made low high → low < high
    → index ≡ (low + high) / 2 → compared m q (struct_at q index) ≡ Ok Less → IsLeft m q (made + 1) low index
left_less m q made low high index l h is order =
    let after = goes_on m q made low high index (Ok Less) l h is order in
    let half = halved made low high h l.few in
    record {
      capped = omega (arith, l.capped);
      fewer = omega (arith, l.fewer);
      few = omega (arith, l.few, half);
      after = after_one made _ _ after;
      outside = none_from m q low high index l.outside (compared_is m q _ Less order);
    }

pub left_greater : (m : List ℕ) (q : Ask) (made low high index : ℕ) → IsLeft m q made low high → low < high
    → index ≡ (low + high) / 2 → compared m q (struct_at q index) ≡ Ok Greater → IsLeft m q (made + 1) (index + 1) high
left_greater m q made low high index l h is order =
    let after = goes_on m q made low high index (Ok Greater) l h is order in
    let half = halved made low high h l.few in
    record {
      capped = l.capped;
      fewer = omega (arith, l.fewer);
      few = omega (arith, l.few, half);
      after = after_one made _ _ after;
      outside = none_to m q low high index (omega (arith, l.capped)) l.outside (compared_is m q _ Greater order);
    }

-- ---- the ends of the search

pub half_found : (m : List ℕ) (q : Ask) (bound made low high index : ℕ) → IsLeft m q made low high → low < high
    → index ≡ (low + high) / 2 → compared m q (struct_at q index) ≡ Ok Equal → made < bound
    → found_within bound (halving m q q.count 0 q.count) ≡ Ok (At (struct_at q index) index (made + 1))
half_found m q bound made low high index l h is order more =
    let after = goes_on m q made low high index (Ok Equal) l h is order in
    ended_within bound _ (made + 1) (Ok (Some (record { address = struct_at q index; index = index }))) after.outcome
    after.probes (omega arith)

pub half_fault : (m : List ℕ) (q : Ask) (bound made low high index : ℕ) (e : Fault) → IsLeft m q made low high
    → low < high → index ≡ (low + high) / 2 → compared m q (struct_at q index) ≡ Err e → made < bound
    → found_within bound (halving m q q.count 0 q.count) ≡ Err e
half_fault m q bound made low high index e l h is fault more =
    let after = goes_on m q made low high index (Err e) l h is fault in
    ended_within bound _ (made + 1) (Err e) after.outcome after.probes (omega arith)

pub half_none : (m : List ℕ) (q : Ask) (bound made low high : ℕ) → IsLeft m q made low high → high ≤ low
    → made ≤ bound → found_within bound (halving m q q.count 0 q.count) ≡ Ok (Nothing made)
half_none m q bound made low high l over within =
    let after = rw (half_over m q (q.count - made) low high over) at l.after in
    ended_within bound _ made (Ok None) after.outcome (omega (arith, after.probes)) within

pub half_spent : (m : List ℕ) (q : Ask) (bound made low high : ℕ) → IsLeft m q made low high → low < high
    → made ≡ bound → found_within bound (halving m q q.count 0 q.count) ≡ Ok More
half_spent m q bound made low high l h is =
    let after = goes_on m q made low high ((low + high) / 2) _ l h refl refl in
    spent_within bound _ (omega (arith, after.probes))

-- 32 probes leave nothing
pub half_enough : (m : List ℕ) (q : Ask) (made low high : ℕ) → IsLeft m q made low high → low < high → 32 ≤ made → ⊥
half_enough m q made low high l h all =
    let none : 32 - made ≡ 0 = omega arith in
    let few = rw none at l.few in
    omega arith

pub in_row_match : (m : List ℕ) (q : Ask) (made low high index probes : ℕ) → IsLeft m q made low high → low < high
    → index ≡ (low + high) / 2 → compared m q (struct_at q index) ≡ Ok Equal
    → IsFoundInRow m q (Ok (At (struct_at q index) index probes))
unfolding IsFoundInRow
in_row_match m q made low high index probes l h is order =
    (omega (arith, l.capped), refl, same_if_equal _ _ (compared_is m q _ Equal order))

pub in_row_none : (m : List ℕ) (q : Ask) (made low high probes : ℕ) → IsLeft m q made low high → high ≤ low
    → IsFoundInRow m q (Ok (Nothing probes))
unfolding IsFoundInRow
in_row_none m q made low high probes l over rises k inside =
    l.outside rises k inside (elim (cases_lt k low) [ inl below ↦ inl below | inr above ↦ inr (omega arith) ])

pub in_row_more : (m : List ℕ) (q : Ask) → IsFoundInRow m q (Ok More)
unfolding IsFoundInRow
in_row_more m q = tt

pub in_row_fault : (m : List ℕ) (q : Ask) (e : Fault) → IsFoundInRow m q (Err e)
unfolding IsFoundInRow
in_row_fault m q e = tt

pub ruleset halvings = (
  left_all,
  left_less,
  left_greater,
  half_found,
  half_fault,
  half_none,
  half_spent,
  half_enough,
  in_row_match,
  in_row_none,
  in_row_more,
  in_row_fault,
)

-- what the proof of a whole search opens
unfoldable pub halving_row : Unit {0}
unfolding binary IsFoundInRow found_within
halving_row = tt
