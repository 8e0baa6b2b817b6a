-- What a call answers of a search, within a bound of probes.
use Rattle.std.proofs.Common.{◌≡◌, inl, inr, ◌≤◌, ◌<◌, ◌+◌, ℕ, Option, Some, None, Result, Ok, Err, refl, sym, subst}
use Rattle.std.proofs.Common.{arith}
use Rattle.std.proofs.lemmas.Bool.{cases_lt, lt-ltb, le-ltb}
use Rattle.gx_words.specs.declared.faults.Fault.{Fault}
use Rattle.gx_words.specs.Results.{◌>>=◌}
use Rattle.gx_search.specs.declared.asks.Found.{Found}
use Rattle.gx_search.specs.declared.asks.Found.TheVariants.{At, Nothing, More}
use Rattle.gx_search.specs.Searches.{Struct, Search, with_probe}
use Rattle.gx_search.specs.Finding.{found_by, found_within}

-- ---- a search that goes on as another after so many probes

pub record IsAfter (made : ℕ) (whole rest : Search) : Type 0 where
  pub outcome : whole.outcome ≡ rest.outcome
  pub probes : whole.probes ≡ made + rest.probes

pub after_none : (whole : Search) → IsAfter 0 whole whole
after_none whole = record { outcome = refl; probes = omega arith }

pub after_one : (made : ℕ) (whole rest : Search) → IsAfter made whole (with_probe rest) → IsAfter (made + 1) whole rest
after_one made whole rest after = record { outcome = after.outcome; probes = omega (arith, after.probes) }

-- ---- the answer, from the search

pub ended_within : (bound : ℕ) (whole : Search) (probes : ℕ) (r : Result (Option Struct) Fault) → whole.outcome ≡ r
    → whole.probes ≡ probes → probes ≤ bound
    → found_within bound whole ≡ (r >>= (λ (s : Option Struct). Ok (found_by probes s)))
unfolding found_within
ended_within bound whole probes r outcome count h = rw (outcome, count, le-ltb bound probes h) refl

pub spent_within : (bound : ℕ) (whole : Search) → bound < whole.probes → found_within bound whole ≡ Ok More
unfolding found_within
spent_within bound whole h = rw (lt-ltb bound whole.probes h) refl

-- ---- the search, from the answer

abbrev pub IsAnswer : ℕ → Search → Result Found Fault → Type 0
IsAnswer bound whole (Ok (At address index probes)) =
    (whole.outcome ≡ Ok (Some (record { address = address; index = index }))) × (whole.probes ≡ probes)
    × (probes ≤ bound)
IsAnswer bound whole (Ok (Nothing probes)) = (whole.outcome ≡ Ok None) × (whole.probes ≡ probes) × (probes ≤ bound)
IsAnswer bound whole (Ok More) = bound < whole.probes
IsAnswer bound whole (Err e) = (whole.outcome ≡ Err e) × (whole.probes ≤ bound)

ended_answer : (bound : ℕ) (whole : Search) (r : Result (Option Struct) Fault) → whole.outcome ≡ r
    → whole.probes ≤ bound → IsAnswer bound whole (r >>= (λ (s : Option Struct). Ok (found_by whole.probes s)))
ended_answer bound whole (Ok (Some s)) outcome h = (outcome, refl, h)
ended_answer bound whole (Ok None) outcome h = (outcome, refl, h)
ended_answer bound whole (Err e) outcome h = (outcome, h)

pub is_answer : (bound : ℕ) (whole : Search) (r : Result Found Fault) → found_within bound whole ≡ r
    → IsAnswer bound whole r
is_answer bound whole r is =
    subst (IsAnswer bound whole) is (elim (cases_lt bound whole.probes) [
      | inl more ↦ subst (IsAnswer bound whole) (sym (spent_within bound whole more)) more
      | inr all ↦ subst (IsAnswer bound whole)
          (sym (ended_within bound whole whole.probes whole.outcome refl refl all))
          (ended_answer bound whole whole.outcome refl all)
    ])
