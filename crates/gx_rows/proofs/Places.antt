-- Where the numbers stand in the table.
use Rattle.std.proofs.Common.{◌≡◌, ◌≢◌, ◌≤◌, ◌<◌, ◌+◌, ◌&&◌, ◌==◌, ℕ, zero, suc, Bool, true, false, nat_lt, not, List}
use Rattle.std.proofs.Common.{[], ◌∷◌, length, slice_index, refl, sym, ◌∙◌, ap, subst, arith, Some, None, option_map}
use Rattle.std.specs.List.{list_all, position_or_len, slice_get}
use Rattle.std.proofs.lemmas.Bool.Decides.{nat_tests}
use Rattle.std.proofs.lemmas.List.Folds.{find_at}
use Rattle.std.proofs.lemmas.List.Sums.{AllPass-from_list_all, position_or_len_is, prefix_len-le-length}
use Rattle.std.proofs.lemmas.Option.{slice_get_past, slice_get-get_or}
use Rattle.gx_rows.specs.declared.instructions.Row.{Row}
use Rattle.gx_rows.specs.Table.{table, row_count, row_of, row_at, place_of, row_fits, are_places, are_below, RowFits}

both : (a b : Bool) → (a && b) ≡ true → (a ≡ true) × (b ≡ true)
both true b h = (refl, h)
both false b h = absurd (cc)

same : (m n : ℕ) → (m == n) ≡ true → m ≡ n
same m n h = grind (arith, nat_tests)

pub rows_counted : length table ≡ row_count
unfolding table
rows_counted = refl

all_fit : list_all row_fits table ≡ true
unfolding table
all_fit = refl

-- the shape of each row, by looking at the whole table
fits_by_test : (row : Row) → row_fits row ≡ true → RowFits row
fits_by_test row fits = record {
  count = grind (arith, nat_tests);
  stored = grind (arith, nat_tests);
  width = grind (arith, nat_tests);
}

pub fits_at : (place : ℕ) → place < row_count → RowFits (row_at place)
unfolding row_at
fits_at place within = fits_by_test _ (AllPass-from_list_all row_fits table all_fit place _
    (omega (arith, rows_counted)))

-- the row of a number stands at the place of the first that has it
row_found : (number place : ℕ) → position_or_len (λ row. row.number == number) table ≡ place
    → row_of number ≡ slice_get table place
unfolding row_of
row_found number place is = find_at (λ row. row.number == number) table ∙ ap (slice_get table) is

stands : (first i : ℕ) (places : List ℕ) → are_places first places ≡ true → i < length places
    → position_or_len (λ row. row.number == first + i) table ≡ slice_index places i
unfolding are_places
stands first i [] all within = absurd (omega arith)
stands first zero (place ∷ places) all within =
    let here = both (position_or_len (λ row. row.number == first) table == place) (are_places (first + 1) places) all in
    ap (λ (n : ℕ). position_or_len (λ row. row.number == n) table) (omega arith) ∙ same _ _ here.0
stands first (suc i) (place ∷ places) all within =
    let rest = both (position_or_len (λ row. row.number == first) table == place) (are_places (first + 1) places) all in
    ap (λ (n : ℕ). position_or_len (λ row. row.number == n) table) (omega arith)
    ∙ stands (first + 1) i places rest.1 (omega arith)

stands_at : (number : ℕ) (places : List ℕ) → are_places 0 places ≡ true → number < length places
    → position_or_len (λ row. row.number == number) table ≡ slice_index places number
stands_at number places all within = subst
    (λ (n : ℕ). position_or_len (λ row. row.number == n) table ≡ slice_index places number) (omega arith)
    (stands 0 number places all within)

pub place_within : (places : List ℕ) (number : ℕ) → are_places 0 places ≡ true → number < length places
    → slice_index places number ≢ row_count → slice_index places number < row_count
place_within places number all within some =
    let most = prefix_len-le-length (λ row. not (row.number == number)) table in
    omega (arith, rows_counted, most, stands_at number places all within, some)

-- a number that has a place
pub number_found : (places : List ℕ) (number : ℕ) → are_places 0 places ≡ true → number < length places
    → slice_index places number ≢ row_count
    → (option_map row_at (Some (slice_index places number)) ≡ row_of number) × (slice_index places number < row_count)
    × RowFits (row_at (slice_index places number))
unfolding row_at
number_found places number all within some =
    let there = place_within places number all within some in (
      sym (row_found number (slice_index places number) (stands_at number places all within)
          ∙ slice_get-get_or table (slice_index places number) _ (omega (arith, rows_counted, there))),
      there,
      fits_at _ there,
    )

-- where it stands
pub place_found : (places : List ℕ) (number : ℕ) → are_places 0 places ≡ true → number < length places
    → slice_index places number ≢ row_count
    → Some (slice_index places number) ≡ place_of number
unfolding place_of
place_found places number all within some =
    grind (arith, nat_tests, stands_at number places all within, place_within places number all within some)

pub place_missing : (places : List ℕ) (number : ℕ) → are_places 0 places ≡ true → number < length places
    → slice_index places number ≡ row_count
    → None ≡ place_of number
unfolding place_of
place_missing places number all within none = grind (arith, nat_tests, stands_at number places all within)

-- one that has none
pub number_missing : (places : List ℕ) (number : ℕ) → are_places 0 places ≡ true → number < length places
    → slice_index places number ≡ row_count
    → None ≡ row_of number
number_missing places number all within none =
    sym (row_found number row_count (stands_at number places all within ∙ none)
    ∙ slice_get_past table row_count (omega (arith, rows_counted)))

-- one above them all
too_great : (m n most : ℕ) → nat_lt m most ≡ true → most ≤ n → (m == n) ≡ false
too_great m n most less there = grind (arith, nat_tests)

pub place_above : (most number : ℕ) → are_below most table ≡ true → most ≤ number → None ≡ place_of number
unfolding are_below place_of
place_above most number all there =
    let passes = AllPass-from_list_all (λ row. nat_lt row.number most) table all in
    let past = position_or_len_is (λ row. row.number == number) table (length table) (row_at 0) (omega arith)
    (λ k less. too_great _ number most (passes k _ less) there) (λ less. absurd (omega (arith, less))) in
    grind (arith, nat_tests, rows_counted, past)

pub number_above : (most number : ℕ) → are_below most table ≡ true → most ≤ number → None ≡ row_of number
unfolding are_below
number_above most number all there =
    let passes = AllPass-from_list_all (λ row. nat_lt row.number most) table all in
    sym (row_found number (length table)
    (position_or_len_is (λ row. row.number == number) table (length table) (row_at 0) (omega arith)
    (λ k less. too_great _ number most (passes k _ less) there) (λ less. absurd (omega (arith, less))))
    ∙ slice_get_past table (length table) (omega arith))

pub ruleset places = (place_within, number_found, number_missing, number_above, place_found, place_missing, place_above)
