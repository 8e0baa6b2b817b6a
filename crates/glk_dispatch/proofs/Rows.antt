-- What is known of each row of the table.
use Rattle.std.proofs.Common.{◌≡◌, ◌<◌, ◌==◌, ◌∙◌, ℕ, true, false, if◌then◌else◌, List, [], ◌∷◌, length, map}
use Rattle.std.proofs.Common.{get_or, refl, sym, subst, arith, Option, Some, None}
use Rattle.std.specs.List.{list_all, slice_get, find}
use Rattle.std.proofs.lemmas.List.Sums.{AllPass-from_list_all}
use Rattle.std.proofs.lemmas.Option.{slice_get-get_or}
use Rattle.std.specs.Option.{option_and_then, option_map}
use Rattle.glk_dispatch.specs.declared.table.Selector.{Selector}
use Rattle.glk_dispatch.specs.CallRows.{CallRow}
use Rattle.glk_dispatch.specs.ObjectCalls.{window_calls, stream_calls}
use Rattle.glk_dispatch.specs.TextCalls.{text_calls, event_calls, unicode_calls}
use Rattle.glk_dispatch.specs.Table.{call_table, row_in, row_for, selector_fits}

abbrev pub looks : List Selector
looks = map (λ row. row.looks) call_table

-- the looks of a row are found by its number
found_looks : (number : ℕ) (rows : List CallRow) → find (λ looks. looks.number == number) (map (λ row. row.looks) rows)
    ≡ option_map (λ row. row.looks) (row_in rows number)
found_looks number [] = refl
found_looks number (row ∷ rows) =
    elim (row.looks.number == number) as
    (λ b. (if b then Some row.looks else find (λ looks. looks.number == number) (map (λ row. row.looks) rows))
    ≡ option_map (λ row. row.looks) (if b then Some row else row_in rows number)) [
      | true ↦ refl
      | false ↦ found_looks number rows
    ]

pub rows_counted : length looks ≡ 79
unfolding window_calls stream_calls text_calls event_calls unicode_calls
rows_counted = refl

all_fit : list_all selector_fits looks ≡ true
unfolding window_calls stream_calls text_calls event_calls unicode_calls
all_fit = refl

-- what the search for a row finds
pub missing : (number : ℕ) (rows : List Selector) (at : Option ℕ) → rows ≡ looks → at ≡ None
    → option_and_then (slice_get rows) at ≡ find (λ row. row.number == number) rows
    → None ≡ option_map (λ row. row.looks) (row_for number)
unfolding row_for
missing number rows at same none is =
    let e : option_and_then (slice_get looks) None ≡ find (λ row. row.number == number) looks =
    subst (λ a. option_and_then (slice_get looks) a ≡ find (λ row. row.number == number) looks) none
    (subst (λ r. option_and_then (slice_get r) at ≡ find (λ row. row.number == number) r) same is) in
    e ∙ found_looks number call_table

pub found : (number place : ℕ) (d : Selector) (rows : List Selector) (at : Option ℕ) → rows ≡ looks → at ≡ Some place
    → place < length rows → option_and_then (slice_get rows) at ≡ find (λ row. row.number == number) rows
    → Some (get_or rows place d) ≡ option_map (λ row. row.looks) (row_for number)
unfolding row_for
found number place d rows at same some within is =
    let e : option_and_then (slice_get looks) (Some place) ≡ find (λ row. row.number == number) looks =
    subst (λ a. option_and_then (slice_get looks) a ≡ find (λ row. row.number == number) looks) some
    (subst (λ r. option_and_then (slice_get r) at ≡ find (λ row. row.number == number) r) same is) in
    let inside : place < length looks = subst (λ r. place < length r) same within in
    let here =
    subst (λ r. Some (get_or r place d) ≡ find (λ row. row.number == number) looks) (sym same)
    (sym (slice_get-get_or looks place d inside) ∙ e) in
    here ∙ found_looks number call_table

pub fits_at : (place : ℕ) (d : Selector) (rows : List Selector) → rows ≡ looks → place < 79
    → selector_fits (get_or rows place d) ≡ true
fits_at place d rows same within =
    subst (λ r. selector_fits (get_or r place d) ≡ true) (sym same)
    (AllPass-from_list_all selector_fits looks all_fit place d (omega (arith, rows_counted)))

pub ruleset rows = (rows_counted, fits_at)
