-- A text that is made of parts loses nothing where it is wrapped, and has no row that is too wide.
use Rattle.std.proofs.Common.{◌≡◌, ◌≤◌, ℕ, true, List, [], ◌∷◌, ◌++◌, append_assoc, sym, ◌∙◌, ap, subst, arith}
use Rattle.std.proofs.lemmas.List.{append-nil}
use Rattle.glk_screen.specs.Wrapper.{FlatWrapper, no_row, let_go, restarted, stays_within}
use Rattle.glk_screen.specs.Laws.{IsWrapped}
use Rattle.glk_screen.proofs.WrapLaws.{Lets, lets_both, char_lets, same_text, both_texts, IsFree, IsRow, char_within}
use Rattle.glk_screen.proofs.WrapLaws.{none_row, none_stays, stays_less}
use Rattle.glk_views.specs.Parts.{Part, comes, grid_row, goes, taken, barred, as_it_comes, part_wrapped, wrapped}
use Rattle.glk_views.specs.Laws.{RowsStay, WrappingKeepsParts}
use Rattle.glk_views.proofs.Says.{both_come}

-- of what was put a front is let go, and the rest is held
part_lets : (r : FlatWrapper) (part : Part) → Lets (r.row ++ as_it_comes (part ∷ [])) (part_wrapped r part)
part_lets r (comes c) = char_lets r c
part_lets r (grid_row fresh cs) =
    let text : List ℕ = barred fresh cs in
    record {
      front = r.row ++ (text ++ []);
      split = sym (append-nil (r.row ++ (text ++ [])));
      is = subst (λ (put : List ℕ). IsWrapped (r.row ++ put) (r.row ++ text)) (sym (append-nil text))
          (same_text (r.row ++ text));
    }
part_lets r goes = record {
  front = r.row ++ [];
  split = sym (append-nil (r.row ++ []));
  is = subst (λ (put : List ℕ). IsWrapped put r.row) (sym (append-nil r.row)) (same_text r.row);
}
part_lets r taken = record { front = []; split = append-nil r.row; is = same_text [] }

parts_let : (r : FlatWrapper) (parts : List Part) → Lets (r.row ++ as_it_comes parts) (wrapped r parts)
parts_let r [] = record { front = []; split = append-nil r.row; is = same_text [] }
parts_let r (part ∷ parts) =
    let first = part_wrapped r part in
    let put : List ℕ = as_it_comes (part ∷ []) in
    let same : (r.row ++ put) ++ as_it_comes parts ≡ r.row ++ as_it_comes (part ∷ parts) =
    append_assoc r.row put (as_it_comes parts) ∙ ap (λ (xs : List ℕ). r.row ++ xs) (sym (both_come (part ∷ []) parts)) in
    subst (λ (xs : List ℕ). Lets xs (wrapped r (part ∷ parts))) same
    (lets_both (r.row ++ put) (as_it_comes parts) first (wrapped first.1 parts) (part_lets r part) (parts_let first.1 parts))

rows_stay : (r : FlatWrapper) (parts : List Part) → IsRow r → RowsStay r parts
rows_stay r [] row = tt
rows_stay r (comes c ∷ parts) row =
    let next = char_within r c row in
    (next.stays, rows_stay (part_wrapped r (comes c)).1 parts next.row)
rows_stay r (grid_row fresh cs ∷ parts) row = (row.stays, rows_stay (no_row r.limit) parts (none_row r.limit))
rows_stay r (goes ∷ parts) row =
    let none : FlatWrapper = (let_go r).1 in
    (row.stays, rows_stay none parts (record { free = tt; stays = none_stays r.limit none.gone }))
rows_stay r (taken ∷ parts) row =
    let less : 0 ≤ r.gone = omega arith in
    let new : IsRow (restarted r) = record { free = row.free; stays = stays_less r.limit 0 r.gone r.row less row.stays } in
    (none_stays r.limit r.gone, rows_stay (restarted r) parts new)

pub wrapping_keeps_parts : WrappingKeepsParts
wrapping_keeps_parts r parts none =
    let lets = parts_let r parts in
    let out = wrapped r parts in
    let split : as_it_comes parts ≡ lets.front ++ out.1.row =
    sym (ap (λ (xs : List ℕ). xs ++ as_it_comes parts) none) ∙ lets.split in
    let row : IsRow r = record {
      free = subst IsFree (sym none) tt;
      stays = subst (λ (xs : List ℕ). stays_within r.limit r.gone xs ≡ true) (sym none) (none_stays r.limit r.gone);
    } in
    record {
      kept = subst (λ (put : List ℕ). IsWrapped put (out.0 ++ out.1.row)) (sym split)
          (both_texts lets.front out.0 out.1.row out.1.row lets.is (same_text out.1.row));
      within = rows_stay r parts row;
    }
