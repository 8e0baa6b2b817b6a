-- All rows of a text: one turn of the loop over them.
use Rattle.std.proofs.Common.{zero, suc, ◌≡◌, ◌<◌, ◌≤◌, ◌+◌, ℕ, List, [], ◌∷◌, ◌++◌, append_assoc, length, drop, refl}
use Rattle.std.proofs.Common.{sym, ap, ◌∙◌, arith, if◌then◌else◌, nat_lt, ◌⊎◌, inl, inr}
use Rattle.std.proofs.lemmas.Bool.Decides.{nat_tests}
use Rattle.std.proofs.lemmas.List.{append-nil, drop-drop, length-drop}
use Rattle.glk_screen.specs.Wrapping.{first_row, rows_from}
use Rattle.glk_screen.proofs.Prefixes.{row_gains}

-- the rows of what stands from a place on, none past the text's end
abbrev pub rows_past : ℕ → List ℕ → ℕ → List ℕ
rows_past width text at =
    if nat_lt (length text) at then [] else rows_from (suc (length (drop at text))) at width (drop at text)

le_or_lt : (i j : ℕ) → (i ≤ j) ⊎ (j < i)
le_or_lt i j = grind arith

-- the count of rows at most may be any that is large enough
enough : (width : ℕ) → 1 ≤ width → (m n at : ℕ) (text : List ℕ) → length text < m → length text < n
    → rows_from m at width text ≡ rows_from n at width text
unfolding rows_from
enough width some zero n at text less more = absurd (omega arith)
enough width some (suc m) zero at text less more = absurd (omega arith)
enough width some (suc m) (suc n) at text less more = elim (le_or_lt (first_row width text).1 (length text)) [
  | inl inside ↦
      let gain = row_gains width text some in
      let rest = length-drop (first_row width text).1 text in
      rw (enough width some m n (at + (first_row width text).1) (drop (first_row width text).1 text) (omega arith)
      (omega arith)) refl
  | inr past ↦ grind (arith, nat_tests, past)
]

pub past_none : (width : ℕ) (text : List ℕ) (at : ℕ) (rows : List ℕ) → length text < at
    → rows ++ rows_past width text at ≡ rows
past_none width text at rows past = let none : rows_past width text at ≡ [] = grind (arith, nat_tests, past) in
    rw none (append-nil rows)

past_here : (width : ℕ) (text : List ℕ) (at : ℕ) → at ≤ length text
    → rows_past width text at ≡ rows_from (suc (length (drop at text))) at width (drop at text)
past_here width text at within = grind (arith, nat_tests, within)

-- what follows a row that takes so much
rest_more : (width : ℕ) (text : List ℕ) (at taken : ℕ) → 1 ≤ width → 1 ≤ taken → at ≤ length text
    → (if nat_lt (length (drop at text)) taken then []
    else rows_from (length (drop at text)) (at + taken) width (drop taken (drop at text)))
    ≡ rows_past width text (at + taken)
rest_more width text at taken some gain within =
    let long = length-drop at text in
    elim (le_or_lt (at + taken) (length text)) [
      | inl inside ↦
          let rest : drop taken (drop at text) ≡ drop (at + taken) text = drop-drop taken at text in
          let left = length-drop (at + taken) text in
          let same =
          enough width some (length (drop at text)) (suc (length (drop (at + taken) text))) (at + taken)
          (drop (at + taken) text) (omega (arith, long, left)) (omega arith) in
          let here = past_here width text (at + taken) inside in
          rw (here, rest, same) (grind (arith, nat_tests, long, inside))
      | inr past ↦ let none : rows_past width text (at + taken) ≡ [] = grind (arith, nat_tests, past) in
          rw none (grind (arith, nat_tests, long, past))
    ]

past_more : (width : ℕ) (text : List ℕ) (at : ℕ) → 1 ≤ width → at ≤ length text → rows_past width text at
    ≡ at ∷ (at + (first_row width (drop at text)).0) ∷ rows_past width text (at + (first_row width (drop at text)).1)
unfolding rows_from
past_more width text at some within =
    past_here width text at within
    ∙ ap (λ (r : List ℕ). at ∷ (at + (first_row width (drop at text)).0) ∷ r)
    (rest_more width text at (first_row width (drop at text)).1 some (row_gains width (drop at text) some) within)

pub row_more : (width : ℕ) (text rows : List ℕ) (at : ℕ) (row : ℕ × ℕ) → 1 ≤ width → at ≤ length text
    → row ≡ first_row width (drop at text)
    → ((rows ++ at ∷ []) ++ (at + row.0) ∷ []) ++ rows_past width text (at + row.1) ≡ rows ++ rows_past width text at
row_more width text rows at row some within is =
    append_assoc (rows ++ at ∷ []) ((at + row.0) ∷ []) (rows_past width text (at + row.1))
    ∙ append_assoc rows (at ∷ []) ((at + row.0) ∷ rows_past width text (at + row.1))
    ∙ ap (λ (r : List ℕ). rows ++ r) (rw is (sym (past_more width text at some within)))

pub ruleset row_turns = (past_none)
