-- What holds of the definitions.
use Rattle.std.proofs.Common.{zero, suc, ◌≡◌, ◌<◌, ◌≤◌, ◌+◌, ◌-◌, ◌==◌, ℕ, true, false, Bool, List, [], ◌∷◌, ◌++◌}
use Rattle.std.proofs.Common.{append_assoc, length, drop, refl, sym, ◌∙◌, ap, arith, if◌then◌else◌, nat_lt, ◌⊎◌, inl}
use Rattle.std.proofs.Common.{inr}
use Rattle.std.specs.List.{list_all}
use Rattle.std.proofs.lemmas.Bool.Decides.{nat_tests}
use Rattle.std.proofs.lemmas.List.{append-nil, drop-drop}
use Rattle.glk_screen.specs.Texts.{line_feeds, behind_paragraph, with_char}
use Rattle.glk_screen.specs.Wrapping.{columns, first_row, rows_from, rows_at, part}
use Rattle.glk_screen.specs.Laws.{is_fitting, RowsFit, with_chars, behind_paragraphs, last_of, KeepsLast}
use Rattle.glk_screen.proofs.Paragraphs.{count_push, count_behind, behind_push}
use Rattle.glk_screen.proofs.Prefixes.{row_narrow_enough}

-- ---- rows fit

fits_true : (width : ℕ) (row : List ℕ) → columns width row ≤ width → is_fitting width row ≡ true
fits_true width row narrow = grind (arith, nat_tests, narrow)

first_fits : (width : ℕ) (text : List ℕ) (at : ℕ)
    → is_fitting width (part text at (at + (first_row width (drop at text)).0)) ≡ true
first_fits width text at =
    let e : at + (first_row width (drop at text)).0 - at ≡ (first_row width (drop at text)).0 = omega arith in
    rw e (fits_true width _ (row_narrow_enough width (drop at text)))

rest_fits : (b : Bool) (width : ℕ) (text marks : List ℕ) → list_all (is_fitting width) (rows_at text marks) ≡ true
    → list_all (is_fitting width) (rows_at text (if b then [] else marks)) ≡ true
rest_fits true width text marks fits = refl
rest_fits false width text marks fits = fits

all_fit : (width fuel : ℕ) (text : List ℕ) (at : ℕ)
    → list_all (is_fitting width) (rows_at text (rows_from fuel at width (drop at text))) ≡ true
unfolding rows_from
all_fit width zero text at = refl
all_fit width (suc fuel) text at =
    let row = first_row width (drop at text) in
    let rest = drop-drop row.1 at text in
    let more : list_all (is_fitting width)
    (rows_at text (rows_from fuel (at + row.1) width (drop row.1 (drop at text)))) ≡ true =
    rw rest (all_fit width fuel text (at + row.1)) in
    rw (first_fits width text at)
    (rest_fits (nat_lt (length (drop at text)) row.1) width text
    (rows_from fuel (at + row.1) width (drop row.1 (drop at text))) more)

pub rows_fit : RowsFit
rows_fit = λ width text some. all_fit width (suc (length text)) text 0

-- ---- the last paragraphs are kept

past_push : (n : ℕ) (text : List ℕ) (c : ℕ) → n ≤ line_feeds text
    → behind_paragraphs n (text ++ c ∷ []) ≡ behind_paragraphs n text ++ c ∷ []
past_push zero text c less = refl
past_push (suc n) text c less =
    let one = count_behind text (omega arith) in
    rw (behind_push text c (omega arith)) (past_push n (behind_paragraph text) c (omega (arith, one)))

past_count : (n : ℕ) (text : List ℕ) → n ≤ line_feeds text → line_feeds (behind_paragraphs n text) + n ≡ line_feeds text
past_count zero text less = omega arith
past_count (suc n) text less =
    let one = count_behind text (omega arith) in
    omega (arith, one, past_count n (behind_paragraph text) (omega (arith, one)))

past_suc : (n : ℕ) (text : List ℕ) → behind_paragraphs (suc n) text ≡ behind_paragraph (behind_paragraphs n text)
past_suc zero text = refl
past_suc (suc n) text = past_suc n (behind_paragraph text)

with_few : (text : List ℕ) (c : ℕ) → line_feeds (text ++ c ∷ []) < 255 → with_char text c ≡ text ++ c ∷ []
unfolding with_char
with_few text c few = grind (arith, nat_tests, few)

with_many : (text : List ℕ) (c : ℕ) → 255 ≤ line_feeds (text ++ c ∷ [])
    → with_char text c ≡ behind_paragraph (text ++ c ∷ [])
unfolding with_char
with_many text c many = grind (arith, nat_tests, many)

le_or_lt : (i j : ℕ) → (i ≤ j) ⊎ (j < i)
le_or_lt i j = grind arith

added : ℕ → ℕ
added c = if c == 0x0A then 1 else 0

added_small : (c : ℕ) → added c ≤ 1
unfolding added
added_small c = grind (arith, nat_tests)

count_added : (text : List ℕ) (c : ℕ) → line_feeds (text ++ c ∷ []) ≡ line_feeds text + added c
unfolding added
count_added text c = count_push text c

one_more : (text : List ℕ) (c : ℕ) → with_char (last_of text) c ≡ last_of (text ++ c ∷ [])
one_more text c =
    let n = line_feeds text + 1 - 255 in
    let count = past_count n text (omega arith) in
    let push = past_push n text c (omega arith) in
    let all = count_added text c in
    let own = count_added (last_of text) c in
    let small = added_small c in
    elim (le_or_lt 255 (line_feeds (last_of text ++ c ∷ []))) [
      | inl many ↦
          let next : line_feeds (text ++ c ∷ []) + 1 - 255 ≡ suc n = omega (arith, count, all, own, small, many) in
          rw (with_many (last_of text) c many, next, past_suc n (text ++ c ∷ []), push) refl
      | inr few ↦
          let next : line_feeds (text ++ c ∷ []) + 1 - 255 ≡ n = omega (arith, count, all, own, small, few) in
          rw (with_few (last_of text) c few, next, push) refl
    ]

chars_more : (text chars : List ℕ) → with_chars (last_of text) chars ≡ last_of (text ++ chars)
chars_more text [] = ap last_of (sym (append-nil text))
chars_more text (c ∷ cs) = rw one_more (chars_more (text ++ c ∷ []) cs ∙ ap last_of (append_assoc text (c ∷ []) cs))

pub keeps_last : KeepsLast
keeps_last = λ text. chars_more [] text
