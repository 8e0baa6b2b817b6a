-- The longest prefix of a paragraph that fits, and the first row of a text.
use Rattle.std.proofs.Common.{zero, suc, ◌≡◌, ◌≢◌, ◌<◌, ◌≤◌, ◌+◌, ◌-◌, ◌==◌, ℕ, Bool, true, false, List, [], ◌∷◌}
use Rattle.std.proofs.Common.{length, get_or, take, drop, drop-cons, refl, sym, ◌∙◌, arith, if◌then◌else◌, Option, Some}
use Rattle.std.proofs.Common.{None, unwrap_or, ◌⊎◌, inl, inr}
use Rattle.std.specs.Option.{option_map}
use Rattle.std.proofs.lemmas.Grind.{common_steps}
use Rattle.std.proofs.lemmas.Bool.Decides.{nat_tests}
use Rattle.std.proofs.lemmas.List.{length-take, take-take, take_all}
use Rattle.unicode_width.proofs.Rules.{width_or_zero-le}
use Rattle.glk_text.specs.Utf8.{as_scalar}
use Rattle.glk_screen.specs.Wrapping.{width_of, columns_of, columns, paragraph, fitting, last_blank, at_blank, break_at}
use Rattle.glk_screen.specs.Wrapping.{first_row}

-- ---- one turn of the loop over a text

pub fits_none : (width room : ℕ) (text : List ℕ) (n : ℕ) → length text ≤ n
    → fitting width room (paragraph (drop n text)) ≡ 0
fits_none width room text n past = let none : drop n text ≡ [] = grind (arith, common_steps) in rw none refl

pub fits_line : (width room : ℕ) (text : List ℕ) (i d : ℕ) → i < length text → get_or text i d ≡ 0x0A
    → fitting width room (paragraph (drop i text)) ≡ 0
fits_line width room text i d within here = rw (drop-cons text i d, here) refl

pub fits_wide : (width room : ℕ) (text : List ℕ) (i d : ℕ) → i < length text → room < columns_of width (get_or text i d)
    → fitting width room (paragraph (drop i text)) ≡ 0
fits_wide width room text i d within wide = rw (drop-cons text i d) (grind (arith, nat_tests, wide))

pub fits_more : (width room : ℕ) (text : List ℕ) (i d : ℕ) → i < length text → get_or text i d ≢ 0x0A
    → columns_of width (get_or text i d) ≤ room
    → fitting width room (paragraph (drop i text))
    ≡ fitting width (room - columns_of width (get_or text i d)) (paragraph (drop (i + 1) text)) + 1
fits_more width room text i d within other narrow = let e : i + 1 ≡ suc i = omega arith in
    rw (e, drop-cons text i d) (grind (arith, nat_tests, other, narrow))

pub blank_here : (text : List ℕ) (i d : ℕ) → i < length text → get_or text i d ≡ 0x20
    → last_blank (take (i + 1) text) ≡ Some i
blank_here [] i d within here = absurd (omega arith)
blank_here (c ∷ cs) zero d within here = rw here refl
blank_here (c ∷ cs) (suc i) d within here = let e : suc i + 1 ≡ suc (i + 1) = omega arith in
    rw (e, blank_here cs i d (omega arith) here) refl

pub blank_not : (text : List ℕ) (i d : ℕ) → i < length text → get_or text i d ≢ 0x20
    → last_blank (take (i + 1) text) ≡ last_blank (take i text)
blank_not [] i d within other = absurd (omega arith)
blank_not (c ∷ cs) zero d within other = grind (arith, nat_tests, other)
blank_not (c ∷ cs) (suc i) d within other = let e : suc i + 1 ≡ suc (i + 1) = omega arith in
    rw (e, blank_not cs i d (omega arith) other) refl

pub ruleset prefix_turns = (fits_none, fits_line, fits_wide, fits_more, blank_here, blank_not)

-- ---- paragraphs

pub paragraph_within : (text : List ℕ) → length (paragraph text) ≤ length text
paragraph_within [] = omega arith
paragraph_within (c ∷ cs) = grind (arith, nat_tests, paragraph_within cs)

paragraph_at : (text : List ℕ) (i d : ℕ) → i < length (paragraph text) → get_or (paragraph text) i d ≡ get_or text i d
paragraph_at [] i d within = absurd (omega arith)
paragraph_at (c ∷ cs) zero d within = grind (arith, nat_tests)
paragraph_at (c ∷ cs) (suc i) d within = grind (arith, nat_tests, paragraph_at cs i d)

paragraph_other : (text : List ℕ) (i d : ℕ) → i < length (paragraph text) → get_or text i d ≢ 0x0A
paragraph_other [] i d within = absurd (omega arith)
paragraph_other (c ∷ cs) zero d within = grind (arith, nat_tests)
paragraph_other (c ∷ cs) (suc i) d within = grind (arith, nat_tests, paragraph_other cs i d)

paragraph_end : (text : List ℕ) (d : ℕ) → length (paragraph text) < length text
    → get_or text (length (paragraph text)) d ≡ 0x0A
paragraph_end [] d within = absurd (omega arith)
paragraph_end (c ∷ cs) d within = grind (arith, nat_tests, paragraph_end cs d)

paragraph_take : (text : List ℕ) (n : ℕ) → n ≤ length (paragraph text) → take n (paragraph text) ≡ take n text
paragraph_take text zero within = refl
paragraph_take [] (suc n) within = refl
paragraph_take (c ∷ cs) (suc n) within = grind (arith, nat_tests, paragraph_take cs n)

-- ---- the longest prefix

fits_within : (width room : ℕ) (text : List ℕ) → fitting width room text ≤ length text
fits_within width room [] = omega arith
fits_within width room (c ∷ cs) = grind (arith, nat_tests, fits_within width (room - columns_of width c) cs)

fits_whole : (width room : ℕ) (text : List ℕ) → columns width text ≤ room → fitting width room text ≡ length text
fits_whole width room [] narrow = refl
fits_whole width room (c ∷ cs) narrow = grind (arith, nat_tests, fits_whole width (room - columns_of width c) cs)

fits_part : (width room : ℕ) (text : List ℕ) → room < columns width text → fitting width room text < length text
fits_part width room [] wide = absurd (omega arith)
fits_part width room (c ∷ cs) wide = grind (arith, nat_tests, fits_part width (room - columns_of width c) cs)

width_small : (c : ℕ) → width_of c ≤ 3
unfolding width_of
width_small c = width_or_zero-le false (as_scalar c)

columns_small : (width c : ℕ) → 1 ≤ width → columns_of width c ≤ width
unfolding columns_of
columns_small width c some = grind (arith, nat_tests, width_small c)

fits_one : (width : ℕ) (text : List ℕ) → 1 ≤ width → 0 < length text → 1 ≤ fitting width width text
fits_one width [] some there = absurd (omega arith)
fits_one width (c ∷ cs) some there = grind (arith, nat_tests, columns_small width c)

blank_step : (found : Option ℕ) (b : Bool) (n at : ℕ) → ((k : ℕ) → found ≡ Some k → k < n)
    → unwrap_or (option_map (λ k. Some (suc k)) found) (if b then Some 0 else None) ≡ Some at → at < suc n
blank_step None true n at below is = grind (arith, is)
blank_step None false n at below is = cc
blank_step (Some k) b n at below is = let e : suc k ≡ at = cc in omega (arith, e, below k refl)

pub blank_below : (text : List ℕ) (at : ℕ) → last_blank text ≡ Some at → at < length text
blank_below [] at is = cc
blank_below (c ∷ cs) at is = blank_step (last_blank cs) (c == 0x20) (length cs) at (blank_below cs) is

-- ---- the first row

le_or_lt : (i j : ℕ) → (i ≤ j) ⊎ (j < i)
le_or_lt i j = grind arith

row_narrow : (width : ℕ) (text : List ℕ) → columns width (paragraph text) ≤ width
    → first_row width text ≡ (length (paragraph text), length (paragraph text) + 1)
unfolding first_row
row_narrow width text narrow = grind (arith, nat_tests, narrow)

row_wide : (width : ℕ) (text : List ℕ) → width < columns width (paragraph text)
    → first_row width text ≡ break_at (paragraph text) (fitting width width (paragraph text))
unfolding first_row
row_wide width text wide = grind (arith, nat_tests, wide)

row_whole : (width : ℕ) (text : List ℕ) (n : ℕ) → n ≡ fitting width width (paragraph text) → n ≡ length (paragraph text)
    → first_row width text ≡ (n, n + 1)
row_whole width text n is whole = elim (le_or_lt (columns width (paragraph text)) width) [
  | inl narrow ↦ rw whole (row_narrow width text narrow)
  | inr wide ↦ absurd (omega (arith, fits_part width width (paragraph text) wide, is, whole))
]

row_part : (width : ℕ) (text : List ℕ) (n : ℕ) → n ≡ fitting width width (paragraph text) → n < length (paragraph text)
    → first_row width text ≡ break_at (paragraph text) n
row_part width text n is part = elim (le_or_lt (columns width (paragraph text)) width) [
  | inl narrow ↦ absurd (omega (arith, fits_whole width width (paragraph text) narrow, is, part))
  | inr wide ↦ rw is (row_wide width text wide)
]

module _ (width : ℕ) (text : List ℕ) (n : ℕ) (is : n ≡ fitting width width (paragraph text)) where
  whole_or_part : (n ≡ length (paragraph text)) ⊎ (n < length (paragraph text))
  whole_or_part = let within = fits_within width width (paragraph text) in grind (arith, is, within)

  pub row_end : n ≡ length text → first_row width text ≡ (n, n + 1)
  row_end end = elim whole_or_part [
    | inl whole ↦ row_whole width text n is whole
    | inr part ↦ absurd (omega (arith, paragraph_within text, end, part))
  ]

  pub row_line : get_or text n 0 ≡ 0x0A → first_row width text ≡ (n, n + 1)
  row_line line = elim whole_or_part [
    | inl whole ↦ row_whole width text n is whole
    | inr part ↦ absurd (paragraph_other text n 0 part line)
  ]

  pub row_blank : get_or text n 0 ≡ 0x20 → first_row width text ≡ (n, n + 1)
  row_blank blank = elim whole_or_part [
    | inl whole ↦ row_whole width text n is whole
    | inr part ↦ let here : get_or (paragraph text) n 0 ≡ 0x20 = paragraph_at text n 0 part ∙ blank in
        row_part width text n is part ∙ rw here refl
  ]

  module _ (inside : n < length text) (other : get_or text n 0 ≢ 0x0A) where
    part_inside : n < length (paragraph text)
    part_inside = elim whole_or_part [
      | inl whole ↦ absurd (other (rw whole (paragraph_end text 0 (omega (arith, whole, inside)))))
      | inr part ↦ part
    ]

    pub row_progress : 1 ≤ width → 1 ≤ n
    row_progress some = rw is (fits_one width (paragraph text) some (omega (arith, part_inside)))

    row_broken : get_or text n 0 ≢ 0x20
        → first_row width text ≡ unwrap_or (option_map at_blank (last_blank (take n text))) (n, n)
    row_broken text_other =
        let same : take n (paragraph text) ≡ take n text = paragraph_take text n (omega (arith, part_inside)) in
        let here = paragraph_at text n 0 part_inside in
        row_part width text n is part_inside ∙ rw (here, same) (grind (arith, nat_tests, text_other))

    pub row_at_blank : get_or text n 0 ≢ 0x20 → (k : ℕ) → last_blank (take n text) ≡ Some k
        → first_row width text ≡ (k, k + 1)
    row_at_blank text_other k found = row_broken text_other ∙ rw found refl

    pub row_at_end : get_or text n 0 ≢ 0x20 → last_blank (take n text) ≡ None → first_row width text ≡ (n, n)
    row_at_end text_other none = row_broken text_other ∙ rw none refl

pub blank_within : (text : List ℕ) (n k : ℕ) → last_blank (take n text) ≡ Some k → k < length text
blank_within text n k found = omega (arith, blank_below (take n text) k found, length-take n text)

pub ruleset first_rows = (row_end, row_line, row_blank, row_progress, row_at_blank, row_at_end, blank_within)

-- ---- each row fits

fits_columns : (width room : ℕ) (text : List ℕ) → columns width (take (fitting width room text) text) ≤ room
fits_columns width room [] = omega arith
fits_columns width room (c ∷ cs) = grind (arith, nat_tests, fits_columns width (room - columns_of width c) cs)

columns_take : (width n : ℕ) (text : List ℕ) → columns width (take n text) ≤ columns width text
columns_take width zero text = omega arith
columns_take width (suc n) [] = omega arith
columns_take width (suc n) (c ∷ cs) = omega (arith, columns_take width n cs)

columns_less : (width k n : ℕ) (text : List ℕ) → k ≤ n → columns width (take k text) ≤ columns width (take n text)
columns_less width k n text less = rw (← take-take k n text less) (columns_take width k (take n text))

break_within : (b : Bool) (found : Option ℕ) (n : ℕ) → ((k : ℕ) → found ≡ Some k → k < n)
    → (if b then at_blank n else unwrap_or (option_map at_blank found) (n, n)).0 ≤ n
break_within true found n below = omega arith
break_within false None n below = omega arith
break_within false (Some k) n below = omega (arith, below k refl)

blank_below_take : (text : List ℕ) (n k : ℕ) → last_blank (take n text) ≡ Some k → k < n
blank_below_take text n k found = omega (arith, blank_below (take n text) k found, length-take n text)

pub row_narrow_enough : (width : ℕ) (text : List ℕ) → columns width (take (first_row width text).0 text) ≤ width
row_narrow_enough width text = elim (le_or_lt (columns width (paragraph text)) width) [
  | inl narrow ↦ let whole : take (length (paragraph text)) text ≡ paragraph text =
      sym (paragraph_take text (length (paragraph text)) (omega arith))
      ∙ take_all _ (paragraph text) (omega arith) in
      rw (row_narrow width text narrow, whole) narrow
  | inr wide ↦
      let n = fitting width width (paragraph text) in
      let within = fits_within width width (paragraph text) in
      let less =
      break_within (get_or (paragraph text) n 0 == 0x20) (last_blank (take n (paragraph text))) n
      (blank_below_take (paragraph text) n) in
      let same = paragraph_take text (break_at (paragraph text) n).0 (omega (arith, less, within)) in
      let narrow = fits_columns width width (paragraph text) in
      rw (row_wide width text wide, ← same)
      (omega (arith, columns_less width (break_at (paragraph text) n).0 n (paragraph text) less, narrow))
]

-- ---- each row takes something

break_gains : (b : Bool) (found : Option ℕ) (n : ℕ) → 1 ≤ n
    → 1 ≤ (if b then at_blank n else unwrap_or (option_map at_blank found) (n, n)).1
break_gains true found n some = omega arith
break_gains false None n some = some
break_gains false (Some k) n some = omega arith

pub row_gains : (width : ℕ) (text : List ℕ) → 1 ≤ width → 1 ≤ (first_row width text).1
row_gains width text some = elim (le_or_lt (columns width (paragraph text)) width) [
  | inl narrow ↦ rw (row_narrow width text narrow) (omega arith)
  | inr wide ↦
      let part = fits_part width width (paragraph text) wide in
      let one = fits_one width (paragraph text) some (omega (arith, part)) in
      rw (row_wide width text wide)
      (break_gains (get_or (paragraph text) (fitting width width (paragraph text)) 0 == 0x20)
      (last_blank (take (fitting width width (paragraph text)) (paragraph text))) _ one)
]
