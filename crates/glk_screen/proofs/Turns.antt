-- One turn of each loop that draws.
use Rattle.std.proofs.Common.{zero, suc, ◌≡◌, ◌≢◌, ◌<◌, ◌≤◌, ◌+◌, ◌-◌, ◌*◌, ◌/◌, ℕ, min, List}
use Rattle.std.proofs.Common.{[], ◌∷◌, ◌++◌, append_assoc, length, get_or, set, map, take, drop, drop-cons, replicate}
use Rattle.std.proofs.Common.{refl, sym, ◌∙◌, ap, arith}
use Rattle.std.specs.List.{filter}
use Rattle.std.specs.Char.{encode_utf8}
use Rattle.std.specs.Str.{encode_utf8_all}
use Rattle.std.proofs.lemmas.Grind.{common_steps}
use Rattle.std.proofs.lemmas.Bool.Decides.{nat_tests}
use Rattle.std.proofs.lemmas.List.{append-nil, replicate_more, take_rest, take_all, drop_all, take_more}
use Rattle.std.proofs.lemmas.List.{length-take, length-replicate, length-append, map-append}
use Rattle.glk_text.specs.Utf8.{as_scalar}
use Rattle.glk_windows.specs.Grids.{fit}
use Rattle.glk_windows.proofs.Lists.{chosen_past, chosen_here, chosen_not}
use Rattle.glk_screen.specs.Wrapping.{columns_of, columns, wrapped, rows_at}
use Rattle.glk_screen.specs.Screen.{drawn_char, is_drawn, drawn_row, bottom_rows, text_rows, drawn_cell, beside}
use Rattle.glk_screen.specs.Screen.{line_of, lines_of}

pub fill_more : {A : Type 0} (xs : List A) (n : ℕ) (x : A) → (xs ++ replicate n x) ++ x ∷ [] ≡ xs ++ replicate (n + 1) x
fill_more xs n x = rw (append_assoc, replicate_more) refl

pub ruleset fill_turns = (fill_more, append-nil)

-- ---- characters of a row

pub char_none : (width : ℕ) (chars : List ℕ) (n : ℕ) (out : List ℕ) → length chars ≤ n
    → out ++ map (drawn_char width) (filter (is_drawn width) (drop n chars)) ≡ out
char_none width chars n out past = chosen_past (drawn_char width) (is_drawn width) chars n out past

pub char_here : (width : ℕ) (chars : List ℕ) (i d : ℕ) (out : List ℕ) → i < length chars
    → columns_of width (get_or chars i d) ≢ 0
    → (out ++ drawn_char width (get_or chars i d) ∷ [])
    ++ map (drawn_char width) (filter (is_drawn width) (drop (i + 1) chars)) ≡ out
    ++ map (drawn_char width) (filter (is_drawn width) (drop i chars))
char_here width chars i d out within some =
    chosen_here (drawn_char width) (is_drawn width) chars i d out within (grind (arith, nat_tests, some))

pub char_not : (width : ℕ) (chars : List ℕ) (i d : ℕ) (out : List ℕ) → i < length chars
    → columns_of width (get_or chars i d) ≡ 0
    → out ++ map (drawn_char width) (filter (is_drawn width) (drop (i + 1) chars)) ≡ out
    ++ map (drawn_char width) (filter (is_drawn width) (drop i chars))
char_not width chars i d out within none =
    chosen_not (drawn_char width) (is_drawn width) chars i d out within (grind (arith, nat_tests, none))

pub room_none : (width room : ℕ) (chars : List ℕ) (n : ℕ) → length chars ≤ n
    → room - columns width (drop n chars) ≡ room
room_none width room chars n past = let none : drop n chars ≡ [] = grind (arith, common_steps) in rw none (omega arith)

pub room_more : (width room : ℕ) (chars : List ℕ) (i d : ℕ) → i < length chars
    → (room - columns_of width (get_or chars i d)) - columns width (drop (i + 1) chars)
    ≡ room - columns width (drop i chars)
room_more width room chars i d within = let e : i + 1 ≡ suc i = omega arith in rw (e, drop-cons chars i d) (omega arith)

pub ruleset char_turns = (char_none, char_here, char_not, room_none, room_more)

-- ---- parts of a text

pub drop_min : {A : Type 0} (xs : List A) (n : ℕ) → drop (min (length xs) n) xs ≡ drop n xs
drop_min xs n = grind (arith, common_steps)

pub take_min : {A : Type 0} (xs : List A) (n : ℕ) → take (min (length xs) n) xs ≡ take n xs
take_min xs n = grind (arith, common_steps)

pub ruleset parts = (drop_min, take_min, take_rest)

-- ---- the last rows

rows_count : (text marks : List ℕ) → length (rows_at text marks) ≡ length marks / 2
rows_count text [] = refl
rows_count text (start ∷ []) = refl
rows_count text (start ∷ end ∷ more) = omega (arith, rows_count text more)

rows_drop : (text marks : List ℕ) (n : ℕ) → drop n (rows_at text marks) ≡ rows_at text (drop (2 * n) marks)
rows_drop text marks zero = refl
rows_drop text [] (suc n) = ap (rows_at text) (sym (drop_all (2 * suc n) [] (omega arith)))
rows_drop text (start ∷ []) (suc n) = ap (rows_at text) (sym (drop_all (2 * suc n) (start ∷ []) (omega arith)))
rows_drop text (start ∷ end ∷ more) (suc n) = let e : 2 * suc n ≡ suc (suc (2 * n)) = omega arith in
    rw e (rows_drop text more n)

pub rows_bottom : (text marks : List ℕ) (n : ℕ) → rows_at text (drop (2 * (length marks / 2 - n)) marks)
    ≡ drop (length (rows_at text marks) - n) (rows_at text marks)
rows_bottom text marks n = rw (rows_count text marks) (sym (rows_drop text marks (length marks / 2 - n)))

pub text_rows_are : (text marks slice : List ℕ) (area : ℕ × ℕ) (skipped : ℕ) (out : List (List ℕ)) → area.0 ≢ 0
    → marks ≡ wrapped area.0 text → slice ≡ marks → skipped ≡ length marks / 2 - area.1
    → out ≡ map (drawn_row area.0) (rows_at text (take (length slice - 2 * skipped) (drop (2 * skipped) slice)))
    → out ≡ text_rows text area
text_rows_are text marks slice area skipped out some made same less drawn =
    let here : text_rows text area ≡ map (drawn_row area.0) (bottom_rows area.1 (rows_at text (wrapped area.0 text))) =
    grind (arith, nat_tests, some) in
    rw here (rw take_rest at drawn ∙ rw (same, less, rows_bottom text marks area.1, made) refl)

-- ---- grids

pub cell_none : (cells : List ℕ) (n : ℕ) (out : List ℕ) → length cells ≤ n → out ++ map drawn_cell (drop n cells) ≡ out
cell_none cells n out past = let none : drop n cells ≡ [] = grind (arith, common_steps) in rw none (append-nil out)

pub cell_more : (cells : List ℕ) (i d : ℕ) (out : List ℕ) → i < length cells
    → (out ++ drawn_cell (get_or cells i d) ∷ []) ++ map drawn_cell (drop (i + 1) cells) ≡ out
    ++ map drawn_cell (drop i cells)
cell_more cells i d out within = let e : i + 1 ≡ suc i = omega arith in
    rw (e, drop-cons cells i d)
    (append_assoc out (drawn_cell (get_or cells i d) ∷ []) (map drawn_cell (drop (suc i) cells)))

pub ruleset cell_turns = (cell_none, cell_more, take_min)

none_at : (n y : ℕ) (none : List ℕ) → get_or (replicate n none) y none ≡ none
none_at zero y none = refl
none_at (suc n) zero none = refl
none_at (suc n) (suc y) none = none_at n y none

fit_at : (height y : ℕ) (rows : List (List ℕ)) → y < height → get_or (fit height [] rows) y [] ≡ get_or rows y []
fit_at zero y rows within = absurd (omega arith)
fit_at (suc height) y [] within = none_at (suc height - 0) y []
fit_at (suc height) zero (row ∷ rows) within = refl
fit_at (suc height) (suc y) (row ∷ rows) within =
    let e : suc height - suc (length rows) ≡ height - length rows = omega arith in
    rw e (fit_at height y rows (omega arith))

pub fit_length : (height : ℕ) (rows : List (List ℕ)) → length (fit height [] rows) ≡ height
fit_length height rows = simp (length-append, length-take, length-replicate) (omega arith)

pub grid_more : (f : List ℕ → List ℕ) (height y : ℕ) (rows : List (List ℕ)) → y < height
    → map f (take y (fit height [] rows)) ++ f (get_or rows y []) ∷ [] ≡ map f (take (y + 1) (fit height [] rows))
grid_more f height y rows within =
    let long = fit_length height rows in
    rw (take_more (fit height [] rows) y [] (omega (arith, long)), fit_at height y rows within, map-append) refl

pub grid_all : (f : List ℕ → List ℕ) (height : ℕ) (rows : List (List ℕ))
    → map f (take height (fit height [] rows)) ≡ map f (fit height [] rows)
grid_all f height rows = rw (take_all height (fit height [] rows) (omega (arith, fit_length height rows))) refl

pub ruleset grid_turns = (grid_more, grid_all)

-- ---- rows beside each other

pub append_none : {A : Type 0} (cells : List A) (n : ℕ) (out : List A) → length cells ≤ n → out ++ drop n cells ≡ out
append_none cells n out past = let none : drop n cells ≡ [] = grind (arith, common_steps) in rw none (append-nil out)

pub append_more : {A : Type 0} (cells : List A) (i : ℕ) (d : A) (out : List A) → i < length cells
    → (out ++ get_or cells i d ∷ []) ++ drop (i + 1) cells ≡ out ++ drop i cells
append_more cells i d out within = let e : i + 1 ≡ suc i = omega arith in
    rw (e, drop-cons cells i d) (append_assoc out (get_or cells i d ∷ []) (drop (suc i) cells))

pub ruleset append_turns = (append_none, append_more)

beside_none : (rows : List (List ℕ)) → beside rows [] ≡ rows
beside_none [] = refl
beside_none (row ∷ rows) = refl

pub beside_within : (xs ys : List (List ℕ)) (y : ℕ) (d e : List ℕ) → y < length ys → y < length (beside xs (take y ys))
    → set (beside xs (take y ys)) y (get_or (beside xs (take y ys)) y d ++ get_or ys y e) ≡ beside xs (take (y + 1) ys)
beside_within [] ys y d e within inside = absurd (omega (arith, length-take y ys))
beside_within (x ∷ xs) [] y d e within inside = absurd (omega arith)
beside_within (x ∷ xs) (z ∷ zs) zero d e within inside = ap (λ (r : List (List ℕ)). (x ++ z) ∷ r) (sym (beside_none xs))
beside_within (x ∷ xs) (z ∷ zs) (suc y) d e within inside =
    let more : suc y + 1 ≡ suc (y + 1) = omega arith in
    rw more (ap (λ (r : List (List ℕ)). (x ++ z) ∷ r) (beside_within xs zs y d e (omega arith) (omega arith)))

pub beside_past : (xs ys : List (List ℕ)) (y : ℕ) (e : List ℕ) → y < length ys → length (beside xs (take y ys)) ≤ y
    → beside xs (take y ys) ++ get_or ys y e ∷ [] ≡ beside xs (take (y + 1) ys)
beside_past [] ys y e within past = sym (take_more ys y e within)
beside_past (x ∷ xs) [] y e within past = absurd (omega arith)
beside_past (x ∷ xs) (z ∷ zs) zero e within past = absurd (omega arith)
beside_past (x ∷ xs) (z ∷ zs) (suc y) e within past =
    let more : suc y + 1 ≡ suc (y + 1) = omega arith in
    rw more (ap (λ (r : List (List ℕ)). (x ++ z) ∷ r) (beside_past xs zs y e (omega arith) (omega arith)))

pub beside_start : (rows others : List (List ℕ)) → beside rows (take 0 others) ≡ rows
beside_start rows others = beside_none rows

pub ruleset beside_turns = (beside_within, beside_past, beside_start)

-- ---- lines

pub text_none : (chars : List ℕ) (n : ℕ) (out : List ℕ) → length chars ≤ n
    → out ++ encode_utf8_all (map as_scalar (drop n chars)) ≡ out
text_none chars n out past = let none : drop n chars ≡ [] = grind (arith, common_steps) in rw none (append-nil out)

pub text_more : (chars : List ℕ) (i d : ℕ) (out : List ℕ) → i < length chars
    → (out ++ encode_utf8 (as_scalar (get_or chars i d))) ++ encode_utf8_all (map as_scalar (drop (i + 1) chars)) ≡ out
    ++ encode_utf8_all (map as_scalar (drop i chars))
text_more chars i d out within = let e : i + 1 ≡ suc i = omega arith in
    rw (e, drop-cons chars i d)
    (append_assoc out (encode_utf8 (as_scalar (get_or chars i d)))
    (encode_utf8_all (map as_scalar (drop (suc i) chars))))

pub ruleset text_turns = (text_none, text_more, append_assoc)

pub line_none : (rows : List (List ℕ)) (n : ℕ) (out : List ℕ) → length rows ≤ n → out ++ lines_of (drop n rows) ≡ out
line_none rows n out past = let none : drop n rows ≡ [] = grind (arith, common_steps) in rw none (append-nil out)

pub line_more : (rows : List (List ℕ)) (i : ℕ) (d : List ℕ) (out : List ℕ) → i < length rows
    → (out ++ line_of (get_or rows i d)) ++ lines_of (drop (i + 1) rows) ≡ out ++ lines_of (drop i rows)
line_more rows i d out within = let e : i + 1 ≡ suc i = omega arith in
    rw (e, drop-cons rows i d) (append_assoc out (line_of (get_or rows i d)) (lines_of (drop (suc i) rows)))

pub ruleset line_turns = (line_none, line_more)
