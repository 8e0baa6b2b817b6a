-- How a text is cut into rows of a width.
use Rattle.std.specs.Prelude.{ℕ, zero, suc, ◌+◌, ◌-◌, ◌==◌, ◌||◌, ◌&&◌, nat_le, nat_lt, if◌then◌else◌, Bool, false}
use Rattle.std.specs.Prelude.{List, [], ◌∷◌, length, take, drop, slice_index_or, Option, Some, None, unwrap_or}
use Rattle.std.specs.Option.{option_map}
use Rattle.gx_words.specs.Constants.{line_feed}
use Rattle.glk_text.specs.Utf8.{as_scalar}
use Rattle.glk_windows.specs.Constants.{blank_cell}
use Rattle.unicode_width.specs.Width.{char_width}

-- ---- columns

-- The columns of a character by the width of Unicode's, or of the question mark that is written for a number that is
-- no Unicode scalar value. A control character has none.
unfoldable pub width_of : ℕ → ℕ
width_of c = unwrap_or (char_width false (as_scalar c)) 0

-- the columns of a text, each character as it is
abbrev pub drawn_columns : List ℕ → ℕ
drawn_columns [] = 0
drawn_columns (c ∷ cs) = width_of c + drawn_columns cs

-- in a window of so many columns a question mark stands for a character of three columns, and of two in one column
abbrev pub is_replaced : ℕ → ℕ → Bool
is_replaced width c = width_of c == 3 || (width_of c == 2 && width == 1)

unfoldable pub columns_of : ℕ → ℕ → ℕ
columns_of width c = if is_replaced width c then 1 else width_of c

-- the columns of a text
abbrev pub columns : ℕ → List ℕ → ℕ
columns width [] = 0
columns width (c ∷ cs) = columns_of width c + columns width cs

-- ---- rows

-- the first paragraph of a text
abbrev pub paragraph : List ℕ → List ℕ
paragraph [] = []
paragraph (c ∷ cs) = if c == line_feed then [] else c ∷ paragraph cs

-- how long the longest prefix is that fits in so much room
abbrev pub fitting : ℕ → ℕ → List ℕ → ℕ
fitting width room [] = 0
fitting width room (c ∷ cs) =
    if nat_le (columns_of width c) room then suc (fitting width (room - columns_of width c) cs) else 0

-- where the last blank of a text stands
abbrev pub last_blank : List ℕ → Option ℕ
last_blank [] = None
last_blank (c ∷ cs) =
    unwrap_or (option_map (λ at. Some (suc at)) (last_blank cs)) (if c == blank_cell then Some 0 else None)

-- a row that ends at a blank, behind which the rest begins
abbrev pub at_blank : ℕ → ℕ × ℕ
at_blank at = (at, at + 1)

-- A paragraph that doesn't fit, whose longest prefix that fits has n characters: where its first row ends, and where
-- the rest begins. Where a blank follows the prefix, the row is the prefix and the rest begins after that blank. Else,
-- where the prefix has a blank, the row ends before its last one and the rest begins after it. Else the rest follows
-- the prefix.
abbrev pub break_at : List ℕ → ℕ → ℕ × ℕ
break_at text n =
    if slice_index_or text n 0 == blank_cell then at_blank n else
    unwrap_or (option_map at_blank (last_blank (take n text))) (n, n)

-- The first row of a text: its first paragraph where that fits, which ends at a line feed.
unfoldable pub first_row : ℕ → List ℕ → ℕ × ℕ
first_row width text =
    if nat_le (columns width (paragraph text)) width
    then (length (paragraph text), length (paragraph text) + 1)
    else break_at (paragraph text) (fitting width width (paragraph text))

-- Where the rows of a text start and end, of one that stands from `at` on. Each row takes something of the text, and
-- the last one is the last of its last paragraph.
unfoldable pub rows_from : ℕ → ℕ → ℕ → List ℕ → List ℕ
rows_from zero at width text = []
rows_from (suc n) at width text =
    at ∷ (at + (first_row width text).0) ∷
    (if nat_lt (length text) (first_row width text).1 then [] else
    rows_from n (at + (first_row width text).1) width (drop (first_row width text).1 text))

-- The start and the end of each row of a text in a window of so many columns, at least one.
abbrev pub wrapped : ℕ → List ℕ → List ℕ
wrapped width text = rows_from (suc (length text)) 0 width text

-- so much of a text
abbrev pub part : List ℕ → ℕ → ℕ → List ℕ
part text start end = take (end - start) (drop start text)

-- the rows of a text that start and end there
abbrev pub rows_at : List ℕ → List ℕ → List (List ℕ)
rows_at text [] = []
rows_at text (start ∷ []) = []
rows_at text (start ∷ end ∷ more) = part text start end ∷ rows_at text more
