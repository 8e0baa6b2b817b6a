-- Text that is wrapped as it comes: it is cut into rows of so many columns, a row ends at a line feed, and what stands
-- in a row that isn't full yet is held back.
--
-- The cuts are those of Wrapping, with nothing left out and nothing replaced: each character has the columns of
-- Unicode's width, one of no column stands with the one before it, and one that is wider than a row stands alone.
use Rattle.std.specs.Prelude.{ℕ, ◌+◌, ◌==◌, ◌||◌, ◌&&◌, not, nat_le, if◌then◌else◌, Bool, true, List, [], ◌∷◌}
use Rattle.std.specs.Prelude.{◌++◌, take, drop, Option, Some, None}
use Rattle.gx_words.specs.Constants.{line_feed}
use Rattle.glk_windows.specs.Constants.{blank_cell}
use Rattle.glk_screen.specs.Wrapping.{width_of, drawn_columns, last_blank}

pub record FlatWrapper : Type 0 where
  pub limit : ℕ  -- the columns of a row
  pub gone : ℕ  -- the columns of the present row that were let go
  pub row : List ℕ  -- the characters that are held of it

-- what is let go, and the wrapper after that
abbrev pub LetGo : Type 0
LetGo = List ℕ × FlatWrapper

-- no row of a text
abbrev pub no_row : ℕ → FlatWrapper
no_row limit = record { limit = limit; gone = 0; row = [] }

-- A character of so many columns has room in a row of which some are taken: within the limit, or since it has no
-- column, or since no other one has.
unfoldable pub has_room : ℕ → ℕ → ℕ → Bool
has_room limit taken columns = nat_le (taken + columns) limit || (columns == 0 || taken == 0)

-- the columns of the row
abbrev pub taken_by : FlatWrapper → ℕ
taken_by w = w.gone + drawn_columns w.row

abbrev pub fits : FlatWrapper → ℕ → Bool
fits w c = has_room w.limit (taken_by w) (width_of c)

-- the row ends
abbrev pub row_ended : FlatWrapper → LetGo
row_ended w = (w.row ++ line_feed ∷ [], no_row w.limit)

-- a character stands in the row where it fits, and else in the next one
unfoldable pub placed : FlatWrapper → ℕ → LetGo
placed w c = if fits w c then ([], record w { row = w.row ++ c ∷ [] }) else
    (w.row ++ line_feed ∷ [], record (no_row w.limit) { row = c ∷ [] })

-- a row that is cut ends before its last blank, where it has one, and the next one begins after that
abbrev pub cut_at : Option ℕ → FlatWrapper → LetGo
cut_at None w = ([], w)
cut_at (Some at) w =
    (take at w.row ++ line_feed ∷ [], record (no_row w.limit) { row = drop (at + 1) w.row })

unfoldable pub cut : FlatWrapper → LetGo
cut w = cut_at (last_blank w.row) w

-- A character comes. A line feed ends the row, and so does a blank that doesn't fit, which then stands in no row.
-- Before another character that doesn't fit the row is cut.
unfoldable pub wrapped_char : FlatWrapper → ℕ → LetGo
wrapped_char w c = if c == line_feed || (c == blank_cell && not (fits w c)) then row_ended w else
    if fits w c then placed w c else ((cut w).0 ++ (placed (cut w).1 c).0, (placed (cut w).1 c).1)

-- characters come one after another
unfoldable pub wrapped_chars : FlatWrapper → List ℕ → LetGo
wrapped_chars w [] = ([], w)
wrapped_chars w (c ∷ cs) = let first = wrapped_char w c in
    (first.0 ++ (wrapped_chars first.1 cs).0, (wrapped_chars first.1 cs).1)

-- what is held is let go; the row goes on
abbrev pub let_go : FlatWrapper → LetGo
let_go w = (w.row, record w { gone = taken_by w; row = [] })

-- a paragraph begins
abbrev pub restarted : FlatWrapper → FlatWrapper
restarted w = record w { gone = 0 }

-- ---- what holds of it

-- A part of a text: characters, or a line feed that took the place of a blank, or one that was added.
pub data Piece : Type 0 where
  characters : List ℕ → Piece
  for_blank : Piece
  between : Piece

-- as it came, and as it is let go
abbrev pub as_put : Piece → List ℕ
as_put (characters cs) = cs
as_put for_blank = blank_cell ∷ []
as_put between = []

abbrev pub as_text : Piece → List ℕ
as_text (characters cs) = cs
as_text for_blank = line_feed ∷ []
as_text between = line_feed ∷ []

-- No character stands outside its row's columns, but for the first one of a row that has any; so many columns of the
-- row are taken before.
unfoldable pub stays_within : ℕ → ℕ → List ℕ → Bool
stays_within limit taken [] = true
stays_within limit taken (c ∷ cs) = if c == line_feed then stays_within limit 0 cs else
    has_room limit taken (width_of c) && stays_within limit (taken + width_of c) cs
