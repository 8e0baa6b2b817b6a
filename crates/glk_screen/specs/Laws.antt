-- What holds of the definitions.
use Rattle.std.specs.Prelude.{ℕ, zero, suc, ◌≡◌, ◌≤◌, ◌+◌, ◌-◌, ◌==◌, ◌++◌, nat_le, Bool, true, IsTrue, List, []}
use Rattle.std.specs.Prelude.{◌∷◌, length, map}
use Rattle.std.specs.List.{list_all, concat}
use Rattle.glk_windows.specs.Windows.{FlatWindows}
use Rattle.glk_screen.specs.Constants.{most_paragraphs}
use Rattle.glk_screen.specs.Texts.{FlatText, line_feeds, behind_paragraph, with_char}
use Rattle.glk_screen.specs.Wrapping.{drawn_columns, columns, wrapped, rows_at}
use Rattle.glk_screen.specs.Wrapper.{FlatWrapper, wrapped_chars, Piece, as_put, as_text, stays_within}
use Rattle.glk_screen.specs.Screen.{DrawnRows, screen_rows}

-- a row has no more columns than its window
abbrev pub is_fitting : ℕ → List ℕ → Bool
is_fitting width row = nat_le (columns width row) width

abbrev pub RowsFit : Type 0
RowsFit =
    (width : ℕ) (text : List ℕ) → 1 ≤ width → IsTrue (list_all (is_fitting width) (rows_at text (wrapped width text)))

-- a row as it is drawn has so many columns
abbrev pub is_wide : ℕ → List ℕ → Bool
is_wide width row = drawn_columns row == width

-- rows of exactly so many columns, and exactly so many
pub record IsSized (area : ℕ × ℕ) (rows : DrawnRows) : Type 0 where
  pub count : length rows ≡ area.1
  pub wide : IsTrue (list_all (is_wide area.0) rows)

abbrev pub ScreenIsFilled : Type 0
ScreenIsFilled =
    (texts : List FlatText) (f : FlatWindows) (area : ℕ × ℕ) → IsSized area (screen_rows texts f area f.tree)

-- a text with characters put to it one after another
abbrev pub with_chars : List ℕ → List ℕ → List ℕ
with_chars text [] = text
with_chars text (c ∷ cs) = with_chars (with_char text c) cs

-- what follows so many paragraphs
abbrev pub behind_paragraphs : ℕ → List ℕ → List ℕ
behind_paragraphs zero text = text
behind_paragraphs (suc n) text = behind_paragraphs n (behind_paragraph text)

-- the last 255 paragraphs, of which there is one more than line feeds
abbrev pub last_of : List ℕ → List ℕ
last_of text = behind_paragraphs (line_feeds text + 1 - most_paragraphs) text

abbrev pub KeepsLast : Type 0
KeepsLast = (text : List ℕ) → with_chars [] text ≡ last_of text

-- A text, as it came and as it is wrapped: the same but for the breaks, each of which took the place of one blank, or
-- was added.
pub record IsWrapped (put text : List ℕ) : Type 0 where
  pub pieces : List Piece
  pub put_is : concat (map as_put pieces) ≡ put
  pub text_is : concat (map as_text pieces) ≡ text

-- What is wrapped from a row of which nothing is held loses nothing, with what is held in the end; and no row of it is
-- wider than the limit, but for one that a single character makes so.
pub record WrapsRight (w : FlatWrapper) (cs : List ℕ) : Type 0 where
  pub kept : IsWrapped cs ((wrapped_chars w cs).0 ++ (wrapped_chars w cs).1.row)
  pub within : stays_within w.limit w.gone ((wrapped_chars w cs).0 ++ (wrapped_chars w cs).1.row) ≡ true

abbrev pub WrappingKeeps : Type 0
WrappingKeeps = (w : FlatWrapper) (cs : List ℕ) → w.row ≡ [] → WrapsRight w cs
