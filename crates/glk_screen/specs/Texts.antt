-- The text of buffer windows: what was put to each since it was opened or cleared, and no more of it than its last
-- 255 paragraphs. A paragraph ends at a line feed, and the last one may be empty.
use Rattle.std.specs.Prelude.{ℕ, suc, ◌==◌, not, nat_lt, if◌then◌else◌, Bool, List, [], ◌∷◌, ◌++◌, length, map, filter}
use Rattle.std.specs.Prelude.{count_by}
use Rattle.gx_words.specs.Constants.{line_feed}
use Rattle.glk_screen.specs.Constants.{most_paragraphs}

-- a buffer window's text
pub record FlatText : Type 0 where
  pub id : ℕ  -- the window
  pub text : List ℕ  -- characters as they are shown

abbrev pub line_feeds : List ℕ → ℕ
line_feeds text = count_by (λ c. c == line_feed) text

-- what follows the first paragraph and its line feed
abbrev pub behind_paragraph : List ℕ → List ℕ
behind_paragraph [] = []
behind_paragraph (c ∷ cs) = if c == line_feed then cs else behind_paragraph cs

-- a text with one character more; the first paragraph goes where there is one too many
unfoldable pub with_char : List ℕ → ℕ → List ℕ
with_char text c =
    let longer = text ++ c ∷ [] in
    if nat_lt (line_feeds longer) most_paragraphs then longer else behind_paragraph longer

-- that makes the text longer; else its first paragraph goes
abbrev pub lengthens : List ℕ → ℕ → Bool
lengthens text c = nat_lt (length text) (length (with_char text c))

-- the text of a window, none where nothing was put to it
abbrev pub text_of : List FlatText → ℕ → List ℕ
text_of [] win = []
text_of (t ∷ ts) win = if t.id == win then t.text else text_of ts win

-- how many texts stand before that of a window, all of them where it has none
abbrev pub text_index : List FlatText → ℕ → ℕ
text_index [] win = 0
text_index (t ∷ ts) win = if t.id == win then 0 else suc (text_index ts win)

-- a text with a character put to it
abbrev pub text_put : FlatText → ℕ → FlatText
text_put t c = record t { text = with_char t.text c }

-- a character is put to a window
unfoldable pub screen_put : List FlatText → ℕ → ℕ → List FlatText
screen_put [] win c = record { id = win; text = with_char [] c } ∷ []
screen_put (t ∷ ts) win c = if t.id == win then text_put t c ∷ ts else t ∷ screen_put ts win c

-- a text that is cleared where it is the window's
abbrev pub text_cleared : ℕ → FlatText → FlatText
text_cleared win t = if t.id == win then record t { text = [] } else t

-- a window is cleared
unfoldable pub screen_cleared : List FlatText → ℕ → List FlatText
screen_cleared texts win = map (text_cleared win) texts

-- a window is gone
unfoldable pub screen_gone : List FlatText → ℕ → List FlatText
screen_gone texts win = filter (λ t. not (t.id == win)) texts
