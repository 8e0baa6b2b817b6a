-- THE NEXT LINE of an input.
--
-- A line is the bytes up to a line feed, and a last one without a line feed counts where it isn't empty. It is taken as
-- its characters: bad UTF-8 is read as U+FFFD, one for each maximal piece (the Unicode Standard, "U+FFFD Substitution
-- of Maximal Subparts"), and what isn't printable is left out; so is the carriage return before a line feed.
use Rattle.std.specs.Prelude.{ℕ, ◌≢◌, ◌==◌, nat_le, if◌then◌else◌, Bool, List, [], length, filter}
use Rattle.std.specs.List.{before_first, after_first}
use Rattle.bstr.specs.Utf8.{lossy_chars}
use Rattle.glk_text.specs.Characters.{is_printable}
use Rattle.gx_session.specs.Constants.{longest_line}

pub data NextLine : Type 0 where
  too_long : NextLine  -- so many bytes hold no line feed that they are no line
  none : NextLine  -- nothing is left
  line : List ℕ → List ℕ → NextLine  -- the characters of a line, and the bytes after it

abbrev pub is_line_feed : ℕ → Bool
is_line_feed b = b == 0x0A

unfoldable pub next_line : List ℕ → NextLine
next_line bytes =
    if nat_le longest_line (length (before_first is_line_feed bytes)) then too_long else
    if length bytes == 0 then none else
    line (filter is_printable (lossy_chars (before_first is_line_feed bytes))) (after_first is_line_feed bytes)

-- There is a line, and it has characters.
abbrev pub HasChars : NextLine → Type 0
HasChars (line chars rest) = chars ≢ []
HasChars l = ⊥
