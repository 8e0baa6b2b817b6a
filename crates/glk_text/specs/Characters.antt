-- What is done with one character (Glk 0.7.5, "Character Encoding").
use Rattle.std.specs.Prelude.{ℕ, ◌+◌, ◌-◌, ◌==◌, Bool, ◌||◌, nat_lt, if◌then◌else◌}
use Rattle.std.specs.Int.{is_in_range}
use Rattle.gx_words.specs.Constants.{line_feed}

-- what stands for a character that has no place
abbrev pub question_mark : ℕ
question_mark = 0x3F

-- a character that is shown as itself
abbrev pub is_printable : ℕ → Bool
is_printable v = is_in_range 0x20 0x7E v || is_in_range 0xA0 0xD7FF v || is_in_range 0xE000 0x10FFFF v

-- the character that is shown for it: itself, also where it is a line feed, else a question mark
abbrev pub shown : ℕ → ℕ
shown v = if v == line_feed || is_printable v then v else question_mark

-- its byte in Latin-1
abbrev pub latin_of : ℕ → ℕ
latin_of v = if nat_lt v 0x100 then v else question_mark

-- the change of case: of the capital letters of Latin-1, which leave out the multiplication sign
abbrev pub lower_of : ℕ → ℕ
lower_of v = if is_in_range 0x41 0x5A v || is_in_range 0xC0 0xD6 v || is_in_range 0xD8 0xDE v then v + 0x20 else v

-- and of the small letters of Latin-1 whose capitals stand there too, which leave out the division sign
abbrev pub upper_of : ℕ → ℕ
upper_of v = if is_in_range 0x61 0x7A v || is_in_range 0xE0 0xF6 v || is_in_range 0xF8 0xFE v then v - 0x20 else v
