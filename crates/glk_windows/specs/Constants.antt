-- The numbers of windows that the standard fixes (Glk 0.7.5), and those that it leaves open. The constants of code,
-- PAIR for pair_window and so on, are tied to these.
use Rattle.std.specs.Prelude.{ℕ}

-- the types of windows ("The Types of Windows"): wintype_Pair, wintype_Blank, wintype_TextBuffer, wintype_TextGrid
abbrev pub pair_window : ℕ
pair_window = 1

abbrev pub blank_window : ℕ
blank_window = 2

abbrev pub text_buffer : ℕ
text_buffer = 3

abbrev pub text_grid : ℕ
text_grid = 4

-- the directions of a method, its low four bits ("Window Opening, Closing, and Constraints"): winmethod_Left,
-- winmethod_Right, winmethod_Above, winmethod_Below
abbrev pub left : ℕ
left = 0

abbrev pub right : ℕ
right = 1

abbrev pub above : ℕ
above = 2

abbrev pub below : ℕ
below = 3

-- the divisions of a method, its next four bits: winmethod_Fixed (0x10), winmethod_Proportional (0x20)
abbrev pub fixed : ℕ
fixed = 1

abbrev pub proportional : ℕ
proportional = 2

-- so many windows that aren't pairs may be open at once, which the standard leaves open
abbrev pub most_windows : ℕ
most_windows = 255

-- what stands in a cell of a grid in which nothing was put ("Text Grid Windows"): a space
abbrev pub blank_cell : ℕ
blank_cell = 0x20
