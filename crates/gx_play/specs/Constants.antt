-- The numbers that stand in the definitions by name. The constants of the same names in code are tied to these.
use Rattle.std.specs.Prelude.{ℕ}

-- how many copies are kept for undo in job work, as in the others where the words say nothing of it
abbrev pub usual_depth : ℕ
usual_depth = 16

-- the fault of a story whose file isn't there; the others are those of gx_story
abbrev pub no_file : ℕ
no_file = 0

-- a text of more bytes isn't assembled
abbrev pub most_text : ℕ
most_text = 0x01000000
