-- The numbers that stand in the definitions by name. The constants in code are tied to these.
use Rattle.std.specs.Prelude.{ℕ}

-- THE STATUSES of a run, and of a command line that comes to none
-- the program ended
abbrev pub status_ended : ℕ
status_ended = 0

-- the command line is not understood
abbrev pub status_bad_words : ℕ
status_bad_words = 1

-- there is no story
abbrev pub status_bad_story : ℕ
status_bad_story = 2

-- the story met a fault
abbrev pub status_fault : ℕ
status_fault = 3

-- the budget is spent
abbrev pub status_spent : ℕ
status_spent = 4

-- the input ended
abbrev pub status_input_ended : ℕ
status_input_ended = 5

-- the story waits for what can't come
abbrev pub status_stuck : ℕ
status_stuck = 6

-- a line of input is too long
abbrev pub status_line_too_long : ℕ
status_line_too_long = 7

-- the shelf failed; this status and those up to `status_no_memory` are those of a run that was cut short
abbrev pub status_shelf_fault : ℕ
status_shelf_fault = 8

-- the source failed
abbrev pub status_input_fault : ℕ
status_input_fault = 9

-- the sink failed
abbrev pub status_output_fault : ℕ
status_output_fault = 10

-- memory ran out
abbrev pub status_no_memory : ℕ
status_no_memory = 11

-- a text has no code; this status and the next one are of no run
abbrev pub status_bad_text : ℕ
status_bad_text = 12

-- a story has no listing
abbrev pub status_no_listing : ℕ
status_no_listing = 13

-- so many bytes with no line feed among them are no line
abbrev pub longest_line : ℕ
longest_line = 65536

-- so many bytes are asked of the source at a time
abbrev pub piece : ℕ
piece = 4096

-- text is sent after an event that leaves so many bytes or more pending
abbrev pub enough : ℕ
enough = 4096

-- a story can load files of so many bytes
abbrev pub most_loaded : ℕ
most_loaded = 0x01000000

-- what a save or a restore that fails is answered (Glulx 3.1.2, "Game State")
abbrev pub failed : ℕ
failed = 1
