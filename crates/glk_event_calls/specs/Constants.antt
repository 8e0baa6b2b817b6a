-- The numbers of the events (Glk 0.7.5). The constants of code, NO_EVENT for no_event_type and so on, are tied to
-- these.
use Rattle.std.specs.Prelude.{ℕ}

-- the types of events ("Events"): evtype_None, evtype_CharInput, evtype_LineInput
abbrev pub no_event_type : ℕ
no_event_type = 0

abbrev pub char_event_type : ℕ
char_event_type = 2

abbrev pub line_event_type : ℕ
line_event_type = 3
