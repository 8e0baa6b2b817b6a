-- The numbers of files' names. The constants of the same names in code are tied to these.
use Rattle.std.specs.Prelude.{ℕ}

-- the low four bits of a usage (Glk 0.7.5, "The Types of File References"): fileusage_SavedGame, fileusage_Transcript,
-- fileusage_InputRecord
abbrev pub saved_game : ℕ
saved_game = 0x01

abbrev pub transcript : ℕ
transcript = 0x02

abbrev pub input_record : ℕ
input_record = 0x03

-- the most characters of a base, which the standard leaves open
abbrev pub longest : ℕ
longest = 64
