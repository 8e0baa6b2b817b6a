-- The numbers of a story file (Glulx 3.1.2, "The Header"; Blorb 2.0.4). The constants of the same names in code are
-- tied to these.
use Rattle.std.specs.Prelude.{ℕ}

-- versions 2.0.0 to 3.1.255: the major number in two bytes, the minor and the last in one each
abbrev pub first_version : ℕ
first_version = 0x00020000

abbrev pub last_version : ℕ
last_version = 0x000301FF

-- a Blorb's index begins with a word, the count of its entries
abbrev pub count_len : ℕ
count_len = 4

-- an entry: the letters of its usage, its number, and where its chunk starts
abbrev pub entry_len : ℕ
entry_len = 12
