-- The options of searches (Glulx 3.1.2, "Searching"): KeyIndirect, ZeroKeyTerminates, ReturnIndex. The constants of the
-- same names in code are tied to these.
use Rattle.std.specs.Prelude.{ℕ}

abbrev pub key_indirect : ℕ
key_indirect = 0x01

abbrev pub zero_key_terminates : ℕ
zero_key_terminates = 0x02

abbrev pub return_index : ℕ
return_index = 0x04
