-- Whether a branch is taken (Glulx 3.1.2, "Branches").
use Rattle.std.specs.Prelude.{ℕ, Bool, true, false, not, ◌==◌, nat_lt, nat_le, int_lt, int_le, if◌then◌else◌}
use Rattle.ops_calc.specs.Acts as acts
use Rattle.ops_calc.specs.Arithmetic.{signed}

-- The branches by their numbers. Those of jlt, jge, jgt and jle read both words as two's complement.
unfoldable pub test : ℕ → ℕ → ℕ → Bool
test act a b =
    if act == acts.jump then true else
    if act == acts.jz then a == 0 else
    if act == acts.jnz then not (a == 0) else
    if act == acts.jeq then a == b else
    if act == acts.jne then not (a == b) else
    if act == acts.jlt then int_lt (signed a) (signed b) else
    if act == acts.jge then int_le (signed b) (signed a) else
    if act == acts.jgt then int_lt (signed b) (signed a) else
    if act == acts.jle then int_le (signed a) (signed b) else
    if act == acts.jltu then nat_lt a b else
    if act == acts.jgeu then nat_le b a else
    if act == acts.jgtu then nat_lt b a else
    if act == acts.jleu then nat_le a b else
    false
