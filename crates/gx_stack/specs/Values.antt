-- The values and locals of a frame (Glulx 3.1.2, "Call Frames" and "The Stack").
--
-- Each call is what it makes of the stack's bytes. specs/Laws says the same of the list of the frame's values, the
-- deepest first.
use Rattle.std.specs.Prelude.{ℕ, ℤ, pos, ◌+◌, ◌-◌, ◌*◌, ◌/◌, ◌==◌, nat_lt, if◌then◌else◌, List, ◌++◌, length}
use Rattle.std.specs.Prelude.{take, drop, unsigned_abs, Result, Ok, Err}
use Rattle.std.specs.Int.{int_rem_euclid}
use Rattle.gx_words.specs.Numbers.{word, number}
use Rattle.gx_stack.specs.declared.faults.StackFault.{StackFault}
use Rattle.gx_stack.specs.declared.faults.StackFault.TheVariants.{Overflow, Underflow, BadLocal}
use Rattle.gx_stack.specs.declared.frames.Frame.{Frame}
use Rattle.gx_stack.specs.Flat.{FlatStack}
use Rattle.gx_stack.specs.Frames.{has_local}

-- how many values a frame has
abbrev pub count : List ℕ → Frame → ℕ
count s f = (length s - f.values) / 4

-- the value i from the top
unfoldable pub peeked : List ℕ → Frame → ℕ → Result ℕ StackFault
peeked s f i = if nat_lt i (count s f) then Ok (word s (length s - 4 * (i + 1))) else Err Underflow

-- a list whose last items, so many, come to the front
abbrev pub turned : {X : Type 0} → List X → ℕ → List X
turned xs up = drop (length xs - up) xs ++ take (length xs - up) xs

-- the top n words moved up by so many places, cyclically
abbrev pub turned_top : List ℕ → ℕ → ℕ → List ℕ
turned_top s n up = take (length s - 4 * n) s ++ turned (drop (length s - 4 * n) s) (4 * up)

-- the top n values moved so many places up, cyclically, or down where `by` is negative
unfoldable pub rolled : FlatStack → Frame → ℕ → ℤ → Result FlatStack StackFault
rolled s f n by =
    if nat_lt (count s.bytes f) n then Err Underflow else
    if n == 0 then Ok s else Ok (record s { bytes = turned_top s.bytes n (unsigned_abs (int_rem_euclid by (pos n))) })

-- the top n values pushed again
unfoldable pub copied : FlatStack → Frame → ℕ → Result FlatStack StackFault
copied s f n =
    if nat_lt (count s.bytes f) n then Err Underflow else
    if nat_lt s.limit (length s.bytes + 4 * n) then Err Overflow else
    Ok (record s { bytes = s.bytes ++ drop (length s.bytes - 4 * n) s.bytes })

-- the local of so many bytes at an offset into the locals
unfoldable pub local_at : List ℕ → Frame → ℕ → ℕ → Result ℕ StackFault
local_at s f at width = if has_local f at width then Ok (number width s (f.locals + at)) else Err BadLocal
