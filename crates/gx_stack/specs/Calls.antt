-- What calls of a stack make of it that no step of the machine is said by.
use Rattle.std.specs.Prelude.{ℕ, ◌+◌, nat_le, if◌then◌else◌, List, ◌++◌, length, Result, Ok, Err, ◌-◌, nat_lt, take}
use Rattle.std.specs.Prelude.{◌*◌}
use Rattle.std.specs.List.{flat_map}
use Rattle.gx_stack.specs.declared.faults.StackFault.{StackFault}
use Rattle.gx_stack.specs.declared.faults.StackFault.TheVariants.{Overflow, Underflow, BadLocal}
use Rattle.gx_stack.specs.Flat.{FlatStack}
use Rattle.gx_stack.specs.Formats.{frame, frame_len}
use Rattle.gx_stack.specs.declared.stubs.Stub.{Stub}
use Rattle.gx_stack.specs.Stubs.{stub_bytes, stub_below}
use Rattle.gx_words.specs.Numbers.{bytes_of_word, bytes_of_number, spliced}
use Rattle.gx_stack.specs.declared.frames.Frame.{Frame}
use Rattle.gx_stack.specs.Frames.{has_local}
use Rattle.gx_stack.specs.Values.{count}

-- the frame of a format pushed, with arguments in its locals
unfoldable pub with_frame : FlatStack → List ℕ → List ℕ → Result FlatStack StackFault
with_frame s format args =
    if nat_le (length s.bytes + frame_len format) s.limit
    then Ok (record s { bytes = s.bytes ++ frame format args }) else Err Overflow

unfoldable pub pushed_stub : FlatStack → Stub → Result FlatStack StackFault
pushed_stub s p =
    if nat_le (length s.bytes + 16) s.limit then Ok (record s { bytes = s.bytes ++ stub_bytes p }) else Err Overflow

-- the stub on top
unfoldable pub top_stub : List ℕ → Result Stub StackFault
top_stub s = if nat_lt (length s) 16 then Err Underflow else Ok (stub_below s (length s))

unfoldable pub popped_stub : FlatStack → Result (FlatStack × Stub) StackFault
popped_stub s =
    if nat_lt (length s.bytes) 16 then Err Underflow else
    Ok (record s { bytes = take (length s.bytes - 16) s.bytes }, stub_below s.bytes (length s.bytes))

unfoldable pub pushed : FlatStack → ℕ → Result FlatStack StackFault
pushed s v =
    if nat_le (length s.bytes + 4) s.limit then Ok (record s { bytes = s.bytes ++ bytes_of_word v }) else Err Overflow

unfoldable pub pushed_all : FlatStack → List ℕ → Result FlatStack StackFault
pushed_all s values =
    if nat_le (length s.bytes + 4 * length values) s.limit
    then Ok (record s { bytes = s.bytes ++ flat_map bytes_of_word values }) else Err Overflow

unfoldable pub dropped : FlatStack → Frame → ℕ → Result FlatStack StackFault
dropped s f n =
    if nat_le n (count s.bytes f) then Ok (record s { bytes = take (length s.bytes - 4 * n) s.bytes })
    else Err Underflow

unfoldable pub with_local : FlatStack → Frame → ℕ → ℕ → ℕ → Result FlatStack StackFault
with_local s f at width v =
    if has_local f at width then Ok (record s { bytes = spliced s.bytes (f.locals + at) (bytes_of_number width v) })
    else Err BadLocal
