-- Call stubs (Glulx 3.1.2, "Call Stubs"): DestType, DestAddr, PC and FramePtr, FramePtr topmost.
use Rattle.std.specs.Prelude.{ℕ, ◌+◌, ◌-◌, ◌*◌, nat_le, if◌then◌else◌, List, ◌++◌, length, Result, Ok, Err}
use Rattle.std.specs.List.{flat_map}
use Rattle.gx_words.specs.Numbers.{word, bytes_of_word}
use Rattle.gx_stack.specs.declared.faults.StackFault.{StackFault}
use Rattle.gx_stack.specs.declared.faults.StackFault.TheVariants.{Overflow}
use Rattle.gx_stack.specs.declared.stubs.Stub.{Stub}
use Rattle.gx_stack.specs.Flat.{FlatStack}

unfoldable pub stub_bytes : Stub → List ℕ
stub_bytes p = bytes_of_word p.kind ++ bytes_of_word p.addr ++ bytes_of_word p.pc ++ bytes_of_word p.fp

-- stubs pushed, the first deepest
unfoldable pub pushed_stubs : FlatStack → List Stub → Result FlatStack StackFault
pushed_stubs s stubs = if nat_le (length s.bytes + 16 * length stubs) s.limit
    then Ok (record s { bytes = s.bytes ++ flat_map stub_bytes stubs }) else Err Overflow

-- the stub below a place
abbrev pub stub_below : List ℕ → ℕ → Stub
stub_below s sp =
    record { kind = word s (sp - 16); addr = word s (sp - 12); pc = word s (sp - 8); fp = word s (sp - 4) }
