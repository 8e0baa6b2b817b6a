-- Call stubs, and returns to them (Glulx 3.1.2, "Call Stubs" and "Calling and Returning Within Glulx").
use Rattle.std.specs.Prelude.{◌≡◌, ℕ, ◌-◌, ◌≤◌, ◌==◌, nat_lt, if◌then◌else◌, Bool, true, false, List, take, Option}
use Rattle.std.specs.Prelude.{Some, None, Result, Ok, Err}
use Rattle.std.specs.Option.{ok_or}
use Rattle.gx_words.specs.declared.strings.PrintKind.TheVariants.{E0, E1, E2, Number}
use Rattle.gx_words.specs.declared.strings.Printing.{Printing}
use Rattle.gx_words.specs.declared.faults.Fault.{Fault}
use Rattle.gx_words.specs.declared.faults.Fault.TheVariants.{BadFrame}
use Rattle.gx_words.specs.Numbers.{is_bit}
use Rattle.gx_words.specs.Results.{◌>>=◌}
use Rattle.gx_stack.specs.Constants.{to_nowhere, to_memory, to_local, to_stack, resume_compressed, resume_number}
use Rattle.gx_stack.specs.Constants.{resume_c_string, resume_unicode}
use Rattle.gx_stack.specs.declared.stubs.Stub.{Stub}
use Rattle.gx_stack.specs.Faults.{lifted}
use Rattle.gx_stack.specs.Frames.{is_good}
use Rattle.gx_stack.specs.Stubs as stubs
use Rattle.gx_stack.specs.Stubs.{stub_below}
use Rattle.gx_state.specs.declared.modes.Dest.{Dest}
use Rattle.gx_state.specs.declared.modes.Dest.TheVariants.{Nowhere, Memory, Local, Push}
use Rattle.gx_state.specs.declared.modes.Mode.TheVariants as mode
use Rattle.gx_state.specs.Flat.{FlatState, sp_of, cut}
use Rattle.gx_state.specs.Stores.{stored}

-- the stub of a store operand: DestType, DestAddr, the next instruction, the present frame
abbrev pub stub_of : FlatState → Dest → ℕ → Stub
stub_of f Nowhere next = record { kind = to_nowhere; addr = 0; pc = next; fp = f.fp }
stub_of f (Memory at) next = record { kind = to_memory; addr = at; pc = next; fp = f.fp }
stub_of f (Local at) next = record { kind = to_local; addr = at; pc = next; fp = f.fp }
stub_of f Push next = record { kind = to_stack; addr = 0; pc = next; fp = f.fp }

-- stubs pushed, the first deepest
unfoldable pub pushed_stubs : FlatState → List Stub → Result FlatState Fault
pushed_stubs f ps = lifted (stubs.pushed_stubs f.stack ps) >>= λ s. Ok (record f { stack = s })

-- the stub that ends at a stack pointer; its frame has to be good on the stack below it
unfoldable pub stub_to : List ℕ → ℕ → Result Stub Fault
stub_to bytes sp = if nat_lt sp 16 then Err BadFrame else
    if is_good (take (sp - 16) bytes) (stub_below bytes sp).fp then Ok (stub_below bytes sp) else Err BadFrame

-- back in the frame of a stub that ends at a stack pointer
abbrev pub back : FlatState → ℕ → Stub → FlatState
back f sp p = record (cut f (sp - 16)) { fp = p.fp }

-- the stub on top is popped, and the present frame is its
unfoldable pub popped_stub : FlatState → Result (FlatState × Stub) Fault
popped_stub f = stub_to f.stack.bytes (sp_of f) >>= λ p. Ok (back f (sp_of f) p, p)

-- What goes on being printed at a stub of the types 10, 12, 13 and 14 (hexadecimal): a compressed string at a bit
-- below 8, a number at a digit, a C-style or a Unicode string.
unfoldable pub printing_of : Stub → Option Printing
printing_of p =
    if p.kind == resume_compressed then
    (if is_bit p.addr then Some (record { kind = E1; at = p.pc; bit = p.addr; started = true }) else None) else
    if p.kind == resume_number then Some (record { kind = Number; at = p.pc; bit = p.addr; started = true }) else
    if p.kind == resume_c_string then Some (record { kind = E0; at = p.pc; bit = 0; started = true }) else
    if p.kind == resume_unicode then Some (record { kind = E2; at = p.pc; bit = 0; started = true }) else None

unfoldable pub printing_on : FlatState → Stub → Result FlatState Fault
printing_on f p = ok_or (printing_of p) BadFrame >>= λ printing. Ok (record f { mode = mode.Printing printing })

-- A value is delivered to a stub that was popped. It is stored in the stub's operand, and the code at the stub's PC
-- goes on; where the DestType has no operand the value is dropped, printing goes on, and PC stays.
unfoldable pub delivered : FlatState → Stub → ℕ → Result FlatState Fault
delivered f p v =
    let at_pc = record f { pc = p.pc } in
    if p.kind == to_nowhere then stored at_pc 4 Nowhere v else
    if p.kind == to_memory then stored at_pc 4 (Memory p.addr) v else
    if p.kind == to_local then stored at_pc 4 (Local p.addr) v else
    if p.kind == to_stack then stored at_pc 4 Push v else printing_on f p

-- A return of a value with a stack pointer for FramePtr; and whether the program ends, since no stub is left.
unfoldable pub returned : FlatState → ℕ → ℕ → Result (FlatState × Bool) Fault
returned f sp v = if sp == 0 then Ok (cut f 0, true) else
    stub_to f.stack.bytes sp >>= λ p. delivered (back f sp p) p v >>= λ h. Ok (h, false)

-- it writes to memory, where the stub says so
abbrev pub IsReturnWriting : FlatState → ℕ → Type 0
IsReturnWriting f sp = (16 ≤ sp) × ((stub_below f.stack.bytes sp).kind ≡ to_memory)
