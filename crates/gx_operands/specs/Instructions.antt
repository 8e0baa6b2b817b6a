-- How an instruction is read (Glulx 3.1.2, "Instruction Format"): its number, and its operands from left to
-- right. The first fault on the way is the instruction's.
use Rattle.std.specs.Prelude.{ℕ, ◌+◌, ◌-◌, ◌*◌, ◌/◌, ◌%◌, ◌^◌, List, [], ◌∷◌, ◌++◌, length, nat_le, nat_lt, ◌==◌, Bool}
use Rattle.std.specs.Prelude.{true, false, zero, suc, if◌then◌else◌, slice_index, Result, Ok, Err}
use Rattle.std.specs.Option.{ok_or}
use Rattle.gx_words.specs.declared.faults.Fault.{Fault}
use Rattle.gx_words.specs.declared.faults.Fault.TheVariants.{BadMode, BadAddress, BadOpcode}
use Rattle.gx_words.specs.Numbers.{byte, low, extended}
use Rattle.gx_words.specs.Results.{◌>>=◌}
use Rattle.gx_pages.specs.Memory.{number_in}
use Rattle.gx_stack.specs.Faults.{lifted}
use Rattle.gx_stack.specs.Values.{count, peeked, local_at}
use Rattle.gx_rows.specs.declared.instructions.Row.{Row}
use Rattle.gx_rows.specs.Modes.{addressing, kind_of}
use Rattle.gx_rows.specs.Table.{row_of}
use Rattle.gx_state.specs.declared.modes.Dest.{Dest}
use Rattle.gx_state.specs.declared.modes.Dest.TheVariants as dest
use Rattle.gx_state.specs.Flat.{FlatState, frame_of, sp_of}
use Rattle.gx_rows.specs.declared.modes.Addressing.{Addressing}
use Rattle.gx_rows.specs.declared.modes.Addressing.TheVariants.{Zero, Constant, Memory, Top, Local, Ram}
use Rattle.gx_rows.specs.declared.modes.Kind.{Kind}
use Rattle.gx_rows.specs.declared.modes.Kind.TheVariants.{Load, Store}
use Rattle.gx_operands.specs.declared.cursor.Cursor.{Cursor}

-- the number at PC in one, two or four bytes, and the address after them
unfoldable pub opcode : FlatState → Result (ℕ × ℕ) Fault
opcode f = number_in 1 f.memory f.pc >>= λ first.
    if nat_lt first 0x80 then Ok (first, f.pc + 1) else
    if nat_lt first 0xC0 then (number_in 2 f.memory f.pc >>= λ number. Ok (number - 0x8000, f.pc + 2)) else
    number_in 4 f.memory f.pc >>= λ number. Ok (number - 0xC0000000, f.pc + 4)

-- the address in RAM that an offset means
abbrev pub ram_address : FlatState → ℕ → ℕ
ram_address f offset = (f.story.header.ramstart + offset) % 2 ^ 32

-- the number of so many bytes of data at a cursor, and the cursor after it
unfoldable pub datum : List ℕ → Cursor → ℕ → Result (ℕ × Cursor) Fault
datum memory p n = number_in n memory p.at >>= λ v. Ok (v, record p { at = p.at + n })

-- What a load operand gives, and the cursor after it. Constants and popped values keep the low bytes
-- of the operand's width.
unfoldable pub load_by : FlatState → ℕ → Addressing → Cursor → Result (ℕ × Cursor) Fault
load_by f width Zero p = Ok (0, p)
load_by f width (Constant n) p = datum f.memory p n >>= λ d. Ok (low width (extended n d.0), d.1)
load_by f width (Memory n) p = datum f.memory p n >>= λ d. number_in width f.memory d.0 >>= λ v. Ok (v, d.1)
load_by f width Top p =
    lifted (peeked f.stack.bytes (frame_of f) p.popped) >>= λ v. Ok (low width v, record p { popped = p.popped + 1 })
load_by f width (Local n) p =
    datum f.memory p n >>= λ d. lifted (local_at f.stack.bytes (frame_of f) d.0 width) >>= λ v. Ok (v, d.1)
load_by f width (Ram n) p =
    datum f.memory p n >>= λ d. number_in width f.memory (ram_address f d.0) >>= λ v. Ok (v, d.1)

unfoldable pub load : FlatState → ℕ → ℕ → Cursor → Result (ℕ × Cursor) Fault
load f width nibble p = ok_or (addressing nibble) BadMode >>= λ mode. load_by f width mode p

-- Where a store operand points, and the cursor after it.
unfoldable pub destination_by : FlatState → Addressing → Cursor → Result (Dest × Cursor) Fault
destination_by f Zero p = Ok (dest.Nowhere, p)
destination_by f (Constant n) p = Err BadMode
destination_by f (Memory n) p = datum f.memory p n >>= λ d. Ok (dest.Memory d.0, d.1)
destination_by f Top p = Ok (dest.Push, p)
destination_by f (Local n) p = datum f.memory p n >>= λ d. Ok (dest.Local d.0, d.1)
destination_by f (Ram n) p = datum f.memory p n >>= λ d. Ok (dest.Memory (ram_address f d.0), d.1)

unfoldable pub destination : FlatState → ℕ → Cursor → Result (Dest × Cursor) Fault
destination f nibble p = ok_or (addressing nibble) BadMode >>= λ mode. destination_by f mode p

-- What the operands so far gave.
pub record Operands : Type 0 where
  pub loads : List ℕ
  pub dest : Dest
  pub second : Dest
  pub stored : Bool
  pub cursor : Cursor

-- One operand more. The first store operand is `dest`, another one `second`.
unfoldable pub with_operand : FlatState → ℕ → Kind → ℕ → Operands → Result Operands Fault
with_operand f width Load nibble o =
    load f width nibble o.cursor >>= λ v. Ok (record o { loads = o.loads ++ v.0 ∷ []; cursor = v.1 })
with_operand f width Store nibble o =
    destination f nibble o.cursor >>= λ d. let next : Operands = record o { cursor = d.1 } in
    Ok (if o.stored then record next { second = d.0 } else record next { dest = d.0; stored = true })

-- the nibble of an operand's mode: two in a byte, the low one first
abbrev pub nibble : List ℕ → ℕ → ℕ → ℕ
nibble memory modes i = if i % 2 == 0 then byte memory (modes + i / 2) % 16 else byte memory (modes + i / 2) / 16

-- the operand of an index
unfoldable pub operand : FlatState → Row → ℕ → ℕ → Operands → Result Operands Fault
operand f row modes i o = with_operand f row.width (kind_of row i) (nibble f.memory modes i) o

-- so many operands, from an index on
unfoldable pub operands : FlatState → Row → ℕ → ℕ → ℕ → Operands → Result Operands Fault
operands f row modes zero i o = Ok o
operands f row modes (suc n) i o = operand f row modes i o >>= λ o. operands f row modes n (i + 1) o

-- all operands of a row whose modes stand at an address
unfoldable pub all_operands : FlatState → Row → ℕ → Result Operands Fault
all_operands f row modes =
    let count = row.loads + row.stores in let p : Cursor = record { at = modes + (count + 1) / 2; popped = 0 } in
    let o : Operands = record { loads = []; dest = dest.Nowhere; second = dest.Nowhere; stored = false; cursor = p } in
    if nat_le p.at (length f.memory) then operands f row modes count 0 o else Err BadAddress

-- An instruction: its row, the values that it loads, where its results go, the address after it, and
-- the stack pointer that its pops leave.
pub record Instruction : Type 0 where
  pub row : Row
  pub loads : List ℕ
  pub dest : Dest
  pub second : Dest
  pub next : ℕ
  pub sp : ℕ

-- The instruction at PC.
unfoldable pub instruction : FlatState → Result Instruction Fault
instruction f =
    opcode f >>= λ number. ok_or (row_of number.0) BadOpcode >>= λ row. all_operands f row number.1 >>= λ o.
    let sp = sp_of f - 4 * o.cursor.popped in
    Ok (record { row = row; loads = o.loads; dest = o.dest; second = o.second; next = o.cursor.at; sp = sp })

-- the load operands by their names in the standard, 0 where an instruction loads fewer
abbrev pub L1 : Instruction → ℕ
L1 i = slice_index i.loads 0

abbrev pub L2 : Instruction → ℕ
L2 i = slice_index i.loads 1

abbrev pub L3 : Instruction → ℕ
L3 i = slice_index i.loads 2

abbrev pub L4 : Instruction → ℕ
L4 i = slice_index i.loads 3

abbrev pub L5 : Instruction → ℕ
L5 i = slice_index i.loads 4

abbrev pub L6 : Instruction → ℕ
L6 i = slice_index i.loads 5

abbrev pub L7 : Instruction → ℕ
L7 i = slice_index i.loads 6

-- the last of them, which is the offset of a branch
abbrev pub last_load : Instruction → ℕ
last_load i = slice_index i.loads (i.row.loads - 1)

-- the next instruction is at an address
abbrev pub going_to : FlatState → ℕ → FlatState
going_to f pc = record f { pc = pc }
