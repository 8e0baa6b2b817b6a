-- The rows of the classes Copy and Memory (Glulx 3.1.2, "Moving Data" and "Array Data"), in the order of their numbers,
-- and the row of an instruction of these classes. Those of "Memory Map", "Block Copy and Clear" and "Memory Allocation
-- Heap" are in specs/Space, those of "Searching" in specs/Searching.
--
-- An instruction's pops are made in its `sp`, and PC becomes `next`. A fault in any line leaves the state as
-- it is. Addresses are sums modulo 2^32.
use Rattle.std.specs.Prelude.{ℕ, ◌+◌, ◌-◌, ◌*◌, ◌/◌, ◌%◌, ◌^◌, ◌==◌}
use Rattle.std.specs.Prelude.{if◌then◌else◌, Result, Ok, Err, pos, unsigned_abs, bit_and}
use Rattle.std.specs.Prelude.{bit_or}
use Rattle.std.specs.Int.{w32, cast_signed, cast_unsigned, int_div_euclid, int_rem_euclid}
use Rattle.gx_words.specs.declared.faults.Fault.{Fault}
use Rattle.gx_words.specs.declared.faults.Fault.TheVariants.{BadOpcode}
use Rattle.gx_words.specs.Results.{◌>>=◌}
use Rattle.gx_pages.specs.Memory.{number_in}
use Rattle.gx_rows.specs.Numbers as numbers
use Rattle.gx_rows.specs.declared.instructions.Class.{Class}
use Rattle.gx_rows.specs.declared.instructions.Class.TheVariants as class
use Rattle.gx_state.specs.declared.effects.Effect.{Effect}
use Rattle.gx_state.specs.declared.effects.Effect.TheVariants.{Went}
use Rattle.gx_state.specs.declared.modes.Dest.TheVariants as dest
use Rattle.gx_state.specs.Flat.{FlatState}
use Rattle.gx_operands.specs.Instructions.{Instruction, L1, L2, L3, going_to}
use Rattle.gx_operands.specs.Stores.{settled, stores}
use Rattle.ops_memory.specs.Searching.{linearsearch, binarysearch, linkedsearch}
use Rattle.ops_memory.specs.Space.{getmemsize, setmemsize, mzero, mcopy, malloc, mfree}

-- WHAT ROWS SHARE

-- S1 = the number of so many bytes at an address
abbrev pub loads : FlatState → Instruction → ℕ → ℕ → Result (FlatState × Effect) Fault
loads f i width at = number_in width f.memory at >>= λ v. stores f i v

-- the low bytes of a number are written at an address
abbrev pub puts : FlatState → Instruction → ℕ → ℕ → ℕ → Result (FlatState × Effect) Fault
puts f i width at v = settled f i.sp width (dest.Memory at) v >>= λ g. Ok (going_to g i.next, Went)

-- the address of the element L2 of an array at L1, whose elements have so many bytes
abbrev pub element : Instruction → ℕ → ℕ
element i width = (L1 i + width * L2 i) % 2 ^ 32

-- The bit L2 of an array of bits at L1, eight to a byte, from the lowest on; L2 is signed. The address of its
-- byte, and its number there.
abbrev pub byte_of_bit : Instruction → ℕ
byte_of_bit i = (L1 i + cast_unsigned w32 (int_div_euclid (cast_signed w32 (L2 i)) (pos 8))) % 2 ^ 32

abbrev pub bit_in_byte : Instruction → ℕ
bit_in_byte i = unsigned_abs (int_rem_euclid (cast_signed w32 (L2 i)) (pos 8))

-- MOVING DATA

-- 40 copy, 41 copys, 42 copyb (L1 S1): S1 = L1, in the width of the row
unfoldable pub copy : FlatState → Instruction → Result (FlatState × Effect) Fault
copy f i = settled f i.sp i.row.width i.dest (L1 i) >>= λ g. Ok (going_to g i.next, Went)

-- ARRAY DATA

-- 48 aload (L1 L2 S1): S1 = the word L2 of the array at L1
unfoldable pub aload : FlatState → Instruction → Result (FlatState × Effect) Fault
aload f i = loads f i 4 (element i 4)

-- 49 aloads (L1 L2 S1): S1 = the half word L2 of the array at L1
unfoldable pub aloads : FlatState → Instruction → Result (FlatState × Effect) Fault
aloads f i = loads f i 2 (element i 2)

-- 4A aloadb (L1 L2 S1): S1 = the byte L2 of the array at L1
unfoldable pub aloadb : FlatState → Instruction → Result (FlatState × Effect) Fault
aloadb f i = loads f i 1 (element i 1)

-- 4B aloadbit (L1 L2 S1): S1 = the bit L2 of the array at L1
unfoldable pub aloadbit : FlatState → Instruction → Result (FlatState × Effect) Fault
aloadbit f i = number_in 1 f.memory (byte_of_bit i) >>= λ byte. stores f i (byte / 2 ^ bit_in_byte i % 2)

-- 4C astore (L1 L2 L3): the word L2 of the array at L1 = L3
unfoldable pub astore : FlatState → Instruction → Result (FlatState × Effect) Fault
astore f i = puts f i 4 (element i 4) (L3 i)

-- 4D astores (L1 L2 L3): the half word L2 of the array at L1 = the low 16 bits of L3
unfoldable pub astores : FlatState → Instruction → Result (FlatState × Effect) Fault
astores f i = puts f i 2 (element i 2) (L3 i)

-- 4E astoreb (L1 L2 L3): the byte L2 of the array at L1 = the low 8 bits of L3
unfoldable pub astoreb : FlatState → Instruction → Result (FlatState × Effect) Fault
astoreb f i = puts f i 1 (element i 1) (L3 i)

-- 4F astorebit (L1 L2 L3): the bit L2 of the array at L1 = 0 if L3 = 0, else 1
unfoldable pub astorebit : FlatState → Instruction → Result (FlatState × Effect) Fault
astorebit f i = let bit = 2 ^ bit_in_byte i in number_in 1 f.memory (byte_of_bit i) >>= λ byte.
    puts f i 1 (byte_of_bit i) (if L3 i == 0 then bit_and byte (0xFFFFFFFF - bit) else bit_or byte bit)

-- THE ROW OF AN INSTRUCTION

unfoldable pub memory : FlatState → Instruction → Result (FlatState × Effect) Fault
memory f i =
    if i.row.number == numbers.aload then aload f i else
    if i.row.number == numbers.aloads then aloads f i else
    if i.row.number == numbers.aloadb then aloadb f i else
    if i.row.number == numbers.aloadbit then aloadbit f i else
    if i.row.number == numbers.astore then astore f i else
    if i.row.number == numbers.astores then astores f i else
    if i.row.number == numbers.astoreb then astoreb f i else
    if i.row.number == numbers.astorebit then astorebit f i else
    if i.row.number == numbers.getmemsize then getmemsize f i else
    if i.row.number == numbers.setmemsize then setmemsize f i else
    if i.row.number == numbers.linearsearch then linearsearch f i else
    if i.row.number == numbers.binarysearch then binarysearch f i else
    if i.row.number == numbers.linkedsearch then linkedsearch f i else
    if i.row.number == numbers.mzero then mzero f i else
    if i.row.number == numbers.mcopy then mcopy f i else
    if i.row.number == numbers.malloc then malloc f i else
    if i.row.number == numbers.mfree then mfree f i else Err BadOpcode

abbrev pub row_effect : Class → FlatState → Instruction → Result (FlatState × Effect) Fault
row_effect class.Copy f i = copy f i
row_effect class.Memory f i = memory f i
row_effect c f i = Err BadOpcode
