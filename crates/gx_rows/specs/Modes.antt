-- The addressing modes of operands, and which operands are loaded (Glulx 3.1.2, "Instruction Format").
use Rattle.std.specs.Prelude.{ℕ, ◌==◌, nat_lt, if◌then◌else◌, Option, Some, None}
use Rattle.gx_words.specs.Numbers.{IsWidth}
use Rattle.gx_rows.specs.declared.instructions.Row.{Row}
use Rattle.gx_rows.specs.declared.modes.Addressing.{Addressing}
use Rattle.gx_rows.specs.declared.modes.Addressing.TheVariants.{Zero, Constant, Memory, Top, Local, Ram}
use Rattle.gx_rows.specs.declared.modes.Kind.{Kind}
use Rattle.gx_rows.specs.declared.modes.Kind.TheVariants.{Load, Store}

-- the nibbles
abbrev pub constant_zero : ℕ
constant_zero = 0x0

abbrev pub constant_byte : ℕ
constant_byte = 0x1

abbrev pub constant_short : ℕ
constant_short = 0x2

abbrev pub constant_word : ℕ
constant_word = 0x3

abbrev pub address_byte : ℕ
address_byte = 0x5

abbrev pub address_short : ℕ
address_short = 0x6

abbrev pub address_word : ℕ
address_word = 0x7

abbrev pub stack_top : ℕ
stack_top = 0x8

abbrev pub local_byte : ℕ
local_byte = 0x9

abbrev pub local_short : ℕ
local_short = 0xA

abbrev pub local_word : ℕ
local_word = 0xB

abbrev pub ram_byte : ℕ
ram_byte = 0xD

abbrev pub ram_short : ℕ
ram_short = 0xE

abbrev pub ram_word : ℕ
ram_word = 0xF

-- the addressing mode of a nibble; two nibbles have no meaning
unfoldable pub addressing : ℕ → Option Addressing
addressing nibble =
    if nibble == constant_zero then Some Zero else
    if nibble == constant_byte then Some (Constant 1) else
    if nibble == constant_short then Some (Constant 2) else
    if nibble == constant_word then Some (Constant 4) else
    if nibble == address_byte then Some (Memory 1) else
    if nibble == address_short then Some (Memory 2) else
    if nibble == address_word then Some (Memory 4) else
    if nibble == stack_top then Some Top else
    if nibble == local_byte then Some (Local 1) else
    if nibble == local_short then Some (Local 2) else
    if nibble == local_word then Some (Local 4) else
    if nibble == ram_byte then Some (Ram 1) else
    if nibble == ram_short then Some (Ram 2) else
    if nibble == ram_word then Some (Ram 4) else None

-- the data of an operand is 1, 2 or 4 bytes, if it has any
abbrev pub HasWidth : Addressing → Type 0
HasWidth (Constant n) = IsWidth n
HasWidth (Memory n) = IsWidth n
HasWidth (Local n) = IsWidth n
HasWidth (Ram n) = IsWidth n
HasWidth mode = Unit {0}

-- the loads of a row stand before its stores, but for one whose store stands first
abbrev pub kind_of : Row → ℕ → Kind
kind_of row i = if row.store_first then (if nat_lt i row.stores then Store else Load)
    else (if nat_lt i row.loads then Load else Store)
