-- The instructions (Glulx 3.1.2, "Dictionary of Opcodes"), in rising order of number.
--
-- hasundo and discardundo aren't of 3.1.2: this machine has them beside it.
--
-- A row says the number by its name, how many operands are loaded and stored, and the class. What an instruction does
-- is said by the definitions of its class. The store of catch stands before its load, and the operands of copys and
-- copyb in memory and locals have another width.
use Rattle.std.specs.Prelude.{◌≤◌, ◌==◌, ◌+◌, ◌%◌, ◌&&◌, ◌||◌, ℕ, Bool, true, false, nat_le, nat_lt, List, [], ◌∷◌}
use Rattle.std.specs.Prelude.{Option, Some, None, find, slice_index_or, if◌then◌else◌}
use Rattle.std.specs.List.{list_all, position_or_len}
use Rattle.gx_words.specs.Numbers.{IsWidth}
use Rattle.gx_rows.specs.Numbers as numbers
use Rattle.gx_rows.specs.declared.instructions.Row.{Row}
use Rattle.gx_rows.specs.declared.instructions.Class.{Class}
use Rattle.gx_rows.specs.declared.instructions.Class.TheVariants.{Calc, Branch, Flow, Copy, Memory, Stack, Print, Game}
use Rattle.gx_rows.specs.declared.instructions.Class.TheVariants.{Glk}

-- an instruction with so many loads and, after them, stores, of 4 bytes
abbrev row : ℕ → ℕ → ℕ → Class → Row
row n loads stores class =
    record { number = n; loads = loads; stores = stores; store_first = false; width = 4; class = class; act = n % 256 }

-- how many instructions there are
abbrev pub row_count : ℕ
row_count = 89

unfoldable pub table : List Row
table =
    -- No operation
    row numbers.nop 0 0 Flow ∷
    -- Integer math
    row numbers.add 2 1 Calc ∷ row numbers.sub 2 1 Calc ∷ row numbers.mul 2 1 Calc ∷
    row numbers.div 2 1 Calc ∷ row numbers.mod_ 2 1 Calc ∷ row numbers.neg 1 1 Calc ∷
    row numbers.bitand 2 1 Calc ∷ row numbers.bitor 2 1 Calc ∷
    row numbers.bitxor 2 1 Calc ∷ row numbers.bitnot 1 1 Calc ∷
    row numbers.shiftl 2 1 Calc ∷ row numbers.sshiftr 2 1 Calc ∷ row numbers.ushiftr 2 1 Calc ∷
    -- Branches
    row numbers.jump 1 0 Branch ∷ row numbers.jz 2 0 Branch ∷ row numbers.jnz 2 0 Branch ∷
    row numbers.jeq 3 0 Branch ∷ row numbers.jne 3 0 Branch ∷
    row numbers.jlt 3 0 Branch ∷ row numbers.jge 3 0 Branch ∷ row numbers.jgt 3 0 Branch ∷ row numbers.jle 3 0 Branch ∷
    row numbers.jltu 3 0 Branch ∷ row numbers.jgeu 3 0 Branch ∷
    row numbers.jgtu 3 0 Branch ∷ row numbers.jleu 3 0 Branch ∷
    -- Functions and continuations
    row numbers.call 2 1 Flow ∷ row numbers.return 1 0 Flow ∷
    record (row numbers.catch 1 1 Flow) { store_first = true } ∷
    row numbers.throw 2 0 Flow ∷ row numbers.tailcall 2 0 Flow ∷
    -- Moving data
    row numbers.copy 1 1 Copy ∷
    record (row numbers.copys 1 1 Copy) { width = 2 } ∷ record (row numbers.copyb 1 1 Copy) { width = 1 } ∷
    row numbers.sexs 1 1 Calc ∷ row numbers.sexb 1 1 Calc ∷
    -- Array data
    row numbers.aload 2 1 Memory ∷ row numbers.aloads 2 1 Memory ∷
    row numbers.aloadb 2 1 Memory ∷ row numbers.aloadbit 2 1 Memory ∷
    row numbers.astore 3 0 Memory ∷ row numbers.astores 3 0 Memory ∷
    row numbers.astoreb 3 0 Memory ∷ row numbers.astorebit 3 0 Memory ∷
    -- The stack
    row numbers.stkcount 0 1 Stack ∷ row numbers.stkpeek 1 1 Stack ∷
    row numbers.stkswap 0 0 Stack ∷ row numbers.stkroll 2 0 Stack ∷ row numbers.stkcopy 1 0 Stack ∷
    -- Output
    row numbers.streamchar 1 0 Print ∷ row numbers.streamnum 1 0 Print ∷
    row numbers.streamstr 1 0 Print ∷ row numbers.streamunichar 1 0 Print ∷
    -- Miscellaneous, the memory map
    row numbers.gestalt 2 1 Game ∷ row numbers.debugtrap 1 0 Game ∷
    row numbers.getmemsize 0 1 Memory ∷ row numbers.setmemsize 1 1 Memory ∷ row numbers.jumpabs 1 0 Flow ∷
    -- Random numbers
    row numbers.random 1 1 Game ∷ row numbers.setrandom 1 0 Game ∷
    -- Game state
    row numbers.quit 0 0 Game ∷ row numbers.verify 0 1 Game ∷ row numbers.restart 0 0 Game ∷
    row numbers.save 1 1 Game ∷ row numbers.restore 1 1 Game ∷
    row numbers.saveundo 0 1 Game ∷ row numbers.restoreundo 0 1 Game ∷
    row numbers.protect 2 0 Game ∷ row numbers.hasundo 0 1 Game ∷ row numbers.discardundo 0 0 Game ∷
    -- Glk
    row numbers.glk 2 1 Glk ∷
    -- String decoding table, iosystem
    row numbers.getstringtbl 0 1 Game ∷ row numbers.setstringtbl 1 0 Game ∷
    row numbers.getiosys 0 2 Game ∷ row numbers.setiosys 2 0 Game ∷
    -- Searching
    row numbers.linearsearch 7 1 Memory ∷ row numbers.binarysearch 7 1 Memory ∷ row numbers.linkedsearch 6 1 Memory ∷
    -- Functions
    row numbers.callf 1 1 Flow ∷ row numbers.callfi 2 1 Flow ∷
    row numbers.callfii 3 1 Flow ∷ row numbers.callfiii 4 1 Flow ∷
    -- Block copy and clear
    row numbers.mzero 2 0 Memory ∷ row numbers.mcopy 3 0 Memory ∷
    -- Memory allocation heap
    row numbers.malloc 1 1 Memory ∷ row numbers.mfree 1 0 Memory ∷
    -- Accelerated functions
    row numbers.accelfunc 2 0 Game ∷ row numbers.accelparam 2 0 Game ∷ []

-- the one row of a number
unfoldable pub row_of : ℕ → Option Row
row_of number = find (λ row. row.number == number) table

-- the place of a number's row
unfoldable pub place_of : ℕ → Option ℕ
place_of number = let place = position_or_len (λ row. row.number == number) table in
    if nat_lt place row_count then Some place else None

-- the row at a place of the table
unfoldable pub row_at : ℕ → Row
row_at place = slice_index_or table place (row numbers.nop 0 0 Flow)

-- WHAT CONTRACTS SAY

-- the numbers from one on stand at these places of the table; its length is the place of those that no row has
unfoldable pub are_places : ℕ → List ℕ → Bool
are_places number [] = true
are_places number (place ∷ places) =
    (position_or_len (λ row. row.number == number) table == place) && are_places (number + 1) places

-- no row has a number from this one on
unfoldable pub are_below : ℕ → List Row → Bool
are_below most rows = list_all (λ row. nat_lt row.number most) rows

-- at most eight operands, at most two of them stored, of 1, 2 or 4 bytes
abbrev pub row_fits : Row → Bool
row_fits r = nat_le (r.loads + r.stores) 8 && (nat_le r.stores 2 && (r.width == 1 || r.width == 2 || r.width == 4))

pub record RowFits (r : Row) : Type 0 where
  pub count : r.loads + r.stores ≤ 8
  pub stored : r.stores ≤ 2
  pub width : IsWidth r.width
