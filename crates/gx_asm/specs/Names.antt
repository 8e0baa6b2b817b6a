-- The names of the instructions, in the order of their table (Glulx 3.1.2, "Dictionary of Opcodes"), each behind the
-- number of its instruction.
use Rattle.std.specs.Prelude.{ℕ, nat_lt, if◌then◌else◌, List, [], ◌∷◌, map, codes, get_or, Option, Some, None}
use Rattle.std.specs.List.{position_or_len}
use Rattle.std.specs.Str.{bytes_eq}
use Rattle.gx_rows.specs.Numbers as numbers
use Rattle.gx_rows.specs.Table.{row_count}

unfoldable pub instruction_names : List (ℕ × List ℕ)
instruction_names =
    -- No operation
    (numbers.nop, codes "nop") ∷
    -- Integer math
    (numbers.add, codes "add") ∷
    (numbers.sub, codes "sub") ∷
    (numbers.mul, codes "mul") ∷
    (numbers.div, codes "div") ∷
    (numbers.mod_, codes "mod") ∷
    (numbers.neg, codes "neg") ∷
    (numbers.bitand, codes "bitand") ∷
    (numbers.bitor, codes "bitor") ∷
    (numbers.bitxor, codes "bitxor") ∷
    (numbers.bitnot, codes "bitnot") ∷
    (numbers.shiftl, codes "shiftl") ∷
    (numbers.sshiftr, codes "sshiftr") ∷
    (numbers.ushiftr, codes "ushiftr") ∷
    -- Branches
    (numbers.jump, codes "jump") ∷
    (numbers.jz, codes "jz") ∷
    (numbers.jnz, codes "jnz") ∷
    (numbers.jeq, codes "jeq") ∷
    (numbers.jne, codes "jne") ∷
    (numbers.jlt, codes "jlt") ∷
    (numbers.jge, codes "jge") ∷
    (numbers.jgt, codes "jgt") ∷
    (numbers.jle, codes "jle") ∷
    (numbers.jltu, codes "jltu") ∷
    (numbers.jgeu, codes "jgeu") ∷
    (numbers.jgtu, codes "jgtu") ∷
    (numbers.jleu, codes "jleu") ∷
    -- Functions and continuations
    (numbers.call, codes "call") ∷
    (numbers.return, codes "return") ∷
    (numbers.catch, codes "catch") ∷
    (numbers.throw, codes "throw") ∷
    (numbers.tailcall, codes "tailcall") ∷
    -- Moving data
    (numbers.copy, codes "copy") ∷
    (numbers.copys, codes "copys") ∷
    (numbers.copyb, codes "copyb") ∷
    (numbers.sexs, codes "sexs") ∷
    (numbers.sexb, codes "sexb") ∷
    -- Array data
    (numbers.aload, codes "aload") ∷
    (numbers.aloads, codes "aloads") ∷
    (numbers.aloadb, codes "aloadb") ∷
    (numbers.aloadbit, codes "aloadbit") ∷
    (numbers.astore, codes "astore") ∷
    (numbers.astores, codes "astores") ∷
    (numbers.astoreb, codes "astoreb") ∷
    (numbers.astorebit, codes "astorebit") ∷
    -- The stack
    (numbers.stkcount, codes "stkcount") ∷
    (numbers.stkpeek, codes "stkpeek") ∷
    (numbers.stkswap, codes "stkswap") ∷
    (numbers.stkroll, codes "stkroll") ∷
    (numbers.stkcopy, codes "stkcopy") ∷
    -- Output
    (numbers.streamchar, codes "streamchar") ∷
    (numbers.streamnum, codes "streamnum") ∷
    (numbers.streamstr, codes "streamstr") ∷
    (numbers.streamunichar, codes "streamunichar") ∷
    -- Miscellaneous, the memory map
    (numbers.gestalt, codes "gestalt") ∷
    (numbers.debugtrap, codes "debugtrap") ∷
    (numbers.getmemsize, codes "getmemsize") ∷
    (numbers.setmemsize, codes "setmemsize") ∷
    (numbers.jumpabs, codes "jumpabs") ∷
    -- Random numbers
    (numbers.random, codes "random") ∷
    (numbers.setrandom, codes "setrandom") ∷
    -- Game state
    (numbers.quit, codes "quit") ∷
    (numbers.verify, codes "verify") ∷
    (numbers.restart, codes "restart") ∷
    (numbers.save, codes "save") ∷
    (numbers.restore, codes "restore") ∷
    (numbers.saveundo, codes "saveundo") ∷
    (numbers.restoreundo, codes "restoreundo") ∷
    (numbers.protect, codes "protect") ∷
    (numbers.hasundo, codes "hasundo") ∷
    (numbers.discardundo, codes "discardundo") ∷
    -- Glk
    (numbers.glk, codes "glk") ∷
    -- String decoding table, iosystem
    (numbers.getstringtbl, codes "getstringtbl") ∷
    (numbers.setstringtbl, codes "setstringtbl") ∷
    (numbers.getiosys, codes "getiosys") ∷
    (numbers.setiosys, codes "setiosys") ∷
    -- Searching
    (numbers.linearsearch, codes "linearsearch") ∷
    (numbers.binarysearch, codes "binarysearch") ∷
    (numbers.linkedsearch, codes "linkedsearch") ∷
    -- Functions
    (numbers.callf, codes "callf") ∷
    (numbers.callfi, codes "callfi") ∷
    (numbers.callfii, codes "callfii") ∷
    (numbers.callfiii, codes "callfiii") ∷
    -- Block copy and clear
    (numbers.mzero, codes "mzero") ∷
    (numbers.mcopy, codes "mcopy") ∷
    -- Memory allocation heap
    (numbers.malloc, codes "malloc") ∷
    (numbers.mfree, codes "mfree") ∷
    -- Accelerated functions
    (numbers.accelfunc, codes "accelfunc") ∷
    (numbers.accelparam, codes "accelparam") ∷
    []

-- the names alone
abbrev pub names : List (List ℕ)
names = map (λ entry. entry.1) instruction_names

-- the name of the instruction at a place of the table
abbrev pub name_at : ℕ → List ℕ
name_at place = get_or names place []

-- the place of the instruction that has a name
abbrev pub first_named : List ℕ → ℕ
first_named name = position_or_len (λ known. bytes_eq known name) names

unfoldable pub place_named : List ℕ → Option ℕ
place_named name = if nat_lt (first_named name) row_count then Some (first_named name) else None
