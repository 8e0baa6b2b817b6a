-- The rows of the class Game (Glulx 3.1.2, "Miscellaneous", "Random Number Generator", "Game State", "Output" and
-- "Accelerated Functions"), in the order of their numbers.
--
-- An instruction's pops are made in its `sp`, and PC becomes `next` where nothing else is said. A fault in any
-- line leaves the state and the copies as they are. `word` is the random word from outside that a step may use.
use Rattle.std.specs.Prelude.{ℕ, ◌+◌, ◌==◌, ◌||◌, nat_lt, if◌then◌else◌, List, [], ◌∷◌, length, Result, Ok, Err}
use Rattle.gx_words.specs.declared.faults.Fault.{Fault}
use Rattle.gx_words.specs.declared.faults.Fault.TheVariants.{BadOpcode, Overflow, DebugTrap}
use Rattle.gx_words.specs.Constants.{null_system}
use Rattle.gx_words.specs.Results.{◌>>=◌}
use Rattle.gx_rows.specs.Numbers as numbers
use Rattle.gx_rows.specs.Gestalts.{gestalt_of, is_iosystem}
use Rattle.gx_story.specs.Stories.{is_checked}
use Rattle.ops_calc.specs.declared.random.Generator.TheVariants.{Outside, Seeded}
use Rattle.ops_calc.specs.Generator.{pcg32_of, pick, word_from, after_word, is_outside}
use Rattle.gx_state.specs.declared.effects.Effect.{Effect}
use Rattle.gx_state.specs.declared.effects.Effect.TheVariants.{Went, Drew, Save, Restore, Quit}
use Rattle.gx_state.specs.Flat.{FlatState, sp_of, cut}
use Rattle.gx_state.specs.Copies.{Copy, copy_of, restored_to, restarted}
use Rattle.gx_state.specs.Stores.{store_fault, stored}
use Rattle.gx_undo.specs.Undo.{FlatUndo, with_newest, without_newest}
use Rattle.gx_operands.specs.Instructions.{Instruction, L1, L2, going_to}
use Rattle.gx_operands.specs.Stores.{settled, stores, goes}

-- WHAT ROWS SHARE

-- a row of the state alone, with the copies that it leaves
abbrev pub leaving_copies : FlatUndo → Result (FlatState × Effect) Fault
    → Result ((FlatState × FlatUndo) × Effect) Fault
leaving_copies u r = r >>= λ x. Ok ((x.0, u), x.1)

-- MISCELLANEOUS

-- 100 gestalt (L1 L2 S1): S1 = the answer to the selector L1 with argument L2
unfoldable pub gestalt : FlatState → Instruction → Result (FlatState × Effect) Fault
gestalt f i = stores f i (gestalt_of (L1 i) (L2 i) f.heap.start)

-- RANDOM NUMBER GENERATOR

-- the state once what L1 makes of the next word is stored
abbrev pub drawn : FlatState → ℕ → Instruction → Result FlatState Fault
drawn f word i = settled f i.sp 4 i.dest (pick (L1 i) (word_from f.generator word)) >>= λ g.
    Ok (record g { generator = after_word f.generator })

-- 110 random (L1 S1): draws a word; S1 = any word for L1 = 0, one from 0 to L1 - 1 for a positive L1, one from
-- L1 + 1 to 0 for a negative L1. The step says whether the word from outside was drawn.
unfoldable pub random : FlatState → ℕ → Instruction → Result (FlatState × Effect) Fault
random f word i = drawn f word i >>= λ g. Ok (going_to g i.next, if is_outside f.generator then Drew else Went)

-- 111 setrandom (L1): seeds the generator with L1; 0 goes back to the words from outside
unfoldable pub setrandom : FlatState → Instruction → Result (FlatState × Effect) Fault
setrandom f i = goes (record f { generator = if L1 i == 0 then Outside else Seeded (pcg32_of (L1 i)) }) i

-- GAME STATE

-- 120 quit: the program ends
unfoldable pub quit : FlatState → Instruction → Result (FlatState × Effect) Fault
quit f i = Ok (going_to (cut f i.sp) i.next, Quit)

-- 121 verify (S1): S1 = 0 where the story has the checksum that its header states, else 1
unfoldable pub verify : FlatState → Instruction → Result (FlatState × Effect) Fault
verify f i = stores f i (if is_checked f.story then 0 else 1)

-- 122 restart: begins the story anew; the copies stay
unfoldable pub restart : FlatState → Result (FlatState × Effect) Fault
restart f = restarted f >>= λ g. Ok (g, Went)

-- 123 save (L1 S1): asks that the game be saved to the Glk stream L1, with the state standing; the stub of S1, which
-- the save has on top of its stack, needs room; S1 is the answer
unfoldable pub save : FlatState → Instruction → Result (FlatState × Effect) Fault
save f i = if nat_lt f.stack.limit (i.sp + 16) then Err Overflow else
    store_fault f 4 i.dest i.sp >>= λ _. Ok (f, Save (L1 i))

-- 124 restore (L1 S1): asks that the game be restored from the Glk stream L1, with the state standing; S1 is the answer
-- of one that fails
unfoldable pub restore : FlatState → Instruction → Result (FlatState × Effect) Fault
restore f i = store_fault f 4 i.dest i.sp >>= λ _. Ok (f, Restore (L1 i))

-- 125 saveundo (S1): keeps a copy of the state with the stub of S1, which needs room; S1 = 0
unfoldable pub saveundo : FlatState → FlatUndo → Instruction → Result ((FlatState × FlatUndo) × Effect) Fault
saveundo f u i = if nat_lt f.stack.limit (sp_of f + 16) then Err Overflow else
    settled f i.sp 4 i.dest 0 >>= λ g. Ok ((going_to g i.next, with_newest u (copy_of f i.dest i.next)), Went)

abbrev pub restored_from : FlatState → FlatUndo → Instruction → List Copy
    → Result ((FlatState × FlatUndo) × Effect) Fault
restored_from f u i [] = leaving_copies u (stores f i 1)
restored_from f u i (c ∷ older) = Ok ((restored_to f c, without_newest u), Went)

-- 126 restoreundo (S1): goes back to the newest copy, which is dropped, where the store operand of its saveundo
-- gets -1; with no copy S1 = 1
unfoldable pub restoreundo : FlatState → FlatUndo → Instruction → Result ((FlatState × FlatUndo) × Effect) Fault
restoreundo f u i = restored_from f u i u.copies

-- 127 protect (L1 L2): the protected range is the L2 addresses from L1 on
unfoldable pub protect : FlatState → Instruction → Result (FlatState × Effect) Fault
protect f i = goes (record f { protected = (L1 i, L2 i) }) i

-- 128 hasundo (S1): S1 = 0 where a copy is kept, else 1; this instruction isn't of 3.1.2
unfoldable pub hasundo : FlatState → FlatUndo → Instruction → Result (FlatState × Effect) Fault
hasundo f u i = stores f i (if length u.copies == 0 then 1 else 0)

-- 129 discardundo: drops the newest copy; nothing where there is none; this instruction isn't of 3.1.2
unfoldable pub discardundo : FlatState → FlatUndo → Instruction → Result ((FlatState × FlatUndo) × Effect) Fault
discardundo f u i = leaving_copies (without_newest u) (goes f i)

-- OUTPUT

-- 140 getstringtbl (S1): S1 = the address of the string decoding table
unfoldable pub getstringtbl : FlatState → Instruction → Result (FlatState × Effect) Fault
getstringtbl f i = stores f i f.table

-- 141 setstringtbl (L1): the string decoding table is at L1
unfoldable pub setstringtbl : FlatState → Instruction → Result (FlatState × Effect) Fault
setstringtbl f i = goes (record f { table = L1 i }) i

-- the state once both results are stored
abbrev pub both_stored : FlatState → Instruction → Result FlatState Fault
both_stored f i = settled f i.sp 4 i.dest f.iosys.0 >>= λ g. stored g 4 i.second f.iosys.1

-- 148 getiosys (S1 S2): S1 = the I/O system, S2 = its rock
unfoldable pub getiosys : FlatState → Instruction → Result (FlatState × Effect) Fault
getiosys f i = both_stored f i >>= λ g. Ok (going_to g i.next, Went)

-- 149 setiosys (L1 L2): the I/O system is L1 with rock L2; one that isn't there is the null system with rock 0
unfoldable pub setiosys : FlatState → Instruction → Result (FlatState × Effect) Fault
setiosys f i = goes (record f { iosys = if is_iosystem (L1 i) then (L1 i, L2 i) else (null_system, 0) }) i

-- THE ROW OF AN INSTRUCTION

-- Beside the rows above: 101 debugtrap (L1): a fault, since there is no debugger; 180 accelfunc (L1 L2), 181 accelparam
-- (L1 L2): nothing, since no function is accelerated.
unfoldable pub row_effect : FlatState → FlatUndo → ℕ → Instruction → Result ((FlatState × FlatUndo) × Effect) Fault
row_effect f u word i =
    if i.row.number == numbers.gestalt then leaving_copies u (gestalt f i) else
    if i.row.number == numbers.debugtrap then Err DebugTrap else
    if i.row.number == numbers.random then leaving_copies u (random f word i) else
    if i.row.number == numbers.setrandom then leaving_copies u (setrandom f i) else
    if i.row.number == numbers.quit then leaving_copies u (quit f i) else
    if i.row.number == numbers.verify then leaving_copies u (verify f i) else
    if i.row.number == numbers.restart then leaving_copies u (restart f) else
    if i.row.number == numbers.save then leaving_copies u (save f i) else
    if i.row.number == numbers.restore then leaving_copies u (restore f i) else
    if i.row.number == numbers.saveundo then saveundo f u i else
    if i.row.number == numbers.restoreundo then restoreundo f u i else
    if i.row.number == numbers.protect then leaving_copies u (protect f i) else
    if i.row.number == numbers.hasundo then leaving_copies u (hasundo f u i) else
    if i.row.number == numbers.discardundo then discardundo f u i else
    if i.row.number == numbers.getstringtbl then leaving_copies u (getstringtbl f i) else
    if i.row.number == numbers.setstringtbl then leaving_copies u (setstringtbl f i) else
    if i.row.number == numbers.getiosys then leaving_copies u (getiosys f i) else
    if i.row.number == numbers.setiosys then leaving_copies u (setiosys f i) else
    if i.row.number == numbers.accelfunc || i.row.number == numbers.accelparam then leaving_copies u (goes f i) else
    Err BadOpcode
