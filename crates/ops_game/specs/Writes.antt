-- Which of these rows write memory or copy the state, and so may want some: no other ever does. (save and restore only
-- ask: the memory that they need is wanted after the step.)
use Rattle.std.specs.Prelude.{◌⊎◌, ◌<◌, ◌==◌, ◌||◌, length, MatchBool}
use Rattle.gx_state.specs.Stores.{IsMemory}
use Rattle.gx_undo.specs.Undo.{FlatUndo}
use Rattle.gx_operands.specs.Instructions.{Instruction}
use Rattle.gx_rows.specs.Numbers as numbers

-- restart and saveundo do, and restoreundo where there is a copy; a row with a result does where that is stored in
-- memory, and getiosys has two
abbrev pub IsWriting : FlatUndo → Instruction → Type 0
IsWriting u i =
    MatchBool (i.row.number == numbers.restart || i.row.number == numbers.saveundo) (Unit {0}) (
    MatchBool (i.row.number == numbers.restoreundo) (IsMemory i.dest ⊎ (0 < length u.copies)) (
    MatchBool (i.row.number == numbers.getiosys) (IsMemory i.dest ⊎ IsMemory i.second) (
    MatchBool (i.row.number == numbers.gestalt || i.row.number == numbers.random || i.row.number == numbers.verify ||
    i.row.number == numbers.hasundo || i.row.number == numbers.getstringtbl) (IsMemory i.dest) ⊥)))
