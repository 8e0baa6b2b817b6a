-- Which of these rows write memory or make it larger, and so may want some: no other ever does.
use Rattle.std.specs.Prelude.{◌⊎◌, ◌<◌, ◌==◌, ◌||◌, length, IsFalse, IsSome, MatchBool}
use Rattle.gx_words.specs.Constants.{ceiling}
use Rattle.gx_rows.specs.Numbers as numbers
use Rattle.gx_rows.specs.declared.instructions.Class.{Class}
use Rattle.gx_rows.specs.declared.instructions.Class.TheVariants as class
use Rattle.heap_blocks.specs.Heap.{block_address}
use Rattle.gx_state.specs.Flat.{FlatState}
use Rattle.gx_state.specs.Stores.{IsMemory}
use Rattle.gx_operands.specs.Instructions.{Instruction, L1}
use Rattle.ops_memory.specs.Space.{is_size_refused}

-- astore, astores, astoreb and astorebit do; mzero and mcopy do unless their count is 0; mfree never does. The others
-- do where their result is stored in memory, setmemsize also where memory becomes larger, and malloc where there is a
-- place for its block.
abbrev pub IsWriting : Class → FlatState → Instruction → Type 0
IsWriting class.Copy f i = IsMemory i.dest
IsWriting class.Memory f i =
    MatchBool (i.row.number == numbers.astore || i.row.number == numbers.astores || i.row.number == numbers.astoreb ||
    i.row.number == numbers.astorebit) (Unit {0}) (
    MatchBool (i.row.number == numbers.setmemsize)
    (IsMemory i.dest ⊎ (IsFalse (is_size_refused f (L1 i)) × (length f.memory < L1 i))) (
    MatchBool (i.row.number == numbers.mzero || i.row.number == numbers.mcopy) (0 < L1 i) (
    MatchBool (i.row.number == numbers.malloc)
    (IsMemory i.dest ⊎ IsSome (block_address f.heap (length f.memory) (L1 i) ceiling)) (
    MatchBool (i.row.number == numbers.mfree) ⊥ (IsMemory i.dest)))))
IsWriting c f i = ⊥
