-- What the quick way does of two rows is their definition.
use Rattle.std.proofs.Common.{◌≡◌, ◌+◌, ◌/◌, ◌%◌, ◌^◌, ℕ, Bool, [], ◌∷◌, length, Result, Ok, pos, unsigned_abs}
use Rattle.std.specs.Int.{w32, cast_signed, cast_unsigned, int_div_euclid, int_rem_euclid}
use Rattle.gx_words.specs.declared.faults.Fault.{Fault}
use Rattle.gx_pages.specs.Memory.{number_in}
use Rattle.gx_rows.specs.declared.instructions.Class.TheVariants as class
use Rattle.gx_rows.specs.declared.instructions.Row.{Row}
use Rattle.gx_rows.specs.Numbers as numbers
use Rattle.gx_state.specs.declared.modes.Dest.{Dest}
use Rattle.gx_state.specs.Flat.{FlatState}
use Rattle.gx_state.specs.Stores.{IsMemory}
use Rattle.gx_operands.specs.declared.cursor.Cursor.{Cursor}
use Rattle.ops_memory.specs.MemoryRows.{memory, aloadbit}
use Rattle.ops_memory.specs.Space.{getmemsize}
use Rattle.gx_machine.specs.Quick.{Tries, IsReadWriting, read_effect, stored_on}

-- getmemsize
pub size_stored : (f g : FlatState) (row : Row) (d : Dest) (p : Cursor) (size : ℕ) (r : Result Bool Fault)
    → row.class ≡ class.Memory → row.number ≡ numbers.getmemsize
    → size ≡ length f.memory → Tries {S = FlatState} (IsMemory d) r f g (stored_on f 4 d size p)
    → Tries {S = FlatState} (IsReadWriting f row [] d p) r f g (read_effect f row [] d p)
unfolding memory getmemsize
size_stored f g row d p size r class number is t = rw (class, number, ← is) t

-- aloadbit
pub bit_stored : (f g : FlatState) (row : Row) (a b byte v : ℕ) (d : Dest) (p : Cursor) (r : Result Bool Fault)
    → row.class ≡ class.Memory → row.number ≡ numbers.aloadbit
    → number_in 1 f.memory ((a + cast_unsigned w32 (int_div_euclid (cast_signed w32 b) (pos 8))) % 2 ^ 32) ≡ Ok byte
    → v ≡ byte / 2 ^ unsigned_abs (int_rem_euclid (cast_signed w32 b) (pos 8)) % 2
    → Tries {S = FlatState} (IsMemory d) r f g (stored_on f 4 d v p)
    → Tries {S = FlatState} (IsReadWriting f row (a ∷ b ∷ []) d p) r f g (read_effect f row (a ∷ b ∷ []) d p)
unfolding memory aloadbit
bit_stored f g row a b byte v d p r class number read is t = rw (class, number, read, ← is) t
