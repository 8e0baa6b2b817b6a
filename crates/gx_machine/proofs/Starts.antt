-- An instruction that begins to print, drops a character, or calls the filter with one.
use Rattle.std.proofs.Common.{◌≡◌, ◌≤◌, ◌+◌, ◌%◌, ℕ, suc, Bool, true, false, [], ◌∷◌, length, Some, None, Ok, Result}
use Rattle.std.proofs.Common.{refl, ap, subst, sym, ◌∙◌}
use Rattle.gx_words.specs.declared.faults.Fault.{Fault}
use Rattle.gx_words.specs.declared.strings.Printing.{Printing}
use Rattle.gx_words.specs.declared.strings.PrintKind.TheVariants.{Number}
use Rattle.gx_words.specs.Results.{◌>>=◌}
use Rattle.gx_words.specs.Numbers.{byte}
use Rattle.gx_rows.specs.declared.instructions.Class.{Class}
use Rattle.gx_rows.specs.declared.instructions.Class.TheVariants as class
use Rattle.gx_rows.specs.Numbers as numbers
use Rattle.gx_rows.specs.Table.{table, row_of}
use Rattle.gx_strings.specs.Objects.{string_at}
use Rattle.gx_state.specs.declared.effects.Effect.TheVariants.{Went}
use Rattle.gx_state.specs.declared.modes.Dest.TheVariants.{Nowhere}
use Rattle.gx_state.specs.declared.modes.Mode.TheVariants.{Running}
use Rattle.gx_state.specs.Flat.{FlatState}
use Rattle.gx_operands.specs.declared.cursor.Cursor.{Cursor}
use Rattle.gx_operands.specs.Instructions.{Instruction, opcode, load}
use Rattle.gx_undo.specs.Undo.{FlatUndo}
use Rattle.ops_memory.specs.Costs.{probes_of}
use Rattle.ops_print.specs.PrintRows.{streamchar, streamunichar, streamnum, streamstr}
use Rattle.ops_print.specs.PrintRows as print
use Rattle.gx_machine.specs.Quick.{Tries, read_as, operands_read}
use Rattle.gx_machine.specs.Advancing.{Passes}
use Rattle.gx_machine.specs.Machine.{Whole}
use Rattle.gx_machine.specs.WaysBack.{HasWaysBack}
use Rattle.gx_machine.specs.Starts.{IsStarted, begun_on, streamed_on}
use Rattle.gx_machine.specs.MachineRows.{row_effect, with_copies}
use Rattle.gx_machine.specs.Step.{mode_step, probes_in, stepped}
use Rattle.gx_machine.proofs.Costs.{probes_by}
use Rattle.gx_machine.proofs.Passing.{joined}
use Rattle.gx_machine.proofs.Streams.{streaming, char_row, unichar_row, read_row}

number_row : row_of numbers.streamnum ≡ Some (streaming numbers.streamnum)
unfolding row_of table
number_row = refl

string_row : row_of numbers.streamstr ≡ Some (streaming numbers.streamstr)
unfolding row_of table
string_row = refl

pub started_number : (f g : FlatState) (modes first a : ℕ) (p : Cursor) → opcode f ≡ Ok (numbers.streamnum, modes)
    → modes + 1 ≤ length f.memory → first ≡ byte f.memory modes
    → load f 4 (first % 16) (record { at = modes + 1; popped = 0 }) ≡ Ok (a, p)
    → g ≡ begun_on f (record { kind = Number; at = a; bit = 0; started = false }) p → IsStarted f g
unfolding streamnum
started_number f g modes first a p read there is one begun = record {
  i = read_as f (streaming numbers.streamnum) (operands_read (a ∷ []) Nowhere false p);
  reads = read_row f numbers.streamnum modes first a p number_row read there is one;
  prints = refl;
  goes = rw begun refl;
}

pub started_string : (f g : FlatState) (modes first a : ℕ) (p : Cursor) (string : Printing)
    → opcode f ≡ Ok (numbers.streamstr, modes)
    → modes + 1 ≤ length f.memory → first ≡ byte f.memory modes
    → load f 4 (first % 16) (record { at = modes + 1; popped = 0 }) ≡ Ok (a, p)
    → string_at f.memory a ≡ Ok string → g ≡ begun_on f string p → IsStarted f g
unfolding streamstr
started_string f g modes first a p string read there is one stands begun = record {
  i = read_as f (streaming numbers.streamstr) (operands_read (a ∷ []) Nowhere false p);
  reads = read_row f numbers.streamstr modes first a p string_row read there is one;
  prints = refl;
  goes = rw (stands, begun) refl;
}

pub streamed_char : (f g : FlatState) (modes first a : ℕ) (p : Cursor) → opcode f ≡ Ok (numbers.streamchar, modes)
    → modes + 1 ≤ length f.memory → first ≡ byte f.memory modes
    → load f 4 (first % 16) (record { at = modes + 1; popped = 0 }) ≡ Ok (a, p)
    → streamed_on f (a % 256) p ≡ Ok (g, Went) → IsStarted f g
unfolding streamchar
streamed_char f g modes first a p read there is one goes = record {
  i = read_as f (streaming numbers.streamchar) (operands_read (a ∷ []) Nowhere false p);
  reads = read_row f numbers.streamchar modes first a p char_row read there is one;
  prints = refl;
  goes = goes;
}

pub streamed_unichar : (f g : FlatState) (modes first a : ℕ) (p : Cursor) → opcode f ≡ Ok (numbers.streamunichar, modes)
    → modes + 1 ≤ length f.memory → first ≡ byte f.memory modes
    → load f 4 (first % 16) (record { at = modes + 1; popped = 0 }) ≡ Ok (a, p)
    → streamed_on f a p ≡ Ok (g, Went) → IsStarted f g
unfolding streamunichar
streamed_unichar f g modes first a p read there is one goes = record {
  i = read_as f (streaming numbers.streamunichar) (operands_read (a ∷ []) Nowhere false p);
  reads = read_row f numbers.streamunichar modes first a p unichar_row read there is one;
  prints = refl;
  goes = goes;
}

pub ruleset starts = (started_number, started_string, streamed_char, streamed_unichar)

-- ---- its step

effect_by : (c : Class) (u : FlatUndo) (f g : FlatState) (word : ℕ) (i : Instruction) → c ≡ class.Print
    → print.row_effect f i ≡ Ok (g, Went)
    → row_effect c (record { flat = f; undo = u }) word i ≡ Ok (record { flat = g; undo = u }, Went)
effect_by c u f g word i is goes =
    ap (λ (d : Class). row_effect d (record { flat = f; undo = u }) word i) is ∙ ap (with_copies u) goes

pub started_steps : (f g : FlatState) → IsStarted f g → (u : FlatUndo) (word : ℕ)
    → mode_step (record { flat = f; undo = u }) word Running ≡ Ok (record { flat = g; undo = u }, Went)
started_steps f g s u word =
    ap (λ (r : Result Instruction Fault). r
    >>= (λ (i : Instruction). row_effect i.row.class (record { flat = f; undo = u }) word i)) s.reads
    ∙ effect_by s.i.row.class u f g word s.i s.prints s.goes

pub started_probes : (f g : FlatState) → IsStarted f g → probes_in f Running ≡ 0
started_probes f g s = ap (probes_by f) s.reads ∙ ap (λ (d : Class). probes_of d f s.i) s.prints

-- ---- steps after steps

then_tried : (word n : ℕ) (a b c : Whole × ℕ) (r : Bool) → Passes word n a None b None → HasWaysBack b.0.machine
    → Tries {S = Whole × ℕ} ⊥ (Ok r) b c (stepped b.0 word b.1) → (k : ℕ) × Passes word k a None c None
then_tried word n a b c true first backs then = (suc n, (b, None, first, then, refl, backs))
then_tried word n a b c false first backs same = (n, subst (λ (x : Whole × ℕ). Passes word n a None x None) (sym same) first)

pub no_passes : (w : Whole) (budget : ℕ) → (word : ℕ) → (n : ℕ) × Passes word n (w, budget) None (w, budget) None
no_passes w budget word = (0, (refl, refl))

pub tried_alone : (a b : Whole × ℕ) (r : Bool) → HasWaysBack a.0.machine
    → ((word : ℕ) → Tries {S = Whole × ℕ} ⊥ (Ok r) a b (stepped a.0 word a.1)) → (word : ℕ)
    → (n : ℕ) × Passes word n a None b None
tried_alone a b r backs tries word = then_tried word 0 a a b r (refl, refl) backs (tries word)

pub tried_then : (a b c : Whole × ℕ) (r : Bool) → HasWaysBack a.0.machine
    → ((word : ℕ) → Tries {S = Whole × ℕ} ⊥ (Ok r) a b (stepped a.0 word a.1))
    → ((word : ℕ) → (n : ℕ) × Passes word n b None c None)
    → (word : ℕ) → (n : ℕ) × Passes word n a None c None
tried_then a b c r backs tries passes word =
    let one = tried_alone a b r backs tries word in
    let more = passes word in
    joined word one.0 more.0 a b c None None None one.1 more.1

pub ruleset printed = (tried_then, tried_alone)
