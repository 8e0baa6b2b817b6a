-- A character that the instruction at PC prints under Glk.
use Rattle.std.proofs.Common.{◌≡◌, ◌≤◌, ◌+◌, ◌*◌, ◌-◌, ◌%◌, ℕ, false, [], ◌∷◌, length, Some, Ok, Result, refl, ap}
use Rattle.std.proofs.Common.{subst, sym, ◌∙◌}
use Rattle.gx_words.specs.declared.faults.Fault.{Fault}
use Rattle.gx_words.specs.Constants.{glk_system}
use Rattle.gx_words.specs.Results.{◌>>=◌}
use Rattle.gx_words.specs.Numbers.{byte}
use Rattle.gx_rows.specs.declared.instructions.Class.{Class}
use Rattle.gx_rows.specs.declared.instructions.Class.TheVariants as class
use Rattle.gx_rows.specs.declared.instructions.Row.{Row}
use Rattle.gx_rows.specs.Numbers as numbers
use Rattle.gx_rows.specs.Table.{table, row_of}
use Rattle.gx_state.specs.declared.effects.Effect.TheVariants.{Put}
use Rattle.gx_state.specs.declared.modes.Dest.TheVariants.{Nowhere}
use Rattle.gx_state.specs.declared.modes.Mode.TheVariants.{Running}
use Rattle.gx_state.specs.Flat.{FlatState, IsHeight, sp_of}
use Rattle.gx_operands.specs.declared.cursor.Cursor.{Cursor}
use Rattle.gx_operands.specs.Instructions.{Operands, Instruction, opcode, instruction, load}
use Rattle.gx_undo.specs.Undo.{FlatUndo}
use Rattle.ops_memory.specs.Costs.{probes_of}
use Rattle.ops_print.specs.PrintRows.{streamchar, streamunichar}
use Rattle.ops_print.specs.PrintRows as print
use Rattle.gx_machine.specs.declared.askings.Asking.TheVariants as asking
use Rattle.gx_machine.specs.Quick.{IsStreamed, read_as, operands_read}
use Rattle.gx_machine.specs.MachineRows.{row_effect, with_copies}
use Rattle.gx_machine.specs.Step.{mode_step, probes_in}
use Rattle.gx_machine.proofs.Costs.{probes_by}
use Rattle.gx_machine.specs.Views.{IsPendingAnswer}
use Rattle.gx_machine.proofs.Answers.{print_pends}
use Rattle.gx_machine.proofs.Reading.{one_read}
use Rattle.gx_machine.proofs.Tries.{instruction_is}

-- the rows of the two instructions
abbrev pub streaming : ℕ → Row
streaming number = record {
  number = number;
  loads = 1;
  stores = 0;
  store_first = false;
  width = 4;
  class = class.Print;
  act = number % 256;
}

pub char_row : row_of numbers.streamchar ≡ Some (streaming numbers.streamchar)
unfolding row_of table
char_row = refl

pub unichar_row : row_of numbers.streamunichar ≡ Some (streaming numbers.streamunichar)
unfolding row_of table
unichar_row = refl

pub read_row : (f : FlatState) (number modes first a : ℕ) (p : Cursor) → row_of number ≡ Some (streaming number)
    → opcode f ≡ Ok (number, modes)
    → modes + 1 ≤ length f.memory → first ≡ byte f.memory modes
    → load f 4 (first % 16) (record { at = modes + 1; popped = 0 }) ≡ Ok (a, p)
    → instruction f ≡ Ok (read_as f (streaming number) (operands_read (a ∷ []) Nowhere false p))
read_row f number modes first a p row read there is one =
    instruction_is f number modes (streaming number) read (rw row refl)
    ∙ ap (λ (r : Result Operands Fault). r >>= (λ (o : Operands). Ok (read_as f (streaming number) o)))
    (one_read f (streaming number) modes first a p (record { width = refl; in_order = refl }) refl refl there is one)

pub streamed_char : (f : FlatState) (modes first a : ℕ) (p : Cursor) → f.iosys.0 ≡ glk_system
    → opcode f ≡ Ok (numbers.streamchar, modes)
    → modes + 1 ≤ length f.memory → first ≡ byte f.memory modes
    → load f 4 (first % 16) (record { at = modes + 1; popped = 0 }) ≡ Ok (a, p)
    → IsStreamed f (a % 256) (sp_of f - 4 * p.popped) p.at
unfolding streamchar
streamed_char f modes first a p glk read there is one = record {
  i = read_as f (streaming numbers.streamchar) (operands_read (a ∷ []) Nowhere false p);
  reads = read_row f numbers.streamchar modes first a p char_row read there is one;
  prints = refl;
  pops = refl;
  goes = refl;
  puts = rw glk refl;
}

pub streamed_unichar : (f : FlatState) (modes first a : ℕ) (p : Cursor) → f.iosys.0 ≡ glk_system
    → opcode f ≡ Ok (numbers.streamunichar, modes)
    → modes + 1 ≤ length f.memory → first ≡ byte f.memory modes
    → load f 4 (first % 16) (record { at = modes + 1; popped = 0 }) ≡ Ok (a, p)
    → IsStreamed f a (sp_of f - 4 * p.popped) p.at
unfolding streamunichar
streamed_unichar f modes first a p glk read there is one = record {
  i = read_as f (streaming numbers.streamunichar) (operands_read (a ∷ []) Nowhere false p);
  reads = read_row f numbers.streamunichar modes first a p unichar_row read there is one;
  prints = refl;
  pops = refl;
  goes = refl;
  puts = rw glk refl;
}

pub ruleset streams = (streamed_char, streamed_unichar)

-- ---- its step

effect_by : (c : Class) (u : FlatUndo) (f : FlatState) (word n : ℕ) (i : Instruction) → c ≡ class.Print
    → print.row_effect f i ≡ Ok (f, Put n)
    → row_effect c (record { flat = f; undo = u }) word i ≡ Ok (record { flat = f; undo = u }, Put n)
effect_by c u f word n i is puts =
    ap (λ (d : Class). row_effect d (record { flat = f; undo = u }) word i) is ∙ ap (with_copies u) puts

pub streamed_steps : (f : FlatState) (c sp next : ℕ) → IsStreamed f c sp next → (u : FlatUndo) (word : ℕ)
    → mode_step (record { flat = f; undo = u }) word Running ≡ Ok (record { flat = f; undo = u }, Put c)
streamed_steps f c sp next s u word =
    ap (λ (r : Result Instruction Fault). r
    >>= (λ (i : Instruction). row_effect i.row.class (record { flat = f; undo = u }) word i)) s.reads
    ∙ effect_by s.i.row.class u f word c s.i s.prints s.puts

pub streamed_probes : (f : FlatState) (c sp next : ℕ) → IsStreamed f c sp next → probes_in f Running ≡ 0
streamed_probes f c sp next s = ap (probes_by f) s.reads ∙ ap (λ (d : Class). probes_of d f s.i) s.prints

pub streamed_pends : (f : FlatState) (c sp next : ℕ) → f.mode ≡ Running → IsStreamed f c sp next → IsHeight f sp
    → sp_of f ≤ f.stack.limit
    → IsPendingAnswer f (record { asking = asking.Put; sp = sp; dest = Nowhere; next = next; mode = Running })
streamed_pends f c sp next running s height fits =
    subst (λ (n : ℕ). IsPendingAnswer f (record {
      asking = asking.Put;
      sp = n;
      dest = Nowhere;
      next = next;
      mode = Running;
    })) s.pops
    (subst (λ (n : ℕ). IsPendingAnswer f (record {
      asking = asking.Put;
      sp = s.i.sp;
      dest = Nowhere;
      next = n;
      mode = Running;
    })) s.goes
    (print_pends f f s.i refl running s.reads s.prints (subst (IsHeight f) (sym s.pops) height) fits))

pub ruleset steps = (streamed_steps, streamed_probes)
