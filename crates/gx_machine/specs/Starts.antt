-- Steps of printing that the quick way makes: what begins to print, drops a character, or calls the filter with one.
-- Which steps these are is no part of what a step does.
use Rattle.std.specs.Prelude.{◌≡◌, ℕ, ◌==◌, ◌&&◌, nat_le, if◌then◌else◌, Bool, true, false, [], ◌∷◌, Result, Ok, Err}
use Rattle.gx_words.specs.declared.faults.Fault.{Fault}
use Rattle.gx_words.specs.Constants.{filter_system, glk_system}
use Rattle.gx_words.specs.declared.strings.Printing.{Printing}
use Rattle.gx_pages.specs.Memory.{number_in}
use Rattle.gx_rows.specs.declared.instructions.Class.TheVariants as class
use Rattle.gx_rows.specs.Numbers.{streamchar, streamunichar}
use Rattle.gx_state.specs.declared.effects.Effect.{Effect}
use Rattle.gx_state.specs.declared.effects.Effect.TheVariants.{Went, Put}
use Rattle.gx_state.specs.declared.modes.Dest.TheVariants.{Nowhere}
use Rattle.gx_state.specs.declared.modes.Mode.{Mode}
use Rattle.gx_state.specs.declared.modes.Mode.TheVariants as mode
use Rattle.gx_state.specs.Flat.{FlatState, cut}
use Rattle.gx_operands.specs.declared.cursor.Cursor.{Cursor}
use Rattle.gx_operands.specs.Instructions.{Instruction, going_to, instruction}
use Rattle.gx_machine.specs.Quick.{sp_after, called_on, jumped_on}
use Rattle.ops_print.specs.PrintRows as print

-- the instruction at PC prints, and the machine goes on
pub record IsStarted (f g : FlatState) : Type 0 where
  pub i : Instruction
  pub reads : instruction f ≡ Ok i
  pub prints : i.row.class ≡ class.Print
  pub goes : print.row_effect f i ≡ Ok (g, Went)

-- a string or number is printed from now on, once the pops are made
abbrev pub begun_on : FlatState → Printing → Cursor → FlatState
begun_on f printing p = record (going_to (cut f (sp_after f p)) p.at) { mode = mode.Printing printing }

-- a character that code prints, under each I/O system, once the pops are made
abbrev pub streamed_on : FlatState → ℕ → Cursor → Result (FlatState × Effect) Fault
streamed_on f c p =
    if f.iosys.0 == filter_system then called_on f f.iosys.1 (c ∷ []) Nowhere p else
    if f.iosys.0 == glk_system then Ok (f, Put c) else
    jumped_on f p.at p

-- whether the first byte of an instruction is the number of one that prints
abbrev pub prints_at : Result ℕ Fault → Bool
prints_at (Ok number) = nat_le streamchar number && nat_le number streamunichar
prints_at (Err fault) = false

-- whether the next step may be one of printing
abbrev pub prints_next : FlatState → Mode → Bool
prints_next f mode.Running = prints_at (number_in 1 f.memory f.pc)
prints_next f (mode.Printing p) = true
