-- The arguments that an instruction pops (Glulx 3.1.2, "Functions", "Output").
use Rattle.std.specs.Prelude.{ℕ, zero, suc, ◌-◌, ◌/◌, nat_lt, min, if◌then◌else◌, List, [], ◌∷◌, Result, Ok, Err}
use Rattle.gx_words.specs.declared.faults.Fault.{Fault}
use Rattle.gx_words.specs.declared.faults.Fault.TheVariants.{Underflow}
use Rattle.gx_words.specs.Numbers.{word}
use Rattle.gx_state.specs.Flat.{FlatState, frame_of}

-- so many values below a stack pointer, the topmost first
unfoldable pub values_below : List ℕ → ℕ → ℕ → List ℕ
values_below stack sp zero = []
values_below stack sp (suc n) = word stack (sp - 4) ∷ values_below stack (sp - 4) n

-- how many values the frame has below a stack pointer
abbrev pub values_to : FlatState → ℕ → ℕ
values_to f sp = (sp - (frame_of f).values) / 4

-- Of so many arguments below a stack pointer, the first topmost, at most the first `most`; the frame
-- has to have all of them.
unfoldable pub arguments : FlatState → ℕ → ℕ → ℕ → Result (List ℕ) Fault
arguments f sp count most =
    if nat_lt (values_to f sp) count then Err Underflow else Ok (values_below f.stack.bytes sp (min count most))
