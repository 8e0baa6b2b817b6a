-- The call stubs of strings and numbers (Glulx 3.1.2, "Call Stubs" and "Calling and Returning During Output
-- Filtering"): what is pushed before an inner string is begun or a function is called in the midst of
-- printing, and what follows once the stub on top is popped at an end.
use Rattle.std.specs.Prelude.{◌==◌, if◌then◌else◌, Bool, List, [], ◌∷◌, Result, Ok, Err}
use Rattle.gx_words.specs.declared.faults.Fault.{Fault}
use Rattle.gx_words.specs.declared.faults.Fault.TheVariants.{BadFrame}
use Rattle.gx_words.specs.declared.strings.Printing.{Printing}
use Rattle.gx_words.specs.declared.strings.PrintKind.TheVariants.{E0, E1, E2, Number}
use Rattle.gx_words.specs.Results.{◌>>=◌}
use Rattle.gx_stack.specs.Constants.{resume_compressed, resume_code, resume_number, resume_c_string, resume_unicode}
use Rattle.gx_stack.specs.declared.stubs.Stub.{Stub}
use Rattle.gx_state.specs.declared.modes.Mode.TheVariants as mode
use Rattle.gx_state.specs.Flat.{FlatState}
use Rattle.gx_state.specs.Returns.{popped_stub, printing_on}

-- The stub that resumes a string or number: at a bit of a compressed string, at a digit of a number, at the next
-- character of another string.
unfoldable pub resuming : FlatState → Printing → Stub
resuming f p = elim p.kind [
  | E0 ↦ record { kind = resume_c_string; addr = 0; pc = p.at; fp = f.fp }
  | E1 ↦ record { kind = resume_compressed; addr = p.bit; pc = p.at; fp = f.fp }
  | E2 ↦ record { kind = resume_unicode; addr = 0; pc = p.at; fp = f.fp }
  | Number ↦ record { kind = resume_number; addr = p.bit; pc = p.at; fp = f.fp }
]

-- The stubs that are pushed, the first deepest, before an inner string is begun or a function is called: that which
-- goes back to the code, where it was not pushed before, and that of the place to go on at.
abbrev pub ways_back : FlatState → Bool → Printing → List Stub
ways_back f started back = if started then resuming f back ∷ [] else
    record { kind = resume_code; addr = 0; pc = f.pc; fp = f.fp } ∷ resuming f back ∷ []

-- The end of a string or number that another string's reference began or a stub resumed: the stub on top is popped, and
-- the compressed string around it or the code goes on.
unfoldable pub inner_ended : FlatState → Result FlatState Fault
inner_ended f = do
  r ← popped_stub f
  if r.1.kind == resume_compressed then printing_on r.0 r.1 else
      if r.1.kind == resume_code then Ok (record r.0 { pc = r.1.pc; mode = mode.Running }) else Err BadFrame
