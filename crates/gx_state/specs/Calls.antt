-- What calls of the state make of it that no step of the machine is said by.
use Rattle.std.specs.Prelude.{ℕ, List, Result, Ok, Option, Some, None}
use Rattle.gx_words.specs.declared.faults.Fault.{Fault}
use Rattle.gx_stack.specs.Faults.{lifted}
use Rattle.gx_stack.specs.Calls as calls
use Rattle.gx_state.specs.Flat.{FlatState, frame_of}
use Rattle.gx_words.specs.Numbers.{bytes_of_word, spliced}
use Rattle.gx_words.specs.Results.{◌>>=◌}

-- a value pushed
unfoldable pub pushed : FlatState → ℕ → Result FlatState Fault
pushed f v = do
  s ← lifted (calls.pushed f.stack v)
  Ok (record f { stack = s })

-- values pushed, the first deepest
unfoldable pub pushed_all : FlatState → List ℕ → Result FlatState Fault
pushed_all f vs = do
  s ← lifted (calls.pushed_all f.stack vs)
  Ok (record f { stack = s })

-- the low bytes of a number put into a local of the frame
unfoldable pub with_local : FlatState → ℕ → ℕ → ℕ → Result FlatState Fault
with_local f at width v = do
  s ← lifted (calls.with_local f.stack (frame_of f) at width v)
  Ok (record f { stack = s })

-- memory with a word written, where there is one
abbrev pub wrote : List ℕ → Option (ℕ × ℕ) → List ℕ
wrote memory None = memory
wrote memory (Some w) = spliced memory w.0 (bytes_of_word w.1)

abbrev pub with_word : FlatState → Option (ℕ × ℕ) → FlatState
with_word f w = record f { memory = wrote f.memory w }
