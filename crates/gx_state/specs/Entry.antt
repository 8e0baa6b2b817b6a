-- Entry of a function (Glulx 3.1.2, "Call Frames" and "Functions"), and the state in which a story starts.
--
-- The faults of an entry are looked for in this order: room for the stubs, the function's type, the
-- count of arguments, its locals format, room for the frame.
use Rattle.std.specs.Prelude.{ℕ, zero, suc, ◌+◌, ◌-◌, ◌*◌, ◌==◌, ◌||◌, nat_lt, if◌then◌else◌, List, [], ◌∷◌, ◌++◌}
use Rattle.std.specs.Prelude.{length, take, replicate, reverse, Result, Ok, Err}
use Rattle.std.specs.List.{flat_map}
use Rattle.gx_words.specs.declared.faults.Fault.{Fault}
use Rattle.gx_words.specs.declared.faults.Fault.TheVariants.{BadFunction, Overflow}
use Rattle.gx_words.specs.Constants.{stack_function, locals_function}
use Rattle.gx_words.specs.Numbers.{bytes_of_word}
use Rattle.gx_words.specs.Results.{◌>>=◌}
use Rattle.gx_pages.specs.Memory.{number_in}
use Rattle.gx_stack.specs.declared.stubs.Stub.{Stub}
use Rattle.gx_stack.specs.Formats.{frame, frame_len}
use Rattle.gx_stack.specs.Stubs.{stub_bytes}
use Rattle.heap_blocks.specs.Heap.{inactive}
use Rattle.ops_calc.specs.declared.random.Generator.TheVariants.{Outside}
use Rattle.gx_story.specs.Stories.{FlatStory}
use Rattle.gx_state.specs.declared.modes.Mode.TheVariants.{Running}
use Rattle.gx_state.specs.Flat.{FlatState}

-- the type of a function
unfoldable pub kind_at : List ℕ → ℕ → Result ℕ Fault
kind_at memory at = do
  kind ← number_in 1 memory at
  if kind == stack_function || kind == locals_function then Ok kind else Err BadFunction

-- The locals format from an address on, with at most so many pairs of a type and a count before its ending pair,
-- whose type is 0. Of each pair in turn its bytes have to be in memory, then its type has to be right.
unfoldable pub format_from : List ℕ → ℕ → ℕ → Result (List ℕ) Fault
format_from memory at zero = do
  t ← number_in 1 memory at
  n ← number_in 1 memory (at + 1)
  if t == 0 then Ok (0 ∷ n ∷ []) else Err BadFunction
format_from memory at (suc left) = do
  t ← number_in 1 memory at
  n ← number_in 1 memory (at + 1)
  if t == 0 then Ok (0 ∷ n ∷ []) else if t == 1 || t == 2 || t == 4
      then (format_from memory (at + 2) left >>= λ rest. Ok (t ∷ n ∷ rest)) else Err BadFunction

-- what an entry pushes: a function of type C0 has its arguments on the stack and their count on top,
-- one of type C1 has them in its locals
abbrev pub entry_bytes : ℕ → List ℕ → List ℕ → List ℕ
entry_bytes kind format args = if kind == stack_function
    then frame format [] ++ flat_map bytes_of_word (reverse args) ++ bytes_of_word (length args) else frame format args

abbrev pub entry_size : ℕ → List ℕ → ℕ → ℕ
entry_size kind format count = if kind == stack_function then frame_len format + 4 * (count + 1) else frame_len format

-- What an entry with so many arguments reads of the function at an address: its type and its locals format. Its
-- frame, at a place on the stack, has to fit below a limit. A format has at most 64 pairs, which the standard leaves
-- open.
unfoldable pub function_at : List ℕ → ℕ → ℕ → ℕ → ℕ → Result (ℕ × List ℕ) Fault
function_at memory at count fp limit = do
  kind ← kind_at memory at
  if nat_lt 255 count then Err BadFunction else (do
    format ← format_from memory (at + 1) 64
    if nat_lt limit (fp + entry_size kind format count) then Err Overflow else Ok (kind, format))

-- The stack is cut, stubs are pushed, and the function at an address is entered with arguments.
unfoldable pub entered : FlatState → ℕ → List Stub → ℕ → List ℕ → Result FlatState Fault
entered f sp stubs at args =
    let fp = sp + 16 * length stubs in
    if nat_lt f.stack.limit fp then Err Overflow else
    function_at f.memory at (length args) fp f.stack.limit >>= λ function.
    let bytes = (take sp f.stack.bytes ++ flat_map stub_bytes stubs) ++ entry_bytes function.0 function.1 args in
    Ok (record f { stack = record f.stack { bytes = bytes }; fp = fp; pc = at + 1 + length function.1 })

-- the state before the start function is entered: the stored part and zeros up to ENDMEM
abbrev pub initial : FlatStory → FlatState
initial story = record {
  memory = story.bytes ++ replicate (story.header.endmem - length story.bytes) 0;
  stack = record { bytes = []; limit = story.header.stack_size };
  fp = 0;
  pc = 0;
  table = story.header.table;
  iosys = (0, 0);
  protected = (0, 0);
  heap = inactive;
  generator = Outside;
  mode = Running;
  story = story;
}

-- The state in which a story starts: its start function is entered without arguments.
unfoldable pub started : FlatStory → Result FlatState Fault
started story = entered (initial story) 0 [] story.header.start_function []

-- WHAT CONTRACTS SAY

-- a format behind pairs that were read of it
abbrev pub behind : List ℕ → Result (List ℕ) Fault → Result (List ℕ) Fault
behind pairs (Ok rest) = Ok (pairs ++ rest)
behind pairs (Err fault) = Err fault
