-- The rows of the classes Calc, Branch, Flow and Stack (Glulx 3.1.2, "Integer Math", "Branches", "Functions",
-- "Continuations", "The Stack"), class by class, each in the order of the numbers.
--
-- An instruction's pops are made in its `sp`, its results are words, and PC becomes `next` where nothing
-- else is said. A fault in any line leaves the state as it is.
use Rattle.std.specs.Prelude.{ℕ, ◌+◌, ◌-◌, ◌*◌, ◌%◌, ◌^◌, ◌==◌, ◌&&◌, ◌||◌, nat_lt, nat_le, if◌then◌else◌, List}
use Rattle.std.specs.Prelude.{[], ◌∷◌, drop, Result, Ok, Err}
use Rattle.std.specs.Option.{ok_or}
use Rattle.gx_words.specs.declared.faults.Fault.{Fault}
use Rattle.gx_words.specs.declared.faults.Fault.TheVariants.{BadOpcode, Divide, Underflow, BadToken}
use Rattle.gx_words.specs.Numbers.{word}
use Rattle.gx_words.specs.Results.{◌>>=◌}
use Rattle.gx_rows.specs.Numbers as numbers
use Rattle.gx_rows.specs.declared.instructions.Class.{Class}
use Rattle.gx_rows.specs.declared.instructions.Class.TheVariants as class
use Rattle.ops_calc.specs.Arithmetic.{calc, signed}
use Rattle.ops_calc.specs.Branches.{test}
use Rattle.gx_state.specs.declared.effects.Effect.{Effect}
use Rattle.gx_state.specs.declared.effects.Effect.TheVariants.{Went, Quit}
use Rattle.gx_state.specs.Flat.{FlatState, cut, swapped, rolled, copied}
use Rattle.gx_state.specs.Entry.{entered}
use Rattle.gx_state.specs.Returns.{stub_of, pushed_stubs, returned}
use Rattle.gx_state.specs.Stores.{stored}
use Rattle.gx_operands.specs.Arguments.{arguments, values_to}
use Rattle.gx_operands.specs.Instructions.{Instruction, L1, L2, last_load, going_to}
use Rattle.gx_operands.specs.Stores.{stores, goes_to, goes}

-- WHAT ROWS SHARE

-- a return of a value from the present function; PC is at the next instruction, where nothing else takes it
-- away. The return of the start function ends the program.
abbrev pub returns : FlatState → ℕ → ℕ → Result (FlatState × Effect) Fault
returns f next v = returned (going_to f next) f.fp v >>= λ r. Ok (r.0, if r.1 then Quit else Went)

-- a branch by an offset: those of 0 and 1 return this value from the present function
abbrev pub branches : FlatState → ℕ → ℕ → Result (FlatState × Effect) Fault
branches f next offset = if nat_lt offset 2 then returns f next offset else goes_to f ((next + (offset - 2)) % 2 ^ 32)

-- a call of L1 with arguments, whose result goes to S1
abbrev pub calls : FlatState → Instruction → ℕ → List ℕ → Result (FlatState × Effect) Fault
calls f i sp args = entered f sp (stub_of f i.dest i.next ∷ []) (L1 i) args >>= λ g. Ok (g, Went)

-- INTEGER MATH, AND THE SIGN EXTENSIONS

-- 10 add, 11 sub, 12 mul, 13 div, 14 mod, 18 bitand, 19 bitor, 1A bitxor, 1C shiftl, 1D sshiftr, 1E ushiftr
-- (L1 L2 S1), 15 neg, 1B bitnot, 44 sexs, 45 sexb (L1 S1): S1 is what ops_calc's definition of that name
-- makes of L1 and L2
unfoldable pub computes : FlatState → Instruction → Result (FlatState × Effect) Fault
computes f i = ok_or (calc i.row.act (L1 i) (L2 i)) Divide >>= λ v. stores f i v

-- BRANCHES

-- 20 jump (L1), 22 jz, 23 jnz (L1 L2), 24 jeq, 25 jne, 26 jlt, 27 jge, 28 jgt, 29 jle, 2A jltu, 2B jgeu,
-- 2C jgtu, 2D jleu (L1 L2 L3): a branch by the last operand where ops_calc's test of that name holds of L1 and L2
unfoldable pub jumps : FlatState → Instruction → Result (FlatState × Effect) Fault
jumps f i = if test i.row.act (L1 i) (L2 i) then branches (cut f i.sp) i.next (last_load i) else goes f i

-- FUNCTIONS AND CONTINUATIONS

-- 30 call (L1 L2 S1): pops L2 arguments, the first topmost, and calls L1. No more than 256 are told apart,
-- since more than 255 are a fault of the entry.
unfoldable pub call : FlatState → Instruction → Result (FlatState × Effect) Fault
call f i = arguments f i.sp (L2 i) 256 >>= λ args. calls f i (i.sp - 4 * L2 i) args

-- 32 catch (S1 L1): pushes the stub of S1; S1 = the stack pointer above it, which is the token; then
-- branches by L1
unfoldable pub catch : FlatState → Instruction → Result (FlatState × Effect) Fault
catch f i = do
  g ← pushed_stubs (cut f i.sp) (stub_of f i.dest i.next ∷ [])
  h ← stored g 4 i.dest (i.sp + 16)
  branches h i.next (L1 i)

-- 33 throw (L1 L2): the stack is cut to the token L2, and L1 is returned to the stub there, with PC at the next
-- instruction; a token is the end of a stub on the stack
unfoldable pub throw : FlatState → Instruction → Result (FlatState × Effect) Fault
throw f i = if nat_le 16 (L2 i) && nat_le (L2 i) i.sp && L2 i % 4 == 0
    then (returned (going_to f i.next) (L2 i) (L1 i) >>= λ r. Ok (r.0, Went)) else Err BadToken

-- 34 tailcall (L1 L2): pops L2 arguments, and calls L1 in place of the present function
unfoldable pub tailcall : FlatState → Instruction → Result (FlatState × Effect) Fault
tailcall f i = arguments f i.sp (L2 i) 256 >>= λ args. entered f f.fp [] (L1 i) args >>= λ g. Ok (g, Went)

-- 160 callf (L1 S1), 161 callfi (L1 L2 S1), 162 callfii (L1 L2 L3 S1), 163 callfiii (L1 L2 L3 L4 S1): calls L1
-- with the other operands as arguments
unfoldable pub callf : FlatState → Instruction → Result (FlatState × Effect) Fault
callf f i = calls f i i.sp (drop 1 i.loads)

-- THE STACK

-- 50 stkcount (S1): S1 = how many values the frame has
unfoldable pub stkcount : FlatState → Instruction → Result (FlatState × Effect) Fault
stkcount f i = stores f i (values_to f i.sp)

-- 51 stkpeek (L1 S1): S1 = the value L1 from the top, which is number 0
unfoldable pub stkpeek : FlatState → Instruction → Result (FlatState × Effect) Fault
stkpeek f i =
    if nat_lt (L1 i) (values_to f i.sp) then stores f i (word f.stack.bytes (i.sp - 4 * (L1 i + 1))) else Err Underflow

-- 52 stkswap: exchanges the top two values
unfoldable pub stkswap : FlatState → Instruction → Result (FlatState × Effect) Fault
stkswap f i = swapped (cut f i.sp) >>= λ g. goes_to g i.next

-- 53 stkroll (L1 L2): moves the top L1 values up by L2 places, cyclically, or down where L2 is negative
unfoldable pub stkroll : FlatState → Instruction → Result (FlatState × Effect) Fault
stkroll f i = rolled (cut f i.sp) (L1 i) (signed (L2 i)) >>= λ g. goes_to g i.next

-- 54 stkcopy (L1): pushes the top L1 values again
unfoldable pub stkcopy : FlatState → Instruction → Result (FlatState × Effect) Fault
stkcopy f i = copied (cut f i.sp) (L1 i) >>= λ g. goes_to g i.next

-- THE ROW OF AN INSTRUCTION

-- Beside those above: 00 nop; 31 return (L1): returns L1; 104 jumpabs (L1): PC = L1.
unfoldable pub flow : FlatState → Instruction → Result (FlatState × Effect) Fault
flow f i =
    if i.row.number == numbers.nop then goes f i else
    if i.row.number == numbers.call then call f i else
    if i.row.number == numbers.return then returns f i.next (L1 i) else
    if i.row.number == numbers.catch then catch f i else
    if i.row.number == numbers.throw then throw f i else
    if i.row.number == numbers.tailcall then tailcall f i else
    if i.row.number == numbers.jumpabs then goes_to (cut f i.sp) (L1 i) else
    if i.row.number == numbers.callf || i.row.number == numbers.callfi || i.row.number == numbers.callfii ||
    i.row.number == numbers.callfiii then callf f i else Err BadOpcode

unfoldable pub stack : FlatState → Instruction → Result (FlatState × Effect) Fault
stack f i =
    if i.row.number == numbers.stkcount then stkcount f i else
    if i.row.number == numbers.stkpeek then stkpeek f i else
    if i.row.number == numbers.stkswap then stkswap f i else
    if i.row.number == numbers.stkroll then stkroll f i else
    if i.row.number == numbers.stkcopy then stkcopy f i else Err BadOpcode

abbrev pub row_effect : Class → FlatState → Instruction → Result (FlatState × Effect) Fault
row_effect class.Calc f i = computes f i
row_effect class.Branch f i = jumps f i
row_effect class.Flow f i = flow f i
row_effect class.Stack f i = stack f i
row_effect c f i = Err BadOpcode
