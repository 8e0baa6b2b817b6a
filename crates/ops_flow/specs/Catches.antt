-- The stub of a catch, and what is left of one that returns.
use Rattle.std.specs.Prelude.{ℕ, ◌++◌, take, Option, Some, None}
use Rattle.gx_stack.specs.Stubs.{stub_bytes}
use Rattle.gx_state.specs.declared.modes.Dest.{Dest}
use Rattle.gx_state.specs.declared.modes.Dest.TheVariants.{Nowhere, Memory, Local, Push}
use Rattle.gx_state.specs.Flat.{FlatState}
use Rattle.gx_state.specs.Returns.{stub_of}
use Rattle.gx_operands.specs.Instructions.{Instruction}

-- the stack with the stub of a catch on top
unfoldable pub with_stub : FlatState → Instruction → FlatState
with_stub f i =
    record f { stack = record f.stack { bytes = take i.sp f.stack.bytes ++ stub_bytes (stub_of f i.dest i.next) } }

-- the word of a catch that outlasts a return from its function
abbrev pub lasting : Dest → ℕ → Option (ℕ × ℕ)
lasting Nowhere token = None
lasting (Memory at) token = Some (at, token)
lasting (Local at) token = None
lasting Push token = None
