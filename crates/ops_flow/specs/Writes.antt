-- Which of these rows write memory, and so may want some: no other ever does. A call stores its result when its
-- function returns.
use Rattle.std.specs.Prelude.{ℕ, ◌⊎◌, ◌==◌, nat_lt, MatchBool}
use Rattle.gx_rows.specs.Numbers as numbers
use Rattle.gx_rows.specs.declared.instructions.Class.{Class}
use Rattle.gx_rows.specs.declared.instructions.Class.TheVariants as class
use Rattle.ops_calc.specs.Branches.{test}
use Rattle.gx_state.specs.Flat.{FlatState}
use Rattle.gx_state.specs.Returns.{IsReturnWriting}
use Rattle.gx_state.specs.Stores.{IsMemory}
use Rattle.gx_operands.specs.Instructions.{Instruction, L1, L2, last_load}

-- a branch by an offset does where it returns and the return does
abbrev pub IsBranchWriting : FlatState → ℕ → Type 0
IsBranchWriting f offset = MatchBool (nat_lt offset 2) (IsReturnWriting f f.fp) ⊥

-- return and throw do where the return does; catch stores its token, and branches
abbrev pub IsWriting : Class → FlatState → Instruction → Type 0
IsWriting class.Calc f i = IsMemory i.dest
IsWriting class.Branch f i = MatchBool (test i.row.act (L1 i) (L2 i)) (IsBranchWriting f (last_load i)) ⊥
IsWriting class.Flow f i =
    MatchBool (i.row.number == numbers.return) (IsReturnWriting f f.fp) (
    MatchBool (i.row.number == numbers.catch) (IsMemory i.dest ⊎ IsBranchWriting f (L1 i)) (
    MatchBool (i.row.number == numbers.throw) (IsReturnWriting f (L2 i)) ⊥))
IsWriting class.Stack f i = IsMemory i.dest
IsWriting c f i = ⊥
