-- A store in a state with another generator.
use Rattle.std.proofs.Common.{◌≡◌, ℕ, refl}
use Rattle.ops_calc.specs.declared.random.Generator.{Generator}
use Rattle.gx_state.specs.declared.modes.Dest.{Dest}
use Rattle.gx_state.specs.declared.modes.Dest.TheVariants.{Nowhere, Memory, Local, Push}
use Rattle.gx_state.specs.Flat.{FlatState}
use Rattle.gx_state.specs.Stores.{store_fault}
use Rattle.gx_operands.specs.Stores.{with_settled}

abbrev pub with_generator : FlatState → Generator → FlatState
with_generator f x = record f { generator = x }

pub same_fault : (f : FlatState) (x : Generator) (sp : ℕ) (d : Dest)
    → store_fault (with_generator f x) 4 d sp ≡ store_fault f 4 d sp
unfolding store_fault
same_fault f x sp Nowhere = refl
same_fault f x sp (Memory at) = refl
same_fault f x sp (Local at) = refl
same_fault f x sp Push = refl

pub over_settled : (f : FlatState) (x : Generator) (sp v : ℕ) (d : Dest)
    → with_settled (with_generator f x) sp 4 d v ≡ with_generator (with_settled f sp 4 d v) x
over_settled f x sp v Nowhere = refl
over_settled f x sp v (Memory at) = refl
over_settled f x sp v (Local at) = refl
over_settled f x sp v Push = refl

pub ruleset generators = (same_fault, over_settled)
