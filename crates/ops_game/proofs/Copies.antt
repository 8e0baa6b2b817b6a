-- The newest copy of those that are kept, and a store as a copy's stub makes it.
use Rattle.std.proofs.Common.{◌≡◌, ◌≤◌, ℕ, List, [], ◌∷◌, length, take, drop, slice_get, Some, None, Ok, refl, ap}
use Rattle.std.proofs.Common.{arith}
use Rattle.std.proofs.lemmas.List.{take_all}
use Rattle.std.proofs.lemmas.Bool.Decides.{nat_tests}
use Rattle.gx_state.specs.declared.modes.Dest.{Dest}
use Rattle.gx_state.specs.declared.modes.Dest.TheVariants.{Nowhere, Memory, Local, Push}
use Rattle.gx_state.specs.Flat.{FlatState}
use Rattle.gx_state.specs.Stores.{store_fault}
use Rattle.gx_operands.specs.Stores.{stores}
use Rattle.gx_state.specs.Copies.{Copy, restored_to}
use Rattle.gx_state.specs.Allowed.{HasPlaceFor}
use Rattle.gx_state.specs.declared.effects.Effect.TheVariants.{Went}
use Rattle.gx_operands.specs.Instructions.{Instruction}
use Rattle.ops_game.specs.GameRows.{leaving_copies, restored_from}
use Rattle.gx_undo.specs.Undo.{FlatUndo, with_newest, without_newest}

-- a store that has no fault has a place for its word
pub place_found : (f : FlatState) (sp : ℕ) (d : Dest) → store_fault f 4 d sp ≡ Ok tt → HasPlaceFor f d
unfolding store_fault
place_found f sp Nowhere fits = tt
place_found f sp (Memory at) fits = grind (arith, nat_tests)
place_found f sp (Local at) fits = grind (arith, nat_tests)
place_found f sp Push fits = tt

-- the newest copy, if there is one
left_none : (copies : List Copy) → slice_get copies 0 ≡ None → drop 1 copies ≡ copies
left_none [] none = refl
left_none (c ∷ copies) none = absurd cc

pub none_fit : (u : FlatUndo) → slice_get u.copies 0 ≡ None → without_newest u ≡ u
none_fit u none = ap (λ (copies : List Copy). record u { copies = copies }) (left_none u.copies none)

none_by : (f : FlatState) (u : FlatUndo) (i : Instruction) (copies : List Copy) → slice_get copies 0 ≡ None
    → restored_from f u i copies ≡ leaving_copies u (stores f i 1)
none_by f u i [] none = refl
none_by f u i (c ∷ copies) none = absurd cc

pub restored_none : (f : FlatState) (u : FlatUndo) (i : Instruction) → slice_get u.copies 0 ≡ None
    → restored_from f u i u.copies ≡ leaving_copies u (stores f i 1)
restored_none f u i none = none_by f u i u.copies none

some_by : (f : FlatState) (u : FlatUndo) (i : Instruction) (c : Copy) (copies : List Copy)
    → slice_get copies 0 ≡ Some c → restored_from f u i copies ≡ Ok ((restored_to f c, without_newest u), Went)
some_by f u i c [] some = absurd cc
some_by f u i c (newest ∷ copies) some = let same : newest ≡ c = cc in rw same refl

pub restored_some : (f : FlatState) (u : FlatUndo) (i : Instruction) (c : Copy) → slice_get u.copies 0 ≡ Some c
    → restored_from f u i u.copies ≡ Ok ((restored_to f c, without_newest u), Went)
restored_some f u i c some = some_by f u i c u.copies some

again_by : (n : ℕ) (c : Copy) (copies : List Copy) → length copies ≤ n → slice_get copies 0 ≡ Some c
    → take n (c ∷ drop 1 copies) ≡ copies
again_by n c [] few some = absurd cc
again_by n c (newest ∷ copies) few some = let same : newest ≡ c = cc in rw same (take_all n (c ∷ copies) few)

pub put_again : (u : FlatUndo) (c : Copy) → length u.copies ≤ u.depth → slice_get u.copies 0 ≡ Some c
    → with_newest (without_newest u) c ≡ u
put_again u c few some = ap (λ (copies : List Copy). record u { copies = copies })
    (again_by u.depth c u.copies few some)

pub ruleset copies = (place_found, none_fit, restored_none, restored_some, put_again)
