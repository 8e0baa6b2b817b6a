-- The values below a stack pointer, one after the other.
use Rattle.std.proofs.Common.{◌≡◌, ◌≤◌, ◌<◌, ◌+◌, ◌-◌, ◌*◌, ◌/◌, ℕ, suc, List, [], ◌∷◌, ◌++◌, refl, ap, sym, ◌∙◌}
use Rattle.std.proofs.Common.{arith, append_assoc}
use Rattle.std.proofs.lemmas.List.{append-nil}
use Rattle.gx_words.specs.Numbers.{word}
use Rattle.gx_state.specs.Flat.{FlatState, IsHeight, frame_of}
use Rattle.gx_operands.specs.Arguments.{values_below}

one_value : (stack : List ℕ) (sp count i : ℕ) → i < count → 4 * count ≤ sp
    → values_below stack (sp - 4 * i) (count - i)
    ≡ word stack (sp - 4 * (i + 1)) ∷ values_below stack (sp - 4 * (i + 1)) (count - (i + 1))
unfolding values_below
one_value stack sp count i more there =
    let left : count - i ≡ suc (count - (i + 1)) = omega arith in
    let place : sp - 4 * i - 4 ≡ sp - 4 * (i + 1) = omega arith in
    rw (left, place) refl

pub value_taken : (done stack : List ℕ) (sp count i : ℕ) → i < count → 4 * count ≤ sp
    → (done ++ word stack (sp - 4 * (i + 1)) ∷ []) ++ values_below stack (sp - 4 * (i + 1)) (count - (i + 1))
    ≡ done ++ values_below stack (sp - 4 * i) (count - i)
value_taken done stack sp count i more there =
    append_assoc done _ _ ∙ ap (λ (xs : List ℕ). done ++ xs) (sym (one_value stack sp count i more there))

pub all_taken : (done stack : List ℕ) (sp count i : ℕ) → count ≤ i → done ++ values_below stack sp (count - i) ≡ done
unfolding values_below
all_taken done stack sp count i none = let left : count - i ≡ 0 = omega arith in rw left (append-nil done)

pub ruleset values = (value_taken, all_taken)

-- what the arguments leave is a stack pointer of the frame
pub height_below : (f : FlatState) (sp count : ℕ) → IsHeight f sp → count ≤ (sp - (frame_of f).values) / 4
    → IsHeight f (sp - 4 * count)
height_below f sp count height enough =
    record {
      live = height.live;
      values = omega (arith, height.values, enough);
      there = omega (arith, height.there);
      aligned = omega (arith, height.aligned, height.values, enough);
    }

pub ruleset heights = (height_below)
