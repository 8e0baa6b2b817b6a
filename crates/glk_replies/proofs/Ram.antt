-- What is written lies in RAM where the looks found no fault.
use Rattle.std.proofs.Common.{◌≡◌, ◌≤◌, ◌+◌, ◌-◌, ◌*◌, ◌==◌, ◌||◌, if◌then◌else◌, ℕ, true}
use Rattle.std.proofs.Common.{false, List, [], ◌∷◌, ◌++◌, append_assoc, length, take, refl, sym, subst, ◌∙◌, inl, inr}
use Rattle.std.proofs.Common.{arith}
use Rattle.std.proofs.Common.{Ok}
use Rattle.std.proofs.lemmas.Grind.{common_steps}
use Rattle.std.proofs.lemmas.Bool.Decides.{nat_tests}
use Rattle.std.proofs.lemmas.List.{append-nil, length-append}
use Rattle.gx_state.specs.Flat.{FlatState, write_fault}
use Rattle.gx_state.specs.Replies.{AreBetween, AreInRam, IsReply}
use Rattle.gx_state.specs.declared.effects.Reply.{Reply}
use Rattle.glk_streams.specs.declared.kinds.Places.{Places}
use Rattle.glk_replies.specs.Constants.{on_stack}
use Rattle.glk_replies.specs.Parts.{IsCharWidth, chars_bytes, can_lay, char_writes, can_give, writes_for, can_give_each}
use Rattle.glk_replies.specs.Parts.{pushes_for, pushes_for_each, writes_for_each, can_push, replies}
use Rattle.glk_replies.proofs.Laying.{char_bytes}

pub between_append : (low high : ℕ) (ws vs : List (ℕ × List ℕ)) → AreBetween low high ws → AreBetween low high vs
    → AreBetween low high (ws ++ vs)
between_append low high [] vs first second = second
between_append low high (w ∷ ws) vs first second = (first.0, between_append low high ws vs first.1 second)

char_length : (width c : ℕ) → IsCharWidth width → length (char_bytes width c) ≡ width
char_length width c (inl one) = subst (λ w. length (char_bytes w c) ≡ w) (sym one) refl
char_length width c (inr four) = subst (λ w. length (char_bytes w c) ≡ w) (sym four) refl

pub chars_length : (width : ℕ) (cs : List ℕ) → IsCharWidth width → length (chars_bytes width cs) ≡ width * length cs
unfolding chars_bytes
chars_length width [] is = omega arith
chars_length width (c ∷ cs) is =
    omega (
      arith,
      length-append (char_bytes width c) (chars_bytes width cs),
      char_length width c is,
      chars_length width cs is,
    )

-- a write that has no fault
writable : (f : FlatState) (at count : ℕ) → write_fault f at count ≡ Ok tt
    → (f.story.header.ramstart ≤ at) × (at + count ≤ length f.memory)
writable f at count ok = (grind (arith, common_steps, nat_tests), grind (arith, common_steps, nat_tests))

-- characters in their places
pub laid_in_ram : (f : FlatState) (p : Places) (cs : List ℕ) → IsCharWidth p.width → p.count ≤ length cs
    → can_lay f p ≡ Ok tt → AreInRam f (char_writes p cs)
unfolding can_lay
laid_in_ram f p cs width few ok =
    elim (p.count == 0) as (λ none. p.count == 0 ≡ none → AreInRam f
    (if none then [] else (p.at, chars_bytes p.width (take p.count cs)) ∷ [])) [
      | true ↦ λ same. tt
      | false ↦ λ same.
          let there = writable f p.at (p.width * p.count) (grind (arith, common_steps, nat_tests)) in
          let size = chars_length p.width (take p.count cs) width in
          let taken : length (take p.count cs) ≡ p.count = grind (arith, common_steps) in
          (λ some. (there.0, rw (size, taken) there.1), tt)
    ] refl

-- words given to a reference
pub written_in_ram : (f : FlatState) (at : ℕ) (words : List ℕ) → can_give f at (length words) ≡ Ok tt
    → AreInRam f (writes_for at words)
unfolding can_give
written_in_ram f at words ok =
    elim (at == 0 || at == on_stack) as
    (λ none. (at == 0 || at == on_stack) ≡ none
    → AreInRam f (if none then [] else (at, chars_bytes 4 words) ∷ [])) [
      | true ↦ λ same. tt
      | false ↦ λ same.
          let there = writable f at (4 * length words) (grind (arith, common_steps, nat_tests)) in
          let size = chars_length 4 words (inr refl) in
          (λ some. (there.0, rw size there.1), tt)
    ] refl

-- ---- the reply that gives words to a reference

pushes_are : (at : ℕ) (words : List ℕ) → (if at == on_stack then length words else 0) ≡ length (pushes_for at words)
pushes_are at words = elim (at == on_stack) as
    (λ b. (if b then length words else 0) ≡ length (if b then words else [])) [ true ↦ refl | false ↦ refl ]

pushes_fit : (room pushes : ℕ) → can_push room pushes ≡ Ok tt → pushes ≤ room
unfolding can_push
pushes_fit room pushes is = grind (arith, common_steps, nat_tests)

pub given_fits : (f : FlatState) (room value at pushes : ℕ) (words : List ℕ) (before reply : Reply)
    → can_give f at (length words) ≡ Ok tt → pushes ≡ (if at == on_stack then length words else 0)
    → can_push room pushes ≡ Ok tt → before ≡ replies value
    → reply ≡ record before {
      pushes = before.pushes ++ pushes_for at words;
      writes = before.writes ++ writes_for at words;
    }
    → IsReply f room reply
given_fits f room value at pushes words before reply there are fits is same =
    let few : pushes ≡ length (pushes_for at words) = are ∙ pushes_are at words in
    rw (same, is) record {
      writes = written_in_ram f at words there;
      pushes = rw (← few) (pushes_fit room pushes fits);
    }

pub each_in_ram : (f : FlatState) (ats words : List ℕ) → can_give_each f ats ≡ Ok tt
    → AreInRam f (writes_for_each ats words)
unfolding can_give_each writes_for_each
each_in_ram f [] words ok = tt
each_in_ram f (at ∷ ats) [] ok = tt
each_in_ram f (at ∷ ats) (word ∷ words) ok =
    between_append _ _ (writes_for at (word ∷ [])) (writes_for_each ats words)
    (written_in_ram f at (word ∷ []) (grind (arith, common_steps)))
    (each_in_ram f ats words (grind (arith, common_steps)))

pub each_fits : (f : FlatState) (room value pushes : ℕ) (ats words : List ℕ) (before reply : Reply)
    → can_give_each f ats ≡ Ok tt → pushes ≡ length (pushes_for_each ats words) → can_push room pushes ≡ Ok tt
    → before ≡ replies value → reply ≡ record before {
      pushes = before.pushes ++ pushes_for_each ats words;
      writes = before.writes ++ writes_for_each ats words;
    } → IsReply f room reply
each_fits f room value pushes ats words before reply there are fits is same = rw (same, is) record {
  writes = each_in_ram f ats words there;
  pushes = rw (← are) (pushes_fit room pushes fits);
}

pub ruleset adding_rules = (append_assoc, append-nil)
