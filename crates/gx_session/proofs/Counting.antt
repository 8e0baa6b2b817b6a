-- The failures of a device over some calls.
use Rattle.std.proofs.Common.{◌≡◌, ◌≤◌, ◌⊎◌, inl, inr, Bool, true, false, refl, ap, ◌∙◌, arith}
use Rattle.gx_outside.specs.Outside.{HasCause, raised_by}
use Rattle.gx_outside.specs.declared.calls.Calls.{Calls}
use Rattle.gx_session.specs.Counts.{Blames}

-- no call was made
pub blames-none : (before now : Calls) (failed : Type 0) → now ≡ before → (failed → ⊥) → Blames before now failed
blames-none before now failed same fine =
    let faults : now.faults ≡ before.faults = ap (λ (c : Calls). c.faults) same in
    record {
      later = omega arith;
      rose = λ f. absurd (fine f);
      last = λ f. absurd (fine f);
      kept = λ _. faults;
      well = λ _. inl same;
    }

-- one call was made
pub blames-call : (before now : Calls) (b wanted : Bool) (failed : Type 0) → HasCause before now b wanted
    → (failed → b ≡ true) → ((failed → ⊥) → b ≡ false) → Blames before now failed
blames-call before now b wanted failed c then-failed else-fine = record {
  later = c.later;
  rose = λ f. c.rose (then-failed f);
  last = λ f. c.last ∙ then-failed f;
  kept = λ f. c.kept (else-fine f);
  well = λ f. inr (c.last ∙ else-fine f);
}

-- one thing that failed is another
pub blames-same : (before now : Calls) (one other : Type 0) → Blames before now one → (one → other) → (other → one)
    → Blames before now other
blames-same before now one other b to from = record {
  later = b.later;
  rose = λ f. b.rose (from f);
  last = λ f. b.last (from f);
  kept = λ f. b.kept (λ x. f (to x));
  well = λ f. b.well (λ x. f (to x));
}

-- None of the calls failed.
pub record IsWell (before now : Calls) : Type 0 where
  pub kept : now.faults ≡ before.faults
  pub well : (now ≡ before) ⊎ (now.failing ≡ false)

pub well-none : (before : Calls) → IsWell before before
well-none before = record { kept = refl; well = inl refl }

pub well-of : (before now : Calls) (failed : Type 0) → Blames before now failed → (failed → ⊥) → IsWell before now
well-of before now failed b fine = record { kept = b.kept fine; well = b.well fine }

well-after : (a b c : Calls) → (b ≡ a) ⊎ (b.failing ≡ false) → (c ≡ b) ⊎ (c.failing ≡ false)
    → (c ≡ a) ⊎ (c.failing ≡ false)
well-after a b c (inl e) (inl e') = inl (e' ∙ e)
well-after a b c (inr e) (inl e') = inr (ap (λ (x : Calls). x.failing) e' ∙ e)
well-after a b c first (inr e') = inr e'

-- more calls
pub blames-on : (a b c : Calls) (failed : Type 0) → IsWell a b → Blames b c failed → Blames a c failed
blames-on a b c failed w blames =
    let faults : b.faults ≡ a.faults = w.kept in
    let later : b.faults ≤ c.faults = blames.later in
    record {
      later = omega arith;
      rose = λ f. blames.rose f ∙ ap (raised_by 1) faults;
      last = blames.last;
      kept = λ f. blames.kept f ∙ faults;
      well = λ f. well-after a b c w.well (blames.well f);
    }

pub well-on : (a b c : Calls) (failed : Type 0) → IsWell a b → Blames b c failed → (failed → ⊥) → IsWell a c
well-on a b c failed w blames fine = well-of a c failed (blames-on a b c failed w blames) fine

pub well-and : (a b c : Calls) → IsWell a b → IsWell b c → IsWell a c
well-and a b c one two = record { kept = two.kept ∙ one.kept; well = well-after a b c one.well two.well }

pub blames-well : (before now : Calls) (failed : Type 0) → IsWell before now → (failed → ⊥) → Blames before now failed
blames-well before now failed w fine =
    let faults : now.faults ≡ before.faults = w.kept in
    record {
      later = omega arith;
      rose = λ f. absurd (fine f);
      last = λ f. absurd (fine f);
      kept = λ _. faults;
      well = λ _. w.well;
    }
