-- What every node of 16 chunks has, since its chunks have it.
use Rattle.std.proofs.Common.{◌≡◌, ℕ, ◌*◌, ◌%◌, ◌<◌, List, [], ◌∷◌, ◌++◌, length, sym, refl, ap, subst, ◌∙◌, arith}
use Rattle.std.proofs.Common.{length-append}
use Rattle.std.proofs.Math.Nat.{mul-suc, mul-zero, mul_comm}
use Rattle.std.specs.List.{AllZip}
use Rattle.std.specs.declared.rc.Rc.{Rc}
use Rattle.gx_pages.specs.Chunks.{AllWhole, AreSixteen, flat}

-- its size is that of whole pages, and isn't 0
pub sixteen_pages : (n : ℕ) → n % 256 ≡ 0 → 16 * n % 256 ≡ 0
sixteen_pages n whole = omega arith

pub sixteen_some : (n : ℕ) → 0 < n → 0 < 16 * n
sixteen_some n some = omega arith

module _ {C Z : Type 0} (P : C → Type 0) where
  pub clones_whole : (ps qs : List (Rc C Z)) → AllZip (λ x y. y.value ≡ x.value) ps qs → AllWhole P ps → AllWhole P qs
  clones_whole [] [] z w = tt
  clones_whole [] (q ∷ qs) z w = absurd z
  clones_whole (p ∷ ps) [] z w = tt
  clones_whole (p ∷ ps) (q ∷ qs) z w = (subst P (sym z.0) w.0, clones_whole ps qs z.1 w.1)

  pub sixteen_cloned : (ps qs : List (Rc C Z)) → AllZip (λ x y. y.value ≡ x.value) ps qs × (length qs ≡ 16)
      → AreSixteen P ps → AreSixteen P qs
  sixteen_cloned ps qs z w = record { whole = clones_whole ps qs z.0 w.whole; count = z.1 }

module _ {C Z : Type 0} (b : C → List ℕ) where
  pub clones_flat : (ps qs : List (Rc C Z)) → AllZip (λ x y. y.value ≡ x.value) ps qs → flat b qs ≡ flat b ps
  clones_flat [] [] z = refl
  clones_flat [] (q ∷ qs) z = absurd z
  clones_flat (p ∷ ps) [] z = absurd z
  clones_flat (p ∷ ps) (q ∷ qs) z = ap (λ v. b q.value ++ v) (clones_flat ps qs z.1) ∙ ap (λ v. b v ++ flat b ps) z.0

module _ {C Z : Type 0} (b : C → List ℕ) (P : C → Type 0) (n : ℕ) (s : (x : C) → P x → length (b x) ≡ n) where
  pub length-flat : (ps : List (Rc C Z)) → AllWhole P ps → length (flat b ps) ≡ n * length ps
  length-flat [] w = sym (mul-zero n)
  length-flat (p ∷ ps) w = omega (
    arith,
    length-append (b p.value) (flat b ps),
    s p.value w.0,
    length-flat ps w.1,
    mul-suc n (length ps),
  )

  pub length-sixteen : (ps : List (Rc C Z)) → AreSixteen P ps → length (flat b ps) ≡ 16 * n
  length-sixteen ps w = length-flat ps w.whole ∙ ap (λ (k : ℕ). n * k) w.count ∙ mul_comm n 16
