-- What is read of the first bytes of memory is what is read of all of it.
use Rattle.std.proofs.Common.{◌≡◌, ◌≤◌, ◌<◌, ◌+◌, ◌==◌, nat_le, if◌then◌else◌, ℕ, zero, suc, Bool, true, false, List}
use Rattle.std.proofs.Common.{[], ◌∷◌, ◌++◌, length, take, drop, get_or, refl, ap, sym, subst, ◌∙◌, inl, inr, arith}
use Rattle.std.proofs.Common.{Result, Ok, Err}
use Rattle.std.proofs.lemmas.Bool.Decides.{nat_tests}
use Rattle.std.proofs.lemmas.List.{get_or_append_left, take-append-drop, length-append}
use Rattle.gx_words.specs.declared.faults.Fault.{Fault}
use Rattle.gx_words.specs.declared.faults.Fault.TheVariants.{BadAddress}
use Rattle.gx_words.specs.Numbers.{IsWidth, number}
use Rattle.gx_words.specs.Results.{◌>>=◌}
use Rattle.gx_pages.specs.Memory.{number_in}
use Rattle.gx_strings.specs.Constants.{branch}
use Rattle.gx_strings.specs.Bits.{bit, bits}
use Rattle.gx_strings.specs.Nodes.{walk}

-- what has a value has the same one in another place
record Keeps (A : Type 0) (r s : Result A Fault) : Type 0 where
  is : (x : A) → r ≡ Ok x → s ≡ Ok x

fault-gives-none : {A : Type 0} (e : Fault) (x : A) → Err e ≡ Ok x → ⊥
fault-gives-none e x same = cc

fails : {A : Type 0} (e : Fault) (s : Result A Fault) → Keeps A (Err e) s
fails e s = record { is = λ x same. absurd (fault-gives-none e x same) }

stays : {A : Type 0} (r : Result A Fault) → Keeps A r r
stays r = record { is = λ x same. same }

either : {A : Type 0} (b : Bool) {x y z w : Result A Fault} → Keeps A x z → Keeps A y w
    → Keeps A (if b then x else y) (if b then z else w)
either true h k = h
either false h k = k

each : {A B : Type 0} (r s : Result A Fault) {f g : A → Result B Fault} → Keeps A r s
    → ((x : A) → Keeps B (f x) (g x)) → Keeps B (r >>= f) (s >>= g)
each {A = A} (Ok x) s {g = g} h k = record {
  is =
      λ y same. subst (λ (q : Result A Fault). q >>= g ≡ Ok y) (sym (h.is x refl)) ((k x).is y same);
}
each (Err e) s h k = fails e _

-- ---- a number

number-same : (rom rest : List ℕ) (width at : ℕ) → IsWidth width → at + width ≤ length rom
    → number width rom at ≡ number width (rom ++ rest) at
number-same rom rest width at is within =
    let byte_at : (a : ℕ) → a < length rom → get_or rom a 0 ≡ get_or (rom ++ rest) a 0 =
    λ a less. sym (get_or_append_left rom rest 0 a less) in
    elim is [
      | inl one ↦ rw one (byte_at at (omega arith))
      | inr more ↦ elim more [
        | inl two ↦ rw (two, byte_at at (omega arith), byte_at (at + 1) (omega arith)) refl
        | inr four ↦ rw (
          four,
          byte_at at (omega arith),
          byte_at (at + 1) (omega arith),
          byte_at (at + 2) (omega arith),
          byte_at (at + 2 + 1) (omega arith),
        ) refl
      ]
    ]

number-by : (rom rest : List ℕ) (width at : ℕ) (b : Bool) → IsWidth width → nat_le (at + width) (length rom) ≡ b
    → Keeps ℕ (if b then Ok (number width rom at) else Err BadAddress) (number_in width (rom ++ rest) at)
unfolding number_in
number-by rom rest width at true is within =
    let inside : at + width ≤ length rom = grind (arith, nat_tests) in
    let longer : length rom ≤ length (rom ++ rest) = omega (arith, length-append rom rest) in
    let there : nat_le (at + width) (length (rom ++ rest)) ≡ true = grind (arith, nat_tests) in
    record { is = λ x same. rw there (ap Ok (sym (number-same rom rest width at is inside)) ∙ same) }
number-by rom rest width at false is without = fails BadAddress _

number-kept : (rom rest : List ℕ) (width at : ℕ) → IsWidth width
    → Keeps ℕ (number_in width rom at) (number_in width (rom ++ rest) at)
unfolding number_in
number-kept rom rest width at is = number-by rom rest width at (nat_le (at + width) (length rom)) is refl

byte-kept : (rom rest : List ℕ) (at : ℕ) → Keeps ℕ (number_in 1 rom at) (number_in 1 (rom ++ rest) at)
byte-kept rom rest at = number-kept rom rest 1 at (inl refl)

word-kept : (rom rest : List ℕ) (at : ℕ) → Keeps ℕ (number_in 4 rom at) (number_in 4 (rom ++ rest) at)
word-kept rom rest at = number-kept rom rest 4 at (inr (inr refl))

-- ---- a walk

-- the node to which a bit leads
abbrev child : List ℕ → ℕ → Bool → Result ℕ Fault
child m node one = number_in 4 m (if one then node + 5 else node + 1)

child-kept : (rom rest : List ℕ) (node : ℕ) (one : Bool) → Keeps ℕ (child rom node one) (child (rom ++ rest) node one)
child-kept rom rest node one = word-kept rom rest (if one then node + 5 else node + 1)

walk-kept : (rom rest : List ℕ) (node used : ℕ) (bs more : List Bool)
    → Keeps (ℕ × ℕ) (walk rom node used bs) (walk (rom ++ rest) node used (bs ++ more))
unfolding walk
walk-kept rom rest node used [] [] = each (number_in 1 rom node) _ (byte-kept rom rest node) (λ t. stays _)
walk-kept rom rest node used [] (one ∷ more) =
    each (number_in 1 rom node) _ (byte-kept rom rest node) (λ t. either (t == branch) (fails BadAddress _) (stays _))
walk-kept rom rest node used (one ∷ bs) more =
    each (number_in 1 rom node) _ (byte-kept rom rest node)
    (λ t. either (t == branch) (each (child rom node one) _ (child-kept rom rest node one)
    (λ next. walk-kept rom rest next (used + 1) bs more)) (stays _))

bits-append : (rom rest : List ℕ) → bits (rom ++ rest) ≡ bits rom ++ bits rest
unfolding bits
bits-append [] rest = refl
bits-append (b ∷ rom) rest =
    ap (λ (bs : List Bool). bit b 0 ∷ bit b 1 ∷ bit b 2 ∷ bit b 3 ∷ bit b 4 ∷ bit b 5 ∷ bit b 6 ∷ bit b 7 ∷ bs)
    (bits-append rom rest)

drop-both : (n : ℕ) (xs ys : List Bool) → (more : List Bool) × (drop n (xs ++ ys) ≡ drop n xs ++ more)
drop-both zero xs ys = (ys, refl)
drop-both (suc n) [] ys = (drop (suc n) ys, refl)
drop-both (suc n) (x ∷ xs) ys = drop-both n xs ys

walk-from : (rom rest : List ℕ) (root from : ℕ)
    → Keeps (ℕ × ℕ) (walk rom root 0 (drop from (bits rom)))
    (walk (rom ++ rest) root 0 (drop from (bits (rom ++ rest))))
walk-from rom rest root from =
    let both = drop-both from (bits rom) (bits rest) in
    let is : drop from (bits (rom ++ rest)) ≡ drop from (bits rom) ++ both.0 = rw (bits-append rom rest) both.1 in
    rw is (walk-kept rom rest root 0 (drop from (bits rom)) both.0)

-- ---- the same where ROM is the first bytes of memory

whole : (rom memory : List ℕ) → rom ≡ take (length rom) memory → rom ++ drop (length rom) memory ≡ memory
whole rom memory first = ap (λ (xs : List ℕ). xs ++ drop (length rom) memory) first
    ∙ take-append-drop (length rom) memory

pub within : (memory rom : List ℕ) → rom ≡ take (length rom) memory → length rom ≤ length memory
within memory rom first = omega (
  arith,
  ap length (whole rom memory first),
  length-append rom (drop (length rom) memory),
)

pub number_there : (memory rom : List ℕ) (width at : ℕ) → IsWidth width → rom ≡ take (length rom) memory
    → at + width ≤ length rom
    → number_in width memory at ≡ Ok (number width rom at)
unfolding number_in
number_there memory rom width at is first below =
    let there : nat_le (at + width) (length memory) ≡ true = grind (arith, nat_tests, within memory rom first) in
    rw there (ap Ok (sym (number-same rom (drop (length rom) memory) width at is below
    ∙ ap (λ (m : List ℕ). number width m at) (whole rom memory first))))

pub walk_there : (memory rom : List ℕ) (root from : ℕ) (end : ℕ × ℕ) → rom ≡ take (length rom) memory
    → walk rom root 0 (drop from (bits rom)) ≡ Ok end
    → walk memory root 0 (drop from (bits memory)) ≡ Ok end
walk_there memory rom root from end first found =
    subst (λ (m : List ℕ). walk m root 0 (drop from (bits m)) ≡ Ok end) (whole rom memory first)
    ((walk-from rom (drop (length rom) memory) root from).is end found)

pub ruleset numbers = (number_there, within)

pub ruleset in_rom = (walk_there, within)
