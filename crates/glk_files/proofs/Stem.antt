-- A stem, character by character.
use Rattle.std.proofs.Common.{◌≡◌, ◌≢◌, ℕ, zero, suc, ◌+◌, ◌-◌, ◌<◌, ◌==◌, Bool, true, false, cond, not, List, []}
use Rattle.std.proofs.Common.{◌∷◌, ◌++◌}
use Rattle.std.proofs.Common.{length, take, drop, get_or, filter, Some, None, if◌then◌else◌, refl, sym, ap, ◌∙◌, arith}
use Rattle.std.proofs.Common.{append_assoc}
use Rattle.std.proofs.Math.Seq.{take-nil}
use Rattle.std.proofs.lemmas.Bool.Decides.{nat_tests}
use Rattle.std.proofs.lemmas.List.{drop_more}
use Rattle.std.proofs.lemmas.List.Sums.{take_while-cons}
use Rattle.std.specs.Char.{encode_utf8}
use Rattle.std.specs.List.{take_while}
use Rattle.std.specs.Str.{encode_utf8_all}
use Rattle.glk_files.specs.Names.{is_allowed, allowed_of}

abbrev pub is_period : ℕ → Bool
is_period v = v == 0x2E

-- so many allowed characters at most, up to the first period
abbrev pub stem_within : ℕ → List ℕ → List ℕ
stem_within room chars = take room (take_while (λ v. not (is_period v)) (filter is_allowed chars))

-- a character that isn't allowed is passed over
pub stem-skip : (v room : ℕ) (rest : List ℕ) → is_allowed v ≡ false
    → stem_within room (v ∷ rest) ≡ stem_within room rest
stem-skip v room rest other =
    ap (λ (b : Bool). take room (take_while (λ u. not (is_period u))
    (cond b (v ∷ filter is_allowed rest) (filter is_allowed rest)))) other

front : (v room : ℕ) (rest : List ℕ) (b : Bool) → is_allowed v ≡ true → not (is_period v) ≡ b
    → stem_within room (v ∷ rest)
    ≡ take room (cond b (v ∷ take_while (λ u. not (is_period u)) (filter is_allowed rest)) [])
front v room rest b fine is =
    ap (λ (b : Bool). take room (take_while (λ u. not (is_period u))
    (cond b (v ∷ filter is_allowed rest) (filter is_allowed rest)))) fine
    ∙ ap (take room) (take_while-cons (λ u. not (is_period u)) v (filter is_allowed rest) ∙ ap
    (λ (b : Bool). cond b (v ∷ take_while (λ u. not (is_period u)) (filter is_allowed rest)) []) is)

-- a period ends the stem
pub stem-period : (v room : ℕ) (rest : List ℕ) → is_allowed v ≡ true → is_period v ≡ true
    → stem_within room (v ∷ rest) ≡ []
stem-period v room rest fine period = front v room rest false fine (ap not period) ∙ take-nil room

take_more : (room v : ℕ) (xs : List ℕ) → 0 < room → take room (v ∷ xs) ≡ v ∷ take (room - 1) xs
take_more zero v xs some = absurd (omega arith)
take_more (suc n) v xs some = ap (λ (k : ℕ). v ∷ take k xs) (omega arith)

-- any other is the stem's next
pub stem-more : (v room : ℕ) (rest : List ℕ) → is_allowed v ≡ true → is_period v ≡ false → 0 < room
    → stem_within room (v ∷ rest) ≡ v ∷ stem_within (room - 1) rest
stem-more v room rest fine other some =
    front v room rest true fine (ap not other)
    ∙ take_more room v (take_while (λ u. not (is_period u)) (filter is_allowed rest)) some

allowed_some : (b : Bool) (v c : ℕ) → (if b then Some v else None) ≡ Some c → (b ≡ true) × (v ≡ c)
allowed_some true v c e = (refl, grind arith)
allowed_some false v c e = absurd (grind arith)

allowed_none : (b : Bool) (v : ℕ) → (if b then Some v else None) ≡ None → b ≡ false
allowed_none true v e = absurd (grind arith)
allowed_none false v e = refl

-- One turn of a loop over the characters: the name so far, then the stem of the rest, is the name of all.
module _ (chars : List ℕ) (i room : ℕ) (name all : List ℕ) (inside : i < length chars)
    (so_far : name ++ encode_utf8_all (stem_within room (drop i chars)) ≡ all) where
  pub turn-skip : allowed_of (get_or chars i 0) ≡ None
      → name ++ encode_utf8_all (stem_within room (drop (i + 1) chars)) ≡ all
  turn-skip none =
      let v = get_or chars i 0 in
      let here : stem_within room (drop i chars) ≡ stem_within room (drop (i + 1) chars) =
      ap (stem_within room) (drop_more chars i 0 inside)
      ∙ stem-skip v room (drop (i + 1) chars) (allowed_none (is_allowed v) v none) in
      ap (λ (xs : List ℕ). name ++ encode_utf8_all xs) (sym here) ∙ so_far

  pub turn-more : (c : ℕ) (longer : List ℕ) → allowed_of (get_or chars i 0) ≡ Some c → c ≢ 46 → room ≢ 0
      → longer ≡ name ++ encode_utf8 c → longer ++ encode_utf8_all (stem_within (room - 1) (drop (i + 1) chars)) ≡ all
  turn-more c longer some apart left is =
      let v = get_or chars i 0 in
      let rest = stem_within (room - 1) (drop (i + 1) chars) in
      let both = allowed_some (is_allowed v) v c some in
      let other : is_period v ≡ false = rw both.1 (grind (arith, nat_tests)) in
      let here : stem_within room (drop i chars) ≡ v ∷ rest =
      ap (stem_within room) (drop_more chars i 0 inside)
      ∙ stem-more v room (drop (i + 1) chars) both.0 other (omega arith) in
      ap (λ (xs : List ℕ). xs ++ encode_utf8_all rest) (is ∙ ap (λ (u : ℕ). name ++ encode_utf8 u) (sym both.1))
      ∙ append_assoc name (encode_utf8 v) (encode_utf8_all rest)
      ∙ ap (λ (xs : List ℕ). name ++ encode_utf8_all xs) (sym here) ∙ so_far
