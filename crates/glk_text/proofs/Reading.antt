-- What is read at a place, and that it is what was written there.
use lib.Utf8.{scalar}
use Rattle.std.proofs.Common.{◌≡◌, ℕ, ◌+◌, ◌-◌, ◌<◌, ◌≤◌, Bool, true, false, nat_le, List, ◌++◌, length, take, drop}
use Rattle.std.proofs.Common.{Option, Some, None, if◌then◌else◌, inl, inr, refl, sym, ap, ◌∙◌, arith, append_assoc}
use Rattle.std.proofs.Common.{length-append, length-drop}
use Rattle.std.proofs.Math.Seq.{drop-append_seam}
use Rattle.std.proofs.lemmas.Bool.Decides.{nat_tests}
use Rattle.std.proofs.lemmas.Grind.{common_steps}
use Rattle.std.proofs.lemmas.List.{drop-drop}
use Rattle.std.proofs.lemmas.Str.{length-encode}
use Rattle.std.specs.Char.{encode_utf8, len_utf8}
use Rattle.std.specs.Prelude.{unwrap_or}
use Rattle.std.specs.Option.{option_map}
use Rattle.std.specs.Str.{StartsWithNoChar}
use Rattle.bstr.specs.Utf8.{Decoded, decoded, good}
use Rattle.bstr.proofs.lemmas.EncodeLemmas.{decoded-encode}
use Rattle.bstr.proofs.lemmas.PieceLemmas.{size-within}
use Rattle.bstr.proofs.lemmas.SoundLemmas.{SpellsChar-decoded}
use Rattle.glk_text.specs.Characters.{question_mark}
use Rattle.glk_text.specs.Constants.{replacement}
use Rattle.glk_text.specs.Utf8.{as_scalar, read, IsWellFormed, IsReading}

-- the bytes that are written for a character
abbrev pub utf8_bytes : ℕ → List ℕ
utf8_bytes v = encode_utf8 (as_scalar v)

-- what is read at a place, by what decodes there
abbrev taken_at : ℕ → Option ℕ → ℕ → ℕ × ℕ
taken_at at char size = unwrap_or (option_map (λ c. (c, at + size)) char) (replacement, at + 1)

-- where nothing decodes, no character begins
no_char : (bytes : List ℕ) → (decoded bytes).char ≡ None → StartsWithNoChar bytes
no_char bytes none c rest is e =
    let got : (decoded bytes).char ≡ Some c =
    ap (λ (xs : List ℕ). (decoded xs).char) e ∙ ap (λ (p : Decoded). p.char) (decoded-encode c rest is) in
    cc

-- where a character decodes, it stands
well_formed : (bytes : List ℕ) (at c : ℕ) → (decoded (drop at bytes)).char ≡ Some c
    → IsWellFormed bytes at c (at + (decoded (drop at bytes)).size)
well_formed bytes at c found =
    let s = SpellsChar-decoded (drop at bytes) c found in record {
      scalar = s.scalar;
      spelled = s.bytes ∙ ap (λ (xs : List ℕ). encode_utf8 c ++ xs) (drop-drop (decoded (drop at bytes)).size at bytes);
      size = ap (λ (n : ℕ). at + n) (sym s.width);
    }

-- from a place to the end is all that is left there
rest_is : (at : ℕ) (xs : List ℕ) → take (length xs - at) (drop at xs) ≡ drop at xs
rest_is at xs = grind (arith, common_steps)

-- What decodes, of the bytes from a place on as a slice, is what is read there.
module _ (bytes : List ℕ) (at : ℕ) (char : Option ℕ) (size : ℕ)
    (char_is : char ≡ (decoded (take (length bytes - at) (drop at bytes))).char)
    (size_is : size ≡ (decoded (take (length bytes - at) (drop at bytes))).size) where
  here : (decoded (drop at bytes)).char ≡ char
  here = sym (char_is ∙ ap (λ (xs : List ℕ). (decoded xs).char) (rest_is at bytes))

  pub reading_some : (c v : ℕ) → char ≡ Some c → v ≡ c → IsReading bytes at v (at + size)
  reading_some c v is same = let end : at + size ≡ at + (decoded (drop at bytes)).size =
      ap (λ (n : ℕ). at + n) (size_is ∙ ap (λ (xs : List ℕ). (decoded xs).size) (rest_is at bytes)) in
      rw (same, end) (inl (well_formed bytes at c (here ∙ is)))

  pub reading_none : char ≡ None → IsReading bytes at replacement (at + 1)
  reading_none is = inr (record { none = no_char (drop at bytes) (here ∙ is); replaced = refl; size = refl })

  pub reading_within : at ≤ length bytes → at + size ≤ length bytes
  reading_within inside =
      let fits : size ≤ length (drop at bytes) = rw (size_is, rest_is at bytes) (size-within (drop at bytes)) in
      omega (arith, length-drop at bytes)

as_scalar_is : (v : ℕ) → scalar (as_scalar v) ≡ true
as_scalar_is v = elim (scalar v) as (λ b. scalar v ≡ b → scalar (if b then v else question_mark) ≡ true) [
  | true ↦ λ e. e
  | false ↦ λ e. refl
] refl

some_byte : (c : ℕ) → 0 < len_utf8 c
some_byte c = grind (arith, nat_tests)

-- Whatever stands behind, what was written is read.
pub read-written : (out : List ℕ) (v : ℕ) (rest : List ℕ)
    → read (out ++ utf8_bytes v ++ rest) (length out) ≡ Some (as_scalar v, length (out ++ utf8_bytes v))
read-written out v rest =
    let c = as_scalar v in
    let w = utf8_bytes v in
    let here : drop (length out) (out ++ w ++ rest) ≡ w ++ rest =
    ap (drop (length out)) (append_assoc out w rest) ∙ drop-append_seam out (w ++ rest) in
    let is : decoded (drop (length out) (out ++ w ++ rest)) ≡ good c (length w) =
    ap decoded here ∙ decoded-encode c rest (as_scalar_is v) in
    let inside : nat_le (length (out ++ w ++ rest)) (length out) ≡ false = let some = some_byte c in let size =
    length-encode c in grind (arith, nat_tests, length-append) in
    ap (λ (b : Bool). if b then None
    else Some (taken_at (length out) (decoded (drop (length out) (out ++ w ++ rest))).char
    (decoded (drop (length out) (out ++ w ++ rest))).size)) inside
    ∙ ap (λ (p : Decoded). Some (taken_at (length out) p.char p.size)) is
    ∙ ap (λ (n : ℕ). Some (c, n)) (sym (length-append out w))

pub read_back : (out new : List ℕ) (v : ℕ) → new ≡ out ++ utf8_bytes v → (rest : List ℕ)
    → read (new ++ rest) (length out) ≡ Some (as_scalar v, length new)
read_back out new v is rest = rw is (read-written out v rest)
