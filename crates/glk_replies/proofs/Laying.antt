-- One turn of the loops over numbers and characters.
use Rattle.std.proofs.Common.{zero, suc, ap, sym, subst, inl, inr, ◌≡◌, ◌<◌, ◌≤◌, ◌+◌, ◌*◌, ◌==◌, ℕ, List, [], ◌∷◌}
use Rattle.std.proofs.Common.{◌++◌}
use Rattle.std.proofs.Common.{append_assoc, length, get_or, drop, drop-cons, refl, ◌∙◌, arith, nat_lt, true, Result, Ok}
use Rattle.std.proofs.Common.{Err, IfOk, if◌then◌else◌}
use Rattle.std.proofs.lemmas.Grind.{common_steps}
use Rattle.std.proofs.lemmas.Bool.Decides.{nat_tests}
use Rattle.std.proofs.lemmas.List.{append-nil}
use Rattle.std.proofs.Math.Nat.{mul-suc}
use Rattle.gx_words.specs.Numbers.{number, bytes_of_word}
use Rattle.glk_text.specs.Characters.{latin_of}
use Rattle.glk_replies.specs.Parts.{chars_bytes, numbers_in, IsCharWidth}

-- the bytes of one character
abbrev pub char_bytes : ℕ → ℕ → List ℕ
char_bytes width c = if width == 1 then latin_of c ∷ [] else bytes_of_word c

pub bytes_none : (width : ℕ) (cs : List ℕ) (n : ℕ) (out : List ℕ) → length cs ≤ n
    → out ++ chars_bytes width (drop n cs) ≡ out
unfolding chars_bytes
bytes_none width cs n out past = let none : drop n cs ≡ [] = grind (arith, common_steps) in rw none (append-nil out)

pub bytes_more : (width : ℕ) (cs : List ℕ) (i d : ℕ) (out : List ℕ) → i < length cs
    → (out ++ char_bytes width (get_or cs i d)) ++ chars_bytes width (drop (i + 1) cs) ≡ out
    ++ chars_bytes width (drop i cs)
unfolding chars_bytes
bytes_more width cs i d out within = let e : i + 1 ≡ suc i = omega arith in
    rw (e, drop-cons cs i d) (append_assoc out (char_bytes width (get_or cs i d)) (chars_bytes width (drop (suc i) cs)))

-- bytes of one byte each are themselves
pub bytes_themselves : (bs : List ℕ) → ((k : ℕ) → k < length bs → get_or bs k 0 < 256) → chars_bytes 1 bs ≡ bs
unfolding chars_bytes
bytes_themselves [] small = refl
bytes_themselves (b ∷ bs) small =
    let first : nat_lt b 256 ≡ true = grind (arith, nat_tests, small 0 (omega arith)) in
    rw (first, bytes_themselves bs (λ k less. small (suc k) (omega arith))) refl

pub copy_is : {E : Type 0} (r : Result (List ℕ) E) (width : ℕ) (bs : List ℕ) → width ≡ 1
    → ((k : ℕ) → k < length bs → get_or bs k 0 < 256) → IfOk r (λ copy. copy ≡ bs)
    → IfOk r (λ copy. copy ≡ chars_bytes width bs)
copy_is (Ok copy) width bs is small same = same ∙ sym (ap (λ (n : ℕ). chars_bytes n bs) is ∙ bytes_themselves bs small)
copy_is (Err e) width bs is small same = tt

pub ruleset byte_turns = (bytes_none, bytes_more)

-- the numbers up to one more
pub numbers_first : (width : ℕ) (memory : List ℕ) (at : ℕ) → numbers_in width memory at 0 ≡ []
unfolding numbers_in
numbers_first width memory at = refl

pub numbers_more : (width : ℕ) (memory : List ℕ) (at i : ℕ)
    → numbers_in width memory at i ++ number width memory (at + width * i) ∷ [] ≡ numbers_in width memory at (i + 1)
unfolding numbers_in
numbers_more width memory at zero = let a : at + width * 0 ≡ at = omega arith in rw a refl
numbers_more width memory at (suc i) =
    let e : suc i + 1 ≡ suc (i + 1) = omega arith in
    let a : at + width * suc i ≡ (at + width) + width * i = grind (arith, common_steps, mul-suc) in
    rw (e, a) (ap (λ rest. number width memory at ∷ rest) (numbers_more width memory (at + width) i))

-- each number lies before the end of all
pub number_within : (width at i count size : ℕ) → IsCharWidth width → i < count → at + width * count ≤ size
    → (at + width * i) + width ≤ size
number_within width at i count size (inl one) less end =
    subst (λ w. at + w * count ≤ size → (at + w * i) + w ≤ size) (sym one) (λ e. omega (arith, e, less)) end
number_within width at i count size (inr four) less end =
    subst (λ w. at + w * count ≤ size → (at + w * i) + w ≤ size) (sym four) (λ e. omega (arith, e, less)) end

pub ruleset number_turns = (numbers_first, numbers_more)
