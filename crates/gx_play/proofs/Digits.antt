-- A text of digits alone.
use Rattle.std.proofs.Common.{◌≡◌, ℕ, ◌≤◌, ◌==◌, Bool, true, false, List, [], ◌∷◌, arith, refl, ◌&&◌}
use Rattle.std.specs.Char.{is_ascii_digit}
use Rattle.std.specs.List.{list_all}
use Rattle.std.specs.Str.Parse.{AllDigits, without_leading_plus}
use Rattle.std.proofs.lemmas.Str.{digit_value_digit}
use Rattle.std.proofs.lemmas.Grind.{common_steps}

both : (a b : Bool) → (a && b) ≡ true → (a ≡ true) × (b ≡ true)
both true b h = (refl, h)
both false b h = absurd (cc)

one_digit : (x : ℕ) → is_ascii_digit x ≡ true → (48 ≤ x) × (x ≤ 57)
one_digit x h = grind (arith, common_steps)

pub digits_are : (t : List ℕ) → list_all is_ascii_digit t ≡ true → AllDigits 10 t
digits_are [] h = tt
digits_are (x ∷ xs) h =
    let p = both (is_ascii_digit x) (list_all is_ascii_digit xs) h in
    let q = one_digit x p.0 in
    (grind (arith, digit_value_digit, q.0, q.1), digits_are xs p.1)

not_plus : (x : ℕ) → 48 ≤ x → (x == 43) ≡ false
not_plus x h = grind arith

pub no_plus : (t : List ℕ) → list_all is_ascii_digit t ≡ true → without_leading_plus t ≡ t
no_plus [] h = refl
no_plus (x ∷ xs) h =
    let p = both (is_ascii_digit x) (list_all is_ascii_digit xs) h in
    let q = one_digit x p.0 in
    rw (not_plus x q.0) refl
