-- One turn of the loops of a wrapper, and its columns.
use Rattle.std.proofs.Common.{zero, suc, ◌≡◌, ◌≢◌, ◌<◌, ◌≤◌, ◌+◌, ℕ, List, [], ◌∷◌, ◌++◌, append_assoc, length, get_or}
use Rattle.std.proofs.Common.{take, drop, drop-cons, refl, sym, ◌∙◌, ap, arith, Some, false}
use Rattle.std.specs.Char.{encode_utf8}
use Rattle.std.specs.Str.{encode_utf8_all}
use Rattle.std.proofs.lemmas.Grind.{common_steps}
use Rattle.std.proofs.lemmas.List.{append-nil}
use Rattle.unicode_width.proofs.Rules.{width_or_zero-le}
use Rattle.glk_text.specs.Utf8.{as_scalar}
use Rattle.glk_screen.specs.Wrapping.{width_of, drawn_columns, last_blank}
use Rattle.glk_screen.proofs.Prefixes.{blank_here, blank_not, blank_below}

-- ---- characters are added

pub push_none : (chars : List ℕ) (n : ℕ) (out : List ℕ) → length chars ≤ n
    → out ++ encode_utf8_all (drop n chars) ≡ out
push_none chars n out past = let none : drop n chars ≡ [] = grind (arith, common_steps) in rw none (append-nil out)

pub push_more : (chars : List ℕ) (i d : ℕ) (out : List ℕ) → i < length chars
    → (out ++ encode_utf8 (get_or chars i d)) ++ encode_utf8_all (drop (i + 1) chars) ≡ out
    ++ encode_utf8_all (drop i chars)
push_more chars i d out within = let e : i + 1 ≡ suc i = omega arith in
    rw (e, drop-cons chars i d) (append_assoc out (encode_utf8 (get_or chars i d))
    (encode_utf8_all (drop (suc i) chars)))

pub some_chars : (chars : List ℕ) (i : ℕ) → i < length chars → chars ≢ []
some_chars [] i within same = absurd (omega arith)
some_chars (c ∷ cs) i within same = cc

pub ruleset push_turns = (push_none, push_more, some_chars)

pub enc_append : (xs ys : List ℕ) → encode_utf8_all (xs ++ ys) ≡ encode_utf8_all xs ++ encode_utf8_all ys
enc_append [] ys = refl
enc_append (x ∷ xs) ys = rw (enc_append xs ys)
    (sym (append_assoc (encode_utf8 x) (encode_utf8_all xs) (encode_utf8_all ys)))

-- text that grows twice
pub grown : (out xs ys : List ℕ) → (out ++ encode_utf8_all xs) ++ encode_utf8_all ys ≡ out ++ encode_utf8_all (xs ++ ys)
grown out xs ys = rw (enc_append xs ys) (append_assoc out (encode_utf8_all xs) (encode_utf8_all ys))

-- and once more by a line feed
pub line_grown : (out xs : List ℕ) → (out ++ encode_utf8_all xs) ++ 0x0A ∷ [] ≡ out ++ encode_utf8_all (xs ++ 0x0A ∷ [])
unfolding encode_utf8
line_grown out xs = grown out xs (0x0A ∷ [])

pub ruleset growing = (enc_append, append_assoc, append-nil)

pub ruleset blank_turns = (blank_here, blank_not, blank_below)

-- ---- columns

pub columns_none : (chars : List ℕ) (n : ℕ) → length chars ≤ n → drawn_columns (drop n chars) ≡ 0
columns_none chars n past = let none : drop n chars ≡ [] = grind (arith, common_steps) in rw none refl

pub columns_more : (chars : List ℕ) (i d : ℕ) → i < length chars
    → drawn_columns (drop i chars) ≡ width_of (get_or chars i d) + drawn_columns (drop (i + 1) chars)
columns_more chars i d within = let e : i + 1 ≡ suc i = omega arith in rw (e, drop-cons chars i d) refl

pub ruleset column_turns = (columns_none, columns_more)

pub drawn_append : (xs ys : List ℕ) → drawn_columns (xs ++ ys) ≡ drawn_columns xs + drawn_columns ys
drawn_append [] ys = omega arith
drawn_append (x ∷ xs) ys = omega (arith, drawn_append xs ys)

pub drawn_drop : (n : ℕ) (xs : List ℕ) → drawn_columns (drop n xs) ≤ drawn_columns xs
drawn_drop zero xs = omega arith
drawn_drop (suc n) [] = omega arith
drawn_drop (suc n) (x ∷ xs) = omega (arith, drawn_drop n xs)

pub narrow : (c : ℕ) → width_of c ≤ 3
unfolding width_of
narrow c = width_or_zero-le false (as_scalar c)

pub ruleset cuts = (drawn_drop, line_grown, append-nil)

pub ruleset places = (drawn_append, narrow, grown, append-nil)
