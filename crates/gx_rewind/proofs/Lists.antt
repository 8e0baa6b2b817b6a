-- Notes that are looked up in a list that was cut, or has one more at its end.
use Rattle.std.proofs.Common.{◌≡◌, ◌<◌, ◌≤◌, ◌==◌, ℕ, zero, suc, nat_lt, if◌then◌else◌, Bool, true, false, List, []}
use Rattle.std.proofs.Common.{◌∷◌, ◌++◌, length, take, Option, Some, None, refl, ap, sym, ◌∙◌, arith, length-take}
use Rattle.std.specs.List.{slice_get}
use Rattle.std.proofs.lemmas.Option.{slice_get_past}
use Rattle.std.proofs.lemmas.Bool.{ltb-false, ltb-true}
use Rattle.std.proofs.lemmas.Bool.Decides.{nat_tests}
use Rattle.gx_rewind.specs.declared.books.Note.{Note}
use Rattle.gx_rewind.specs.declared.books.Taken.{Taken}
use Rattle.gx_rewind.specs.Path.{taken_at, taken_from, index_after}

pub step-on : {X : Type 0} (b : Bool) (x y : X) → b ≡ false → (if b then x else y) ≡ y
step-on true x y is = absurd cc
step-on false x y is = refl

pub stop-at : {X : Type 0} (b : Bool) (x y : X) → b ≡ true → (if b then x else y) ≡ x
stop-at true x y is = refl
stop-at false x y is = absurd cc

slice_get-take : {X : Type 0} (k : ℕ) (xs : List X) (j : ℕ) → j < k → slice_get (take k xs) j ≡ slice_get xs j
slice_get-take zero xs j less = absurd (omega (arith, less))
slice_get-take (suc k) [] j less = refl
slice_get-take (suc k) (x ∷ xs) zero less = refl
slice_get-take (suc k) (x ∷ xs) (suc j) less = slice_get-take k xs j (omega (arith, less))

-- the next note is at least that one
pub later : {A : Type 0} (i : ℕ) (t : Option (Taken A)) → i ≤ index_after i t
later i None = omega arith
later i (Some t) = omega arith

none-of : {A : Type 0} (j : ℕ) (t : Option (Taken A)) → index_after j t ≤ j → t ≡ None
none-of j None less = refl
none-of j (Some t) less = absurd (omega (arith, less))

taken-cut-by : {A : Type 0} (b : Bool) (notes : List (Note A)) (k j u : ℕ) → nat_lt j k ≡ b
    → index_after j (taken_from notes j u) ≤ k → taken_from (take k notes) j u ≡ taken_from notes j u
taken-cut-by true notes k j u is within = let less = ltb-true j k is in ap (taken_at u) (slice_get-take k notes j less)
taken-cut-by false notes k j u is within =
    let more = ltb-false j k is in
    let long = length-take k notes in
    let none : taken_from notes j u ≡ None = none-of j (taken_from notes j u) (omega (arith, within, more)) in
    ap (taken_at u) (slice_get_past (take k notes) j (omega (arith, more, long))) ∙ sym none

-- the notes before a place, once those from there on are cut off
pub taken-cut : {A : Type 0} (notes : List (Note A)) (k j u : ℕ) → index_after j (taken_from notes j u) ≤ k
    → taken_from (take k notes) j u ≡ taken_from notes j u
taken-cut notes k j u within = taken-cut-by (nat_lt j k) notes k j u refl within

pub taken-past : {A : Type 0} (notes : List (Note A)) (k u : ℕ) → taken_from (take k notes) k u ≡ None
taken-past notes k u = let long = length-take k notes in
    ap (taken_at u) (slice_get_past (take k notes) k (omega (arith, long)))

-- one more note, of a later event
pub taken-push : {A : Type 0} (notes : List (Note A)) (n : Note A) (j u : ℕ) → u < n.units
    → taken_from (notes ++ n ∷ []) j u ≡ taken_from notes j u
taken-push [] n zero u less = let other : (n.units == u) ≡ false = grind (arith, nat_tests) in
    step-on (n.units == u) (Some n.taken) None other
taken-push [] n (suc j) u less = refl
taken-push (x ∷ xs) n zero u less = refl
taken-push (x ∷ xs) n (suc j) u less = taken-push xs n j u less

-- and its own event
pub taken-last : {A : Type 0} (notes : List (Note A)) (n : Note A)
    → taken_from (notes ++ n ∷ []) (length notes) n.units ≡ Some n.taken
taken-last [] n = let own : (n.units == n.units) ≡ true = grind (arith, nat_tests) in
    stop-at (n.units == n.units) (Some n.taken) None own
taken-last (x ∷ xs) n = taken-last xs n

one-more : {A : Type 0} (b : Bool) (t : Taken A) (j n : ℕ) → j < n → index_after j (if b then Some t else None) ≤ n
one-more true t j n less = omega (arith, less)
one-more false t j n less = omega (arith, less)

shifted : {A : Type 0} (j n : ℕ) (t : Option (Taken A)) → index_after j t ≤ n → index_after (suc j) t ≤ suc n
shifted j n None less = omega (arith, less)
shifted j n (Some t) less = omega (arith, less)

-- the place of the next note is within the list
pub bound : {A : Type 0} (notes : List (Note A)) (j u : ℕ) → j ≤ length notes
    → index_after j (taken_from notes j u) ≤ length notes
bound [] zero u within = omega arith
bound [] (suc j) u within = absurd (omega (arith, within))
bound (x ∷ xs) zero u within = one-more (x.units == u) x.taken 0 (suc (length xs)) (omega arith)
bound (x ∷ xs) (suc j) u within = shifted j (length xs) (taken_from xs j u) (bound xs j u (omega (arith, within)))
