-- Each argument of an entry is read back from its local.
use Rattle.std.proofs.Common.{Ok, ◌≡◌, inl, inr, ◌≤◌, ◌+◌, ◌-◌, ◌*◌, ◌/◌, ◌%◌, ◌^◌, ℕ, zero, suc, List, [], ◌∷◌, ◌++◌}
use Rattle.std.proofs.Common.{length, take, drop, replicate, refl, ap, sym, subst, ◌∙◌, arith, length-append}
use Rattle.std.proofs.Common.{append_assoc}
use Rattle.std.proofs.Math.Seq.{drop-nil}
use Rattle.std.proofs.lemmas.Grind.{common_steps}
use Rattle.std.proofs.lemmas.List.{length-replicate, map-append}
use Rattle.std.proofs.lemmas.Bool.Decides.{nat_tests}
use Rattle.gx_stack.specs.declared.frames.Frame.{Frame}
use Rattle.gx_stack.specs.Values.{local_at}
use Rattle.gx_words.specs.Numbers.{IsWidth, byte, half, number, bytes_of_word, bytes_of_number, spliced}
use Rattle.gx_stack.proofs.Pieces.{length-number, length-filled, length-pairs, length-padded, word_behind}
use Rattle.gx_stack.specs.Formats.{pairs_of, gap, padded, padded_len, pair_locals, locals, locals_pos, frame_len, frame}
use Rattle.gx_stack.specs.Held.{ArePairs, IsFormat}
use Rattle.gx_stack.specs.Laws.{group, local_places, local_values, numbers_at}

-- what holds at each width
at_width : (P : ℕ → Type 0) → P 1 → P 2 → P 4 → (t : ℕ) → IsWidth t → P t
at_width P one two four t (inl e) = subst P (sym e) one
at_width P one two four t (inr (inl e)) = subst P (sym e) two
at_width P one two four t (inr (inr e)) = subst P (sym e) four

byte_behind : (xs ys : List ℕ) (a : ℕ) → byte (xs ++ ys) (length xs + a) ≡ byte ys a
byte_behind xs ys a = grind (arith, common_steps)

half_behind : (xs ys : List ℕ) (a : ℕ) → half (xs ++ ys) (length xs + a) ≡ half ys a
half_behind xs ys a = grind (arith, common_steps)

two_digits : (v : ℕ) → v / 2 ^ 8 % 256 * 256 + v % 256 ≡ v % 65536
two_digits v = omega arith

four_digits : (v : ℕ) → ((v / 2 ^ 24 % 256) * 256 + v / 2 ^ 16 % 256) * 65536 + ((v / 2 ^ 8 % 256) * 256 + v % 256)
    ≡ v % 4294967296
four_digits v = omega arith

number_behind : (t v : ℕ) (xs rest : List ℕ) → IsWidth t
    → number t (xs ++ (bytes_of_number t v ++ rest)) (length xs + 0) ≡ v % 256 ^ t
number_behind t v xs rest w =
    at_width (λ t. number t (xs ++ (bytes_of_number t v ++ rest)) (length xs + 0) ≡ v % 256 ^ t)
    (byte_behind xs (v % 256 ∷ rest) 0)
    (half_behind xs ((v / 2 ^ 8 % 256) ∷ (v % 256) ∷ rest) 0 ∙ two_digits v)
    (word_behind xs (bytes_of_word v ++ rest) 0 ∙ four_digits v)
    t w

zero_cut : (t : ℕ) → IsWidth t → 0 % 256 ^ t ≡ 0
zero_cut t w = at_width (λ t. 0 % 256 ^ t ≡ 0) refl refl refl t w

number_there : (t v place : ℕ) (s xs rest : List ℕ) → IsWidth t → s ≡ xs ++ (bytes_of_number t v ++ rest)
    → length xs ≡ place → number t s place ≡ v % 256 ^ t
number_there t v place s xs rest w is long =
    let here : place ≡ length xs + 0 = omega arith in
    rw (is, here) (number_behind t v xs rest w)

first_of_rest : (s xs a b rest : List ℕ) → s ≡ xs ++ ((a ++ b) ++ rest) → s ≡ xs ++ (a ++ (b ++ rest))
first_of_rest s xs a b rest is = is ∙ simp append_assoc

behind_first : (s xs a b rest : List ℕ) → s ≡ xs ++ ((a ++ b) ++ rest) → s ≡ (xs ++ a) ++ (b ++ rest)
behind_first s xs a b rest is = is ∙ simp append_assoc

group_read : (t n : ℕ) (args xs rest s : List ℕ) (place at : ℕ) → IsWidth t → s ≡ xs ++ (pair_locals t n args ++ rest)
    → length xs ≡ place + at → numbers_at s place (group at t n) ≡ local_values (group at t n) args
unfolding pair_locals group local_values
group_read t zero args xs rest s place at w is long = refl
group_read t (suc n) [] xs rest s place at w is long =
    let one = number_there t 0 (place + at) s xs (pair_locals t n [] ++ rest) w
    (first_of_rest s xs (bytes_of_number t 0) (pair_locals t n []) rest is) long ∙ zero_cut t w in
    let next : length (xs ++ bytes_of_number t 0) ≡ place + (at + t) =
    omega (arith, long, length-append xs (bytes_of_number t 0), length-number t 0 w) in
    let more = group_read t n [] (xs ++ bytes_of_number t 0) rest s place (at + t) w
    (behind_first s xs (bytes_of_number t 0) (pair_locals t n []) rest is) next in
    ap (λ x. x ∷ numbers_at s place (group (at + t) t n)) one ∙ ap (λ r. 0 ∷ r) more
group_read t (suc n) (a ∷ args) xs rest s place at w is long =
    let one = number_there t a (place + at) s xs (pair_locals t n args ++ rest) w
    (first_of_rest s xs (bytes_of_number t a) (pair_locals t n args) rest is) long in
    let next : length (xs ++ bytes_of_number t a) ≡ place + (at + t) =
    omega (arith, long, length-append xs (bytes_of_number t a), length-number t a w) in
    let more = group_read t n args (xs ++ bytes_of_number t a) rest s place (at + t) w
    (behind_first s xs (bytes_of_number t a) (pair_locals t n args) rest is) next in
    ap (λ x. x ∷ numbers_at s place (group (at + t) t n)) one ∙ ap (λ r. a % 256 ^ t ∷ r) more

length-group : (at t n : ℕ) → length (group at t n) ≡ n
unfolding group
length-group at t zero = refl
length-group at t (suc n) = ap (λ m. suc m) (length-group (at + t) t n)

held-append : (xs ys : List (ℕ × ℕ)) (args : List ℕ)
    → local_values (xs ++ ys) args ≡ local_values xs args ++ local_values ys (drop (length xs) args)
unfolding local_values
held-append [] ys args = refl
held-append (x ∷ xs) ys [] = ap (λ r. 0 ∷ r)
    (held-append xs ys [] ∙ ap (λ args. local_values xs [] ++ local_values ys args) (drop-nil (length xs)))
held-append (x ∷ xs) ys (a ∷ args) = ap (λ r. a % 256 ^ x.1 ∷ r) (held-append xs ys args)

group_there : (s xs z f l rest : List ℕ) → s ≡ xs ++ (((z ++ f) ++ l) ++ rest) → s ≡ (xs ++ z) ++ (f ++ (l ++ rest))
group_there s xs z f l rest is = is ∙ simp append_assoc

behind_group : (s xs z f l rest : List ℕ) → s ≡ xs ++ (((z ++ f) ++ l) ++ rest) → s ≡ ((xs ++ z) ++ f) ++ (l ++ rest)
behind_group s xs z f l rest is = is ∙ simp append_assoc

pairs_read : (pairs args xs rest s : List ℕ) (place at : ℕ) → ArePairs pairs
    → s ≡ xs ++ (locals at pairs args ++ rest) → length xs ≡ place + at
    → numbers_at s place (local_places at pairs) ≡ local_values (local_places at pairs) args
unfolding locals local_places local_values
pairs_read [] args xs rest s place at h is long = refl
pairs_read (t ∷ []) args xs rest s place at h is long = absurd h
pairs_read (t ∷ n ∷ pairs) args xs rest s place at h is long =
    let here : ℕ = at + gap t at in
    let zeros : List ℕ = replicate (gap t at) 0 in
    let first : length (xs ++ replicate (gap t at) 0) ≡ place + (at + gap t at) =
    length-append xs (replicate (gap t at) 0) ∙ omega (arith, long, length-replicate {A = ℕ} (gap t at) 0) in
    let one = group_read t n args (xs ++ replicate (gap t at) 0)
    (locals (at + gap t at + t * n) pairs (drop n args) ++ rest) s place (at + gap t at) h.0
    (group_there s xs (replicate (gap t at) 0) (pair_locals t n args)
    (locals (at + gap t at + t * n) pairs (drop n args)) rest is) first in
    let next : length ((xs ++ replicate (gap t at) 0) ++ pair_locals t n args) ≡ place + (at + gap t at + t * n) =
    length-append (xs ++ replicate (gap t at) 0) (pair_locals t n args)
    ∙ omega (arith, first, length-filled t n args h.0) in
    let more = pairs_read pairs (drop n args) ((xs ++ replicate (gap t at) 0) ++ pair_locals t n args) rest s place
    (at + gap t at + t * n) h.1 (behind_group s xs (replicate (gap t at) 0) (pair_locals t n args)
    (locals (at + gap t at + t * n) pairs (drop n args)) rest is) next in
    let left = held-append (group (at + gap t at) t n) (local_places (at + gap t at + t * n) pairs) args in
    map-append (λ local. number local.1 s (place + local.0)) (group (at + gap t at) t n)
    (local_places (at + gap t at + t * n) pairs)
    ∙ (ap (λ r. r ++ numbers_at s place (local_places (at + gap t at + t * n) pairs)) one
    ∙ (ap (λ r. local_values (group (at + gap t at) t n) args ++ r) more
    ∙ sym (left ∙ ap (λ m. local_values (group (at + gap t at) t n) args ++ local_values
    (local_places (at + gap t at + t * n) pairs) (drop m args)) (length-group (at + gap t at) t n))))

in_front : (xs a b c l z : List ℕ) → xs ++ (a ++ b ++ c ++ (l ++ z)) ≡ (xs ++ (a ++ b ++ c)) ++ (l ++ z)
in_front xs a b c l z = simp append_assoc

front_length : (xs front : List ℕ) (v w : ℕ) → length (xs ++ (bytes_of_word v ++ bytes_of_word w ++ padded front))
    ≡ length xs + (8 + padded_len (length front))
front_length xs front v w = length-append xs (bytes_of_word v ++ bytes_of_word w ++ padded front)
    ∙ omega (arith, length-padded front)

pub locals_read : (xs format args : List ℕ) → IsFormat format
    → numbers_at (xs ++ frame format args) (length xs + locals_pos format) (local_places 0 (pairs_of format))
    ≡ local_values (local_places 0 (pairs_of format)) args
unfolding frame
locals_read xs format args h =
    let l : List ℕ = locals 0 (pairs_of format) args in
    let z : List ℕ = replicate (gap 4 (length (locals 0 (pairs_of format) args))) 0 in
    let is = in_front xs (bytes_of_word (frame_len format)) (bytes_of_word (locals_pos format))
    (padded (pairs_of format ++ 0 ∷ 0 ∷ [])) (locals 0 (pairs_of format) args)
    (replicate (gap 4 (length (locals 0 (pairs_of format) args))) 0) in
    let long : length (xs ++ (bytes_of_word (frame_len format) ++ bytes_of_word (locals_pos format)
    ++ padded (pairs_of format ++ 0 ∷ 0 ∷ []))) ≡ length xs + locals_pos format + 0 =
    front_length xs (pairs_of format ++ 0 ∷ 0 ∷ []) (frame_len format) (locals_pos format)
    ∙ rw (length-pairs format h.ending) (omega arith) in
    pairs_read (pairs_of format) args (xs ++ (bytes_of_word (frame_len format) ++ bytes_of_word (locals_pos format)
    ++ padded (pairs_of format ++ 0 ∷ 0 ∷ []))) (replicate (gap 4 (length (locals 0 (pairs_of format) args))) 0)
    (xs ++ frame format args) (length xs + locals_pos format) 0 h.pairs is long

-- a number that was put is read again
pub number_put : (s : List ℕ) (place width v : ℕ) → IsWidth width → place + width ≤ length s
    → number width (spliced s place (bytes_of_number width v)) place ≡ v % 256 ^ width
number_put s place width v w there =
    let long : length (take place s) ≡ place = grind (arith, common_steps) in
    number_there width v place (spliced s place (bytes_of_number width v)) (take place s)
    (drop (place + length (bytes_of_number width v)) s) w refl long

pub local_put : (s new : List ℕ) (f : Frame) (at width v : ℕ)
    → new ≡ spliced s (f.locals + at) (bytes_of_number width v) → IsWidth width → at + width ≤ f.values - f.locals
    → f.locals + at + width ≤ length s → local_at new f at width ≡ Ok (v % 256 ^ width)
unfolding local_at
local_put s new f at width v is w within there =
    let read = number_put s (f.locals + at) width v w there in
    rw (is, read) (grind (arith, nat_tests))
