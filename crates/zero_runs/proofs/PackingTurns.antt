-- One turn of each loop that writes packed bytes.
use Rattle.std.proofs.Common.{◌≡◌, ◌≢◌, ◌<◌, ◌≤◌, ◌+◌, ℕ, zero, suc, List, [], ◌∷◌, ◌++◌, append_assoc, length, take}
use Rattle.std.proofs.Common.{drop, get_or, replicate, refl, sym, ap, ◌∙◌, arith, length-append}
use Rattle.std.proofs.lemmas.List.{append-nil, take_all, drop_more, drop-drop, drop_all, get_or-drop, length-take}
use Rattle.std.specs.Int.Bits.{bit_xor}
use Rattle.std.specs.List.{concat}
use Rattle.zero_runs.specs.Packing.{run, packed_behind, xored}

-- so many times 00 FF
abbrev pub full_pairs : ℕ → List ℕ
full_pairs n = concat (replicate n (0 ∷ 255 ∷ []))

full_pairs_more : (n : ℕ) → full_pairs n ++ 0 ∷ 255 ∷ [] ≡ full_pairs (n + 1)
full_pairs_more zero = refl
full_pairs_more (suc n) = let e : suc n + 1 ≡ suc (n + 1) = omega arith in
    rw e (ap (λ (xs : List ℕ). 0 ∷ 255 ∷ xs) (full_pairs_more n))

pub full_pairs_pushed : (xs : List ℕ) (n : ℕ) → (xs ++ full_pairs n) ++ 0 ∷ 255 ∷ [] ≡ xs ++ full_pairs (n + 1)
full_pairs_pushed xs n = rw append_assoc (ap (λ (ys : List ℕ). xs ++ ys) (full_pairs_more n))

-- what stands in front stays there
pub front_all : (xs : List ℕ) → take (length xs) xs ≡ xs
front_all xs = take_all (length xs) xs (omega arith)

pub front_added : (xs ys zs : List ℕ) → take (length xs) ys ≡ xs → take (length xs) (ys ++ zs) ≡ xs
front_added [] ys zs h = refl
front_added (x ∷ xs) [] zs h = absurd cc
front_added (x ∷ xs) (y ∷ ys) zs h = let e : take (length xs) ys ≡ xs = cc in let f : y ≡ x = cc in
    rw (front_added xs ys zs e, f) refl

pub front_joined : (xs ys : List ℕ) → take (length xs) (xs ++ ys) ≡ xs
front_joined xs ys = front_added xs xs ys (front_all xs)

-- the first of the bytes that are left
xored-drop : (new old : List ℕ) (at : ℕ) → at < length new → xored (drop at new) (drop at old)
    ≡ bit_xor (get_or new at 0) (get_or old at 0) ∷ xored (drop (at + 1) new) (drop (at + 1) old)
unfolding xored
xored-drop new old at h =
    let first = drop_more new at 0 h in
    let rest : drop 1 (drop at old) ≡ drop (at + 1) old = drop-drop 1 at old in
    let here : get_or (drop at old) 0 0 ≡ get_or old at 0 =
    get_or-drop at old 0 0 ∙ ap (λ (k : ℕ). get_or old k 0) (omega arith) in
    rw first (rw (rest, here) refl)

packed_behind-zero : (n b : ℕ) (xs : List ℕ) → b ≡ 0 → packed_behind n (b ∷ xs) ≡ packed_behind (n + 1) xs
unfolding packed_behind
packed_behind-zero n zero xs h = let e : suc n ≡ n + 1 = omega arith in rw e refl
packed_behind-zero n (suc b) xs h = absurd cc

packed_behind-other : (n b : ℕ) (xs : List ℕ) → b ≢ 0 → packed_behind n (b ∷ xs) ≡ run n ++ b ∷ packed_behind 0 xs
unfolding packed_behind
packed_behind-other n zero xs h = absurd (h refl)
packed_behind-other n (suc b) xs h = refl

pub zero_turn : (new old out total : List ℕ) (at n b : ℕ) → at < length new
    → b ≡ bit_xor (get_or new at 0) (get_or old at 0) → b ≡ 0
    → out ++ packed_behind n (xored (drop at new) (drop at old)) ≡ total
    → out ++ packed_behind (n + 1) (xored (drop (at + 1) new) (drop (at + 1) old)) ≡ total
zero_turn new old out total at n b within is is_zero whole =
    let first = xored-drop new old at within in
    let counted : packed_behind n (xored (drop at new) (drop at old)) ≡ packed_behind (n + 1)
    (xored (drop (at + 1) new) (drop (at + 1) old)) = rw (first, ← is) (packed_behind-zero n b _ is_zero) in
    cc

pub other_turn : (new old out total : List ℕ) (at n b : ℕ) → at < length new
    → b ≡ bit_xor (get_or new at 0) (get_or old at 0) → b ≢ 0
    → out ++ packed_behind n (xored (drop at new) (drop at old)) ≡ total
    → ((out ++ run n) ++ b ∷ []) ++ packed_behind 0 (xored (drop (at + 1) new) (drop (at + 1) old)) ≡ total
other_turn new old out total at n b within is other whole =
    let first = xored-drop new old at within in
    let written : packed_behind n (xored (drop at new) (drop at old)) ≡ run n ++ b ∷ packed_behind 0
    (xored (drop (at + 1) new) (drop (at + 1) old)) = rw (first, ← is) (packed_behind-other n b _ other) in
    let regrouped : ((out ++ run n) ++ b ∷ []) ++ packed_behind 0 (xored (drop (at + 1) new) (drop (at + 1) old))
    ≡ out ++ (run n ++ b ∷ packed_behind 0 (xored (drop (at + 1) new) (drop (at + 1) old))) = simp append_assoc in
    regrouped ∙ ap (λ (ys : List ℕ). out ++ ys) (sym written) ∙ whole

-- a byte that isn't 0 is written, so that something is
pub some_written : (new old out front total : List ℕ) (at n b : ℕ) → at < length new
    → b ≡ bit_xor (get_or new at 0) (get_or old at 0) → b ≢ 0 → take (length front) out ≡ front
    → out ++ packed_behind n (xored (drop at new) (drop at old)) ≡ front ++ total → total ≡ [] → ⊥
some_written new old out front total at n b within is other grows whole none =
    let first = xored-drop new old at within in
    let left = packed_behind n (xored (drop at new) (drop at old)) in
    let rest = packed_behind 0 (xored (drop (at + 1) new) (drop (at + 1) old)) in
    let written : left ≡ run n ++ b ∷ rest = rw (first, ← is) (packed_behind-other n b _ other) in
    omega (
      arith,
      ap length none,
      ap length whole,
      length-append out left,
      length-append front total,
      ap length written,
      length-append (run n) (b ∷ rest),
      ap length grows,
      length-take (length front) out,
    )

-- after the last byte the zeros that were counted are dropped
pub last_turn : (new old out total : List ℕ) (at n : ℕ) → length new ≤ at
    → out ++ packed_behind n (xored (drop at new) (drop at old)) ≡ total → out ≡ total
unfolding xored packed_behind
last_turn new old out total at n past whole =
    let none : drop at new ≡ [] = drop_all at new past in
    sym (append-nil out) ∙ rw none at whole

pub ruleset run_turns = (full_pairs_pushed, front_all, front_added, front_joined)

pub ruleset pack_turns = (front_all, front_added, zero_turn, other_turn, some_written)
