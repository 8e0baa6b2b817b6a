-- One turn of each recursion and loop, by a number that is not 0.
use Rattle.std.proofs.Common.{◌≡◌, ◌<◌, ◌≤◌, ◌+◌, ◌-◌, ◌*◌, ◌⊎◌, min, replicate, ℕ, zero, suc, List, [], ◌∷◌, ◌++◌}
use Rattle.std.proofs.Common.{append_assoc, length, drop, get_or, refl, sym, ap, ◌∙◌, inl, inr, arith, drop-cons}
use Rattle.std.specs.Prelude.{reverse}
use Rattle.std.specs.List.{flat_map}
use Rattle.std.proofs.lemmas.List.{append-nil, replicate-append-replicate, get_or-drop, reverse-append, length-reverse}
use Rattle.std.proofs.lemmas.Bool.{cases_lt}
use Rattle.std.proofs.lemmas.Grind.{common_steps, flat_map-append}
use Rattle.gx_words.specs.Numbers.{IsWidth, bytes_of_word, bytes_of_number}
use Rattle.gx_stack.specs.declared.stubs.Stub.{Stub}
use Rattle.gx_stack.specs.Formats.{gap, pair_locals, locals, locals_len}
use Rattle.gx_stack.specs.Held.{ArePairs}
use Rattle.gx_stack.specs.Stubs.{stub_bytes}

-- locals of one size
filled_more : (t n : ℕ) (args : List ℕ) → 0 < n
    → pair_locals t n args ≡ bytes_of_number t (get_or args 0 0) ++ pair_locals t (n - 1) (drop 1 args)
unfolding pair_locals
filled_more t zero args h = absurd (omega arith)
filled_more t (suc n) [] h = let less : suc n - 1 ≡ n = omega arith in rw less refl
filled_more t (suc n) (a ∷ args) h = let less : suc n - 1 ≡ n = omega arith in rw less refl

pub filled_pushed : (t n i : ℕ) (args out : List ℕ) → i < n
    → (out ++ bytes_of_number t (get_or args i 0)) ++ pair_locals t (n - (i + 1)) (drop (i + 1) args)
    ≡ out ++ pair_locals t (n - i) (drop i args)
filled_pushed t n i args out h =
    let less : n - i - 1 ≡ n - (i + 1) = omega arith in
    let here : i + 0 ≡ i = omega arith in
    let first : get_or (drop i args) 0 0 ≡ get_or args i 0 =
    get_or-drop i args 0 0 ∙ ap (λ (k : ℕ). get_or args k 0) here in
    let rest : drop 1 (drop i args) ≡ drop (i + 1) args = grind (arith, common_steps) in
    rw (append_assoc, filled_more t (n - i) (drop i args) (omega (arith, h)), less, first, rest) refl

pub filled_first : (t n : ℕ) (args out : List ℕ)
    → out ++ pair_locals t (n - 0) (drop 0 args) ≡ out ++ pair_locals t n args
filled_first t n args out = let all : n - 0 ≡ n = omega arith in rw all refl

pub filled_room : (t n i : ℕ) → IsWidth t → i < n → t * i + t ≤ t * n
filled_room t n i is below = grind (arith, is, below)

-- locals that no argument is left for
number_zeros : (t : ℕ) → IsWidth t → bytes_of_number t 0 ≡ replicate t 0
number_zeros t is = elim is [
  | inl one ↦ rw one refl
  | inr more ↦ elim more [
    | inl two ↦ rw two refl
    | inr four ↦ rw four refl
  ]
]

zeros_filled : (t n : ℕ) → IsWidth t → replicate (t * n) 0 ≡ pair_locals t n []
unfolding pair_locals
zeros_filled t zero is = let none : t * 0 ≡ 0 = grind arith in rw none refl
zeros_filled t (suc n) is =
    let more : t * suc n ≡ t + t * n = grind arith in
    rw (more, number_zeros t is) (sym (replicate-append-replicate t (t * n) 0)
    ∙ ap (λ (xs : List ℕ). replicate t 0 ++ xs) (zeros_filled t n is))

zeros_rest : (t n : ℕ) (args : List ℕ) → IsWidth t → length args ≡ 0 → replicate (t * n) 0 ≡ pair_locals t n args
zeros_rest t n [] is none = zeros_filled t n is
zeros_rest t n (a ∷ args) is none = absurd (omega (arith, none))

zeros_left : (t n i : ℕ) (args : List ℕ) → IsWidth t → (n ≤ i) ⊎ (length args ≤ i)
    → replicate (t * (n - i)) 0 ≡ pair_locals t (n - i) (drop i args)
unfolding pair_locals
zeros_left t n i args is (inl full) =
    let none : n - i ≡ 0 = omega (arith, full) in
    let zero_many : t * 0 ≡ 0 = grind arith in
    rw (none, zero_many) refl
zeros_left t n i args is (inr past) =
    let none : length (drop i args) ≡ 0 = grind (arith, common_steps, past) in
    zeros_rest t (n - i) (drop i args) is none

pub filled_done : (t n i rest : ℕ) (args out new start : List ℕ) → out ++ pair_locals t (n - i) (drop i args)
    ≡ start ++ pair_locals t n args → new ≡ out ++ replicate (t * rest) 0 → IsWidth t → rest ≡ n - i
    → i ≡ min (length args) n → new ≡ start ++ pair_locals t n args
filled_done t n i rest args out new start kept pushed is left all =
    let past : (n ≤ i) ⊎ (length args ≤ i) = elim (cases_lt (length args) n) [
      | inl few ↦ inr (omega (arith, few, all))
      | inr many ↦ inl (omega (arith, many, all))
    ] in
    pushed ∙ ap (λ (xs : List ℕ). out ++ xs) (rw left (zeros_left t n i args is past)) ∙ kept

pub ruleset filled_turns = (filled_pushed, filled_first, filled_room)

-- the locals of pairs
pub locals_none : (at : ℕ) (pairs args out : List ℕ) → length pairs < 2 → out ≡ out ++ locals at pairs args
unfolding locals
locals_none at [] args out h = sym (append-nil out)
locals_none at (t ∷ []) args out h = sym (append-nil out)
locals_none at (t ∷ n ∷ pairs) args out h = absurd (grind (arith, common_steps))

pub locals_pushed : (at : ℕ) (pairs args out : List ℕ) → 2 ≤ length pairs
    → ((out ++ replicate (gap (get_or pairs 0 0) at) 0) ++ pair_locals (get_or pairs 0 0) (get_or pairs 1 0) args)
    ++ locals (at + gap (get_or pairs 0 0) at + get_or pairs 0 0 * get_or pairs 1 0) (drop 2 pairs)
    (drop (get_or pairs 1 0) args) ≡ out ++ locals at pairs args
unfolding locals
locals_pushed at [] args out h = absurd (grind (arith, common_steps))
locals_pushed at (x ∷ []) args out h = absurd (grind (arith, common_steps))
locals_pushed at (x ∷ y ∷ pairs) args out h = simp append_assoc

pub locals_len_none : (at : ℕ) (pairs : List ℕ) → length pairs < 2 → locals_len at pairs ≡ 0
unfolding locals_len
locals_len_none at [] h = refl
locals_len_none at (t ∷ []) h = refl
locals_len_none at (t ∷ n ∷ pairs) h = absurd (grind (arith, common_steps))

pub locals_len_more : (at : ℕ) (pairs : List ℕ) → 2 ≤ length pairs
    → locals_len at pairs ≡ gap (get_or pairs 0 0) at + get_or pairs 0 0 * get_or pairs 1 0
    + locals_len (at + gap (get_or pairs 0 0) at + get_or pairs 0 0 * get_or pairs 1 0) (drop 2 pairs)
unfolding locals_len
locals_len_more at [] h = absurd (grind (arith, common_steps))
locals_len_more at (x ∷ []) h = absurd (grind (arith, common_steps))
locals_len_more at (x ∷ y ∷ pairs) h = refl

pub pairs_head : (pairs : List ℕ) → ArePairs pairs → 2 ≤ length pairs → IsWidth (get_or pairs 0 0)
    × ArePairs (drop 2 pairs)
pairs_head [] f h = absurd (grind (arith, common_steps))
pairs_head (t ∷ []) f h = absurd f
pairs_head (t ∷ n ∷ pairs) f h = f

pub ruleset locals_turns = (locals_none, locals_pushed, locals_len_none, locals_len_more, pairs_head)

-- what is left of a list that is pushed one by one
none_left : {X : Type 0} (f : X → List ℕ) (xs : List X) (n : ℕ) → length xs ≤ n → flat_map f (drop n xs) ≡ []
none_left f [] zero h = refl
none_left f [] (suc n) h = refl
none_left f (x ∷ xs) zero h = absurd (grind (arith, common_steps))
none_left f (x ∷ xs) (suc n) h = none_left f xs n (omega (arith, h))

one_left : {X : Type 0} (f : X → List ℕ) (xs : List X) (n : ℕ) (d : X) → n < length xs
    → flat_map f (drop n xs) ≡ f (get_or xs n d) ++ flat_map f (drop (n + 1) xs)
one_left f xs n d within =
    let next : n + 1 ≡ suc n = omega arith in
    rw (next, drop-cons xs n d) refl

-- stubs
pub stub_pushed : (out : List ℕ) (stubs : List Stub) (n : ℕ) (d : Stub) → n < length stubs
    → (out ++ stub_bytes (get_or stubs n d)) ++ flat_map stub_bytes (drop (n + 1) stubs)
    ≡ out ++ flat_map stub_bytes (drop n stubs)
stub_pushed out stubs n d within = rw (one_left stub_bytes stubs n d within, append_assoc) refl

pub stubs_pushed : (out : List ℕ) (stubs : List Stub) (n : ℕ) → length stubs ≤ n
    → out ++ flat_map stub_bytes (drop n stubs) ≡ out
stubs_pushed out stubs n h = rw (none_left stub_bytes stubs n h) (append-nil out)

pub length-stubs : (stubs : List Stub) → length (flat_map stub_bytes stubs) ≡ 16 * length stubs
unfolding stub_bytes
length-stubs [] = refl
length-stubs (p ∷ stubs) = omega (arith, length-stubs stubs)

pub ruleset stub_turns = (stub_pushed, stubs_pushed, length-stubs)

-- values in order
pub value_pushed : (out : List ℕ) (values : List ℕ) (n : ℕ) → n < length values
    → (out ++ bytes_of_word (get_or values n 0)) ++ flat_map bytes_of_word (drop (n + 1) values)
    ≡ out ++ flat_map bytes_of_word (drop n values)
value_pushed out values n within = rw (one_left bytes_of_word values n 0 within, append_assoc) refl

pub values_pushed : (out : List ℕ) (values : List ℕ) (n : ℕ) → length values ≤ n
    → out ++ flat_map bytes_of_word (drop n values) ≡ out
values_pushed out values n h = rw (none_left bytes_of_word values n h) (append-nil out)

pub length-values : (values : List ℕ) → length (flat_map bytes_of_word values) ≡ 4 * length values
length-values [] = refl
length-values (v ∷ values) = omega (arith, length-values values)

pub ruleset value_turns = (value_pushed, values_pushed, length-values)

-- arguments, the first topmost
unfoldable pub topmost_first : List ℕ → List ℕ
topmost_first [] = []
topmost_first (v ∷ values) = topmost_first values ++ bytes_of_word v

pub topmost_reversed : (args : List ℕ) → topmost_first args ≡ flat_map bytes_of_word (reverse args)
unfolding topmost_first
topmost_reversed [] = refl
topmost_reversed (a ∷ args) =
    ap (λ (xs : List ℕ). xs ++ bytes_of_word a) (topmost_reversed args)
    ∙ sym (ap (λ (xs : List ℕ). flat_map bytes_of_word xs) (reverse-append (a ∷ []) args)
    ∙ flat_map-append bytes_of_word (reverse args) (a ∷ []))

no_args : (args : List ℕ) (n : ℕ) → length args ≤ n → topmost_first (drop n args) ≡ []
unfolding topmost_first
no_args [] zero h = refl
no_args [] (suc n) h = refl
no_args (a ∷ args) zero h = absurd (grind (arith, common_steps))
no_args (a ∷ args) (suc n) h = no_args args n (omega (arith, h))

one_arg : (args : List ℕ) (n : ℕ) → n < length args
    → topmost_first (drop n args) ≡ topmost_first (drop (n + 1) args) ++ bytes_of_word (get_or args n 0)
unfolding topmost_first
one_arg args n within =
    let next : n + 1 ≡ suc n = omega arith in
    rw (next, drop-cons args n 0) refl

-- the argument in front of those that were pushed
arg_before : (args : List ℕ) (i : ℕ) → i < length args → topmost_first (drop (length args - (i + 1)) args)
    ≡ topmost_first (drop (length args - i) args) ++ bytes_of_word (get_or args (length args - 1 - i) 0)
arg_before args i within =
    let here : length args - (i + 1) ≡ length args - 1 - i = omega arith in
    let next : length args - i ≡ length args - 1 - i + 1 = omega arith in
    let there : length args - 1 - i < length args = omega arith in
    rw (here, next) (one_arg args (length args - 1 - i) there)

pub all_args : (args : List ℕ) (i : ℕ) → length args ≤ i
    → topmost_first (drop (length args - i) args) ≡ flat_map bytes_of_word (reverse args)
all_args args i all = let none : length args - i ≡ 0 = omega (arith, all) in rw none (topmost_reversed args)

pub arg_pushed : (out args : List ℕ) (i : ℕ) → i < length args
    → (out ++ topmost_first (drop (length args - i) args)) ++ bytes_of_word (get_or args (length args - 1 - i) 0)
    ≡ out ++ topmost_first (drop (length args - (i + 1)) args)
arg_pushed out args i h = rw (arg_before args i h, append_assoc) refl

pub no_arg_yet : (out args : List ℕ) (n : ℕ) → length args ≤ n → out ≡ out ++ topmost_first (drop n args)
no_arg_yet out args n h = rw (no_args args n h) (sym (append-nil out))

pub length-args : (args : List ℕ) → length (flat_map bytes_of_word (reverse args)) ≡ 4 * length args
length-args args = omega (arith, length-values (reverse args), length-reverse args)

pub ruleset arg_turns = (arg_pushed, no_arg_yet, all_args, length-args)
