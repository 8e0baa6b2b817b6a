-- What the calls on values make of the list of a frame's values.
use Rattle.std.proofs.Common.{◌≡◌, ◌≤◌, ◌<◌, ◌+◌, ◌-◌, ◌*◌, ◌/◌, ◌%◌, ◌^◌, ℕ, zero, suc, List, [], ◌∷◌, ◌++◌, length}
use Rattle.std.proofs.Common.{take, drop, get_or, refl, ap, sym, ◌∙◌, arith}
use Rattle.std.proofs.lemmas.Grind.{common_steps}
use Rattle.std.proofs.lemmas.List.{drop-take}
use Rattle.gx_words.specs.Numbers.{word, bytes_of_word}
use Rattle.gx_stack.specs.declared.frames.Frame.{Frame}
use Rattle.gx_stack.specs.Frames.{IsFrame}
use Rattle.gx_stack.proofs.Pieces.{digits, word_behind}
use Rattle.gx_stack.specs.Values.{turned, turned_top}
use Rattle.gx_stack.specs.Laws.{words, last, but_last, rolled_values, values_of}

-- a list of 4 n bytes in front
words_joined : (n : ℕ) (xs ys : List ℕ) → length xs ≡ 4 * n → words (xs ++ ys) ≡ words xs ++ words ys
unfolding words
words_joined zero [] ys h = refl
words_joined zero (a ∷ xs) ys h = absurd (grind (arith, common_steps))
words_joined (suc n) [] ys h = absurd (omega (arith, h))
words_joined (suc n) (a ∷ []) ys h = absurd (omega (arith, h))
words_joined (suc n) (a ∷ b ∷ []) ys h = absurd (omega (arith, h))
words_joined (suc n) (a ∷ b ∷ c ∷ []) ys h = absurd (omega (arith, h))
words_joined (suc n) (a ∷ b ∷ c ∷ d ∷ xs) ys h =
    let less : length xs ≡ 4 * n = omega (arith, h) in
    ap (λ r. word (a ∷ b ∷ c ∷ d ∷ []) 0 ∷ r) (words_joined n xs ys less)

words_taken : (n : ℕ) (xs : List ℕ) → 4 * n ≤ length xs → words (take (4 * n) xs) ≡ take n (words xs)
unfolding words
words_taken zero xs h = refl
words_taken (suc n) [] h = absurd (omega (arith, h))
words_taken (suc n) (a ∷ []) h = absurd (omega (arith, h))
words_taken (suc n) (a ∷ b ∷ []) h = absurd (omega (arith, h))
words_taken (suc n) (a ∷ b ∷ c ∷ []) h = absurd (omega (arith, h))
words_taken (suc n) (a ∷ b ∷ c ∷ d ∷ xs) h =
    let four : 4 * suc n ≡ suc (suc (suc (suc (4 * n)))) = omega arith in
    let less : 4 * n ≤ length xs = omega (arith, h) in
    rw four (ap (λ r. word (a ∷ b ∷ c ∷ d ∷ []) 0 ∷ r) (words_taken n xs less))

words_dropped : (n : ℕ) (xs : List ℕ) → 4 * n ≤ length xs → words (drop (4 * n) xs) ≡ drop n (words xs)
unfolding words
words_dropped zero xs h = refl
words_dropped (suc n) [] h = absurd (omega (arith, h))
words_dropped (suc n) (a ∷ []) h = absurd (omega (arith, h))
words_dropped (suc n) (a ∷ b ∷ []) h = absurd (omega (arith, h))
words_dropped (suc n) (a ∷ b ∷ c ∷ []) h = absurd (omega (arith, h))
words_dropped (suc n) (a ∷ b ∷ c ∷ d ∷ xs) h =
    let four : 4 * suc n ≡ suc (suc (suc (suc (4 * n)))) = omega arith in
    let less : 4 * n ≤ length xs = omega (arith, h) in
    rw four (words_dropped n xs less)

words_count : (n : ℕ) (xs : List ℕ) → length xs ≡ 4 * n → length (words xs) ≡ n
unfolding words
words_count zero [] h = refl
words_count zero (a ∷ xs) h = absurd (grind (arith, common_steps))
words_count (suc n) [] h = absurd (omega (arith, h))
words_count (suc n) (a ∷ []) h = absurd (omega (arith, h))
words_count (suc n) (a ∷ b ∷ []) h = absurd (omega (arith, h))
words_count (suc n) (a ∷ b ∷ c ∷ []) h = absurd (omega (arith, h))
words_count (suc n) (a ∷ b ∷ c ∷ d ∷ xs) h = let less : length xs ≡ 4 * n = omega (arith, h) in
    omega (arith, words_count n xs less)

-- the word at a place
words_at : (k : ℕ) (xs : List ℕ) → 4 * k + 4 ≤ length xs → get_or (words xs) k 0 ≡ word xs (4 * k)
unfolding words
words_at k [] h = absurd (omega (arith, h))
words_at k (a ∷ []) h = absurd (omega (arith, h))
words_at k (a ∷ b ∷ []) h = absurd (omega (arith, h))
words_at k (a ∷ b ∷ c ∷ []) h = absurd (omega (arith, h))
words_at zero (a ∷ b ∷ c ∷ d ∷ xs) h = refl
words_at (suc k) (a ∷ b ∷ c ∷ d ∷ xs) h =
    let less : 4 * k + 4 ≤ length xs = omega (arith, h) in
    let next = words_at k xs less in
    let place : 4 * suc k ≡ length (a ∷ b ∷ c ∷ d ∷ []) + 4 * k = omega arith in
    rw place (next ∙ sym (word_behind (a ∷ b ∷ c ∷ d ∷ []) xs (4 * k)))

-- n values turned by up places
words_turned : (n up : ℕ) (xs : List ℕ) → length xs ≡ 4 * n → up ≤ n → words (turned xs (4 * up)) ≡ turned (words xs) up
words_turned n up xs h fits =
    let cut : length xs - 4 * up ≡ 4 * (n - up) = omega arith in
    let there : 4 * (n - up) ≤ length xs = omega arith in
    let long : length (drop (4 * (n - up)) xs) ≡ 4 * up = grind (arith, common_steps) in
    rw (
      cut,
      words_count n xs h,
      words_joined up (drop (4 * (n - up)) xs) (take (4 * (n - up)) xs) long,
      words_taken (n - up) xs there,
      words_dropped (n - up) xs there,
    ) refl

rolled_words : (m n up : ℕ) (xs : List ℕ) → length xs ≡ 4 * m → n ≤ m → up ≤ n
    → words (take (4 * (m - n)) xs ++ turned (drop (4 * (m - n)) xs) (4 * up)) ≡ rolled_values n up (words xs)
rolled_words m n up xs h few fits =
    let there : 4 * (m - n) ≤ length xs = omega arith in
    let front : length (take (4 * (m - n)) xs) ≡ 4 * (m - n) = grind (arith, common_steps) in
    let top : length (drop (4 * (m - n)) xs) ≡ 4 * n = grind (arith, common_steps) in
    rw (
      words_joined (m - n) (take (4 * (m - n)) xs) (turned (drop (4 * (m - n)) xs) (4 * up)) front,
      words_turned n up (drop (4 * (m - n)) xs) top fits,
      words_taken (m - n) xs there,
      words_dropped (m - n) xs there,
      words_count m xs h,
    ) refl

drop_front : (xs ys : List ℕ) (v : ℕ) → v ≤ length xs → drop v (xs ++ ys) ≡ drop v xs ++ ys
drop_front xs ys v h = grind (arith, common_steps)

drop_take : (xs : List ℕ) (v n : ℕ) → v ≤ n → drop v (take n xs) ≡ take (n - v) (drop v xs)
drop_take xs v n h = let sum : v + (n - v) ≡ n = omega arith in rw sum at (drop-take v (n - v) xs)

drop_drop : (xs : List ℕ) (v n : ℕ) → v ≤ n → drop (n - v) (drop v xs) ≡ drop n xs
drop_drop xs v n h = grind (arith, common_steps)

length_behind : (s : List ℕ) (v : ℕ) → v ≤ length s → v % 4 ≡ 0 → length s % 4 ≡ 0
    → length (drop v s) ≡ 4 * ((length s - v) / 4)
length_behind s v there at whole = grind (arith, common_steps)

-- a roll is one of the list of the frame's values
values_rolled : (s : List ℕ) (v n up : ℕ) → v + 4 * n ≤ length s → v % 4 ≡ 0 → length s % 4 ≡ 0 → up ≤ n
    → words (drop v (turned_top s n up)) ≡ rolled_values n up (words (drop v s))
values_rolled s v n up few at whole fits =
    let long = length_behind s v (omega arith) at whole in
    let front : v ≤ length (take (length s - 4 * n) s) = grind (arith, common_steps) in
    let cut : length s - 4 * n - v ≡ 4 * ((length s - v) / 4 - n) = omega arith in
    let below : v ≤ length s - 4 * n = omega arith in
    let r = rolled_words ((length s - v) / 4) n up (drop v s) long (omega arith) fits in
    let d = drop_drop s v (length s - 4 * n) below in
    rw (
      drop_front (take (length s - 4 * n) s) (turned (drop (length s - 4 * n) s) (4 * up)) v front,
      drop_take s v (length s - 4 * n) below,
      ← d,
      cut,
    ) r

pub values_rolled_at : (s new : List ℕ) (v n up : ℕ) → new ≡ turned_top s n up → v + 4 * n ≤ length s → v % 4 ≡ 0
    → length s % 4 ≡ 0 → up ≤ n → words (drop v new) ≡ rolled_values n up (words (drop v s))
values_rolled_at s new v n up is few at whole fits = rw is (values_rolled s v n up few at whole fits)

-- a copy of the top n values
values_copied : (s : List ℕ) (v n : ℕ) → v + 4 * n ≤ length s → v % 4 ≡ 0 → length s % 4 ≡ 0
    → words (drop v (s ++ drop (length s - 4 * n) s)) ≡ words (drop v s) ++ last n (words (drop v s))
values_copied s v n few at whole =
    let long = length_behind s v (omega arith) at whole in
    let cut : length s - 4 * n - v ≡ 4 * ((length s - v) / 4 - n) = omega arith in
    let below : v ≤ length s - 4 * n = omega arith in
    let there : 4 * ((length s - v) / 4 - n) ≤ length (drop v s) = omega arith in
    let d = drop_drop s v (length s - 4 * n) below in
    rw (
      drop_front s (drop (length s - 4 * n) s) v (omega arith),
      ← d,
      cut,
      words_joined ((length s - v) / 4) (drop v s) (drop (4 * ((length s - v) / 4 - n)) (drop v s)) long,
      words_dropped ((length s - v) / 4 - n) (drop v s) there,
      words_count ((length s - v) / 4) (drop v s) long,
    ) refl

pub values_copied_at : (s new : List ℕ) (v n : ℕ) → new ≡ s ++ drop (length s - 4 * n) s → v + 4 * n ≤ length s
    → v % 4 ≡ 0 → length s % 4 ≡ 0 → words (drop v new) ≡ words (drop v s) ++ last n (words (drop v s))
values_copied_at s new v n is few at whole = rw is (values_copied s v n few at whole)

-- all but the top n values
values_cut : (s : List ℕ) (v n : ℕ) → v + 4 * n ≤ length s → v % 4 ≡ 0 → length s % 4 ≡ 0
    → words (drop v (take (length s - 4 * n) s)) ≡ but_last n (words (drop v s))
values_cut s v n few at whole =
    let long = length_behind s v (omega arith) at whole in
    let cut : length s - 4 * n - v ≡ 4 * ((length s - v) / 4 - n) = omega arith in
    let there : 4 * ((length s - v) / 4 - n) ≤ length (drop v s) = omega arith in
    rw (
      drop_take s v (length s - 4 * n) (omega arith),
      cut,
      words_taken ((length s - v) / 4 - n) (drop v s) there,
      words_count ((length s - v) / 4) (drop v s) long,
    ) refl

pub values_dropped : (s new : List ℕ) (v n : ℕ) → new ≡ take (length s - 4 * n) s → v + 4 * n ≤ length s → v % 4 ≡ 0
    → length s % 4 ≡ 0 → words (drop v new) ≡ but_last n (words (drop v s))
values_dropped s new v n is few at whole = rw is (values_cut s v n few at whole)

-- how many values there are
pub values_counted : (s : List ℕ) (v : ℕ) → v ≤ length s → v % 4 ≡ 0 → length s % 4 ≡ 0
    → length (words (drop v s)) ≡ (length s - v) / 4
values_counted s v there at whole = words_count ((length s - v) / 4) (drop v s) (length_behind s v there at whole)

-- the value i from the top
pub value_peeked : (s : List ℕ) (v i : ℕ) → i < (length s - v) / 4 → v % 4 ≡ 0 → length s % 4 ≡ 0
    → get_or (words (drop v s)) (length (words (drop v s)) - 1 - i) 0 ≡ word s (length s - 4 * (i + 1))
value_peeked s v i few at whole =
    let long = length_behind s v (omega arith) at whole in
    let k : length (words (drop v s)) - 1 - i ≡ (length s - v) / 4 - 1 - i =
    omega (arith, words_count ((length s - v) / 4) (drop v s) long) in
    let there : 4 * ((length s - v) / 4 - 1 - i) + 4 ≤ length (drop v s) = omega (arith, long) in
    let place : v + 4 * ((length s - v) / 4 - 1 - i) ≡ length s - 4 * (i + 1) = omega arith in
    let one = words_at ((length s - v) / 4 - 1 - i) (drop v s) there in
    rw (k, one, ← place) (grind (arith, common_steps))

-- one more value
values_more : (s : List ℕ) (place v : ℕ) → v < 2 ^ 32 → place ≤ length s → place % 4 ≡ 0 → length s % 4 ≡ 0
    → words (drop place (s ++ bytes_of_word v)) ≡ words (drop place s) ++ v ∷ []
unfolding words
values_more s place v fits there at whole =
    let long = length_behind s place there at whole in
    let front = drop_front s (bytes_of_word v) place there in
    let joined = words_joined ((length s - place) / 4) (drop place s) (bytes_of_word v) long in
    ap (λ xs. words xs) front ∙ (joined ∙ ap (λ w. words (drop place s) ++ w ∷ []) (digits v fits))

pub values_pushed : (s : List ℕ) (f : Frame) (v : ℕ) → v < 2 ^ 32 → length s % 4 ≡ 0 → IsFrame s f
    → values_of (s ++ bytes_of_word v) f ≡ values_of s f ++ v ∷ []
values_pushed s f v fits whole is =
    let good = is.good in
    values_more s f.values v fits (omega (arith, is.values, good.whole))
    (omega (arith, is.values, good.begins, good.aligned)) whole
