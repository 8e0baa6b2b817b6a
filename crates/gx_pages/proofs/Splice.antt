-- Bytes written over a part of a list.
use Rattle.std.proofs.Common.{◌≡◌, ◌⊎◌, inl, inr, ℕ, ◌+◌, ◌-◌, ◌<◌, ◌≤◌, List, [], ◌++◌, length, take, drop, get_or}
use Rattle.std.proofs.Common.{sym, refl, ap, ◌∙◌, arith, zero-add, replicate, append_assoc, length-append}
use Rattle.std.proofs.Common.{length-take, length-drop}
use Rattle.std.proofs.lemmas.List.{take-append-le, drop-append-le, drop-drop, drop-take, drop_all, length-take-le}
use Rattle.std.proofs.lemmas.List.{take-take, take-append-drop, length-replicate, append-nil}
use Rattle.std.proofs.lemmas.List.{replicate-append-replicate}
use Rattle.std.proofs.Math.Seq.{take-append-add, drop-append-add, take-add}
use Rattle.std.proofs.lemmas.List.{take_at, get_or_append_left, get_or-append_right, get_or-take, get_or-drop}
use Rattle.std.proofs.lemmas.List.{get_or_past, get_or-replicate}
use Rattle.std.proofs.lemmas.Bool.{cases_lt}
use Rattle.gx_words.specs.Numbers.{spliced}
use Rattle.gx_pages.specs.Memory.{put_back_of}
use Rattle.gx_pages.proofs.PutBack.{put_back_from}

pub length-spliced : (xs ys : List ℕ) (at : ℕ) → at + length ys ≤ length xs → length (spliced xs at ys) ≡ length xs
length-spliced xs ys at h =
    simp (length-append, length-take, length-drop) (omega arith)

pub take_before : (xs ys : List ℕ) (at : ℕ) → at ≤ length xs → take at (spliced xs at ys) ≡ take at xs
take_before xs ys at h = take_at (take at xs) (ys ++ drop (at + length ys) xs) at (length-take-le at xs h)

-- a write that ends before the second list
pub spliced_front : (xs zs ys : List ℕ) (k : ℕ) → k + length ys ≤ length xs
    → spliced (xs ++ zs) k ys ≡ spliced xs k ys ++ zs
spliced_front xs zs ys k h =
    let a : k ≤ length xs = omega arith in
    rw (take-append-le k xs zs a, drop-append-le (k + length ys) xs zs h) (simp append_assoc)

-- a write that begins after the first list
pub spliced_back : (xs zs ys : List ℕ) (k n : ℕ) → n ≡ length xs + k → spliced (xs ++ zs) n ys ≡ xs ++ spliced zs k ys
spliced_back xs zs ys k n e =
    let f : n + length ys ≡ length xs + (k + length ys) = omega arith in
    rw (f, e, take-append-add xs zs k, drop-append-add xs zs (k + length ys)) (append_assoc xs (take k zs) _)

-- one write after another, at its end
pub spliced_more : (xs ys zs : List ℕ) (at n : ℕ) → n ≡ at + length ys → n ≤ length xs
    → spliced (spliced xs at ys) n zs ≡ spliced xs at (ys ++ zs)
spliced_more xs ys zs at n e h =
    let t : take at xs ++ (ys ++ drop (at + length ys) xs) ≡ (take at xs ++ ys) ++ drop (at + length ys) xs =
    sym (append_assoc (take at xs) ys (drop (at + length ys) xs)) in
    let l : n ≡ length (take at xs ++ ys) + 0 = simp (length-append, length-take) (omega arith) in
    let m : at + length (ys ++ zs) ≡ at + length ys + (0 + length zs) = simp length-append (omega arith) in
    let d : drop (at + length (ys ++ zs)) xs ≡ drop (0 + length zs) (drop (at + length ys) xs) =
    ap (λ k. drop k xs) m ∙ sym (drop-drop (0 + length zs) (at + length ys) xs) in
    rw t (spliced_back (take at xs ++ ys) (drop (at + length ys) xs) zs 0 n l ∙ rw d (simp append_assoc))

-- one write at the end of a list, and another at the start of the next
pub spliced_pair : (xs ys es ss : List ℕ) (at : ℕ) → at + length es ≡ length xs → length ss ≤ length ys
    → spliced xs at es ++ spliced ys 0 ss ≡ spliced (xs ++ ys) at (es ++ ss)
spliced_pair xs ys es ss at end few =
    let l : length (spliced xs at es) ≡ length xs = length-spliced xs es at (omega arith) in
    let m : length (xs ++ ys) ≡ length xs + length ys = length-append xs ys in
    sym (spliced_back (spliced xs at es) ys ss 0 (length xs) (omega arith))
    ∙ ap (λ u. spliced u (length xs) ss) (sym (spliced_front xs ys es at (omega arith)))
    ∙ spliced_more (xs ++ ys) es ss at (length xs) (omega arith) (omega arith)

-- a window that ends before a cut
pub window_cut : (xs : List ℕ) (from k size : ℕ) → from + k ≤ size
    → take k (drop from (take size xs)) ≡ take k (drop from xs)
window_cut xs from k size h =
    let e : size ≡ from + (size - from) = omega arith in
    ap (λ m. take k (drop from (take m xs))) e
    ∙ ap (take k) (drop-take from (size - from) xs)
    ∙ take-take k (size - from) (drop from xs) (omega arith)

-- a window of a window
drop_taken : (zs : List ℕ) (from k d n : ℕ) → d + n ≤ k
    → take n (drop d (take k (drop from zs))) ≡ take n (drop (from + d) zs)
drop_taken zs from k d n h =
    let e : k ≡ d + (k - d) = omega arith in
    ap (λ m. take n (drop d (take m (drop from zs)))) e
    ∙ ap (take n) (drop-take d (k - d) (drop from zs))
    ∙ take-take n (k - d) (drop d (drop from zs)) (omega arith)
    ∙ ap (take n) (drop-drop d from zs)

-- a loop that writes ys piece by piece
pub spliced_step : (xs ts ys : List ℕ) (at done n m : ℕ) → at + length ys ≤ length xs → done + n ≤ length ys → m ≡ n
    → ts ≡ spliced xs at (take done ys) → spliced ts (at + done) (take m (drop done ys))
    ≡ spliced xs at (take (done + n) ys)
spliced_step xs ts ys at done n m h k e t =
    let l : length (take done ys) ≡ done = simp length-take (omega arith) in
    rw (t, e, take-add done n ys) (spliced_more xs (take done ys) (take n (drop done ys)) at (at + done) (omega arith)
    (omega arith))

-- a loop that takes the bytes of zs from one address up to another, piece by piece
pub taken_step : (xs ts zs : List ℕ) (from end at n : ℕ) → end ≤ length xs → end ≤ length zs → from ≤ at
    → at + n ≤ end → ts ≡ spliced xs from (take (at - from) (take (end - from) (drop from zs)))
    → spliced ts at (take n (drop at zs)) ≡ spliced xs from (take (at + n - from) (take (end - from) (drop from zs)))
taken_step xs ts zs from end at n h k l m made =
    let ys = take (end - from) (drop from zs) in
    let d = at - from in
    let len : length ys ≡ end - from = simp (length-take, length-drop) (omega arith) in
    let here : from + d ≡ at = omega arith in
    let there : at + n - from ≡ d + n = omega arith in
    let piece : take n (drop d ys) ≡ take n (drop at zs) = drop_taken zs from (end - from) d n (omega arith)
    ∙ ap (λ k. take n (drop k zs)) here in
    ap (λ ps. spliced ts at ps) (sym piece) ∙ ap (λ k. spliced ts k (take n (drop d ys))) (sym here)
    ∙ spliced_step xs ts ys from d n n (omega arith) (omega arith) refl made
    ∙ ap (λ k. spliced xs from (take k ys)) (sym there)

pub get_or-spliced_below : (xs ys : List ℕ) (at k : ℕ) → at + length ys ≤ length xs → k < at
    → get_or (spliced xs at ys) k 0 ≡ get_or xs k 0
get_or-spliced_below xs ys at k h l =
    let m : k < length (take at xs) = simp length-take (omega arith) in
    get_or_append_left (take at xs) _ 0 k m ∙ get_or-take at xs k 0 l

pub get_or-spliced : (xs ys : List ℕ) (at k j : ℕ) → at + length ys ≤ length xs → at + j ≡ k → j < length ys
    → get_or (spliced xs at ys) k 0 ≡ get_or ys j 0
get_or-spliced xs ys at k j h e l =
    let m : length (take at xs) ≡ at = simp length-take (omega arith) in
    let f : k - at ≡ j = omega arith in
    get_or-append_right (take at xs) _ at k 0 m (omega arith) ∙ rw f (get_or_append_left ys _ 0 j l)

pub get_or-spliced_above : (xs ys : List ℕ) (at k : ℕ) → at + length ys ≤ length xs → at + length ys ≤ k
    → get_or (spliced xs at ys) k 0 ≡ get_or xs k 0
get_or-spliced_above xs ys at k h l =
    let m : length (take at xs) ≡ at = simp length-take (omega arith) in
    let f : at + length ys + (k - at - length ys) ≡ k = omega arith in
    get_or-append_right (take at xs) (ys ++ drop (at + length ys) xs) at k 0 m (omega arith)
    ∙ get_or-append_right ys (drop (at + length ys) xs) (length ys) (k - at) 0 refl (omega arith)
    ∙ get_or-drop (at + length ys) xs (k - at - length ys) 0
    ∙ ap (λ n. get_or xs n 0) f

-- bytes that are there already change nothing
spliced_same : (xs ys : List ℕ) (at : ℕ) → take (length ys) (drop at xs) ≡ ys → spliced xs at ys ≡ xs
spliced_same xs ys at e =
    ap (λ u. take at xs ++ (u ++ drop (at + length ys) xs)) (sym e)
    ∙ ap (λ u. take at xs ++ (take (length ys) (drop at xs) ++ u)) (sym (drop-drop (length ys) at xs))
    ∙ ap (λ u. take at xs ++ u) (take-append-drop (length ys) (drop at xs))
    ∙ take-append-drop at xs

-- where the first bytes of a window are these, they may as well be written
pub spliced_found : (xs ys piece : List ℕ) (at k : ℕ) → piece ≡ take k (drop at xs) → length ys ≤ length piece
    → take (length ys) piece ≡ ys → xs ≡ spliced xs at ys
spliced_found xs ys piece at k made h e =
    let l : length piece ≡ length (take k (drop at xs)) = ap (λ (v : List ℕ). length v) made in
    let m : length (take k (drop at xs)) ≤ k = simp length-take (omega arith) in
    let few : length ys ≤ k = omega (arith, l, m, h) in
    sym (spliced_same xs ys at (sym (take-take (length ys) k (drop at xs) few) ∙ ap (take (length ys)) (sym made) ∙ e))

-- bytes over as many
pub spliced_whole : (xs ys : List ℕ) (at : ℕ) → length ys ≡ length xs → at ≡ 0 → spliced xs at ys ≡ ys
spliced_whole xs ys at l z =
    rw z (ap (λ u. ys ++ u) (drop_all (0 + length ys) xs (omega arith)) ∙ append-nil ys)

-- bytes, and zeros from their end on
pub spliced_all : (xs ys : List ℕ) (n : ℕ) → length xs ≡ n → length ys ≤ n
    → spliced (spliced xs 0 ys) (length ys) (replicate (n - length ys) 0) ≡ ys ++ replicate (n - length ys) 0
spliced_all xs ys n l h =
    let zs : List ℕ = replicate (n - length ys) 0 in
    let k : length zs ≡ n - length ys = length-replicate {A = ℕ} (n - length ys) 0 in
    let all : length (ys ++ zs) ≡ n = omega (arith, length-append ys zs) in
    let none : drop (0 + length (ys ++ zs)) xs ≡ [] = drop_all (0 + length (ys ++ zs)) xs (omega arith) in
    spliced_more xs ys zs 0 (length ys) (sym (zero-add (length ys))) (omega arith)
    ∙ ap (λ u. (ys ++ zs) ++ u) none ∙ append-nil (ys ++ zs)

-- a loop that writes zeros piece by piece
pub cleared_step : (xs ts : List ℕ) (at done n : ℕ) → at + done ≤ length xs → ts ≡ spliced xs at (replicate done 0)
    → spliced ts (at + done) (replicate n 0) ≡ spliced xs at (replicate (done + n) 0)
cleared_step xs ts at done n h t =
    let l : length (replicate {A = ℕ} done 0) ≡ done = length-replicate {A = ℕ} done 0 in
    rw t (spliced_more xs (replicate done 0) (replicate n 0) at (at + done) (omega arith) (omega arith))
    ∙ ap (spliced xs at) (replicate-append-replicate {A = ℕ} done n 0)

-- the bytes of `now` over a part of `kept`
pub put_back_spliced : (now kept ys : List ℕ) (from n count : ℕ) → from + n ≤ length kept → length ys ≡ n → n ≤ count
    → (n ≡ count) ⊎ (from + n ≡ length kept) → ((k : ℕ) → k < n → get_or ys k 0 ≡ get_or now (from + k) 0)
    → spliced kept from ys ≡ put_back_of now kept from count
put_back_spliced now kept ys from n count h l c e b =
    let s : length (spliced kept from ys) ≡ length kept = length-spliced kept ys from (omega arith) in
    put_back_from now kept (spliced kept from ys) from count s
    (λ k i j w.
    let f : from + (k - from) ≡ k = omega arith in
    let u : k - from < n = omega arith in
    get_or-spliced kept ys from k (k - from) (omega arith) f (omega arith) ∙ b (k - from) u
    ∙ ap (λ m. get_or now m 0) f)
    (λ k i. get_or-spliced_below kept ys from k (omega arith) i)
    (λ k i. get_or-spliced_above kept ys from k (omega arith) (omega arith))

-- the bytes of a list from an address on, with 0 where it doesn't reach
pub present_at : (zs : List ℕ) (from a m k : ℕ) → length (take a (drop from zs)) ≡ a → (0 < m → length zs ≤ from + a)
    → k < a + m → get_or (take a (drop from zs) ++ replicate m 0) k 0 ≡ get_or zs (from + k) 0
present_at zs from a m k len past h =
    elim (cases_lt k a) [
      | inl below ↦
          get_or_append_left (take a (drop from zs)) (replicate m 0) 0 k (omega arith)
          ∙ get_or-take a (drop from zs) k 0 below ∙ get_or-drop from zs k 0
      | inr above ↦
          let end : length zs ≤ from + a = past (omega arith) in
          get_or-append_right (take a (drop from zs)) (replicate m 0) a k 0 len above
          ∙ get_or-replicate {A = ℕ} m (k - a) 0 0 (omega arith)
          ∙ sym (get_or_past zs (from + k) 0 (omega arith))
    ]

-- a slice that is filled piece by piece
pub copy_step : (to all piece : List ℕ) (done n : ℕ) → done + n ≤ length to → length piece ≡ n
    → piece ≡ take n (drop done all) → take done to ≡ take done all
    → take (done + n) (spliced to done piece) ≡ take (done + n) all
copy_step to all piece done n h l e made =
    let d : length (take done to) ≡ done = simp length-take (omega arith) in
    let f : done + n ≡ length (take done to ++ piece) = omega (arith, length-append (take done to) piece) in
    ap (take (done + n)) (sym (append_assoc (take done to) piece (drop (done + length piece) to)))
    ∙ take_at (take done to ++ piece) (drop (done + length piece) to) (done + n) (sym f)
    ∙ ap (λ u. u ++ piece) made ∙ ap (λ u. take done all ++ u) e ∙ sym (take-add done n all)

-- the bytes of `now` up to its end over a part of `kept`, and zeros from there on
pub present_put : (now kept t new : List ℕ) (from there end count : ℕ) → from ≤ there → there ≤ end
    → end ≤ length kept → end ≤ from + count → (end ≡ from + count) ⊎ (end ≡ length kept) → (from ≡ there)
    ⊎ (there ≤ length now) → (there ≡ end) ⊎ (length now ≤ there)
    → t ≡ spliced kept from (take (there - from) (drop from now)) → new ≡ spliced t there (replicate (end - there) 0)
    → new ≡ put_back_of now kept from count
present_put now kept t new from there end count h i j k until reach past made cleared =
    let a = there - from in
    let m = end - there in
    let xs = take a (drop from now) in
    let zs : List ℕ = replicate m 0 in
    let len : length xs ≡ a = simp (length-take, length-drop) (omega arith) in
    let none : length zs ≡ m = length-replicate {A = ℕ} m 0 in
    let all : length (xs ++ zs) ≡ end - from = omega (arith, length-append xs zs) in
    cleared ∙ ap (λ u. spliced u there zs) made
    ∙ spliced_more kept xs zs from there (omega arith) (omega arith)
    ∙ put_back_spliced now kept (xs ++ zs) from (end - from) count (omega arith) all (omega arith) (grind arith)
    (λ p l. present_at now from a m p len (λ some. omega arith) (omega arith))
