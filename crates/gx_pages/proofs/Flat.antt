-- Whole chunks of n bytes as one list of bytes.
use Rattle.std.proofs.Common.{◌≡◌, ℕ, ◌+◌, ◌*◌, ◌-◌, ◌/◌, ◌%◌, ◌<◌, ◌≤◌, List, [], ◌∷◌, ◌++◌, length, take, drop, set}
use Rattle.std.proofs.Common.{get_or, replicate, sym, refl, ap, ◌∙◌, arith, append_assoc, length-drop, add-one, zero}
use Rattle.std.proofs.Common.{suc}
use Rattle.std.proofs.lemmas.List.{drop_all, take_all, take-append-le, drop-append-le, take-replicate}
use Rattle.std.proofs.lemmas.List.{take-append-drop, length-take-le, take_at, length-replicate}
use Rattle.std.proofs.lemmas.List.{replicate-append-replicate, append-nil}
use Rattle.std.proofs.lemmas.Nat.Gcd.{dvd_of_mod-eq-zero}
use Rattle.std.proofs.Math.Nat.{mul-suc, mul-zero, mod-mod_of_dvd, lt_of_mul-lt-mul_left}
use Rattle.std.proofs.Math.Seq.{take-append-add, drop-append-add}
use Rattle.std.specs.declared.rc.Rc.{Rc}
use Rattle.gx_pages.specs.Chunks.{AllWhole, flat}
use Rattle.gx_words.specs.Numbers.{spliced}
use Rattle.gx_pages.specs.Nodes.{length-flat}
use Rattle.gx_pages.proofs.Splice.{length-spliced, spliced_front, spliced_back, spliced_pair}

least_product : (n k : ℕ) → 0 < k → n ≤ n * k
least_product n zero some = absurd (omega arith)
least_product n (suc k) some = omega (arith, mul-suc n k)

-- the chunk of an address, and its place in it; the size may stand as several numbers that are one
pub place_lt : (n m at len : ℕ) → m ≡ n → 0 < n → at < n * len → at / m < len
place_lt n m at len e some inside = rw e (lt_of_mul-lt-mul_left n (omega arith))

pub place_is : (n m k at : ℕ) → m ≡ n → k ≡ n → 0 < n → at ≡ n * (at / m) + at % k
place_is n m k at e f some = rw (e, f) (omega arith)

-- bytes that reach past a chunk's end come to the next one
pub next_lt : (n m k at count len : ℕ) → m ≡ n → k ≡ n → 0 < n → n < at % k + count → at + count ≤ n * len
    → at / m + 1 < len
next_lt n m k at count len e f some past inside =
    let place : at ≡ n * (at / m) + at % k = place_is n m k at e f some in
    let more : n * suc (at / m) ≡ n * (at / m) + n = mul-suc n (at / m) in
    let less : n * suc (at / m) < n * len = omega arith in
    let next : suc (at / m) < len = lt_of_mul-lt-mul_left n less in
    omega arith

-- an address in a chunk of whole pages has the same place in its page
pub same_place : (n m at : ℕ) → m ≡ n → n % 256 ≡ 0 → at % m % 256 ≡ at % 256
same_place n m at e whole = rw e (mod-mod_of_dvd 256 at (dvd_of_mod-eq-zero 256 whole))

-- the rest of a page doesn't reach past a chunk of whole pages
pub page_within : (n m k at : ℕ) → m ≡ n → 0 < n → n % 256 ≡ 0 → k ≡ 256 - at % 256 → at % m + k ≤ n
page_within n m k at e some whole f =
    let same : at % m % 256 ≡ at % 256 = same_place n m at e whole in
    let below : at % m < n = rw e (omega arith) in
    omega arith

module _ {C Z : Type 0} (P : C → Type 0) where
  pub whole_at : (ps : List (Rc C Z)) (i : ℕ) (d : Rc C Z) → i < length ps → AllWhole P ps → P (get_or ps i d).value
  whole_at [] i d h w = absurd (omega arith)
  whole_at (p ∷ ps) zero d h w = w.0
  whole_at (p ∷ ps) (suc i) d h w = whole_at ps i d (omega arith) w.1

  pub AllWhole-set : (ps : List (Rc C Z)) (i : ℕ) (q : Rc C Z) → P q.value → AllWhole P ps → AllWhole P (set ps i q)
  AllWhole-set [] i q l w = tt
  AllWhole-set (p ∷ ps) zero q l w = (l, w.1)
  AllWhole-set (p ∷ ps) (suc i) q l w = (w.0, AllWhole-set ps i q l w.1)

  pub AllWhole-append : (ps qs : List (Rc C Z)) → AllWhole P ps → AllWhole P qs → AllWhole P (ps ++ qs)
  AllWhole-append [] qs w v = v
  AllWhole-append (p ∷ ps) qs w v = (w.0, AllWhole-append ps qs w.1 v)

  pub AllWhole-front : (ps qs : List (Rc C Z)) → AllWhole P (ps ++ qs) → AllWhole P ps
  AllWhole-front [] qs w = tt
  AllWhole-front (p ∷ ps) qs w = (w.0, AllWhole-front ps qs w.1)

  pub AllWhole-back : (ps qs : List (Rc C Z)) → AllWhole P (ps ++ qs) → AllWhole P qs
  AllWhole-back [] qs w = w
  AllWhole-back (p ∷ ps) qs w = AllWhole-back ps qs w.1

  pub AllWhole-take : (ps : List (Rc C Z)) (k : ℕ) → AllWhole P ps → AllWhole P (take k ps)
  AllWhole-take ps zero w = tt
  AllWhole-take [] (suc k) w = tt
  AllWhole-take (p ∷ ps) (suc k) w = (w.0, AllWhole-take ps k w.1)

  pub all_whole : (ps : List (Rc C Z)) → ((i : ℕ) (d : Rc C Z) → i < length ps → P (get_or ps i d).value)
      → AllWhole P ps
  all_whole [] h = tt
  all_whole (p ∷ ps) h = (h 0 p (omega arith), all_whole ps (λ i d l. h (suc i) d (omega arith)))

module _ {C Z : Type 0} (b : C → List ℕ) where
  pub flat-set_same : (ps : List (Rc C Z)) (i : ℕ) (q d : Rc C Z) → i < length ps
      → b q.value ≡ b (get_or ps i d).value → flat b (set ps i q) ≡ flat b ps
  flat-set_same [] i q d h e = absurd (omega arith)
  flat-set_same (p ∷ ps) zero q d h e = ap (λ v. v ++ flat b ps) e
  flat-set_same (p ∷ ps) (suc i) q d h e = ap (λ v. b p.value ++ v) (flat-set_same ps i q d (omega arith) e)

  pub flat-append : (ps qs : List (Rc C Z)) → flat b (ps ++ qs) ≡ flat b ps ++ flat b qs
  flat-append [] qs = refl
  flat-append (p ∷ ps) qs = ap (λ v. b p.value ++ v) (flat-append ps qs)
      ∙ sym (append_assoc (b p.value) (flat b ps) (flat b qs))

  -- chunks of zeros
  pub zeros_flat : (n : ℕ) (ps : List (Rc C Z))
      → ((i : ℕ) (d : Rc C Z) → i < length ps → b (get_or ps i d).value ≡ replicate n 0)
      → flat b ps ≡ replicate (n * length ps) 0
  zeros_flat n [] h = ap (λ k. replicate k 0) (sym (mul-zero n))
  zeros_flat n (p ∷ ps) h =
      let f : n + n * length ps ≡ n * suc (length ps) = omega (arith, mul-suc n (length ps)) in
      ap (λ v. v ++ flat b ps) (h 0 p (omega arith))
      ∙ ap (λ v. replicate n 0 ++ v) (zeros_flat n ps (λ i d l. h (suc i) d (omega arith)))
      ∙ replicate-append-replicate {A = ℕ} n (n * length ps) 0 ∙ ap (λ k. replicate k 0) f

  pub zeros_more : (n k : ℕ) (ps : List (Rc C Z)) (q : Rc C Z) → b q.value ≡ replicate n 0
      → flat b ps ≡ replicate (n * k) 0 → flat b (ps ++ q ∷ []) ≡ replicate (n * (k + 1)) 0
  zeros_more n k ps q v z =
      let f : n * (k + 1) ≡ n * k + n = rw (add-one k) (mul-suc n k) in
      flat-append ps (q ∷ []) ∙ ap (λ u. flat b ps ++ u) (append-nil (b q.value) ∙ v) ∙ ap (λ u. u ++ replicate n 0) z
      ∙ replicate-append-replicate {A = ℕ} (n * k) n 0 ∙ ap (λ m. replicate m 0) (sym f)

module _ {C Z : Type 0} (b : C → List ℕ) (P : C → Type 0) (n : ℕ) (s : (x : C) → P x → length (b x) ≡ n) where
  -- a window inside one chunk
  pub window-flat : (ps : List (Rc C Z)) (i j k m : ℕ) (d : Rc C Z) → i < length ps → j + k ≤ n → m ≡ n * i + j
      → AllWhole P ps → take k (drop m (flat b ps)) ≡ take k (drop j (b (get_or ps i d).value))
  window-flat [] i j k m d h l e w = absurd (omega arith)
  window-flat (p ∷ ps) zero j k m d h l e w =
      let f : m ≡ j = omega (arith, mul-zero n) in
      let r : length (drop j (b p.value)) ≡ n - j = length-drop j (b p.value) ∙ ap (λ k. k - j) (s p.value w.0) in
      rw f (ap (take k) (drop-append-le j (b p.value) (flat b ps) (omega (arith, s p.value w.0)))
      ∙ take-append-le k (drop j (b p.value)) (flat b ps) (omega arith))
  window-flat (p ∷ ps) (suc i) j k m d h l e w =
      let v : n * suc i ≡ n * i + n = mul-suc n i in
      let f : m ≡ length (b p.value) + (m - n) = omega (arith, s p.value w.0) in
      ap (λ u. take k (drop u (b p.value ++ flat b ps))) f
      ∙ ap (take k) (drop-append-add (b p.value) (flat b ps) (m - n))
      ∙ window-flat ps i j k (m - n) d (omega arith) l (omega arith) w.1

  -- bytes written in one chunk
  pub flat-set : (ps : List (Rc C Z)) (i k m : ℕ) (q d : Rc C Z) (ys : List ℕ) → i < length ps → k + length ys ≤ n
      → m ≡ n * i + k → AllWhole P ps → b q.value ≡ spliced (b (get_or ps i d).value) k ys
      → flat b (set ps i q) ≡ spliced (flat b ps) m ys
  flat-set [] i k m q d ys h l e w v = absurd (omega arith)
  flat-set (p ∷ ps) zero k m q d ys h l e w v =
      let f : m ≡ k = omega (arith, mul-zero n) in
      rw f (ap (λ u. u ++ flat b ps) v ∙ sym (spliced_front (b p.value) (flat b ps) ys k
      (omega (arith, s p.value w.0))))
  flat-set (p ∷ ps) (suc i) k m q d ys h l e w v =
      let r : n * suc i ≡ n * i + n = mul-suc n i in
      ap (λ u. b p.value ++ u) (flat-set ps i k (m - n) q d ys (omega arith) l (omega arith) w.1 v)
      ∙ sym (spliced_back (b p.value) (flat b ps) ys (m - n) m (omega (arith, s p.value w.0)))

  -- bytes written at the end of the last chunk of one list, and at the start of the first one of another
  pub flat-pair : (ps qs : List (Rc C Z)) (i at : ℕ) (p q d e : Rc C Z) (end start : List ℕ) → length ps ≡ i + 1
      → 0 < length qs → length end ≤ n → length start ≤ n
      → at ≡ n * i + (n - length end) → AllWhole P ps → AllWhole P qs
      → b p.value ≡ spliced (b (get_or ps i d).value) (n - length end) end
      → b q.value ≡ spliced (b (get_or qs 0 e).value) 0 start
      → flat b (set ps i p ++ set qs 0 q) ≡ spliced (flat b (ps ++ qs)) at (end ++ start)
  flat-pair ps qs i at p q d e end start last some few least place w v f g =
      let full : length (flat b ps) ≡ n * length ps = length-flat b P n s ps w in
      let more : length (flat b qs) ≡ n * length qs = length-flat b P n s qs v in
      let next : n * length ps ≡ n * i + n = ap (λ (k : ℕ). n * k) last ∙ ap (λ (k : ℕ). n * k) (add-one i)
      ∙ mul-suc n i in
      let room : n ≤ n * length qs = least_product n (length qs) some in
      let h : flat b (set ps i p) ≡ spliced (flat b ps) at end =
      flat-set ps i (n - length end) at p d end (omega arith) (omega arith) place w f in
      let k : flat b (set qs 0 q) ≡ spliced (flat b qs) 0 start =
      flat-set qs 0 0 0 q e start some (omega arith) (sym (ap (λ (k : ℕ). k + 0) (mul-zero n))) v g in
      flat-append b (set ps i p) (set qs 0 q)
      ∙ ap (λ u. u ++ flat b (set qs 0 q)) h
      ∙ ap (λ u. spliced (flat b ps) at end ++ u) k
      ∙ spliced_pair (flat b ps) (flat b qs) end start at (omega arith) (omega arith)
      ∙ ap (λ u. spliced u at (end ++ start)) (sym (flat-append b ps qs))

  pub flat-take : (ps : List (Rc C Z)) (k m : ℕ) → m ≡ n * k → AllWhole P ps → flat b (take k ps) ≡ take m (flat b ps)
  flat-take ps zero m e w = let f : m ≡ 0 = e ∙ mul-zero n in rw f refl
  flat-take [] (suc k) m e w = sym (take_all m [] (omega arith))
  flat-take (p ∷ ps) (suc k) m e w =
      let r : n * suc k ≡ n * k + n = mul-suc n k in
      let f : m ≡ length (b p.value) + n * k = omega (arith, s p.value w.0) in
      rw (f, take-append-add (b p.value) (flat b ps) (n * k))
      (ap (λ v. b p.value ++ v) (flat-take ps k (n * k) refl w.1))

pub take-spliced : (xs ys : List ℕ) (at size : ℕ) → at + length ys ≤ size → size ≤ length xs
    → take size (spliced xs at ys) ≡ spliced (take size xs) at ys
take-spliced xs ys at size h b =
    let l : length (take size xs) ≡ size = length-take-le size xs b in
    let f : at + length ys ≤ length (take size xs) = omega arith in
    ap (take size) (ap (λ v. spliced v at ys) (sym (take-append-drop size xs))
    ∙ spliced_front (take size xs) (drop size xs) ys at f)
    ∙ take_at (spliced (take size xs) at ys) (drop size xs) size (length-spliced (take size xs) ys at f ∙ l)

pub tail_grown : (xs ys zs : List ℕ) (n m z w : ℕ) → n ≤ length xs → ys ≡ take n xs ++ replicate z 0
    → zs ≡ replicate w 0 → n ≤ m → m ≤ n + (z + w) → take m (ys ++ zs) ≡ take n xs ++ replicate (m - n) 0
tail_grown xs ys zs n m z w h e f b c =
    let l : length (take n xs) ≡ n = length-take-le n xs h in
    let d : m ≡ length (take n xs) + (m - n) = omega arith in
    let j : ys ++ zs ≡ take n xs ++ replicate (z + w) 0 =
    ap (λ u. u ++ zs) e ∙ ap (λ u. (take n xs ++ replicate z 0) ++ u) f ∙ append_assoc (take n xs) (replicate z 0)
    (replicate w 0) ∙ ap (λ u. take n xs ++ u) (replicate-append-replicate {A = ℕ} z w 0) in
    ap (take m) j ∙ ap (λ k. take k (take n xs ++ replicate (z + w) 0)) d
    ∙ take-append-add (take n xs) (replicate (z + w) 0) (m - n)
    ∙ ap (λ u. take n xs ++ u) (take-replicate {X = ℕ} (m - n) (z + w) 0 (omega arith))

pub cleared : (xs : List ℕ) (n z : ℕ) → n + z ≡ length xs
    → spliced xs n (replicate z 0) ≡ take n xs ++ replicate (length xs - n) 0
cleared xs n z h =
    let l : length (replicate {A = ℕ} z 0) ≡ z = length-replicate {A = ℕ} z 0 in
    let d : length xs - n ≡ z = omega arith in
    ap (λ u. take n xs ++ (replicate z 0 ++ u)) (drop_all (n + length (replicate {A = ℕ} z 0)) xs (omega arith))
    ∙ ap (λ u. take n xs ++ u) (append-nil (replicate z 0)) ∙ ap (λ k. take n xs ++ replicate k 0) (sym d)
