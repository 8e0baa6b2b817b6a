-- One turn of each loop that reads packed bytes, and what the parts of unpacking make together.
use Rattle.std.proofs.Common.{◌≡◌, ◌≢◌, ◌≤◌, ◌+◌, ◌-◌, nat_lt, if◌then◌else◌, ℕ, zero, suc, List, [], ◌∷◌, ◌++◌}
use Rattle.std.proofs.Common.{append_assoc, length, take, drop, min, get_or, replicate, Result, Ok, Err, IsOk, refl}
use Rattle.std.proofs.Common.{sym, ap, ◌∙◌, inl, inr, arith, length-append}
use Rattle.std.proofs.lemmas.List.{append-nil, take-append-drop, length-replicate, drop-drop, get_or-drop, take_min}
use Rattle.std.proofs.lemmas.List.{drop_all, length-take}
use Rattle.std.proofs.lemmas.Bool.{le-ltb, lt-ltb, cases_lt}
use Rattle.std.specs.Int.Bits.{bit_xor, xor_zero_l}
use Rattle.gx_words.specs.Results.{◌>>=◌}
use Rattle.zero_runs.specs.declared.faults.RunFault.{RunFault}
use Rattle.zero_runs.specs.declared.faults.RunFault.TheVariants.{Cut, TooMany}
use Rattle.zero_runs.specs.Packing.{xored}
use Rattle.zero_runs.specs.Unpacking.{expand, unpacked}
use Rattle.zero_runs.specs.Laws.{expanded_len, unpacked_onto}
use Rattle.zero_runs.proofs.PackingTurns.{front_added}

-- a list behind what is written already, over the old bytes from there on
abbrev pub behind : List ℕ → List ℕ → Result (List ℕ) RunFault → Result (List ℕ) RunFault
behind out old r = r >>= λ xs. Ok (out ++ xored xs (drop (length out) old))

-- the length of a list behind so many bytes
abbrev pub counted : ℕ → Result (List ℕ) RunFault → Result ℕ RunFault
counted n r = r >>= λ xs. Ok (n + length xs)

abbrev after_front : List ℕ → Result (List ℕ) RunFault → Result (List ℕ) RunFault
after_front front r = r >>= λ xs. Ok (front ++ xs)

pub length-xored : (xs old : List ℕ) → length (xored xs old) ≡ length xs
unfolding xored
length-xored [] old = refl
length-xored (x ∷ xs) old = ap suc (length-xored xs (drop 1 old))

drop_suc : (n : ℕ) (xs : List ℕ) → drop n (drop 1 xs) ≡ drop (suc n) xs
drop_suc n xs = let e : 1 + n ≡ suc n = omega arith in drop-drop n 1 xs ∙ ap (λ (k : ℕ). drop k xs) e

pub xored-append : (xs ys old : List ℕ) → xored (xs ++ ys) old ≡ xored xs old ++ xored ys (drop (length xs) old)
unfolding xored
xored-append [] ys old = refl
xored-append (x ∷ xs) ys old = rw (xored-append xs ys (drop 1 old), drop_suc (length xs) old) refl

xored-zeros-nil : (n : ℕ) → xored (replicate n 0) [] ≡ replicate n 0
unfolding xored
xored-zeros-nil zero = refl
xored-zeros-nil (suc n) = rw (xored-zeros-nil n) refl

-- zeros over old bytes are those bytes, and zeros where there are no more
pub xored-zeros : (n : ℕ) (old : List ℕ) → xored (replicate n 0) old ≡ take n old ++ replicate (n - length old) 0
unfolding xored
xored-zeros zero old = let e : zero - length old ≡ zero = omega arith in rw e refl
xored-zeros (suc n) [] = let e : suc n - zero ≡ suc n = omega arith in rw (xored-zeros-nil n, e) refl
xored-zeros (suc n) (y ∷ ys) = let e : suc n - suc (length ys) ≡ n - length ys = omega arith in
    rw (xor_zero_l y, xored-zeros n ys, e) refl

drop_min : (n : ℕ) (xs : List ℕ) → drop (min n (length xs)) xs ≡ drop n xs
drop_min n xs =
    elim (cases_lt n (length xs)) [
      | inl few ↦ let e : min n (length xs) ≡ n = omega arith in rw e refl
      | inr all ↦ let e : min n (length xs) ≡ length xs = omega arith in
          rw e (drop_all (length xs) xs (omega arith) ∙ sym (drop_all n xs all))
    ]

-- what push_old adds
pub old_written : (out old ahead there : List ℕ) (count len from few : ℕ) → len ≡ length out
    → from ≡ min len (length old) → ahead ≡ drop from old → few ≡ min count (length ahead) → there ≡ take few ahead
    → out ++ xored (replicate count 0) (drop (length out) old) ≡ (out ++ there) ++ replicate (count - length there) 0
old_written out old ahead there count len from few len-is from-is ahead-is few-is there-is =
    let a : ahead ≡ drop (length out) old = ahead-is ∙ ap (λ (k : ℕ). drop k old) from-is ∙ drop_min len old
    ∙ ap (λ (k : ℕ). drop k old) len-is in
    let t : there ≡ take count ahead = there-is ∙ ap (λ (k : ℕ). take k ahead) few-is ∙ take_min count ahead in
    let len : length there ≡ min count (length ahead) = ap length t ∙ length-take count ahead in
    let e : count - length there ≡ count - length ahead = omega arith in
    rw (← a, xored-zeros count ahead, ← t, append_assoc, e) refl

-- the front of a list may be written first
behind-front : (out old front : List ℕ) (r : Result (List ℕ) RunFault)
    → behind (out ++ xored front (drop (length out) old)) old r ≡ behind out old (after_front front r)
behind-front out old front (Ok xs) =
    let len : length (out ++ xored front (drop (length out) old)) ≡ length out + length front =
    length-append out _ ∙ ap (λ (n : ℕ). length out + n) (length-xored front _) in
    let seam : drop (length front) (drop (length out) old) ≡ drop (length out + length front) old =
    drop-drop (length front) (length out) old in
    rw (append_assoc, len, xored-append front xs (drop (length out) old), seam) refl
behind-front out old front (Err e) = refl

counted-front : (n k : ℕ) (front : List ℕ) (r : Result (List ℕ) RunFault) → length front ≡ k
    → counted (n + k) r ≡ counted n (after_front front r)
counted-front n k front (Ok xs) h = ap (λ (m : ℕ). Ok m) (omega (arith, length-append front xs))
counted-front n k front (Err e) h = refl

expand_pair : (rest after next : List ℕ) (byte more : ℕ) → rest ≡ byte ∷ after → after ≡ more ∷ next → byte ≡ 0
    → expand rest ≡ after_front (replicate (more + 1) 0) (expand next)
unfolding expand
expand_pair rest after next byte more first second is_zero = rw (first, second, is_zero) refl

expand_other : (byte : ℕ) (after : List ℕ) → byte ≢ 0 → expand (byte ∷ after) ≡ after_front (byte ∷ []) (expand after)
unfolding expand
expand_other zero after other = absurd (other refl)
expand_other (suc b) after other = refl

expand_cut : (rest after : List ℕ) (byte : ℕ) → rest ≡ byte ∷ after → length after ≡ 0 → byte ≡ 0
    → expand rest ≡ Err Cut
unfolding expand
expand_cut rest [] byte first none is_zero = rw (first, is_zero) refl
expand_cut rest (x ∷ after) byte first none is_zero = absurd cc

expand_end : (rest : List ℕ) → length rest ≡ 0 → expand rest ≡ Ok []
unfolding expand
expand_end [] none = refl
expand_end (x ∷ rest) none = absurd cc

-- the turns of push_expanded
pub pair_written : (out old rest after next : List ℕ) (byte more : ℕ) (t : Result (List ℕ) RunFault)
    → rest ≡ byte ∷ after → after ≡ more ∷ next → byte ≡ 0 → behind out old (expand rest) ≡ t
    → behind (out ++ xored (replicate (more + 1) 0) (drop (length out) old)) old (expand next) ≡ t
pair_written out old rest after next byte more t first second is_zero whole =
    behind-front out old (replicate (more + 1) 0) (expand next)
    ∙ ap (behind out old) (sym (expand_pair rest after next byte more first second is_zero)) ∙ whole

pub byte_written : (out old rest after : List ℕ) (byte : ℕ) (t : Result (List ℕ) RunFault) → rest ≡ byte ∷ after
    → byte ≢ 0 → behind out old (expand rest) ≡ t
    → behind (out ++ bit_xor byte (get_or old (length out) 0) ∷ []) old (expand after) ≡ t
unfolding xored
byte_written out old rest after byte t first other whole =
    let here : get_or (drop (length out) old) 0 0 ≡ get_or old (length out) 0 =
    get_or-drop (length out) old 0 0 ∙ ap (λ (k : ℕ). get_or old k 0) (omega arith) in
    ap (λ (x : ℕ). behind (out ++ bit_xor byte x ∷ []) old (expand after)) (sym here)
    ∙ behind-front out old (byte ∷ []) (expand after)
    ∙ ap (behind out old) (sym (ap expand first ∙ expand_other byte after other)) ∙ whole

-- no count is missing where the bytes stand for a list
behind_fine : (out old : List ℕ) (r : Result (List ℕ) RunFault) → IsOk r → IsOk (behind out old r)
behind_fine out old (Ok xs) fine = refl
behind_fine out old (Err e) fine = absurd cc

pub none_cut : (first out old packed rest after : List ℕ) (byte : ℕ) → rest ≡ byte ∷ after → length after ≡ 0
    → byte ≡ 0 → behind out old (expand rest) ≡ behind first old (expand packed) → IsOk (expand packed) → ⊥
none_cut first out old packed rest after byte head none is_zero whole fine =
    let cut : behind first old (expand packed) ≡ Err Cut =
    sym whole ∙ ap (behind out old) (expand_cut rest after byte head none is_zero) in
    let there = behind_fine first old (expand packed) fine in
    absurd cc

pub all_written : (out old rest : List ℕ) (t : Result (List ℕ) RunFault) → length rest ≡ 0
    → behind out old (expand rest) ≡ t → t ≡ Ok out
unfolding xored
all_written out old rest t none whole = sym whole ∙ ap (behind out old) (expand_end rest none)
    ∙ ap (λ (ys : List ℕ). Ok ys) (append-nil out)

-- the turns of expanded_len
pub pair_counted : (n : ℕ) (rest after next : List ℕ) (byte more : ℕ) (t : Result ℕ RunFault) → rest ≡ byte ∷ after
    → after ≡ more ∷ next → byte ≡ 0 → counted n (expand rest) ≡ t → counted (n + (more + 1)) (expand next) ≡ t
pair_counted n rest after next byte more t first second is_zero whole =
    counted-front n (more + 1) (replicate (more + 1) 0) (expand next) (length-replicate (more + 1) 0)
    ∙ ap (counted n) (sym (expand_pair rest after next byte more first second is_zero)) ∙ whole

pub byte_counted : (n : ℕ) (rest after : List ℕ) (byte : ℕ) (t : Result ℕ RunFault) → rest ≡ byte ∷ after → byte ≢ 0
    → counted n (expand rest) ≡ t → counted (n + 1) (expand after) ≡ t
byte_counted n rest after byte t first other whole =
    counted-front n 1 (byte ∷ []) (expand after) refl
    ∙ ap (counted n) (sym (ap expand first ∙ expand_other byte after other)) ∙ whole

pub cut_counted : (n : ℕ) (rest after : List ℕ) (byte : ℕ) (t : Result ℕ RunFault) → rest ≡ byte ∷ after
    → length after ≡ 0 → byte ≡ 0 → counted n (expand rest) ≡ t → t ≡ Err Cut
cut_counted n rest after byte t first none is_zero whole =
    sym whole ∙ ap (counted n) (expand_cut rest after byte first none is_zero)

pub all_counted : (n : ℕ) (rest : List ℕ) (t : Result ℕ RunFault) → length rest ≡ 0 → counted n (expand rest) ≡ t
    → t ≡ Ok n
all_counted n rest t none whole = sym whole ∙ ap (counted n) (expand_end rest none) ∙ ap (λ (m : ℕ). Ok m) (omega arith)

-- what is in front stays there through two turns
pub front_chained : (xs ys zs : List ℕ) → take (length xs) ys ≡ xs → take (length ys) zs ≡ ys → take (length xs) zs ≡ xs
front_chained xs ys zs first second =
    let split : zs ≡ ys ++ drop (length ys) zs =
    sym (take-append-drop (length ys) zs) ∙ ap (λ (front : List ℕ). front ++ drop (length ys) zs) second in
    ap (take (length xs)) split ∙ front_added xs ys (drop (length ys) zs) first

-- what was expanded with the zeros that are missing, over the old bytes
abbrev filled : List ℕ → List ℕ → ℕ → Result (List ℕ) RunFault
filled xs old size = if nat_lt size (length xs) then Err TooMany
    else Ok (xored (xs ++ replicate (size - length xs) 0) old)

-- the parts of unpacking onto a list: what was expanded, and the old bytes that are left
abbrev onto_by : Result (List ℕ) RunFault → List ℕ → List ℕ → ℕ → Result (List ℕ) RunFault
onto_by r out old size = (r >>= (λ xs. filled xs (drop (length out) old) size)) >>= (λ added. Ok (out ++ added))

few_onto : (out old xs : List ℕ) (size : ℕ) → IsOk (onto_by (Ok xs) out old size) → length xs ≤ size
few_onto out old xs size fine =
    elim (cases_lt size (length xs)) [
      | inl more ↦ let test = lt-ltb _ _ more in let h = rw test at fine in absurd cc
      | inr few ↦ few
    ]

filled_onto : (out old xs : List ℕ) (size : ℕ) → length xs ≤ size
    → onto_by (Ok xs) out old size ≡ Ok (out ++ xored (xs ++ replicate (size - length xs) 0) (drop (length out) old))
filled_onto out old xs size few = let test = le-ltb _ _ few in rw test refl

length-behind : (out old xs mid : List ℕ) → behind out old (Ok xs) ≡ Ok mid → length mid ≡ length out + length xs
length-behind out old xs mid is =
    let e : out ++ xored xs (drop (length out) old) ≡ mid = cc in
    sym (ap length e) ∙ length-append out _ ∙ ap (λ (n : ℕ). length out + n) (length-xored xs _)

fits_by : (r : Result (List ℕ) RunFault) (out old mid : List ℕ) (size : ℕ) → IsOk (onto_by r out old size)
    → behind out old r ≡ Ok mid → (length out ≤ length mid) × (length mid - length out ≤ size)
fits_by (Ok xs) out old mid size fine is =
    let len = length-behind out old xs mid is in
    let few = few_onto out old xs size fine in
    (omega (arith, len), omega (arith, len, few))
fits_by (Err e) out old mid size fine is = absurd cc

pub onto_fits : (out packed old mid : List ℕ) (size : ℕ) → IsOk (unpacked_onto out packed old size)
    → behind out old (expand packed) ≡ Ok mid → (length out ≤ length mid) × (length mid - length out ≤ size)
unfolding unpacked
onto_fits out packed old mid size fine is = fits_by (expand packed) out old mid size fine is

wrote_by : (r : Result (List ℕ) RunFault) (out old mid new : List ℕ) (size left : ℕ) → IsOk (onto_by r out old size)
    → behind out old r ≡ Ok mid → left ≡ size - (length mid - length out)
    → new ≡ mid ++ xored (replicate left 0) (drop (length mid) old) → onto_by r out old size ≡ Ok new
wrote_by (Ok xs) out old mid new size left fine is rest made =
    let e : out ++ xored xs (drop (length out) old) ≡ mid = cc in
    let len = length-behind out old xs mid is in
    let count : left ≡ size - length xs = omega (arith, len, rest) in
    let seam : drop (length xs) (drop (length out) old) ≡ drop (length mid) old =
    drop-drop (length xs) (length out) old ∙ ap (λ (n : ℕ). drop n old) (sym len) in
    let all : out ++ xored (xs ++ replicate (size - length xs) 0) (drop (length out) old) ≡ new =
    ap (λ (ys : List ℕ). out ++ ys) (xored-append xs (replicate (size - length xs) 0) (drop (length out) old))
    ∙ sym (append_assoc out (xored xs (drop (length out) old)) _)
    ∙ ap (λ (ys : List ℕ). ys ++ xored (replicate (size - length xs) 0) (drop (length xs) (drop (length out) old))) e
    ∙ ap (λ (ys : List ℕ). mid ++ xored (replicate (size - length xs) 0) ys) seam
    ∙ ap (λ (n : ℕ). mid ++ xored (replicate n 0) (drop (length mid) old)) (sym count) ∙ sym made in
    filled_onto out old xs size (few_onto out old xs size fine) ∙ ap (λ (ys : List ℕ). Ok ys) all
wrote_by (Err d) out old mid new size left fine is rest made = absurd cc

pub onto_wrote : (out packed old mid new : List ℕ) (size left : ℕ) → IsOk (unpacked_onto out packed old size)
    → behind out old (expand packed) ≡ Ok mid → left ≡ size - (length mid - length out)
    → new ≡ mid ++ xored (replicate left 0) (drop (length mid) old)
    → unpacked_onto out packed old size ≡ Ok new
unfolding unpacked
onto_wrote out packed old mid new size left fine is rest made =
    wrote_by (expand packed) out old mid new size left fine is rest made

expand_by : (r : Result (List ℕ) RunFault) (out old : List ℕ) (size : ℕ) → IsOk (onto_by r out old size) → IsOk r
expand_by (Ok xs) out old size fine = refl
expand_by (Err e) out old size fine = absurd cc

pub IsOk-expand : (out packed old : List ℕ) (size : ℕ) → IsOk (unpacked_onto out packed old size) → IsOk (expand packed)
unfolding unpacked
IsOk-expand out packed old size fine = expand_by (expand packed) out old size fine

-- onto a list there is a fault where there is one without it
onto_fine : (r : Result (List ℕ) RunFault) (out : List ℕ) → IsOk r → IsOk (r >>= λ added. Ok (out ++ added))
onto_fine (Ok xs) out fine = refl
onto_fine (Err e) out fine = absurd cc

pub IsOk-unpacked_onto : (out packed old : List ℕ) (size : ℕ) → ((bytes : List ℕ) → IsOk (unpacked packed bytes size))
    → IsOk (unpacked_onto out packed old size)
IsOk-unpacked_onto out packed old size fine =
    onto_fine (unpacked packed (drop (length out) old) size) out (fine (drop (length out) old))

pub onto_fault : (out packed old : List ℕ) (size : ℕ) (e : RunFault)
    → ((bytes : List ℕ) → unpacked packed bytes size ≡ Err e) → unpacked_onto out packed old size ≡ Err e
onto_fault out packed old size e fault =
    ap (λ (r : Result (List ℕ) RunFault). r >>= λ added. Ok (out ++ added)) (fault (drop (length out) old))

-- behind no list
behind_none : (r : Result (List ℕ) RunFault) → (r >>= λ added. Ok ([] ++ added)) ≡ r
behind_none (Ok xs) = refl
behind_none (Err e) = refl

pub onto_nothing : (packed old : List ℕ) (size : ℕ) → unpacked_onto [] packed old size ≡ unpacked packed old size
onto_nothing packed old size = behind_none (unpacked packed old size)

accepted : (r : Result (List ℕ) RunFault) (old : List ℕ) (n size : ℕ) → (r >>= λ xs. Ok (length xs)) ≡ Ok n → n ≤ size
    → IsOk (r >>= λ xs. filled xs old size)
accepted (Ok xs) old n size len few =
    let f : length xs ≡ n = cc in
    let le : length xs ≤ size = omega arith in
    let test = le-ltb _ _ le in
    rw test (search Rattle.std.proofs.Common.rules)
accepted (Err e) old n size len few = absurd cc

-- bytes that are few enough are accepted
pub IsOk-unpacked : (bytes old : List ℕ) (n size : ℕ) → expanded_len bytes ≡ Ok n → n ≤ size
    → IsOk (unpacked bytes old size)
unfolding unpacked
IsOk-unpacked bytes old n size len few = accepted (expand bytes) old n size len few

length-unpacked-parts : (r : Result (List ℕ) RunFault) (old all : List ℕ) (size : ℕ)
    → (r >>= λ xs. filled xs old size) ≡ Ok all → length all ≡ size
length-unpacked-parts (Ok xs) old all size is =
    elim (cases_lt size (length xs)) [
      | inl more ↦ let test = lt-ltb _ _ more in let h = rw test at is in absurd cc
      | inr few ↦
          let test = le-ltb _ _ few in
          let h = rw test at is in
          let e : xored (xs ++ replicate (size - length xs) 0) old ≡ all = cc in
          sym (ap length e) ∙ length-xored _ old ∙ length-append xs _
          ∙ ap (λ (n : ℕ). length xs + n) (length-replicate (size - length xs) 0) ∙ omega arith
    ]
length-unpacked-parts (Err e) old all size is = absurd cc

pub length-unpacked : (bytes old all : List ℕ) (size : ℕ) → unpacked bytes old size ≡ Ok all → length all ≡ size
unfolding unpacked
length-unpacked bytes old all size is = length-unpacked-parts (expand bytes) old all size is

length-onto_by : (r : Result (List ℕ) RunFault) (out all : List ℕ) (size : ℕ)
    → ((xs : List ℕ) → r ≡ Ok xs → length xs ≡ size) → (r >>= λ added. Ok (out ++ added)) ≡ Ok all
    → length all ≡ length out + size
length-onto_by (Ok xs) out all size len is =
    let e : out ++ xs ≡ all = cc in
    sym (ap length e) ∙ length-append out xs ∙ ap (λ (n : ℕ). length out + n) (len xs refl)
length-onto_by (Err e) out all size len is = absurd cc

pub length-onto : (out packed old all : List ℕ) (size : ℕ) → unpacked_onto out packed old size ≡ Ok all
    → length all ≡ length out + size
length-onto out packed old all size is =
    length-onto_by (unpacked packed (drop (length out) old) size) out all size
    (λ xs there. length-unpacked packed (drop (length out) old) xs size there) is

-- no bytes
none_left : (r : Result (List ℕ) RunFault) → IsOk r → ((all : List ℕ) → r ≡ Ok all → length all ≡ 0) → r ≡ Ok []
none_left (Ok []) ok none = refl
none_left (Ok (x ∷ xs)) ok none = absurd (omega (arith, none (x ∷ xs) refl))
none_left (Err e) ok none = absurd cc

pub unpacked-none : (packed old : List ℕ) (size : ℕ) → ((bytes : List ℕ) → IsOk (unpacked packed bytes size))
    → size ≡ 0 → unpacked packed old size ≡ Ok []
unpacked-none packed old size fine none =
    none_left (unpacked packed old size) (fine old) (λ all is. length-unpacked packed old all size is ∙ none)

pub onto-none : (out packed old : List ℕ) (size : ℕ) → ((bytes : List ℕ) → IsOk (unpacked packed bytes size))
    → size ≡ 0 → unpacked_onto out packed old size ≡ Ok out
onto-none out packed old size fine none =
    ap (λ (r : Result (List ℕ) RunFault). r >>= λ added. Ok (out ++ added))
    (unpacked-none packed (drop (length out) old) size fine none) ∙ ap (λ (xs : List ℕ). Ok xs) (append-nil out)

pub ruleset unpacked_parts = (IsOk-unpacked)

-- the definitions that a check of packed bytes opens
unfoldable pub opened : Unit {0}
unfolding unpacked
opened = tt
