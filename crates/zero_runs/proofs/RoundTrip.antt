-- The laws of packing: what was packed is unpacked again, and what is packed of each list.
use Rattle.std.proofs.Common.{◌≡◌, ◌≢◌, ◌≤◌, ◌+◌, ◌-◌, ◌*◌, ◌/◌, ◌%◌, ◌==◌, if◌then◌else◌, ℕ, zero, suc, false, List}
use Rattle.std.proofs.Common.{[], ◌∷◌, ◌++◌, append_assoc, length, drop, get_or, replicate, Result, Ok, Err, refl}
use Rattle.std.proofs.Common.{sym, ap, ◌∙◌, arith, length-append}
use Rattle.std.proofs.lemmas.List.{append-nil, replicate-append-replicate}
use Rattle.std.proofs.lemmas.Bool.{le-ltb}
use Rattle.std.proofs.lemmas.Bool.Decides.{nat_tests}
use Rattle.std.specs.Int.Bits.{bit_xor, xor_assoc, xor_self, xor_zero_r}
use Rattle.gx_words.specs.Results.{◌>>=◌}
use Rattle.zero_runs.specs.declared.faults.RunFault.{RunFault}
use Rattle.zero_runs.specs.Packing.{run, packed_behind, packed, xored}
use Rattle.zero_runs.specs.Unpacking.{expand, unpacked}
use Rattle.zero_runs.specs.Laws.{before, without_last_zeros}
use Rattle.zero_runs.proofs.PackingTurns.{full_pairs}
use Rattle.zero_runs.proofs.UnpackingTurns.{length-xored}

-- at most 256 zeros
abbrev last_pair : ℕ → List ℕ
last_pair n = if n == 0 then [] else 0 ∷ (n - 1) ∷ []

pair_some : (n : ℕ) → last_pair (suc n) ≡ 0 ∷ n ∷ []
pair_some n =
    let more : (suc n == 0) ≡ false = grind (arith, nat_tests) in
    let less : suc n - 1 ≡ n = omega arith in
    rw (more, less) refl

-- a list behind so many zeros
abbrev behind_zeros : ℕ → Result (List ℕ) RunFault → Result (List ℕ) RunFault
behind_zeros n r = r >>= λ xs. Ok (replicate n 0 ++ xs)

behind_zeros-behind_zeros : (m n : ℕ) (r : Result (List ℕ) RunFault)
    → behind_zeros m (behind_zeros n r) ≡ behind_zeros (m + n) r
behind_zeros-behind_zeros m n (Ok xs) = ap (λ (ys : List ℕ). Ok ys)
    (sym (append_assoc (replicate m 0) (replicate n 0) xs)
    ∙ ap (λ (ys : List ℕ). ys ++ xs) (replicate-append-replicate m n 0))
behind_zeros-behind_zeros m n (Err e) = refl

behind_zeros-none : (r : Result (List ℕ) RunFault) → behind_zeros 0 r ≡ r
behind_zeros-none (Ok xs) = refl
behind_zeros-none (Err e) = refl

expand-two : (k m : ℕ) (bytes : List ℕ) → k + 1 ≡ m → expand (0 ∷ k ∷ bytes) ≡ behind_zeros m (expand bytes)
unfolding expand
expand-two k m bytes h = rw (← h) refl

expand-full_pairs : (n m : ℕ) (bytes : List ℕ) → n * 256 ≡ m
    → expand (full_pairs n ++ bytes) ≡ behind_zeros m (expand bytes)
expand-full_pairs zero m bytes h = let none : m ≡ 0 = omega arith in rw none (sym (behind_zeros-none (expand bytes)))
expand-full_pairs (suc n) m bytes h =
    let full : 255 + 1 ≡ 256 = omega arith in
    let sum : 256 + n * 256 ≡ m = omega arith in
    expand-two 255 256 (full_pairs n ++ bytes) full ∙ ap (behind_zeros 256) (expand-full_pairs n (n * 256) bytes refl)
    ∙ behind_zeros-behind_zeros 256 (n * 256) (expand bytes) ∙ ap (λ (k : ℕ). behind_zeros k (expand bytes)) sum

expand-pair : (n : ℕ) (bytes : List ℕ) → expand (last_pair n ++ bytes) ≡ behind_zeros n (expand bytes)
expand-pair zero bytes = sym (behind_zeros-none (expand bytes))
expand-pair (suc n) bytes = ap (λ (xs : List ℕ). expand (xs ++ bytes)) (pair_some n)
    ∙ expand-two n (suc n) bytes (omega arith)

expand-run : (n : ℕ) (bytes : List ℕ) → expand (run n ++ bytes) ≡ behind_zeros n (expand bytes)
unfolding run
expand-run n bytes =
    let sum : (n / 256) * 256 + n % 256 ≡ n = omega arith in
    ap expand (append_assoc (full_pairs (n / 256)) (last_pair (n % 256)) bytes)
    ∙ expand-full_pairs (n / 256) ((n / 256) * 256) _ refl
    ∙ ap (behind_zeros ((n / 256) * 256)) (expand-pair (n % 256) bytes)
    ∙ behind_zeros-behind_zeros ((n / 256) * 256) (n % 256) (expand bytes)
    ∙ ap (λ (k : ℕ). behind_zeros k (expand bytes)) sum

without_last_zeros-zeros : (n : ℕ) → without_last_zeros (replicate n 0) ≡ []
unfolding without_last_zeros
without_last_zeros-zeros zero = refl
without_last_zeros-zeros (suc n) = rw (without_last_zeros-zeros n) refl

without_last_zeros-other : (n b : ℕ) (xs : List ℕ)
    → without_last_zeros (replicate n 0 ++ suc b ∷ xs) ≡ replicate n 0 ++ suc b ∷ without_last_zeros xs
unfolding without_last_zeros
without_last_zeros-other zero b xs = refl
without_last_zeros-other (suc zero) b xs = refl
without_last_zeros-other (suc (suc n)) b xs = rw (without_last_zeros-other (suc n) b xs) refl

zero_moves : (n : ℕ) (xs : List ℕ) → replicate (suc n) 0 ++ xs ≡ replicate n 0 ++ 0 ∷ xs
zero_moves zero xs = refl
zero_moves (suc n) xs = ap (λ (ys : List ℕ). 0 ∷ ys) (zero_moves n xs)

expand-packed_behind : (n : ℕ) (xs : List ℕ)
    → expand (packed_behind n xs) ≡ Ok (without_last_zeros (replicate n 0 ++ xs))
unfolding packed_behind expand
expand-packed_behind n [] = rw (append-nil {A = ℕ}, without_last_zeros-zeros n) refl
expand-packed_behind n (zero ∷ xs) = expand-packed_behind (suc n) xs
    ∙ ap (λ (ys : List ℕ). Ok (without_last_zeros ys)) (zero_moves n xs)
expand-packed_behind n (suc b ∷ xs) = expand-run n (suc b ∷ packed_behind 0 xs)
    ∙ rw (expand-packed_behind 0 xs, without_last_zeros-other n b xs) refl

pub expand-packed : (xs : List ℕ) → expand (packed xs) ≡ Ok (without_last_zeros xs)
expand-packed xs = expand-packed_behind 0 xs

before_filled : (x : ℕ) (xs : List ℕ) (k : ℕ)
    → before x xs ++ replicate (length (x ∷ xs) + k - length (before x xs)) 0 ≡ x ∷ (xs ++ replicate k 0)
before_filled zero [] k = let e : suc zero + k - zero ≡ suc k = omega arith in rw e refl
before_filled zero (y ∷ ys) k = let e : suc (suc (length ys)) + k - suc (suc (length ys)) ≡ k = omega arith in rw e refl
before_filled (suc x) ys k = let e : suc (length ys) + k - suc (length ys) ≡ k = omega arith in rw e refl

length-before : (x : ℕ) (xs : List ℕ) → length (before x xs) ≤ suc (length xs)
length-before zero [] = omega arith
length-before zero (y ∷ ys) = omega arith
length-before (suc x) ys = omega arith

length-without_last_zeros : (xs : List ℕ) → length (without_last_zeros xs) ≤ length xs
unfolding without_last_zeros
length-without_last_zeros [] = omega arith
length-without_last_zeros (x ∷ xs) = let a = length-without_last_zeros xs in
    let b = length-before x (without_last_zeros xs) in omega arith

-- the zeros at the end come back
without_last_zeros_filled : (xs : List ℕ)
    → without_last_zeros xs ++ replicate (length xs - length (without_last_zeros xs)) 0 ≡ xs
unfolding without_last_zeros
without_last_zeros_filled [] = refl
without_last_zeros_filled (x ∷ xs) =
    let short = length-without_last_zeros xs in
    let e : suc (length xs) - length (before x (without_last_zeros xs)) ≡ length (x ∷ without_last_zeros xs)
    + (length xs - length (without_last_zeros xs)) - length (before x (without_last_zeros xs)) = omega arith in
    rw e (before_filled x (without_last_zeros xs) (length xs - length (without_last_zeros xs))
    ∙ ap (λ (ys : List ℕ). x ∷ ys) (without_last_zeros_filled xs))

bit_xor_again : (a b : ℕ) → bit_xor (bit_xor a b) b ≡ a
bit_xor_again a b = xor_assoc a b b ∙ ap (bit_xor a) (xor_self b) ∙ xor_zero_r a

xored-xored : (xs old : List ℕ) → xored (xored xs old) old ≡ xs
unfolding xored
xored-xored [] old = refl
xored-xored (x ∷ xs) old = rw (bit_xor_again x (get_or old 0 0), xored-xored xs (drop 1 old)) refl

-- what was packed over some bytes is unpacked over the same bytes
pub unpacked-packed : (new old : List ℕ) → unpacked (packed (xored new old)) old (length new) ≡ Ok new
unfolding unpacked
unpacked-packed new old =
    let few : length (without_last_zeros (xored new old)) ≤ length new =
    omega (arith, length-without_last_zeros (xored new old), length-xored new old) in
    let test = le-ltb _ _ few in
    let fill : without_last_zeros (xored new old)
    ++ replicate (length new - length (without_last_zeros (xored new old))) 0 ≡ xored new old =
    ap (λ (k : ℕ). without_last_zeros (xored new old) ++ replicate (k - length (without_last_zeros (xored new old)))
    0) (sym (length-xored new old)) ∙ without_last_zeros_filled (xored new old) in
    rw (expand-packed (xored new old), test, fill, xored-xored new old) refl

length-full_pairs : (n : ℕ) → length (full_pairs n) ≡ 2 * n
length-full_pairs zero = refl
length-full_pairs (suc n) = omega (arith, length-full_pairs n)

length-pair : (n : ℕ) → length (last_pair n) ≤ 2 * n
length-pair zero = omega arith
length-pair (suc n) = omega (arith, ap length (pair_some n))

length-run : (n : ℕ) → length (run n) ≤ 2 * n
unfolding run
length-run n = omega (
  arith,
  length-append (full_pairs (n / 256)) (last_pair (n % 256)),
  length-full_pairs (n / 256),
  length-pair (n % 256),
)

length-packed_behind : (n : ℕ) (xs : List ℕ) → length (packed_behind n xs) ≤ 2 * (n + length xs)
unfolding packed_behind
length-packed_behind n [] = omega arith
length-packed_behind n (zero ∷ xs) = omega (arith, length-packed_behind (suc n) xs)
length-packed_behind n (suc b ∷ xs) = omega (
  arith,
  length-append (run n) (suc b ∷ packed_behind 0 xs),
  length-run n,
  length-packed_behind 0 xs,
)

pub length-packed : (xs : List ℕ) → length (packed xs) ≤ 2 * length xs
length-packed xs = omega (arith, length-packed_behind 0 xs)

packed_behind-zeros : (m n : ℕ) (xs : List ℕ) → packed_behind m (replicate n 0 ++ xs) ≡ packed_behind (m + n) xs
unfolding packed_behind
packed_behind-zeros m zero xs = ap (λ (k : ℕ). packed_behind k xs) (omega arith)
packed_behind-zeros m (suc n) xs = packed_behind-zeros (suc m) n xs ∙ ap (λ (k : ℕ). packed_behind k xs) (omega arith)

pub packed-zeros : (n : ℕ) → packed (replicate n 0) ≡ []
unfolding packed_behind
packed-zeros n = ap (packed_behind 0) (sym (append-nil (replicate n 0))) ∙ packed_behind-zeros 0 n []

pub packed-other : (n byte : ℕ) (xs : List ℕ) → byte ≢ 0
    → packed (replicate n 0 ++ byte ∷ xs) ≡ run n ++ byte ∷ packed xs
unfolding packed_behind
packed-other n zero xs other = absurd (other refl)
packed-other n (suc b) xs other = packed_behind-zeros 0 n (suc b ∷ xs)
    ∙ ap (λ (k : ℕ). run k ++ suc b ∷ packed xs) (omega arith)
