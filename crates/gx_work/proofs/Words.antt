-- Words in lists of bytes that grow at their end.
use Rattle.std.proofs.Common.{◌≡◌, ◌<◌, ◌≤◌, ◌+◌, ◌*◌, ◌^◌, ◌++◌, ℕ, zero, suc, List, [], length, get_or, refl, sym}
use Rattle.std.proofs.Common.{◌∙◌, append_assoc, arith, false, eqb as nat_eq}
use Rattle.std.proofs.lemmas.Bool.Decides.{nat_tests}
use Rattle.std.proofs.lemmas.List.{length-append, get_or-append-add}
use Rattle.std.proofs.Math.ListN.{get_or-append}
use Rattle.gx_words.specs.Numbers.{word, bytes_of_word, sum_of_words}
use Rattle.gx_work.specs.Work.{ram, work_word}
use Rattle.gx_work.specs.Laws.{ram_sum}
use Rattle.gx_words.specs.Constants.{checksum_at}
use Rattle.gx_words.proofs.Sums.{sum_more}

-- the bytes of a word are read back
pub read_back : (v : ℕ) → v < 2 ^ 32 → word (bytes_of_word v) 0 ≡ v
read_back v fits = omega arith

word_before : (xs ys : List ℕ) (a : ℕ) → a + 4 ≤ length xs → word (xs ++ ys) a ≡ word xs a
word_before xs ys a within =
    let b0 = get_or-append xs ys 0 a (omega arith) in
    let b1 = get_or-append xs ys 0 (a + 1) (omega arith) in
    let b2 = get_or-append xs ys 0 (a + 2) (omega arith) in
    let b3 = get_or-append xs ys 0 (a + 2 + 1) (omega arith) in
    rw (b0, b1, b2, b3) refl

byte_behind : (xs ys : List ℕ) (a k : ℕ) → a ≡ length xs + k → get_or (xs ++ ys) a 0 ≡ get_or ys k 0
byte_behind xs ys a k is = rw is (get_or-append-add xs ys k 0)

word_behind : (xs ys : List ℕ) (a : ℕ) → a ≡ length xs → word (xs ++ ys) a ≡ word ys 0
word_behind xs ys a is =
    let b0 = byte_behind xs ys a 0 (omega arith) in
    let b1 = byte_behind xs ys (a + 1) 1 (omega arith) in
    let b2 = byte_behind xs ys (a + 2) 2 (omega arith) in
    let b3 = byte_behind xs ys (a + 2 + 1) 3 (omega arith) in
    rw (b0, b1, b2, b3) refl

-- the sum of words that lie before what is added
sum_before : (n : ℕ) (xs ys : List ℕ) → 4 * n ≤ length xs → sum_of_words n (xs ++ ys) ≡ sum_of_words n xs
unfolding sum_of_words
sum_before zero xs ys within = refl
sum_before (suc n) xs ys within =
    let before = sum_before n xs ys (omega arith) in
    let here = word_before xs ys (4 * n) (omega arith) in
    rw (before, here) refl

pub length-ram : (n number : ℕ) → length (ram n number) ≡ 4 * n
unfolding ram
length-ram zero number = refl
length-ram (suc n) number = rw (
  length-append (ram n number) (bytes_of_word (work_word number n)),
  length-ram n number,
) (omega arith)

-- RAM behind a page of 64 words
pub sum_with_ram : (n number : ℕ) (xs : List ℕ) → length xs ≡ 256
    → sum_of_words (64 + n) (xs ++ ram n number) ≡ sum_of_words 64 xs + ram_sum n number
unfolding ram ram_sum
sum_with_ram zero number xs is = sum_before 64 xs [] (omega arith) ∙ omega arith
sum_with_ram (suc n) number xs is =
    let front = xs ++ ram n number in
    let new = bytes_of_word (work_word number n) in
    let size : length front ≡ 4 * (64 + n) =
    rw (length-append xs (ram n number), length-ram n number) (omega arith) in
    let joined : xs ++ (ram n number ++ new) ≡ front ++ new = sym (append_assoc xs (ram n number) new) in
    let next : 64 + suc n ≡ 64 + n + 1 = omega arith in
    let before = sum_before (64 + n) front new (omega (arith, size)) in
    let here : word (front ++ new) (4 * (64 + n)) ≡ work_word number n =
    word_behind front new (4 * (64 + n)) (sym size) ∙ read_back (work_word number n) (omega arith) in
    let other : nat_eq (4 * (64 + n)) checksum_at ≡ false = grind (arith, nat_tests) in
    let rest = sum_with_ram n number xs is in
    rw (joined, next, sum_more (64 + n) (front ++ new), before, here, other, rest) (omega arith)
