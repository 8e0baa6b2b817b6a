-- The head of a function, found in bytes: its type, and the turns of the loop over the pairs of its locals format.
use Rattle.std.proofs.Common.{◌≡◌, ◌≢◌, ◌<◌, ◌≤◌, ◌+◌, ◌-◌, ◌*◌, ℕ, zero, suc, true, false, List, [], ◌∷◌, length}
use Rattle.std.proofs.Common.{get_or, drop, Option, Some, None, refl, sym, ap, ◌∙◌, add-one, drop-cons, arith}
use Rattle.std.proofs.Math.ListN.{drop_of_length-le}
use Rattle.std.proofs.lemmas.Bool.{ne_eqb}
use Rattle.std.proofs.lemmas.List.{length-drop}
use Rattle.std.specs.Option.{option_map}
use Rattle.gx_asm.specs.Stories.{format_len, head_len, is_function, is_type, longer, with_start}

-- ---- the type

head_there : (bytes : List ℕ) (at : ℕ) → at < length bytes
    → head_len (drop at bytes) ≡ head_len (get_or bytes at 0 ∷ drop (at + 1) bytes)
head_there bytes at within = rw (drop-cons bytes at 0 within, add-one at) refl

pub head_missing : (bytes : List ℕ) (at : ℕ) → length bytes ≤ at → None ≡ with_start at (head_len (drop at bytes))
head_missing bytes at above = let none : drop at bytes ≡ [] = drop_of_length-le bytes above in rw none refl

pub head_wrong : (bytes : List ℕ) (at : ℕ) → at < length bytes → is_function (get_or bytes at 0) ≡ false
    → None ≡ with_start at (head_len (drop at bytes))
head_wrong bytes at within wrong = rw (head_there bytes at within, wrong) refl

pub head_right : (bytes : List ℕ) (at : ℕ) (len : Option ℕ) → at < length bytes → is_function (get_or bytes at 0) ≡ true
    → len ≡ format_len 64 (drop (at + 1) bytes) → with_start at len ≡ with_start at (head_len (drop at bytes))
head_right bytes at len within right is = rw (head_there bytes at within, right, is) refl

-- ---- the pairs

-- the length of a format of which so many pairs, its ending one among them, may still be read
pub left_len : ℕ → List ℕ → Option ℕ
left_len zero bytes = None
left_len (suc left) bytes = format_len left bytes

-- the length of what follows so many bytes, with these
abbrev pub behind : ℕ → Option ℕ → Option ℕ
behind n len = option_map (λ k. n + k) len

-- a pair more
further : (n : ℕ) (len : Option ℕ) → behind n (longer len) ≡ behind (n + 2) len
further n None = refl
further n (Some k) = ap Some (omega arith)

of_pair : (left t n : ℕ) (rest : List ℕ) → t ≢ 0 → is_type t ≡ true
    → format_len left (t ∷ n ∷ rest) ≡ longer (left_len left rest)
unfolding format_len left_len
of_pair zero t n rest other type = rw (ne_eqb t 0 other) refl
of_pair (suc left) t n rest other type = rw (ne_eqb t 0 other, type) refl

of_end : (left t n : ℕ) (rest : List ℕ) → t ≡ 0 → format_len left (t ∷ n ∷ rest) ≡ Some 2
unfolding format_len
of_end zero t n rest ends = rw ends refl
of_end (suc left) t n rest ends = rw ends refl

of_other : (left t n : ℕ) (rest : List ℕ) → t ≢ 0 → is_type t ≡ false → format_len left (t ∷ n ∷ rest) ≡ None
unfolding format_len
of_other zero t n rest other type = rw (ne_eqb t 0 other) refl
of_other (suc left) t n rest other type = rw (ne_eqb t 0 other, type) refl

of_short : (left : ℕ) (bytes : List ℕ) → length bytes < 2 → format_len left bytes ≡ None
unfolding format_len
of_short left [] short = refl
of_short left (t ∷ []) short = refl
of_short left (t ∷ n ∷ rest) short = absurd (omega (arith, short))

-- the pair at a place
one_pair : (bytes : List ℕ) (at : ℕ) → at + 2 ≤ length bytes
    → drop at bytes ≡ get_or bytes at 0 ∷ get_or bytes (at + 1) 0 ∷ drop (at + 2) bytes
one_pair bytes at within =
    let second : drop (at + 1) bytes ≡ get_or bytes (at + 1) 0 ∷ drop (suc (at + 1)) bytes =
    drop-cons bytes (at + 1) 0 (omega arith) in
    let next : suc (at + 1) ≡ at + 2 = omega arith in
    rw (drop-cons bytes at 0 (omega arith), ← add-one at, second, next) refl

-- what the loop keeps
abbrev pub Reads : List ℕ → ℕ → Type 0
Reads bytes pairs = behind (2 * pairs) (left_len (65 - pairs) (drop (2 * pairs) bytes)) ≡ format_len 64 bytes

module _ (bytes : List ℕ) (pairs : ℕ) (few : pairs < 65) (reads : Reads bytes pairs) where
  here : behind (2 * pairs) (format_len (64 - pairs) (drop (2 * pairs) bytes)) ≡ format_len 64 bytes
  unfolding left_len
  here = let left : 65 - pairs ≡ suc (64 - pairs) = omega arith in rw left at reads

  pub pair_missing : length bytes < 2 * pairs + 2 → None ≡ format_len 64 bytes
  pair_missing short =
      let few : length (drop (2 * pairs) bytes) < 2 = rw (length-drop (2 * pairs) bytes) (omega arith) in
      rw (of_short (64 - pairs) (drop (2 * pairs) bytes) few) at here

  there : 2 * pairs + 2 ≤ length bytes → behind (2 * pairs)
      (format_len (64 - pairs) (get_or bytes (2 * pairs) 0 ∷ get_or bytes (2 * pairs + 1) 0
      ∷ drop (2 * pairs + 2) bytes)) ≡ format_len 64 bytes
  there within = rw (one_pair bytes (2 * pairs) within) at here

  pub pair_ends : 2 * pairs + 2 ≤ length bytes → get_or bytes (2 * pairs) 0 ≡ 0
      → Some (2 * pairs + 2) ≡ format_len 64 bytes
  pair_ends within ends = rw (of_end (64 - pairs) _ (get_or bytes (2 * pairs + 1) 0)
      (drop (2 * pairs + 2) bytes) ends) at (there within)

  pub pair_wrong : 2 * pairs + 2 ≤ length bytes → get_or bytes (2 * pairs) 0 ≢ 0
      → is_type (get_or bytes (2 * pairs) 0) ≡ false → None ≡ format_len 64 bytes
  pair_wrong within other type = rw (of_other (64 - pairs) _ (get_or bytes (2 * pairs + 1) 0)
      (drop (2 * pairs + 2) bytes) other type) at (there within)

  pub pair_passed : 2 * pairs + 2 ≤ length bytes → get_or bytes (2 * pairs) 0 ≢ 0
      → is_type (get_or bytes (2 * pairs) 0) ≡ true → Reads bytes (pairs + 1)
  pair_passed within other type =
      let at = 2 * pairs in
      let rest = drop (at + 2) bytes in
      let one : format_len (64 - pairs) (get_or bytes at 0 ∷ get_or bytes (at + 1) 0 ∷ rest)
      ≡ longer (left_len (64 - pairs) rest) =
      of_pair (64 - pairs) (get_or bytes at 0) (get_or bytes (at + 1) 0) rest other type in
      let left : 65 - (pairs + 1) ≡ 64 - pairs = omega arith in
      let next : 2 * (pairs + 1) ≡ at + 2 = omega arith in
      rw (left, next) (sym (further at (left_len (64 - pairs) rest)) ∙ ap (behind at) (sym one) ∙ there within)

nothing_before : (len : Option ℕ) → behind 0 len ≡ len
nothing_before None = refl
nothing_before (Some k) = ap Some (omega arith)

pub pairs_begun : (bytes : List ℕ) → Reads bytes 0
unfolding left_len
pairs_begun bytes = nothing_before (format_len 64 bytes)

pub pairs_done : (bytes : List ℕ) (pairs : ℕ) → 65 ≤ pairs → Reads bytes pairs → None ≡ format_len 64 bytes
unfolding left_len
pairs_done bytes pairs all reads = let none : 65 - pairs ≡ 0 = omega arith in rw none at reads
