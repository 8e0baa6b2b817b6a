-- The bytes of a frame: how many they are, and that its two header words are read back.
use Rattle.std.proofs.Common.{◌-◌, ◌≡◌, ◌<◌, ◌≤◌, ◌+◌, ◌*◌, ◌/◌, ◌%◌, ◌^◌, ℕ, zero, suc, List, [], ◌∷◌, ◌++◌, length}
use Rattle.std.proofs.Common.{drop, get_or, replicate, refl, ◌∙◌, arith, length-append, append_assoc}
use Rattle.std.proofs.lemmas.List.{length-replicate, append-nil}
use Rattle.std.proofs.lemmas.Grind.{common_steps}
use Rattle.std.specs.List.{flat_map}
use Rattle.gx_words.specs.Numbers.{IsWidth, word, bytes_of_word, bytes_of_number}
use Rattle.gx_stack.specs.declared.stubs.Stub.{Stub}
use Rattle.gx_stack.specs.Stubs.{stub_below, stub_bytes}
use Rattle.gx_stack.specs.Formats.{pairs_of, gap, padded, padded_len, pair_locals, locals, locals_len, locals_pos}
use Rattle.gx_stack.specs.Formats.{frame_len}
use Rattle.gx_stack.specs.Formats.{frame}
use Rattle.gx_stack.specs.Held.{ArePairs, IsFormat}

-- a word that was written is read again
pub digits : (v : ℕ) → v < 2 ^ 32 → ((v / 2 ^ 24 % 256) * 256 + v / 2 ^ 16 % 256) * 65536
    + ((v / 2 ^ 8 % 256) * 256 + v % 256) ≡ v
digits v h = omega arith

word_written : (v : ℕ) (rest : List ℕ) → v < 2 ^ 32 → word (bytes_of_word v ++ rest) 0 ≡ v
word_written v rest h = digits v h

pub word_behind : (xs ys : List ℕ) (a : ℕ) → word (xs ++ ys) (length xs + a) ≡ word ys a
word_behind xs ys a = grind (arith, common_steps)

pub word_pushed : (xs rest : List ℕ) (v : ℕ) → v < 2 ^ 32 → word (xs ++ (bytes_of_word v ++ rest)) (length xs) ≡ v
word_pushed xs rest v h = grind (arith, common_steps, word_written, word_behind)

pub word_pushed_second : (xs rest : List ℕ) (u v : ℕ) → v < 2 ^ 32
    → word (xs ++ (bytes_of_word u ++ (bytes_of_word v ++ rest))) (length xs + 4) ≡ v
word_pushed_second xs rest u v h = word_behind xs (bytes_of_word u ++ (bytes_of_word v ++ rest)) 4 ∙ digits v h

-- lengths
pub length-number : (t v : ℕ) → IsWidth t → length (bytes_of_number t v) ≡ t
length-number t v h = grind (arith, common_steps)

pub length-filled : (t n : ℕ) (args : List ℕ) → IsWidth t → length (pair_locals t n args) ≡ t * n
unfolding pair_locals
length-filled t zero args h = grind arith
length-filled t (suc n) [] h = omega (
  arith,
  length-append (bytes_of_number t 0) (pair_locals t n []),
  length-number t 0 h,
  length-filled t n [] h,
)
length-filled t (suc n) (a ∷ args) h = omega
    (arith, length-append (bytes_of_number t a) (pair_locals t n args), length-number t a h, length-filled t n args h)

pub length-locals : (at : ℕ) (pairs args : List ℕ) → ArePairs pairs
    → length (locals at pairs args) ≡ locals_len at pairs
unfolding locals locals_len
length-locals at [] args h = refl
length-locals at (t ∷ []) args h = absurd h
length-locals at (t ∷ n ∷ pairs) args h =
    simp (length-append, length-replicate) (omega
    (arith, length-filled t n args h.0, length-locals (at + gap t at + t * n) pairs (drop n args) h.1))

pub length-pairs : (format : List ℕ) → 2 ≤ length format → length (pairs_of format ++ 0 ∷ 0 ∷ []) ≡ length format
length-pairs format h = grind (arith, common_steps)

pub length-padded : (bytes : List ℕ) → length (padded bytes) ≡ padded_len (length bytes)
length-padded bytes = simp (length-append, length-replicate) refl

length_behind_two : (v w : ℕ) (front back : List ℕ)
    → length (bytes_of_word v ++ bytes_of_word w ++ padded front ++ padded back)
    ≡ 8 + padded_len (length front) + padded_len (length back)
length_behind_two v w front back = omega (
  arith,
  length-append (padded front) (padded back),
  length-padded front,
  length-padded back,
)

pub length-frame : (format args : List ℕ) → IsFormat format → length (frame format args) ≡ frame_len format
unfolding frame
length-frame format args h =
    length_behind_two (frame_len format) (locals_pos format) (pairs_of format ++ 0 ∷ 0 ∷ [])
    (locals 0 (pairs_of format) args)
    ∙ rw (length-pairs format h.ending, length-locals 0 (pairs_of format) args h.pairs) refl

joined : (out a b c d e : List ℕ) → ((((out ++ a) ++ b) ++ c) ++ d) ++ e ≡ out ++ (a ++ (b ++ ((c ++ d) ++ e)))
joined out a b c d e = simp append_assoc

pub header_pushed : (out pairs : List ℕ) (len begin : ℕ)
    → ((((out ++ bytes_of_word len) ++ bytes_of_word begin) ++ pairs) ++ 0 ∷ 0 ∷ []) ++ replicate
    (gap 4 (length pairs + 2)) 0 ≡ out ++ (bytes_of_word len ++ (bytes_of_word begin ++ padded (pairs ++ 0 ∷ 0 ∷ [])))
header_pushed out pairs len begin =
    let more : length (pairs ++ 0 ∷ 0 ∷ []) ≡ length pairs + 2 = grind (arith, common_steps) in
    rw more (joined out (bytes_of_word len) (bytes_of_word begin) pairs (0 ∷ 0 ∷ [])
    (replicate (gap 4 (length pairs + 2)) 0))

pub ruleset header_pieces = (header_pushed)

around : (out a b c d e : List ℕ) → ((out ++ (a ++ (b ++ c))) ++ d) ++ e ≡ out ++ (a ++ b ++ c ++ (d ++ e))
around out a b c d e = simp append_assoc

pub frame_pushed : (out format args : List ℕ) (len begin rest : ℕ) → IsFormat format → len ≡ frame_len format
    → begin ≡ locals_pos format → rest ≡ gap 4 (locals_len 0 (pairs_of format))
    → ((out ++ (bytes_of_word len ++ (bytes_of_word begin ++ padded (pairs_of format ++ 0 ∷ 0 ∷ []))))
    ++ locals 0 (pairs_of format) args) ++ replicate rest 0 ≡ out ++ frame format args
unfolding frame
frame_pushed out format args len begin rest h whole locals_at zeros =
    rw (whole, locals_at, zeros, length-locals 0 (pairs_of format) args h.pairs)
    (around out (bytes_of_word (frame_len format)) (bytes_of_word (locals_pos format))
    (padded (pairs_of format ++ 0 ∷ 0 ∷ [])) (locals 0 (pairs_of format) args)
    (replicate (gap 4 (locals_len 0 (pairs_of format))) 0))

pub front_len : (format : List ℕ) → IsFormat format → length (pairs_of format) + 2 ≡ length format
front_len format h = let ending = h.ending in grind (arith, common_steps, ending)

pub ruleset frame_pieces = (frame_pushed, front_len)

pub frame_len_read : (xs format args : List ℕ) → frame_len format < 2 ^ 32
    → word (xs ++ frame format args) (length xs) ≡ frame_len format
unfolding frame
frame_len_read xs format args h = grind (arith, common_steps, word_pushed)

pub locals_pos_read : (xs format args : List ℕ) → frame_len format < 2 ^ 32
    → word (xs ++ frame format args) (length xs + 4) ≡ locals_pos format
unfolding frame
locals_pos_read xs format args h =
    let fits : locals_pos format < 2 ^ 32 = omega arith in
    word_pushed_second xs (padded (pairs_of format ++ 0 ∷ 0 ∷ []) ++ padded (locals 0 (pairs_of format) args))
    (frame_len format) (locals_pos format) fits

-- a stub that was pushed is the one on top
pub stub_on_top : (xs bytes : List ℕ) (top : ℕ) → top ≡ length xs + 16
    → stub_below (xs ++ bytes) top ≡ stub_below bytes 16
stub_on_top xs bytes top is =
    let kind : top - 16 ≡ length xs + 0 = omega arith in
    let addr : top - 12 ≡ length xs + 4 = omega arith in
    let pc : top - 8 ≡ length xs + 8 = omega arith in
    let fp : top - 4 ≡ length xs + 12 = omega arith in
    rw (
      kind,
      addr,
      pc,
      fp,
      word_behind xs bytes 0,
      word_behind xs bytes 4,
      word_behind xs bytes 8,
      word_behind xs bytes 12,
    ) refl

-- ---- a list of one stub
pub one_stub : (stubs : List Stub) (d : Stub) → length stubs ≡ 1
    → stub_bytes (get_or stubs 0 d) ≡ flat_map stub_bytes stubs
one_stub [] d one = absurd (omega arith)
one_stub (p ∷ []) d one = rw (append-nil (stub_bytes p)) refl
one_stub (p ∷ q ∷ stubs) d one = absurd (omega arith)
