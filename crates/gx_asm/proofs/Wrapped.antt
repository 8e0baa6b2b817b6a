-- The story of a code: its length and checksum, that it is accepted, and its listing.
use Rattle.std.proofs.Common.{◌≡◌, ◌<◌, ◌≤◌, ◌+◌, ◌-◌, ◌*◌, ◌/◌, ◌%◌, ◌^◌, nat_le, nat_lt, not, if◌then◌else◌, ℕ, zero}
use Rattle.std.proofs.Common.{suc, Bool, true, false, List, [], ◌∷◌, ◌++◌, length, get_or, take, drop, replicate, Some}
use Rattle.std.proofs.Common.{Result, Ok, Err, refl, sym, ap, ◌∙◌, arith, eqb as nat_eq}
use Rattle.std.proofs.Math.ListN.{get_or-append}
use Rattle.std.proofs.lemmas.Bool.{eq-eqb, ltb-true}
use Rattle.std.proofs.lemmas.Bool.Decides.{nat_tests}
use Rattle.std.proofs.lemmas.List.{get_or-append-add, length-append, length-replicate, take-replicate, take_all}
use Rattle.std.specs.List.{flat_map}
use Rattle.gx_words.specs.Constants.{magic, header_len, locals_function, checksum_at, ceiling}
use Rattle.gx_words.specs.Numbers.{bytes_of_word, spliced, sum_of_words, word}
use Rattle.gx_story.specs.Stories.{FlatStory, accepted, bare, has_sizes, header, header_at_start, is_checked, is_whole}
use Rattle.gx_story.proofs.HeaderTests.{stored_story, has_header, has_magic, has_version, is_within_limits}
use Rattle.gx_story.proofs.HeaderTests.{has_stored_part}
use Rattle.gx_story.specs.declared.faults.StoryFault.{StoryFault}
use Rattle.gx_story.specs.declared.headers.Header.{Header}
use Rattle.gx_asm.specs.Codes.{text_from}
use Rattle.gx_asm.specs.Instructions.{bytes_of}
use Rattle.gx_asm.specs.Stories.{IsListedBack, checksum_of, code_at, code_start, format_len, header_of, listed_story}
use Rattle.gx_asm.specs.Stories.{story_len, story_with_checksum, wrapped_code, wrapped_story}
use Rattle.gx_asm.proofs.StoryListings.{listed_to_end}

-- ---- bytes

read_back : (v : ℕ) → v < 2 ^ 32 → word (bytes_of_word v) 0 ≡ v
read_back v fits = omega arith

-- sums of words that differ in the checksum's bytes alone
abbrev Before : List ℕ → List ℕ → Type 0
Before a b = (k : ℕ) → k < 32 → get_or a k 0 ≡ get_or b k 0

abbrev Behind : List ℕ → List ℕ → Type 0
Behind a b = (k : ℕ) → get_or a (36 + k) 0 ≡ get_or b (36 + k) 0

-- a word of a sum
abbrev summed : ℕ → List ℕ → ℕ
summed n m = if nat_eq (4 * n) checksum_at then 0 else word m (4 * n)

byte_behind : (a b : List ℕ) → Behind a b → (i k : ℕ) → i ≡ 36 + k → get_or a i 0 ≡ get_or b i 0
byte_behind a b after i k is = rw is (after k)

word_before : (n : ℕ) (a b : List ℕ) → Before a b → n < 8 → word a (4 * n) ≡ word b (4 * n)
word_before n a b before low =
    rw (
      before (4 * n) (omega arith),
      before (4 * n + 1) (omega arith),
      before (4 * n + 2) (omega arith),
      before (4 * n + 2 + 1) (omega arith),
    ) refl

word_behind : (n : ℕ) (a b : List ℕ) → Behind a b → 8 < n → word a (4 * n) ≡ word b (4 * n)
word_behind n a b after high =
    let at = 4 * n - 36 in
    let b0 = byte_behind a b after (4 * n) at (omega arith) in
    let b1 = byte_behind a b after (4 * n + 1) (at + 1) (omega arith) in
    let b2 = byte_behind a b after (4 * n + 2) (at + 2) (omega arith) in
    let b3 = byte_behind a b after (4 * n + 2 + 1) (at + 3) (omega arith) in
    rw (b0, b1, b2, b3) refl

by_place : (n : ℕ) (a b : List ℕ) → Before a b → Behind a b → (below above : Bool) → nat_lt n 8 ≡ below
    → nat_lt 8 n ≡ above
    → summed n a ≡ summed n b
by_place n a b before after true above low high = rw (word_before n a b before (ltb-true n 8 low)) refl
by_place n a b before after false true low high = rw (word_behind n a b after (ltb-true 8 n high)) refl
by_place n a b before after false false low high =
    let here : n ≡ 8 = grind (arith, nat_tests, low, high) in
    rw here refl

same_word : (n : ℕ) (a b : List ℕ) → Before a b → Behind a b → summed n a ≡ summed n b
same_word n a b before after = by_place n a b before after (nat_lt n 8) (nat_lt 8 n) refl refl

same_sum : (n : ℕ) (a b : List ℕ) → Before a b → Behind a b → sum_of_words n a ≡ sum_of_words n b
unfolding sum_of_words
same_sum zero a b before after = refl
same_sum (suc n) a b before after = rw (same_sum n a b before after, same_word n a b before after) refl

module _ (checksum : ℕ) (code : List ℕ) where
  abbrev zeros : List ℕ
  zeros = replicate (story_len code - (code_at + length code)) 0

  -- what stands before the checksum's word and behind it
  abbrev front : List ℕ
  front = flat_map bytes_of_word (magic ∷ 0x00030102 ∷ story_len code ∷ story_len code ∷ story_len code ∷ 0x100
      ∷ header_len ∷ 0 ∷ [])

  abbrev behind : List ℕ
  behind = locals_function ∷ 0 ∷ 0 ∷ code ++ zeros

  pub length-story : length (story_with_checksum checksum code) ≡ story_len code
  unfolding story_with_checksum
  length-story =
      let all = length-append code zeros in
      let pad = length-replicate {A = ℕ} (story_len code - (code_at + length code)) 0 in
      omega (arith, all, pad)

  -- the checksum's word isn't summed up
  pub story_sum : (n : ℕ) → sum_of_words n (story_with_checksum checksum code)
      ≡ sum_of_words n (story_with_checksum 0 code)
  unfolding story_with_checksum
  story_sum n =
      let before : Before (story_with_checksum checksum code) (story_with_checksum 0 code) = λ k within.
      get_or-append front (drop 32 (story_with_checksum checksum code)) 0 k within
      ∙ sym (get_or-append front (drop 32 (story_with_checksum 0 code)) 0 k within) in
      let after : Behind (story_with_checksum checksum code) (story_with_checksum 0 code) = λ k.
      get_or-append-add (header_of (story_len code) checksum) behind k 0
      ∙ sym (get_or-append-add (header_of (story_len code) 0) behind k 0) in
      same_sum n (story_with_checksum checksum code) (story_with_checksum 0 code) before after

  -- it is put over zeros
  pub story_put : spliced (story_with_checksum 0 code) checksum_at (bytes_of_word checksum)
      ≡ story_with_checksum checksum code
  unfolding story_with_checksum
  story_put = refl

-- ---- the checksum

fits : (code : List ℕ) → checksum_of code < 2 ^ 32
fits code = omega arith

pub length-wrapped : (code : List ℕ) → length (wrapped_code code) ≡ story_len code
unfolding wrapped_code
length-wrapped code = length-story (checksum_of code) code

pub checked : (code : List ℕ) → is_checked (wrapped_story code) ≡ true
unfolding wrapped_code
checked code =
    let sum : sum_of_words (length (wrapped_code code) / 4) (wrapped_code code) % 2 ^ 32 ≡ checksum_of code =
    rw (length-wrapped code, story_sum (checksum_of code) code (story_len code / 4)) refl in
    eq-eqb _ _ sum

-- ---- how it is made

pub unsummed_made : (code head first second story : List ℕ) (size : ℕ) → size ≡ story_len code
    → head ≡ header_of size 0 ++ locals_function ∷ 0 ∷ 0 ∷ [] → first ≡ [] ++ head → second ≡ first ++ code
    → story ≡ second ++ take (size - length second) (replicate 256 0) → story ≡ story_with_checksum 0 code
unfolding story_with_checksum
unsummed_made code head first second story size size_is head_is first_is second_is story_is =
    let front = header_of (story_len code) 0 ++ locals_function ∷ 0 ∷ 0 ∷ [] in
    let before : second ≡ front ++ code = second_is ∙ ap (λ (b : List ℕ). b ++ code)
    (first_is ∙ head_is ∙ ap (λ (n : ℕ). header_of n 0 ++ locals_function ∷ 0 ∷ 0 ∷ []) size_is) in
    let len : length second ≡ code_at + length code = ap (λ (b : List ℕ). length b) before ∙ length-append front code in
    let padding : take (size - length second) (replicate 256 0)
    ≡ replicate (story_len code - (code_at + length code)) 0 =
    rw (size_is, len) (take-replicate (story_len code - (code_at + length code)) 256 0 (omega arith)) in
    story_is ∙ ap (λ (b : List ℕ). second ++ b) padding
    ∙ ap (λ (b : List ℕ). b ++ replicate (story_len code - (code_at + length code)) 0) before

-- there is a place for the checksum
pub checksum_within : (code unsummed : List ℕ) → unsummed ≡ story_with_checksum 0 code → checksum_at ≤ length unsummed
checksum_within code unsummed is =
    let len : length unsummed ≡ story_len code = ap (λ (b : List ℕ). length b) is ∙ length-story 0 code in
    omega (arith, len)

pub wrapped_made : (code unsummed bytes story : List ℕ) (checksum : ℕ) → unsummed ≡ story_with_checksum 0 code
    → checksum ≡ sum_of_words (length unsummed / 4) unsummed % 2 ^ 32 → bytes ≡ bytes_of_word checksum
    → story ≡ spliced unsummed checksum_at bytes → story ≡ wrapped_code code
unfolding wrapped_code
wrapped_made code unsummed bytes story checksum unsummed_is checksum_is bytes_is story_is =
    let sum : checksum ≡ checksum_of code = checksum_is ∙ rw (unsummed_is, length-story 0 code) refl in
    story_is ∙ rw (bytes_is, unsummed_is, sum) (story_put (checksum_of code) code)

-- ---- that it is accepted

all-passed : {X E : Type 0} (a b c d e f : Bool) (short magic version sizes large cut : E) (x : X) → a ≡ true
    → b ≡ true → c ≡ true → d ≡ true → e ≡ true → f ≡ true
    → (let r : Result X E =
    if not a then Err short else if not b then Err magic else if not c then Err version else if not d then Err sizes
    else
    if not e then Err large else if not f then Err cut else Ok x in r ≡ Ok x)
all-passed a b c d e f short magic version sizes large cut x pa pb pc pd pe pf = rw (pa, pb, pc, pd, pe, pf) refl

module _ (code : List ℕ) (few : length code ≤ 0x01000000) where
  abbrev pub its_header : Header
  its_header = record {
    version = 0x00030102;
    ramstart = story_len code;
    extstart = story_len code;
    endmem = story_len code;
    stack_size = 0x100;
    start_function = header_len;
    table = 0;
    checksum = checksum_of code;
  }

  size_fits : story_len code < 2 ^ 32
  size_fits = omega (arith, few)

  header_read : header_at_start (wrapped_code code) ≡ its_header
  unfolding wrapped_code story_with_checksum
  header_read = rw (read_back (story_len code) size_fits, read_back (checksum_of code) (fits code)) refl

  is-no-form : accepted (wrapped_code code) ≡ bare (wrapped_code code)
  unfolding accepted wrapped_code story_with_checksum
  is-no-form = refl

  passes-header : has_header (wrapped_code code) ≡ true
  passes-header = rw (length-wrapped code) (grind (arith, nat_tests))

  passes-magic : has_magic (wrapped_code code) ≡ true
  unfolding wrapped_code story_with_checksum
  passes-magic = refl

  whole : is_whole (story_len code) ≡ true
  whole = grind (arith, nat_tests)

  not-below : nat_le 0x100 (story_len code) ≡ true
  not-below = grind (arith, nat_tests)

  not-above : nat_le (story_len code) ceiling ≡ true
  not-above = grind (arith, nat_tests, few)

  itself : nat_le (story_len code) (story_len code) ≡ true
  itself = grind (arith, nat_tests)

  passes-version : has_version (header_at_start (wrapped_code code)) ≡ true
  passes-version = ap has_version header_read

  right-sizes : has_sizes its_header ≡ true
  right-sizes = rw (whole, not-below, itself) refl

  passes-sizes : has_sizes (header_at_start (wrapped_code code)) ≡ true
  passes-sizes = ap has_sizes header_read ∙ right-sizes

  within-limits : is_within_limits its_header ≡ true
  within-limits = rw not-above refl

  passes-limits : is_within_limits (header_at_start (wrapped_code code)) ≡ true
  passes-limits = ap is_within_limits header_read ∙ within-limits

  right-stored : has_stored_part its_header (wrapped_code code) ≡ true
  right-stored = rw (length-wrapped code, itself) refl

  passes-stored : has_stored_part (header_at_start (wrapped_code code)) (wrapped_code code) ≡ true
  passes-stored = ap (λ (h : Header). has_stored_part h (wrapped_code code)) header_read ∙ right-stored

  header-is : header (wrapped_code code) ≡ Ok (header_at_start (wrapped_code code))
  unfolding header
  header-is =
      let bytes = wrapped_code code in
      all-passed (has_header bytes) (has_magic bytes) (has_version (header_at_start bytes))
      (has_sizes (header_at_start bytes)) (is_within_limits (header_at_start bytes))
      (has_stored_part (header_at_start bytes) bytes) _ _ _ _ _ _ (header_at_start bytes)
      passes-header passes-magic passes-version passes-sizes passes-limits passes-stored

  stored-is : stored_story (header_at_start (wrapped_code code)) (wrapped_code code) ≡ wrapped_story code
  stored-is =
      let len = length-wrapped code in
      let all : take (story_len code) (wrapped_code code) ≡ wrapped_code code =
      take_all (story_len code) (wrapped_code code) (omega (arith, len)) in
      ap (λ (h : Header). stored_story h (wrapped_code code)) header_read
      ∙ ap (λ (b : List ℕ). let s : FlatStory = record { header = its_header; bytes = b } in s) all

  pub accepts : accepted (wrapped_code code) ≡ Ok (wrapped_story code)
  unfolding bare
  accepts = is-no-form ∙ rw header-is refl
      ∙ ap (λ (s : FlatStory). let r : Result FlatStory StoryFault = Ok s in r) stored-is

-- ---- its listing

starts : (code : List ℕ) → code_start (wrapped_story code) ≡ Some 39
unfolding wrapped_code story_with_checksum format_len
starts code = refl

behind_head : (code : List ℕ) → drop 39 (wrapped_code code)
    ≡ code ++ replicate (story_len code - (code_at + length code)) 0
unfolding wrapped_code story_with_checksum
behind_head code = refl

pub listed_back : (code : List ℕ) → IsListedBack code
unfolding listed_story
listed_back code = λ text spelled ends.
    let zeros : List ℕ = replicate (story_len code - (code_at + length code)) 0 in
    let joined : code ++ zeros ≡ flat_map bytes_of spelled.instructions ++ zeros =
    ap (λ (bytes : List ℕ). bytes ++ zeros) spelled.bytes in
    let long : length (code ++ zeros) ≤ length (wrapped_code code) =
    omega (
      arith,
      length-append code zeros,
      length-replicate {A = ℕ} (story_len code - (code_at + length code)) 0,
      length-wrapped code,
    ) in
    rw (starts code, behind_head code)
    (ap (text_from (length (wrapped_code code)) true 39) joined
    ∙ listed_to_end (length (wrapped_code code)) 39 spelled.instructions zeros spelled.each ends (rw joined at long))
