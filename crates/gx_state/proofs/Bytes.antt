-- Reading the memory that a start or a restart is going to make.
use Rattle.std.proofs.Common.{◌≡◌, ◌≤◌, ◌<◌, ◌+◌, ◌-◌, ℕ, Bool, true, false, cond, nat_lt, nat_le, ◌&&◌, List, ◌++◌}
use Rattle.std.proofs.Common.{length, take, drop, get_or, replicate, slice_range, Result, Ok, Err, refl, ap, sym, ◌∙◌}
use Rattle.std.proofs.Common.{arith, inl, inr}
use Rattle.std.proofs.lemmas.Grind.{common_steps}
use Rattle.std.proofs.lemmas.Bool.Decides.{nat_tests}
use Rattle.std.proofs.lemmas.List.{get_or-append_right, get_or-replicate, get_or-take, drop-take, take-take}
use Rattle.std.proofs.lemmas.List.FromFn.{get_or-map-range_with_len, length-map-range_with_len}
use Rattle.gx_words.specs.Numbers.{IsWidth, number}
use Rattle.gx_words.specs.declared.faults.Fault.{Fault}
use Rattle.gx_words.specs.declared.faults.Fault.TheVariants.{BadAddress}
use Rattle.gx_pages.specs.Memory.{number_in, put_back_of}

-- a byte that is there, and one that isn't
pub is_there : (m : List ℕ) (at v : ℕ) → at < length m → get_or m at 0 ≡ v → number_in 1 m at ≡ Ok v
unfolding number_in
is_there m at v there is = let within : nat_le (at + 1) (length m) ≡ true = grind (arith, nat_tests) in
    rw within (ap Ok is)

is_past : (m : List ℕ) (at : ℕ) → length m ≤ at → number_in 1 m at ≡ Err BadAddress
unfolding number_in
is_past m at past = let without : nat_le (at + 1) (length m) ≡ false = grind (arith, nat_tests) in rw without refl

-- a number whose bytes two lists share
pub shared_byte : (m n : List ℕ) (shared a : ℕ) → take shared m ≡ take shared n → a < shared
    → get_or m a 0 ≡ get_or n a 0
shared_byte m n shared a same below = sym (get_or-take shared m a 0 below) ∙ ap (λ (xs : List ℕ). get_or xs a 0) same
    ∙ get_or-take shared n a 0 below

-- bytes that two lists share
slice_of : (m : List ℕ) (at end : ℕ) → at ≤ end → slice_range m at end ≡ drop at (take end m)
slice_of m at end first = let whole : at + (end - at) ≡ end = omega (arith, first) in
    sym (drop-take at (end - at) m) ∙ rw whole refl

pub shared_slice : (m n : List ℕ) (shared at end : ℕ) → take shared m ≡ take shared n → at ≤ end → end ≤ shared
    → slice_range m at end ≡ slice_range n at end
shared_slice m n shared at end same first below =
    slice_of m at end first ∙ ap (drop at) (sym (take-take end shared m below) ∙ ap (take end) same
    ∙ take-take end shared n below) ∙ sym (slice_of n at end first)

shared_number : (m n : List ℕ) (shared width at : ℕ) → IsWidth width → take shared m ≡ take shared n
    → at + width ≤ shared → number width m at ≡ number width n at
shared_number m n shared width at is same below =
    let byte_at : (a : ℕ) → a < at + width → get_or m a 0 ≡ get_or n a 0 =
    λ a less. shared_byte m n shared a same (omega (arith, below, less)) in
    elim is [
      | inl one ↦ rw one (byte_at at (omega arith))
      | inr more ↦ elim more [
        | inl two ↦ rw (two, byte_at at (omega arith), byte_at (at + 1) (omega arith)) refl
        | inr four ↦ rw (
          four,
          byte_at at (omega arith),
          byte_at (at + 1) (omega arith),
          byte_at (at + 2) (omega arith),
          byte_at (at + 2 + 1) (omega arith),
        ) refl
      ]
    ]

-- code that stands in the story's bytes
pub code_byte : (m stored : List ℕ) (ramstart at : ℕ) → take ramstart m ≡ take ramstart stored → at < ramstart
    → get_or stored at 0 ≡ get_or m at 0
code_byte m stored ramstart at same below = sym (shared_byte m stored ramstart at same below)

pub code : (m stored : List ℕ) (ramstart width at : ℕ) → IsWidth width → take ramstart m ≡ take ramstart stored
    → ramstart ≤ length m → at + width ≤ ramstart
    → number_in width m at ≡ Ok (number width stored at)
unfolding number_in
code m stored ramstart width at is same inside below =
    let there : nat_le (at + width) (length m) ≡ true = grind (arith, nat_tests) in
    rw there (ap Ok (shared_number m stored ramstart width at is same below))

-- the first memory: stored bytes, and zeros up to a size
pub first_length : (stored : List ℕ) (size : ℕ) → length stored ≤ size
    → length (stored ++ replicate (size - length stored) 0) ≡ size
first_length stored size fits = grind (arith, common_steps)

pub first_stored : (stored : List ℕ) (size at : ℕ) → length stored ≤ size → at < length stored
    → number_in 1 (stored ++ replicate (size - length stored) 0) at ≡ Ok (get_or stored at 0)
first_stored stored size at fits below =
    is_there _ at _ (omega (arith, first_length stored size fits)) (grind (arith, common_steps))

pub first_zero : (stored : List ℕ) (size at : ℕ) → length stored ≤ size → length stored ≤ at → at < size
    → number_in 1 (stored ++ replicate (size - length stored) 0) at ≡ Ok 0
first_zero stored size at fits above below =
    is_there _ at _ (omega (arith, first_length stored size fits))
    (get_or-append_right stored (replicate (size - length stored) 0) (length stored) at 0 refl above
    ∙ get_or-replicate (size - length stored) (at - length stored) 0 0 (omega arith))

pub first_none : (stored : List ℕ) (size at : ℕ) → length stored ≤ size → size ≤ at
    → number_in 1 (stored ++ replicate (size - length stored) 0) at ≡ Err BadAddress
first_none stored size at fits past = is_past _ at (omega (arith, first_length stored size fits))

pub ruleset first_bytes = (first_stored, first_zero, first_none, first_length)

-- a memory with the present bytes in a range
pub again_length : (present kept : List ℕ) (from count : ℕ) → length (put_back_of present kept from count) ≡ length kept
again_length present kept from count = length-map-range_with_len _ 0 (length kept)

again_at : (present kept : List ℕ) (from count at : ℕ) → at < length kept
    → get_or (put_back_of present kept from count) at 0
    ≡ cond (nat_le from at && nat_lt at (from + count)) (get_or present at 0) (get_or kept at 0)
again_at present kept from count at there = get_or-map-range_with_len _ 0 (length kept) at at 0 there (omega arith)

-- the answer of a read, by whether the byte is there
abbrev read_by : Bool → ℕ → Result ℕ Fault
read_by b v = cond b (Ok v) (Err BadAddress)

same_by : (b : Bool) (v w : ℕ) → (b ≡ true → v ≡ w) → read_by b v ≡ read_by b w
same_by true v w same = ap (λ (n : ℕ). read_by true n) (same refl)
same_by false v w same = refl

again_same : (present kept : List ℕ) (from count at : ℕ)
    → (at < length kept → (nat_le from at && nat_lt at (from + count)) ≡ false)
    → number_in 1 (put_back_of present kept from count) at ≡ number_in 1 kept at
unfolding number_in
again_same present kept from count at out =
    rw (again_length present kept from count)
    (same_by (nat_le (at + 1) (length kept)) _ _
    (λ is.
    let there : at < length kept = grind (arith, nat_tests) in
    again_at present kept from count at there ∙ ap (λ (b : Bool). cond b (get_or present at 0) (get_or kept at 0))
    (out there)))

pub again_before : (present kept : List ℕ) (from count at : ℕ) → at < from
    → number_in 1 (put_back_of present kept from count) at ≡ number_in 1 kept at
again_before present kept from count at before =
    again_same present kept from count at (λ there. grind (arith, nat_tests))

pub again_behind : (present kept : List ℕ) (from count at : ℕ) → from ≤ at → count ≤ at - from
    → number_in 1 (put_back_of present kept from count) at ≡ number_in 1 kept at
again_behind present kept from count at begins behind =
    again_same present kept from count at (λ there. grind (arith, nat_tests))

pub again_past : (present kept : List ℕ) (from count at : ℕ) → length kept ≤ at
    → number_in 1 (put_back_of present kept from count) at ≡ number_in 1 kept at
again_past present kept from count at past = again_same present kept from count at (λ there. absurd (omega arith))

pub again_present : (present kept : List ℕ) (from count at : ℕ) → at < length kept → from ≤ at → at - from < count
    → number_in 1 (put_back_of present kept from count) at ≡ Ok (get_or present at 0)
again_present present kept from count at there begins ends =
    let in_range : (nat_le from at && nat_lt at (from + count)) ≡ true = grind (arith, nat_tests) in
    is_there _ at _ (omega (arith, again_length present kept from count))
    (again_at present kept from count at there
    ∙ ap (λ (b : Bool). cond b (get_or present at 0) (get_or kept at 0)) in_range)

pub ruleset bytes_again = (again_before, again_behind, again_past, again_present, again_length, first_length)
