-- One bit of a walk.
use Rattle.std.proofs.Common.{◌≡◌, ◌≤◌, ◌<◌, ◌+◌, ◌-◌, ◌/◌, ◌%◌, ◌^◌, ◌==◌, nat_lt, if◌then◌else◌, ℕ, zero, suc, Bool}
use Rattle.std.proofs.Common.{true, false, List, [], ◌∷◌, length, drop, refl, sym, ◌∙◌, arith, Result, Ok, Err}
use Rattle.std.proofs.lemmas.Bool.Decides.{nat_tests}
use Rattle.gx_words.specs.declared.faults.Fault.{Fault}
use Rattle.gx_words.specs.declared.faults.Fault.TheVariants.{BadAddress}
use Rattle.gx_words.specs.Numbers.{byte}
use Rattle.gx_words.specs.Results.{◌>>=◌}
use Rattle.gx_pages.specs.Memory.{number_in}
use Rattle.gx_strings.specs.Constants.{branch}
use Rattle.gx_strings.specs.Bits.{bit, bits}
use Rattle.gx_strings.specs.Nodes.{walk}

-- ---- the bits from an index on

no_bits : (m : List ℕ) (n : ℕ) → length m ≤ n / 8 → drop n (bits m) ≡ []
unfolding bits
no_bits [] zero h = refl
no_bits [] (suc n) h = refl
no_bits (b ∷ m) zero h = absurd (omega (arith, h))
no_bits (b ∷ m) (suc zero) h = absurd (omega (arith, h))
no_bits (b ∷ m) (suc (suc zero)) h = absurd (omega (arith, h))
no_bits (b ∷ m) (suc (suc (suc zero))) h = absurd (omega (arith, h))
no_bits (b ∷ m) (suc (suc (suc (suc zero)))) h = absurd (omega (arith, h))
no_bits (b ∷ m) (suc (suc (suc (suc (suc zero))))) h = absurd (omega (arith, h))
no_bits (b ∷ m) (suc (suc (suc (suc (suc (suc zero)))))) h = absurd (omega (arith, h))
no_bits (b ∷ m) (suc (suc (suc (suc (suc (suc (suc zero))))))) h = absurd (omega (arith, h))
no_bits (b ∷ m) (suc (suc (suc (suc (suc (suc (suc (suc n)))))))) h = no_bits m n (omega (arith, h))

one_bit : (m : List ℕ) (n : ℕ) → n / 8 < length m
    → drop n (bits m) ≡ bit (byte m (n / 8)) (n % 8) ∷ drop (n + 1) (bits m)
unfolding bits
one_bit [] n h = absurd (omega (arith, h))
one_bit (b ∷ m) zero h = refl
one_bit (b ∷ m) (suc zero) h = refl
one_bit (b ∷ m) (suc (suc zero)) h = refl
one_bit (b ∷ m) (suc (suc (suc zero))) h = refl
one_bit (b ∷ m) (suc (suc (suc (suc zero)))) h = refl
one_bit (b ∷ m) (suc (suc (suc (suc (suc zero))))) h = refl
one_bit (b ∷ m) (suc (suc (suc (suc (suc (suc zero)))))) h = refl
one_bit (b ∷ m) (suc (suc (suc (suc (suc (suc (suc zero))))))) h = refl
one_bit (b ∷ m) (suc (suc (suc (suc (suc (suc (suc (suc n)))))))) h =
    let here : suc (suc (suc (suc (suc (suc (suc (suc n))))))) / 8 ≡ suc (n / 8) = omega arith in
    let in_byte : suc (suc (suc (suc (suc (suc (suc (suc n))))))) % 8 ≡ n % 8 = omega arith in
    let next : suc (suc (suc (suc (suc (suc (suc (suc n))))))) + 1
    ≡ suc (suc (suc (suc (suc (suc (suc (suc (n + 1)))))))) = omega arith in
    rw (here, in_byte, next) (one_bit m n (omega (arith, h)))

-- ---- a byte shifted by one bit more

by_bit : (b k l : ℕ) → k < 7 → l ≡ k + 1 → b / 2 ^ k / 2 ≡ b / 2 ^ l
by_bit b zero l h is = rw is (omega arith)
by_bit b (suc zero) l h is = rw is (omega arith)
by_bit b (suc (suc zero)) l h is = rw is (omega arith)
by_bit b (suc (suc (suc zero))) l h is = rw is (omega arith)
by_bit b (suc (suc (suc (suc zero)))) l h is = rw is (omega arith)
by_bit b (suc (suc (suc (suc (suc zero))))) l h is = rw is (omega arith)
by_bit b (suc (suc (suc (suc (suc (suc zero)))))) l h is = rw is (omega arith)
by_bit b (suc (suc (suc (suc (suc (suc (suc k))))))) l h is = absurd (omega (arith, h))

-- ---- the walk from an index on, by its node's type and whether a bit is left

-- the node to which a bit leads
abbrev child : List ℕ → ℕ → Bool → Result ℕ Fault
child m node one = number_in 4 m (if one then node + 5 else node + 1)

abbrev walk_by : List ℕ → ℕ → ℕ → ℕ → Bool → Result (ℕ × ℕ) Fault
walk_by m node used n more = do
  type_byte ← number_in 1 m node
  if type_byte == branch then (if more then (do
    next ← child m node (bit (byte m (n / 8)) (n % 8))
    walk m next (used + 1) (drop (n + 1) (bits m))) else Err BadAddress) else Ok (node, used)

turn_by : (m : List ℕ) (node used n : ℕ) (more : Bool) → nat_lt (n / 8) (length m) ≡ more
    → walk m node used (drop n (bits m)) ≡ walk_by m node used n more
unfolding walk
turn_by m node used n true is = rw (one_bit m n (grind (arith, nat_tests))) refl
turn_by m node used n false is = rw (no_bits m n (grind (arith, nat_tests))) refl

pub turn : (m : List ℕ) (node used n : ℕ)
    → walk m node used (drop n (bits m)) ≡ walk_by m node used n (nat_lt (n / 8) (length m))
turn m node used n = turn_by m node used n (nat_lt (n / 8) (length m)) refl

-- a bit more, from a branch to the node to which it leads
pub further : (m : List ℕ) (node used n t next : ℕ) (one : Bool) → number_in 1 m node ≡ Ok t → t ≡ branch
    → n / 8 < length m
    → one ≡ bit (byte m (n / 8)) (n % 8) → child m node one ≡ Ok next
    → walk m next (used + 1) (drop (n + 1) (bits m)) ≡ walk m node used (drop n (bits m))
further m node used n t next one read is there bit_is found =
    let within : nat_lt (n / 8) (length m) ≡ true = grind (arith, nat_tests) in
    sym (turn m node used n ∙ rw (within, rw is at read, ← bit_is, found) refl)

-- the byte of the next bit, where that is no new one
pub shifted : (b n : ℕ) → 0 < n → (n % 8 ≡ 0 → ⊥) → b / 2 ^ ((n - 1) % 8) / 2 ≡ b / 2 ^ (n % 8)
shifted b n some inside = by_bit b ((n - 1) % 8) (n % 8) (omega arith) (omega arith)

pub ruleset turns = (turn, nat_tests)
