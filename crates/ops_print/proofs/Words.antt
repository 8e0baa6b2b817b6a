-- The words of memory, one after the other.
use Rattle.std.proofs.Common.{◌≡◌, ◌+◌, ◌-◌, ◌*◌, nat_lt, if◌then◌else◌, ℕ, suc, Bool, true, false, List, [], ◌∷◌}
use Rattle.std.proofs.Common.{◌++◌, refl, arith, append_assoc, Result, Ok, Err}
use Rattle.std.proofs.lemmas.List.{append-nil}
use Rattle.std.proofs.lemmas.Bool.Decides.{nat_tests}
use Rattle.gx_words.specs.declared.faults.Fault.{Fault}
use Rattle.gx_words.specs.Results.{◌>>=◌}
use Rattle.gx_pages.specs.Memory.{number_in}
use Rattle.gx_state.specs.Entry.{behind}
use Rattle.ops_print.specs.Items.{words_in}

-- a word behind those that were read
one_behind : (words : List ℕ) (v : ℕ) (rest : Result (List ℕ) Fault)
    → behind words (rest >>= λ (xs : List ℕ). Ok (v ∷ xs)) ≡ behind (words ++ v ∷ []) rest
one_behind words v (Ok rest) = rw append_assoc refl
one_behind words v (Err fault) = refl

next_behind : (words : List ℕ) (first : Result ℕ Fault) (rest : Result (List ℕ) Fault)
    → behind words (first >>= λ (v : ℕ). (rest >>= λ (xs : List ℕ). Ok (v ∷ xs)))
    ≡ (first >>= λ (v : ℕ). behind (words ++ v ∷ []) rest)
next_behind words (Ok v) rest = one_behind words v rest
next_behind words (Err fault) rest = refl

-- what is left to read, behind what was read: one word more, or none
abbrev left_by : List ℕ → List ℕ → ℕ → ℕ → ℕ → Bool → Result (List ℕ) Fault
left_by words memory at count i more =
    if more then (do
      v ← number_in 4 memory (at + 4 * i)
      behind (words ++ v ∷ []) (words_in memory (at + 4 * (i + 1)) (count - (i + 1)))) else Ok words

turn_by : (words memory : List ℕ) (at count i : ℕ) (more : Bool) → nat_lt i count ≡ more
    → behind words (words_in memory (at + 4 * i) (count - i)) ≡ left_by words memory at count i more
unfolding words_in
turn_by words memory at count i true is =
    let left : count - i ≡ suc (count - (i + 1)) = grind (arith, nat_tests) in
    let place : at + 4 * i + 4 ≡ at + 4 * (i + 1) = omega arith in
    rw (left, place) (next_behind words (number_in 4 memory (at + 4 * i))
    (words_in memory (at + 4 * (i + 1)) (count - (i + 1))))
turn_by words memory at count i false is =
    let left : count - i ≡ 0 = grind (arith, nat_tests) in
    rw (left, append-nil) refl

pub turn : (words memory : List ℕ) (at count i : ℕ) → behind words (words_in memory (at + 4 * i) (count - i))
    ≡ left_by words memory at count i (nat_lt i count)
turn words memory at count i = turn_by words memory at count i (nat_lt i count) refl

pub ruleset turns = (turn, nat_tests)
