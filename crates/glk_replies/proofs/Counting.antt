-- The characters before a zero are counted one by one.
use Rattle.std.proofs.Common.{zero, suc, ◌≡◌, ◌≢◌, ◌<◌, ◌≤◌, ◌+◌, ◌-◌, ◌==◌, ℕ, false, List, [], length, refl, ap}
use Rattle.std.proofs.Common.{subst, arith, Result, Ok, Err}
use Rattle.std.proofs.lemmas.Bool.Decides.{nat_tests}
use Rattle.gx_words.specs.declared.faults.Fault.{Fault}
use Rattle.gx_words.specs.declared.faults.Fault.TheVariants.{BadAddress}
use Rattle.gx_words.specs.Results.{◌>>=◌}
use Rattle.gx_pages.specs.Memory.{number_in}
use Rattle.glk_replies.specs.Parts.{numbers_in}
use Rattle.glk_replies.specs.Strings.{count_to_zero}

-- some more were counted before
abbrev pub counted : ℕ → Result ℕ Fault → Result ℕ Fault
counted i (Ok count) = Ok (count + i)
counted i (Err e) = Err e

counted_none : (r : Result ℕ Fault) → counted 0 r ≡ r
counted_none (Ok count) = ap (λ (n : ℕ). Ok n) (omega arith)
counted_none (Err e) = refl

counted_more : (i : ℕ) (r : Result ℕ Fault) → counted i (r >>= λ count. Ok (count + 1)) ≡ counted (i + 1) r
counted_more i (Ok count) = ap (λ (n : ℕ). Ok n) (omega arith)
counted_more i (Err e) = refl

pub begins : (width at : ℕ) (memory : List ℕ)
    → counted 0 (count_to_zero (length memory - 0) width memory at) ≡ count_to_zero (length memory) width memory at
begins width at memory = let e : length memory - 0 ≡ length memory = omega arith in
    rw e (counted_none (count_to_zero (length memory) width memory at))

fewer : (size i : ℕ) → i < size → size - i ≡ suc (size - (i + 1))
fewer size i less = omega arith

step : (most width at i c : ℕ) (memory : List ℕ) → number_in width memory at ≡ Ok c → (c == 0) ≡ false
    → counted i (count_to_zero (suc most) width memory at)
    ≡ counted (i + 1) (count_to_zero most width memory (at + width))
unfolding count_to_zero
step most width at i c memory is some = rw (is, some) (counted_more i (count_to_zero most width memory (at + width)))

pub turns : (width at i c : ℕ) (memory : List ℕ) → i < length memory → number_in width memory at ≡ Ok c → c ≢ 0
    → counted i (count_to_zero (length memory - i) width memory at)
    ≡ counted (i + 1) (count_to_zero (length memory - (i + 1)) width memory (at + width))
turns width at i c memory less is some =
    rw (fewer (length memory) i less) (step (length memory - (i + 1)) width at i c memory is (grind (arith, nat_tests)))

end_step : (most width at i : ℕ) (memory : List ℕ) → number_in width memory at ≡ Ok 0
    → counted i (count_to_zero (suc most) width memory at) ≡ Ok i
unfolding count_to_zero
end_step most width at i memory is = rw is (ap (λ (n : ℕ). Ok n) (omega arith))

pub ends : (width at i c : ℕ) (memory : List ℕ) → i < length memory → number_in width memory at ≡ Ok c → c ≡ 0
    → counted i (count_to_zero (length memory - i) width memory at) ≡ Ok i
ends width at i c memory less is none =
    rw (fewer (length memory) i less)
    (end_step (length memory - (i + 1)) width at i memory (subst (λ n. number_in width memory at ≡ Ok n) none is))

fail_step : (most width at i : ℕ) (e : Fault) (memory : List ℕ) → number_in width memory at ≡ Err e
    → counted i (count_to_zero (suc most) width memory at) ≡ Err e
unfolding count_to_zero
fail_step most width at i e memory is = rw is refl

pub fails : (width at i : ℕ) (e : Fault) (memory : List ℕ) → i < length memory → number_in width memory at ≡ Err e
    → counted i (count_to_zero (length memory - i) width memory at) ≡ Err e
fails width at i e memory less is =
    rw (fewer (length memory) i less) (fail_step (length memory - (i + 1)) width at i e memory is)

pub past : (width at i : ℕ) (memory : List ℕ) → length memory ≤ i
    → counted i (count_to_zero (length memory - i) width memory at) ≡ Err BadAddress
unfolding count_to_zero
past width at i memory there = let e : length memory - i ≡ 0 = omega arith in rw e refl

pub count_numbers : (width at count : ℕ) (memory : List ℕ) → length (numbers_in width memory at count) ≡ count
unfolding numbers_in
count_numbers width at zero memory = refl
count_numbers width at (suc n) memory = ap suc (count_numbers width (at + width) n memory)

pub ruleset count_turns = (begins, turns, ends, fails, past)

pub some_numbers : (width at count : ℕ) (memory : List ℕ) → numbers_in width memory at count ≢ [] → count ≢ 0
unfolding numbers_in
some_numbers width at zero memory some none = some refl
some_numbers width at (suc n) memory some none = absurd (omega (arith, none))

pub ruleset length_rules = (count_numbers, some_numbers)
