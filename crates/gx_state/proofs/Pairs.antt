-- Reading a locals format pair by pair.
use Rattle.std.proofs.Common.{true, false, ◌||◌, ◌==◌, inl, inr, ◌≡◌, ◌≢◌, ◌≤◌, ◌<◌, ◌+◌, ◌-◌, ◌*◌, ℕ, zero, suc}
use Rattle.std.proofs.Common.{List, [], ◌∷◌, ◌++◌, length, take, drop, get_or, slice_range, refl, sym, ap, subst, ◌∙◌}
use Rattle.std.proofs.Common.{arith, append_assoc, Result, Ok, Err, IsErrAnd}
use Rattle.std.proofs.Math.Seq.{take-suc}
use Rattle.std.proofs.lemmas.List.{get_or-drop}
use Rattle.std.proofs.lemmas.Grind.{common_steps}
use Rattle.std.proofs.lemmas.Bool.{or_cases}
use Rattle.std.proofs.lemmas.Bool.Decides.{nat_tests}
use Rattle.gx_words.specs.declared.faults.Fault.{Fault}
use Rattle.gx_words.specs.declared.faults.Fault.TheVariants.{BadFunction, NoMemory}
use Rattle.gx_words.specs.Numbers.{IsWidth}
use Rattle.gx_words.specs.Faults.{Reads}
use Rattle.gx_words.specs.Results.{◌>>=◌}
use Rattle.gx_pages.specs.Memory.{number_in}
use Rattle.gx_stack.specs.Formats.{pairs_of}
use Rattle.gx_stack.specs.Held.{ArePairs, IsFormat}
use Rattle.gx_state.specs.Entry.{format_from, behind}
use Rattle.gx_state.proofs.Bytes.{is_there, shared_byte, shared_slice}

-- the ending pair
ends : (m : List ℕ) (at left t n : ℕ) → number_in 1 m at ≡ Ok t → number_in 1 m (at + 1) ≡ Ok n → t ≡ 0
    → format_from m at left ≡ Ok (0 ∷ n ∷ [])
unfolding format_from
ends m at zero t n type count none = rw (type, count, none) refl
ends m at (suc left) t n type count none = rw (type, count, none) refl

pub format_ends : (done m : List ℕ) (at left t n : ℕ) → number_in 1 m at ≡ Ok t → number_in 1 m (at + 1) ≡ Ok n
    → t ≡ 0 → behind done (format_from m at left) ≡ Ok ((done ++ 0 ∷ []) ++ n ∷ [])
format_ends done m at left t n type count none =
    rw (ends m at left t n type count none) (ap Ok (sym (append_assoc done (0 ∷ []) (n ∷ []))))

-- a pair before it
goes_on : (m : List ℕ) (at left t n : ℕ) → number_in 1 m at ≡ Ok t → number_in 1 m (at + 1) ≡ Ok n → IsWidth t
    → format_from m at (suc left) ≡ (format_from m (at + 2) left >>= (λ rest. Ok (t ∷ n ∷ rest)))
unfolding format_from
goes_on m at left t n type count width = rw (type, count) (grind (arith, nat_tests, width))

behind_more : (done : List ℕ) (t n : ℕ) (rest : Result (List ℕ) Fault)
    → behind done (rest >>= (λ xs. Ok (t ∷ n ∷ xs))) ≡ behind ((done ++ t ∷ []) ++ n ∷ []) rest
behind_more done t n (Ok rest) = ap Ok (sym (append_assoc (done ++ t ∷ []) (n ∷ []) rest
    ∙ append_assoc done (t ∷ []) (n ∷ rest)))
behind_more done t n (Err fault) = refl

format_goes_on : (done m : List ℕ) (at left t n : ℕ) → number_in 1 m at ≡ Ok t → number_in 1 m (at + 1) ≡ Ok n
    → IsWidth t → 0 < left
    → behind done (format_from m at left) ≡ behind ((done ++ t ∷ []) ++ n ∷ []) (format_from m (at + 2) (left - 1))
format_goes_on done m at zero t n type count width more = absurd (omega arith)
format_goes_on done m at (suc left) t n type count width more =
    let less : suc left - 1 ≡ left = omega arith in
    rw (less, goes_on m at left t n type count width) (behind_more done t n (format_from m (at + 2) left))

-- a call that hands a fault on
pub reads_fault : {X Y : Type 0} (view : X → Y) (r : Result X Fault) (fault : Fault) (defined : Result Y Fault)
    → IsErrAnd r (λ e. e ≡ fault) → defined ≡ Err fault → fault ≢ NoMemory → Reads view r defined
reads_fault view (Ok x) fault defined same known other = absurd same
reads_fault view (Err e) fault defined same known other = (known ∙ ap Err (sym same), λ none. other (sym same ∙ none))

-- the same for what a call answers behind a pair that was pushed
pub pair_taken : (done one two m out : List ℕ) (at left t n : ℕ) (r : Result (Unit {0}) Fault)
    → number_in 1 m at ≡ Ok t → number_in 1 m (at + 1) ≡ Ok n → IsWidth t → 0 < left → one ≡ done ++ t ∷ []
    → two ≡ one ++ n ∷ []
    → Reads (λ (u : Unit {0}). out) r (behind two (format_from m (at + 2) (left - 1)))
    → Reads (λ (u : Unit {0}). out) r (behind done (format_from m at left))
pair_taken done one two m out at left t n r type count width more pushed again is =
    let both : two ≡ (done ++ t ∷ []) ++ n ∷ [] = again ∙ ap (λ (xs : List ℕ). xs ++ n ∷ []) pushed in
    subst (Reads (λ (u : Unit {0}). out) r) (ap (λ (xs : List ℕ). behind xs (format_from m (at + 2) (left - 1))) both
    ∙ sym (format_goes_on done m at left t n type count width more)) is

-- a pair of no type, or one too many
is_bad : (m : List ℕ) (at left t n : ℕ) → number_in 1 m at ≡ Ok t → number_in 1 m (at + 1) ≡ Ok n → t ≢ 0
    → (IsWidth t → left ≡ 0) → format_from m at left ≡ Err BadFunction
unfolding format_from
is_bad m at zero t n type count some bad = rw (type, count) (grind (arith, nat_tests, some))
is_bad m at (suc left) t n type count some bad = rw (type, count) (grind (arith, nat_tests, some, bad))

pub format_is_bad : (done m : List ℕ) (at left t n : ℕ) → number_in 1 m at ≡ Ok t → number_in 1 m (at + 1) ≡ Ok n
    → t ≢ 0 → (IsWidth t → left ≡ 0) → behind done (format_from m at left) ≡ Err BadFunction
format_is_bad done m at left t n type count some bad = rw (is_bad m at left t n type count some bad) refl

-- a pair that isn't in memory
type_past : (m : List ℕ) (at left : ℕ) (fault : Fault) → number_in 1 m at ≡ Err fault
    → format_from m at left ≡ Err fault
unfolding format_from
type_past m at zero fault past = rw past refl
type_past m at (suc left) fault past = rw past refl

pub format_is_past : (done m : List ℕ) (at left : ℕ) (fault : Fault) → number_in 1 m at ≡ Err fault
    → behind done (format_from m at left) ≡ Err fault
format_is_past done m at left fault past = rw (type_past m at left fault past) refl

count_past : (m : List ℕ) (at left t : ℕ) (fault : Fault) → number_in 1 m at ≡ Ok t
    → number_in 1 m (at + 1) ≡ Err fault → format_from m at left ≡ Err fault
unfolding format_from
count_past m at zero t fault type past = rw (type, past) refl
count_past m at (suc left) t fault type past = rw (type, past) refl

pub format_is_cut : (done m : List ℕ) (at left t : ℕ) (fault : Fault) → number_in 1 m at ≡ Ok t
    → number_in 1 m (at + 1) ≡ Err fault → behind done (format_from m at left) ≡ Err fault
format_is_cut done m at left t fault type past = rw (count_past m at left t fault type past) refl

-- pairs with one more, and a format of pairs with an ending one
pub pairs_more : (pairs : List ℕ) (t n : ℕ) → ArePairs pairs → IsWidth t → ArePairs ((pairs ++ t ∷ []) ++ n ∷ [])
pairs_more [] t n are width = (width, tt)
pairs_more (a ∷ []) t n are width = absurd are
pairs_more (a ∷ b ∷ pairs) t n are width = (are.0, pairs_more pairs t n are.1 width)

pub is_format : (pairs : List ℕ) (n : ℕ) → ArePairs pairs → length pairs ≤ 128 → IsFormat ((pairs ++ 0 ∷ []) ++ n ∷ [])
is_format pairs n are few =
    let front : pairs_of ((pairs ++ 0 ∷ []) ++ n ∷ []) ≡ pairs = grind (arith, common_steps) in
    record {
      pairs = rw front are;
      ending = grind (arith, common_steps);
      ends = grind (arith, common_steps);
      few = grind (arith, common_steps);
    }

pub ruleset format_turns = (format_ends, format_is_bad, format_is_past, format_is_cut, pairs_more, is_format)

pub whole_format : (done : List ℕ) (r : Result (List ℕ) Fault) → done ≡ [] → behind done r ≡ r
whole_format done (Ok rest) none = rw none refl
whole_format done (Err fault) none = refl

pub ruleset whole = (whole_format)

-- the bytes that a format's reads found
abbrev read_of : Result ℕ Fault → ℕ
read_of (Ok v) = v
read_of (Err fault) = 0

read_byte : (m : List ℕ) (at v : ℕ) → at < length m → number_in 1 m at ≡ Ok v → get_or m at 0 ≡ v
read_byte m at v there is = ap read_of (sym (is_there m at _ there refl) ∙ is)

-- one pair more of those that were read
pub slice_more : (m : List ℕ) (at here t n : ℕ) → number_in 1 m here ≡ Ok t → number_in 1 m (here + 1) ≡ Ok n
    → at ≤ here → here + 2 ≤ length m → slice_range m at (here + 2) ≡ (slice_range m at here ++ t ∷ []) ++ n ∷ []
slice_more m at here t n type count behind there =
    let one : here + 2 - at ≡ suc (suc (here - at)) = omega (arith, behind) in
    let long : length (drop at m) ≡ length m - at = grind (arith, common_steps) in
    let first : get_or (drop at m) (here - at) 0 ≡ t =
    get_or-drop at m (here - at) 0 ∙ ap (λ (a : ℕ). get_or m a 0)
    (let same : at + (here - at) ≡ here = omega (arith, behind) in same)
    ∙ read_byte m here t (omega (arith, there)) type in
    let second : get_or (drop at m) (suc (here - at)) 0 ≡ n =
    get_or-drop at m (suc (here - at)) 0 ∙ ap (λ (a : ℕ). get_or m a 0)
    (let same : at + suc (here - at) ≡ here + 1 = omega (arith, behind) in same)
    ∙ read_byte m (here + 1) n (omega (arith, there)) count in
    rw (
      one,
      take-suc (drop at m) (suc (here - at)) 0 (omega (arith, long, there, behind)),
      take-suc (drop at m) (here - at) 0 (omega (arith, long, there, behind)),
      first,
      second,
    ) refl

pub slice_none : (m : List ℕ) (at : ℕ) → slice_range m at at ≡ []
slice_none m at = let none : at - at ≡ 0 = omega arith in rw none refl

-- what the loop over pairs keeps: the pairs that were read are those of the format
pub record AreRead (m : List ℕ) (at here left : ℕ) : Type 0 where
  pub format : behind (slice_range m at here) (format_from m here left) ≡ format_from m at 64
  pub pairs : ArePairs (slice_range m at here)
  pub long : length (slice_range m at here) + 2 * left ≤ 128
  pub behind_it : at ≤ here

pub none_read : (m : List ℕ) (at : ℕ) → AreRead m at at 64
none_read m at = record {
  format = rw (slice_none m at) (whole_format [] (format_from m at 64) refl);
  pairs = rw (slice_none m at) tt;
  long = rw (slice_none m at) (omega arith);
  behind_it = omega arith;
}

length_more : (pairs : List ℕ) (t n : ℕ) → length ((pairs ++ t ∷ []) ++ n ∷ []) ≡ length pairs + 2
length_more pairs t n = grind (arith, common_steps)

is_width : (t : ℕ) → (t == 1 || t == 2 || t == 4) ≡ true → IsWidth t
is_width t is = elim (or_cases (t == 1 || t == 2) (t == 4) is) [
  | inl two ↦ elim (or_cases (t == 1) (t == 2) two) [
    | inl one ↦ inl (grind (arith, nat_tests, one))
    | inr half ↦ inr (inl (grind (arith, nat_tests, half)))
  ]
  | inr four ↦ inr (inr (grind (arith, nat_tests, four)))
]

pub one_read : (m : List ℕ) (at here left t n : ℕ) → AreRead m at here left → number_in 1 m here ≡ Ok t
    → number_in 1 m (here + 1) ≡ Ok n → (t == 1 || t == 2 || t == 4) ≡ true → 0 < left → here + 2 ≤ length m
    → AreRead m at (here + 2) (left - 1)
one_read m at here left t n is type count known more there =
    let width = is_width t known in
    let next = slice_more m at here t n type count is.behind_it there in
    let few = is.long in
    record {
      format = rw next (sym (format_goes_on (slice_range m at here) m here left t n type count width more) ∙ is.format);
      pairs = rw next (pairs_more (slice_range m at here) t n is.pairs width);
      long = rw (next, length_more (slice_range m at here) t n) (omega (arith, few, more));
      behind_it = omega (arith, is.behind_it);
    }

pub end_read : (m : List ℕ) (at here left t n : ℕ) → AreRead m at here left → number_in 1 m here ≡ Ok t
    → number_in 1 m (here + 1) ≡ Ok n → t ≡ 0 → here + 2 ≤ length m
    → format_from m at 64 ≡ Ok (slice_range m at (here + 2))
end_read m at here left t n is type count none there =
    sym is.format ∙ format_ends (slice_range m at here) m here left t n type count none
    ∙ ap Ok (sym (slice_more m at here t n type count is.behind_it there ∙ rw none refl))

pub end_format : (m : List ℕ) (at here left t n : ℕ) → AreRead m at here left → number_in 1 m here ≡ Ok t
    → number_in 1 m (here + 1) ≡ Ok n → t ≡ 0 → here + 2 ≤ length m → IsFormat (slice_range m at (here + 2))
end_format m at here left t n is type count none there =
    let few = is.long in
    subst IsFormat (sym (slice_more m at here t n type count is.behind_it there ∙ rw none refl))
    (is_format (slice_range m at here) n is.pairs (omega (arith, few)))

pub end_many : (m : List ℕ) (at here left t n : ℕ) → AreRead m at here left → number_in 1 m here ≡ Ok t
    → number_in 1 m (here + 1) ≡ Ok n → t ≢ 0 → left ≡ 0 → format_from m at 64 ≡ Err BadFunction
end_many m at here left t n is type count some none =
    sym is.format ∙ format_is_bad (slice_range m at here) m here left t n type count some (λ width. none)

pub end_bad : (m : List ℕ) (at here left t n : ℕ) → AreRead m at here left → number_in 1 m here ≡ Ok t
    → number_in 1 m (here + 1) ≡ Ok n → t ≢ 0 → (t == 1 || t == 2 || t == 4) ≡ false
    → format_from m at 64 ≡ Err BadFunction
end_bad m at here left t n is type count some other =
    sym is.format ∙ format_is_bad (slice_range m at here) m here left t n type count some
    (λ width. grind (arith, nat_tests, width, other))

pub end_past : (m : List ℕ) (at here left : ℕ) (fault : Fault) → AreRead m at here left
    → number_in 1 m here ≡ Err fault → format_from m at 64 ≡ Err fault
end_past m at here left fault is past = sym is.format ∙ format_is_past (slice_range m at here) m here left fault past

pub end_cut : (m : List ℕ) (at here left t : ℕ) (fault : Fault) → AreRead m at here left → number_in 1 m here ≡ Ok t
    → number_in 1 m (here + 1) ≡ Err fault → format_from m at 64 ≡ Err fault
end_cut m at here left t fault is type past =
    sym is.format ∙ format_is_cut (slice_range m at here) m here left t fault type past

pub ruleset end_turns = (none_read, one_read, end_read, end_format, end_many, end_bad, end_past, end_cut)

-- one pair of locals of four bytes, and the ending one
word_pair : (m : List ℕ) (at t n : ℕ) → number_in 1 m at ≡ Ok t → number_in 1 m (at + 1) ≡ Ok n → t ≡ 4
    → at + 4 ≤ length m → AreRead m at (at + 2) 63
word_pair m at t n type count four there =
    one_read m at at 64 t n (none_read m at) type count (rw four refl) (omega arith) (omega (arith, there))

words_read : (m : List ℕ) (at t n u x : ℕ) → number_in 1 m at ≡ Ok t → number_in 1 m (at + 1) ≡ Ok n
    → number_in 1 m (at + 2) ≡ Ok u → number_in 1 m (at + 3) ≡ Ok x → t ≡ 4 → u ≡ 0 → at + 4 ≤ length m
    → format_from m at 64 ≡ Ok (slice_range m at (at + 4))
words_read m at t n u x type count ending last four none there =
    let behind_it : at + 3 ≡ at + 2 + 1 = omega arith in
    let end : at + 4 ≡ at + 2 + 2 = omega arith in
    rw end (end_read m at (at + 2) 63 u x (word_pair m at t n type count four there) ending
    (rw behind_it at last) none (omega (arith, there)))

words_format : (m : List ℕ) (at t n u x : ℕ) → number_in 1 m at ≡ Ok t → number_in 1 m (at + 1) ≡ Ok n
    → number_in 1 m (at + 2) ≡ Ok u → number_in 1 m (at + 3) ≡ Ok x → t ≡ 4 → u ≡ 0 → at + 4 ≤ length m
    → IsFormat (slice_range m at (at + 4))
words_format m at t n u x type count ending last four none there =
    let behind_it : at + 3 ≡ at + 2 + 1 = omega arith in
    let end : at + 4 ≡ at + 2 + 2 = omega arith in
    rw end (end_format m at (at + 2) 63 u x (word_pair m at t n type count four there) ending
    (rw behind_it at last) none (omega (arith, there)))

-- a format below RAMSTART stands in the story's bytes too
pub stored_format : (m stored : List ℕ) (ramstart at end : ℕ) → take ramstart m ≡ take ramstart stored → at ≤ end
    → end ≤ ramstart → slice_range m at end ≡ slice_range stored at end
stored_format m stored ramstart at end same first below = shared_slice m stored ramstart at end same first below

pub ruleset stored = (stored_format)

-- where it has locals of four bytes alone
byte_there : (m : List ℕ) (at : ℕ) → at < length m → number_in 1 m at ≡ Ok (get_or m at 0)
byte_there m at there = is_there m at (get_or m at 0) there refl

pub words_stored : (m stored : List ℕ) (ramstart at : ℕ) → take ramstart m ≡ take ramstart stored
    → ramstart ≤ length m → at + 5 ≤ ramstart → get_or stored (at + 1) 0 ≡ 4 → get_or stored (at + 3) 0 ≡ 0
    → format_from m (at + 1) 64 ≡ Ok (slice_range stored (at + 1) (at + 5))
words_stored m stored ramstart at same inside below four none =
    let type : get_or m (at + 1) 0 ≡ 4 = shared_byte m stored ramstart (at + 1) same (omega (arith, below)) ∙ four in
    let ending : get_or m (at + 3) 0 ≡ 0 = shared_byte m stored ramstart (at + 3) same (omega (arith, below)) ∙ none in
    let third : at + 3 ≡ at + 1 + 2 = omega arith in
    let end : at + 5 ≡ at + 1 + 4 = omega arith in
    rw end (words_read m (at + 1) _ _ _ _ (byte_there m (at + 1) (omega (arith, below, inside)))
    (byte_there m (at + 1 + 1) (omega (arith, below, inside)))
    (byte_there m (at + 1 + 2) (omega (arith, below, inside)))
    (byte_there m (at + 1 + 3) (omega (arith, below, inside))) type (rw third at ending)
    (omega (arith, below, inside))
    ∙ ap Ok (stored_format m stored ramstart (at + 1) (at + 1 + 4) same (omega arith) (omega (arith, below))))

pub format_stored : (m stored : List ℕ) (ramstart at : ℕ) → take ramstart m ≡ take ramstart stored
    → ramstart ≤ length m → at + 5 ≤ ramstart → get_or stored (at + 1) 0 ≡ 4 → get_or stored (at + 3) 0 ≡ 0
    → IsFormat (slice_range stored (at + 1) (at + 5))
format_stored m stored ramstart at same inside below four none =
    let type : get_or m (at + 1) 0 ≡ 4 = shared_byte m stored ramstart (at + 1) same (omega (arith, below)) ∙ four in
    let ending : get_or m (at + 3) 0 ≡ 0 = shared_byte m stored ramstart (at + 3) same (omega (arith, below)) ∙ none in
    let third : at + 3 ≡ at + 1 + 2 = omega arith in
    let end : at + 5 ≡ at + 1 + 4 = omega arith in
    rw end (subst IsFormat (stored_format m stored ramstart (at + 1) (at + 1 + 4) same (omega arith)
    (omega (arith, below)))
    (words_format m (at + 1) _ _ _ _ (byte_there m (at + 1) (omega (arith, below, inside)))
    (byte_there m (at + 1 + 1) (omega (arith, below, inside)))
    (byte_there m (at + 1 + 2) (omega (arith, below, inside)))
    (byte_there m (at + 1 + 3) (omega (arith, below, inside))) type (rw third at ending)
    (omega (arith, below, inside))))

pub ruleset stored_words = (words_stored, format_stored)
