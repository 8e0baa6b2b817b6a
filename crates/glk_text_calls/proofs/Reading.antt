-- Characters that are read, one after another.
use Rattle.std.proofs.Common.{suc, ◌≡◌, ◌≢◌, nat_lt, nat_le, not, ◌<◌, ◌≤◌, ◌+◌, ◌-◌, ◌*◌, ◌==◌, ◌&&◌, ℕ, Bool, true}
use Rattle.std.proofs.Common.{false, if◌then◌else◌, List, [], ◌∷◌}
use Rattle.std.proofs.Common.{◌++◌, append_assoc, length, refl, sym, ap, subst, ◌∙◌, inl, inr, arith, Option, Some}
use Rattle.std.proofs.Common.{None, Result, Ok, Err, IfSome, MatchOption}
use Rattle.std.proofs.lemmas.Bool.Decides.{nat_tests}
use Rattle.std.proofs.lemmas.List.{append-nil, length-append}
use Rattle.gx_words.specs.Constants.{line_feed}
use Rattle.gx_words.specs.Numbers.{number}
use Rattle.gx_words.specs.declared.faults.Fault.TheVariants.{NoMemory, BadAddress}
use Rattle.gx_pages.specs.Memory.{number_in}
use Rattle.gx_words.specs.declared.faults.Fault.{Fault}
use Rattle.gx_words.specs.Results.{◌>>=◌}
use Rattle.gx_state.specs.Flat.{FlatState}
use Rattle.glk_streams.specs.declared.kinds.Places.{Places}
use Rattle.glk_streams.specs.declared.kinds.Stream.{Stream}
use Rattle.glk_streams.specs.Stream as one
use Rattle.glk_streams.specs.Streams as streams
use Rattle.glk_world.specs.World.{Scene}
use Rattle.glk_world.specs.Putting.{places_read, no_places}
use Rattle.glk_replies.specs.Parts.{IsCharWidth, can_read}
use Rattle.glk_text_calls.specs.Input.{found_in, read_behind, read_with, read_on, count_read, has_read}
use Rattle.glk_text_calls.proofs.Puts.{width_of}

-- ---- places

pub width_times : (width i : ℕ) → IsCharWidth width → width * i ≤ 4 * i
width_times width i (inl is) = subst (λ w. w * i ≤ 4 * i) (sym is) (omega arith)
width_times width i (inr is) = subst (λ w. w * i ≤ 4 * i) (sym is) (omega arith)

pub width_some : (width : ℕ) → IsCharWidth width → 0 < width
width_some width (inl is) = omega (arith, is)
width_some width (inr is) = omega (arith, is)

pub ruleset places_rules = (width_times, width_some)

pub read_width : (w : Scene) (stream count : ℕ) → IsCharWidth (places_read w stream count).width
read_width w stream count =
    elim (one.readable (streams.stream w.streams stream)) as
    (λ b. IsCharWidth (if b then one.next_places (streams.stream w.streams stream) count else no_places).width) [
      | true ↦ width_of (streams.stream w.streams stream) count
      | false ↦ inl refl
    ]

pub width_read : (w : Scene) (stream count : ℕ) (p : Places) → p ≡ places_read w stream count → IsCharWidth p.width
width_read w stream count p is = subst (λ (q : Places). IsCharWidth q.width) (sym is) (read_width w stream count)

-- ---- the number at a place

refused_by : (test : Bool) (e : Fault) → (if test then Err BadAddress else Ok tt) ≡ (let r : Result (Unit {0}) Fault =
    Err e in r) → (test ≡ true) × (BadAddress ≡ e)
refused_by true e is = (refl, cc)
refused_by false e is = absurd (cc)

out_of_memory : (width end size : ℕ) → (not (width == 0) && nat_lt size end) ≡ true → nat_le end size ≡ false
out_of_memory width end size out = grind (arith, nat_tests)

number_refused : (f : FlatState) (at width : ℕ) (e : Fault) → can_read f at width ≡ Err e
    → number_in width f.memory at ≡ Err e
unfolding can_read number_in
number_refused f at width e is =
    let test : Bool = not (width == 0) && nat_lt (length f.memory) (at + width) in
    let both : (test ≡ true) × (BadAddress ≡ e) = refused_by test e is in
    rw (out_of_memory width (at + width) (length f.memory) both.0, both.1) refl

number_there : (memory : List ℕ) (at width : ℕ) → at + width ≤ length memory
    → number_in width memory at ≡ Ok (number width memory at)
unfolding number_in
number_there memory at width there =
    let inside : nat_le (at + width) (length memory) ≡ true = grind (arith, nat_tests) in rw inside refl

place_in : (f : FlatState) (p : Places) (i at : ℕ) (r : Result ℕ Fault) → i < p.count → at ≡ p.at + p.width * i
    → number_in p.width f.memory at ≡ r → found_in f p i ≡ r
place_in f p i at r less is found =
    let here : nat_lt i p.count ≡ true = grind (arith, nat_tests) in
    rw here (subst (λ (k : ℕ). number_in p.width f.memory k ≡ r) is found)

pub found_refused : (f : FlatState) (p : Places) (i at width : ℕ) (e : Fault) → i < p.count
    → at ≡ p.at + p.width * i → width ≡ p.width → (can_read f at width ≡ Err e) × (e ≢ NoMemory)
    → (found_in f p i ≡ Err e) × (e ≢ NoMemory)
found_refused f p i at width e less is same reads = (
  place_in f p i at (Err e) less is
      (number_refused f at p.width e (subst (λ (k : ℕ). can_read f at k ≡ Err e) same reads.0)),
  reads.1,
)

pub found_there : (f : FlatState) (p : Places) (i at k found : ℕ) (memory : List ℕ) → i < p.count
    → at ≡ p.at + p.width * i → at + p.width ≤ length f.memory → k ≡ at → memory ≡ f.memory
    → found ≡ number p.width memory k → found_in f p i ≡ Ok found
found_there f p i at k found memory less is there same whole made =
    let read : found ≡ number p.width f.memory at =
    made ∙ ap (λ (m : List ℕ). number p.width m k) whole ∙ ap (number p.width f.memory) same in
    rw read (place_in f p i at (Ok (number p.width f.memory at)) less is (number_there f.memory at p.width there))

-- ---- one turn

-- a line ends behind a line feed
abbrev pub ends_line : Bool → ℕ → Bool
ends_line stops c = stops && c == line_feed

fewer : (most i : ℕ) → i < most → most - i ≡ suc (most - (i + 1))
fewer most i less = omega arith

abbrev pub read_as : List ℕ → ℕ → Result (List ℕ × ℕ) Fault
read_as cs position = Ok (cs, position)

abbrev count_as : ℕ → ℕ → Result (ℕ × ℕ) Fault
count_as n position = Ok (n, position)

-- the next character, and the position behind it
abbrev pub next_char : FlatState → Places → Stream → ℕ → ℕ → Result (Option (ℕ × ℕ)) Fault
next_char f p s i position = found_in f p i >>= λ found. Ok (one.read_next (record s { position = position }) found)

by_found : (found : Result ℕ Fault) (next : ℕ → Option (ℕ × ℕ)) (read : Option (ℕ × ℕ) → Result (List ℕ × ℕ) Fault)
    → (found >>= λ c. read (next c)) ≡ ((found >>= λ c. Ok (next c)) >>= read)
by_found (Ok c) next read = refl
by_found (Err e) next read = refl

one_step : (more : ℕ) (stops : Bool) (f : FlatState) (p : Places) (s : Stream) (i position : ℕ)
    → read_on (suc more) stops f p s i position
    ≡ (next_char f p s i position >>= λ next. read_with stops position next (read_on more stops f p s (i + 1)))
unfolding read_on
one_step more stops f p s i position =
    by_found (found_in f p i) (one.read_next (record s { position = position }))
    (λ next. read_with stops position next (read_on more stops f p s (i + 1)))

fails_step : (more : ℕ) (stops : Bool) (f : FlatState) (p : Places) (s : Stream) (i position : ℕ) (e : Fault)
    → next_char f p s i position ≡ Err e → read_on (suc more) stops f p s i position ≡ Err e
fails_step more stops f p s i position e is = one_step more stops f p s i position ∙ rw is refl

none_step : (more : ℕ) (stops : Bool) (f : FlatState) (p : Places) (s : Stream) (i position : ℕ)
    → next_char f p s i position ≡ Ok None → read_on (suc more) stops f p s i position ≡ read_as [] position
none_step more stops f p s i position is = one_step more stops f p s i position ∙ rw is refl

stop_step : (more : ℕ) (stops : Bool) (f : FlatState) (p : Places) (s : Stream) (i position c next : ℕ)
    → next_char f p s i position ≡ Ok (Some (c, next)) → ends_line stops c ≡ true
    → read_on (suc more) stops f p s i position ≡ read_as (c ∷ []) next
stop_step more stops f p s i position c next is ends = one_step more stops f p s i position ∙ rw (is, ends) refl

pub go_step : (more : ℕ) (stops : Bool) (f : FlatState) (p : Places) (s : Stream) (i position c next : ℕ)
    → next_char f p s i position ≡ Ok (Some (c, next)) → ends_line stops c ≡ false
    → read_on (suc more) stops f p s i position ≡ read_behind (c ∷ []) (read_on more stops f p s (i + 1) next)
go_step more stops f p s i position c next is on = one_step more stops f p s i position ∙ rw (is, on) refl

last_step : (stops : Bool) (f : FlatState) (p : Places) (s : Stream) (i position : ℕ)
    → read_on 0 stops f p s i position ≡ read_as [] position
unfolding read_on
last_step stops f p s i position = refl

behind_none : (r : Result (List ℕ × ℕ) Fault) → read_behind [] r ≡ r
behind_none (Ok got) = refl
behind_none (Err e) = refl

behind_twice : (cs ds : List ℕ) (r : Result (List ℕ × ℕ) Fault)
    → read_behind cs (read_behind ds r) ≡ read_behind (cs ++ ds) r
behind_twice cs ds (Ok got) = ap (λ (xs : List ℕ). read_as xs got.1) (sym (append_assoc cs ds got.0))
behind_twice cs ds (Err e) = refl

-- ---- what was read before a turn

pub record IsReading (most : ℕ) (stops : Bool) (f : FlatState) (p : Places) (s : Stream) (i position : ℕ)
    (chars : Option (List ℕ)) : Type 0 where
  pub front : List ℕ
  pub count : length front ≡ i
  pub kept : IfSome chars (λ cs. cs ≡ front)
  pub some : chars ≡ None → 0 < i
  pub same : read_behind front (read_on (most - i) stops f p s i position) ≡ read_on most stops f p s 0 s.position
  pub within : position ≤ one.end_position s

pub begins : (most : ℕ) (stops : Bool) (f : FlatState) (p : Places) (s : Stream) (position : ℕ) (chars : List ℕ)
    → position ≡ s.position → chars ≡ [] → position ≤ one.end_position s
    → IsReading most stops f p s 0 position (Some chars)
begins most stops f p s position chars at none within = let e : most - 0 ≡ most = omega arith in record {
  front = [];
  count = refl;
  kept = none;
  some = λ h. absurd (cc);
  same = rw (e, at) (behind_none (read_on most stops f p s 0 s.position));
  within = within;
}

abbrev IsPushed : Option (List ℕ) → ℕ → Option (List ℕ) → Type 0
IsPushed chars c more = IfSome more (λ cs. MatchOption chars ⊥ (λ before. cs ≡ before ++ c ∷ []))

more_kept : (chars more : Option (List ℕ)) (front : List ℕ) (c : ℕ) → IfSome chars (λ cs. cs ≡ front)
    → IsPushed chars c more → IfSome more (λ cs. cs ≡ front ++ c ∷ [])
more_kept chars None front c is keeps = tt
more_kept None (Some cs) front c is keeps = absurd keeps
more_kept (Some before) (Some cs) front c is keeps = keeps ∙ ap (λ (xs : List ℕ). xs ++ c ∷ []) is

-- a character more
module _ (most : ℕ) (stops : Bool) (f : FlatState) (p : Places) (s : Stream) (i position : ℕ) (chars : Option (List ℕ))
    (before : IsReading most stops f p s i position chars) where
  abbrev all : Result (List ℕ × ℕ) Fault
  all = read_on most stops f p s 0 s.position

  one_longer : (c : ℕ) → length (before.front ++ c ∷ []) ≡ i + 1
  one_longer c = omega (arith, length-append before.front (c ∷ []), before.count)

  -- the rest of the reading
  rest_is : i < most → read_on (suc (most - (i + 1))) stops f p s i position ≡ read_on (most - i) stops f p s i position
  rest_is less = ap (λ n. read_on n stops f p s i position) (sym (fewer most i less))

  pub goes : (c next : ℕ) (more : Option (List ℕ)) → i < most → next_char f p s i position ≡ Ok (Some (c, next))
      → ends_line stops c ≡ false → IsPushed chars c more → next ≤ one.end_position s
      → IsReading most stops f p s (i + 1) next more
  goes c next more less is on keeps within = record {
    front = before.front ++ c ∷ [];
    count = one_longer c;
    kept = more_kept chars more before.front c before.kept keeps;
    some = λ none. omega arith;
    same =
        sym (behind_twice before.front (c ∷ []) (read_on (most - (i + 1)) stops f p s (i + 1) next))
        ∙ ap (read_behind before.front)
        (sym (go_step (most - (i + 1)) stops f p s i position c next is on) ∙ rest_is less)
        ∙ before.same;
    within = within;
  }

  -- the end of the reading
  ended : (front : List ℕ) (n q : ℕ) (some : Option (List ℕ)) → length front ≡ n → IfSome some (λ cs. cs ≡ front)
      → all ≡ read_as front q → (count_read all ≡ count_as n q) × IfSome some (λ cs. all ≡ read_as cs q)
  ended front n q None len is same = (ap count_read same ∙ ap (λ k. count_as k q) len, tt)
  ended front n q (Some cs) len is same =
      (ap count_read same ∙ ap (λ k. count_as k q) len, same ∙ ap (λ (xs : List ℕ). read_as xs q) (sym is))

  all_is : read_on (most - i) stops f p s i position ≡ read_as [] position → all ≡ read_as before.front position
  all_is is = sym before.same ∙ ap (read_behind before.front) is
      ∙ ap (λ (xs : List ℕ). read_as xs position) (append-nil before.front)

  reads_all : most ≤ i → i ≤ most
      → (count_read all ≡ count_as most position) × IfSome chars (λ cs. all ≡ read_as cs position)
  reads_all most_le le_most =
      let none : most - i ≡ 0 = omega arith in
      let len : length before.front ≡ most = omega (arith, before.count) in
      ended before.front most position chars len before.kept
      (all_is (ap (λ n. read_on n stops f p s i position) none ∙ last_step stops f p s i position))

  reads_none : i < most → next_char f p s i position ≡ Ok None
      → (count_read all ≡ count_as i position) × IfSome chars (λ cs. all ≡ read_as cs position)
  reads_none less is = ended before.front i position chars before.count before.kept
      (all_is (sym (rest_is less) ∙ none_step (most - (i + 1)) stops f p s i position is))

  reads_stop : (c next : ℕ) (more : Option (List ℕ)) → i < most → next_char f p s i position ≡ Ok (Some (c, next))
      → ends_line stops c ≡ true → IsPushed chars c more
      → (count_read all ≡ count_as (i + 1) next) × IfSome more (λ cs. all ≡ read_as cs next)
  reads_stop c next more less is ends keeps = ended (before.front ++ c ∷ []) (i + 1) next more (one_longer c)
      (more_kept chars more before.front c before.kept keeps)
      (sym before.same ∙ ap (read_behind before.front)
      (sym (rest_is less) ∙ stop_step (most - (i + 1)) stops f p s i position c next is ends))

  pub reads_fail : (e : Fault) → i < most → next_char f p s i position ≡ Err e → count_read all ≡ Err e
  reads_fail e less is = ap count_read (sym before.same ∙ ap (read_behind before.front)
      (sym (rest_is less) ∙ fails_step (most - (i + 1)) stops f p s i position e is))

  pub counted_all : most ≤ i → i ≤ most → count_read all ≡ count_as most position
  counted_all most_le le_most = (reads_all most_le le_most).0

  pub kept_all : most ≤ i → i ≤ most → IfSome chars (λ cs. all ≡ read_as cs position)
  kept_all most_le le_most = (reads_all most_le le_most).1

  pub counted_none : i < most → next_char f p s i position ≡ Ok None → count_read all ≡ count_as i position
  counted_none less is = (reads_none less is).0

  pub kept_none : i < most → next_char f p s i position ≡ Ok None → IfSome chars (λ cs. all ≡ read_as cs position)
  kept_none less is = (reads_none less is).1

  pub counted_stop : (c next : ℕ) (more : Option (List ℕ)) → i < most → next_char f p s i position ≡ Ok (Some (c, next))
      → ends_line stops c ≡ true → IsPushed chars c more → count_read all ≡ count_as (i + 1) next
  counted_stop c next more less is ends keeps = (reads_stop c next more less is ends keeps).0

  pub kept_stop : (c next : ℕ) (more : Option (List ℕ)) → i < most → next_char f p s i position ≡ Ok (Some (c, next))
      → ends_line stops c ≡ true → IsPushed chars c more → IfSome more (λ cs. all ≡ read_as cs next)
  kept_stop c next more less is ends keeps = (reads_stop c next more less is ends keeps).1

-- ---- what was read, by its count

abbrev first_of : Result (ℕ × ℕ) Fault → ℕ
first_of (Ok got) = got.0
first_of (Err e) = 0

pub read_fails : (r : Result (List ℕ × ℕ) Fault) (e : Fault) → count_read r ≡ Err e → r ≡ Err e
read_fails (Ok got) e is = absurd (cc)
read_fails (Err e') e is = cc

pub read_some : (r : Result (List ℕ × ℕ) Fault) (n q : ℕ) → count_read r ≡ Ok (n, q) → 0 < n → has_read r ≡ true
read_some (Ok got) n q is some = let same : length got.0 ≡ n = ap first_of is in grind (arith, nat_tests)
read_some (Err e) n q is some = absurd (cc)

-- what ends a line in its buffer
abbrev pub ending : Bool → List ℕ
ending stops = if stops then 0 ∷ [] else []

abbrev pub ending_len : Bool → ℕ
ending_len stops = if stops then 1 else 0

ending_length : (stops : Bool) → length (ending stops) ≡ ending_len stops
ending_length true = refl
ending_length false = refl

pub all_length : (cs : List ℕ) (stops : Bool) → length (cs ++ ending stops) ≡ length cs + ending_len stops
all_length cs stops = length-append cs (ending stops) ∙ ap (λ n. length cs + n) (ending_length stops)
