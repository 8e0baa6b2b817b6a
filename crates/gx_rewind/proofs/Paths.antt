-- The run that notes record: a place of it is found again by the units that were used before it.
use Rattle.std.proofs.Common.{◌≡◌, ◌+◌, ◌-◌, ◌<◌, ◌≤◌, ℕ, zero, suc, nat_lt, if◌then◌else◌, Bool, true, false, List}
use Rattle.std.proofs.Common.{[], ◌∷◌, ◌++◌, length, take, Option, refl, ap, subst, sym, ◌∙◌, arith}
use Rattle.std.proofs.lemmas.Bool.{lt-ltb, le-ltb, ltb-false, ltb-true}
use Rattle.gx_machine.specs.Log.{units_of}
use Rattle.gx_machine.specs.Machine.{FlatMachine}
use Rattle.gx_machine.specs.Step.{cost_of}
use Rattle.gx_machine.proofs.Costs.{cost-positive}
use Rattle.gx_rewind.specs.declared.books.Note.{Note}
use Rattle.gx_rewind.specs.declared.books.Taken.{Taken}
use Rattle.gx_rewind.specs.Path.{machine_after_event, taken_from, taken_in, index_after, IsFit, RunPlace, begun}
use Rattle.gx_rewind.specs.Path.{following_place, IsPath, IsOn, last_place_within, onward}
use Rattle.gx_rewind.specs.Tape.{FlatTape, tape_at, rewound, units_on}
use Rattle.gx_rewind.proofs.Lists.{step-on, stop-at, later, taken-cut, taken-push, bound}

-- the units of one event more
pub units-cons : (m : FlatMachine) (ms : List FlatMachine) → units_of (m ∷ ms) ≡ cost_of m + units_of ms
unfolding units_of
units-cons m ms = refl

pub units-nil : units_of [] ≡ 0
unfolding units_of
units-nil = refl

-- an event takes a unit at least
pub few : (ms : List FlatMachine) → length ms ≤ units_of ms
unfolding units_of
few [] = omega arith
few (m ∷ ms) = let one = cost-positive m in let rest = few ms in omega (arith, one, rest)

abbrev pub at : List FlatMachine → FlatMachine → ℕ → RunPlace
at before m i = record { before = before; machine = m; index = i }

walk-on : {A : Type 0} (notes : List (Note A)) (t n : ℕ) (p : RunPlace) → units_of p.before + cost_of p.machine ≤ t
    → last_place_within notes t (suc n) p ≡ last_place_within notes t n (following_place notes p)
unfolding last_place_within
walk-on notes t n p more =
    step-on (nat_lt t (units_of p.before + cost_of p.machine)) p
    (last_place_within notes t n (following_place notes p)) (le-ltb t (units_of p.before + cost_of p.machine) more)

walk-stops : {A : Type 0} (notes : List (Note A)) (t n : ℕ) (p : RunPlace) → t < units_of p.before + cost_of p.machine
    → last_place_within notes t n p ≡ p
unfolding last_place_within
walk-stops notes t zero p last = refl
walk-stops notes t (suc n) p last =
    stop-at (nat_lt t (units_of p.before + cost_of p.machine)) p
    (last_place_within notes t n (following_place notes p)) (lt-ltb t (units_of p.before + cost_of p.machine) last)

module _ {A : Type 0} (notes : List (Note A)) (opening : FlatMachine) where
  -- the walk comes to each place of the run
  walk-to : (t n k : ℕ) (before : List FlatMachine) (m : FlatMachine) (i : ℕ) → k ≡ length before + n
      → IsPath notes opening before m i → units_of before ≤ t
      → last_place_within notes t k (begun opening) ≡ last_place_within notes t n (at before m i)
  walk-to t n k [] m i is path fits =
      let same : k ≡ n = omega (arith, is) in rw (same, path.0, path.1) refl
  walk-to t n k (p ∷ ps) m i is path fits =
      let cost = cost-positive p in
      let units = units-cons p ps in
      let there : last_place_within notes t n (following_place notes (at ps p path.0))
      ≡ last_place_within notes t n (at (p ∷ ps) m i) =
      ap (λ (x : FlatMachine). last_place_within notes t n
      (at (p ∷ ps) x (index_after path.0 (taken_from notes path.0 (units_of ps))))) path.2
      ∙ ap (λ (x : ℕ). last_place_within notes t n (at (p ∷ ps) m x)) path.3 in
      walk-to t (suc n) k ps p path.0 (omega (arith, is)) path.1 (omega (arith, fits, units, cost))
      ∙ walk-on notes t n (at ps p path.0) (omega (arith, fits, units)) ∙ there

  pub walk-is : (t k : ℕ) (before : List FlatMachine) (m : FlatMachine) (i : ℕ) → IsPath notes opening before m i
      → units_of before ≤ t → t < units_of before + cost_of m → t ≤ k
      → last_place_within notes t k (begun opening) ≡ at before m i
  walk-is t k before m i path fits last enough =
      let short = few before in
      walk-to t (k - length before) k before m i (omega (arith, short, fits, enough)) path fits
      ∙ walk-stops notes t (k - length before) (at before m i) last

  -- two places before which the same units were used are one
  pub one-place : (t : ℕ) (before : List FlatMachine) (m : FlatMachine) (i : ℕ) (before' : List FlatMachine)
      (m' : FlatMachine) (i' : ℕ)
      → IsPath notes opening before m i → units_of before ≤ t → t < units_of before + cost_of m
      → IsPath notes opening before' m' i' → units_of before' ≤ t → t < units_of before' + cost_of m'
      → at before m i ≡ at before' m' i'
  one-place t before m i before' m' i' path fits last path' fits' last' =
      sym (walk-is t t before m i path fits last (omega arith))
      ∙ walk-is t t before' m' i' path' fits' last' (omega arith)

  -- The place of the next note goes up.
  rising-near : (before : List FlatMachine) (m : FlatMachine) (i : ℕ) (p : FlatMachine) (ps : List FlatMachine)
      (m' : FlatMachine) (i' : ℕ) (b : Bool)
      → IsPath notes opening before m i → IsPath notes opening (p ∷ ps) m' i' → units_of ps < units_of before
      → units_of before ≤ units_of (p ∷ ps)
      → nat_lt (units_of before) (units_of (p ∷ ps)) ≡ b → i ≤ i'
  rising-near before m i p ps m' i' true path path' more less is =
      let one = cost-positive m in
      let units = units-cons p ps in
      let short = ltb-true (units_of before) (units_of (p ∷ ps)) is in
      let same = one-place (units_of before) before m i ps p path'.0 path (omega arith) (omega (arith, one)) path'.1
      (omega (arith, more)) (omega (arith, short, units)) in
      let equal : units_of before ≡ units_of ps = ap (λ (x : RunPlace). units_of x.before) same in
      absurd (omega (arith, equal, more))
  rising-near before m i p ps m' i' false path path' more less is =
      let one = cost-positive m in
      let one' = cost-positive m' in
      let long = ltb-false (units_of before) (units_of (p ∷ ps)) is in
      let same = one-place (units_of before) before m i (p ∷ ps) m' i' path (omega arith) (omega (arith, one)) path'
      (omega (arith, long)) (omega (arith, less, one')) in
      let index : i ≡ i' = ap (λ (x : RunPlace). x.index) same in
      omega (arith, index)

  rising-by : (before : List FlatMachine) (m : FlatMachine) (i : ℕ) (p : FlatMachine) (ps : List FlatMachine)
      (m' : FlatMachine) (i' : ℕ) (b : Bool)
      → IsPath notes opening before m i → IsPath notes opening (p ∷ ps) m' i'
      → (units_of before ≤ units_of ps → i ≤ i') → units_of before ≤ units_of (p ∷ ps)
      → nat_lt (units_of ps) (units_of before) ≡ b → i ≤ i'
  rising-by before m i p ps m' i' true path path' below less is =
      rising-near before m i p ps m' i' (nat_lt (units_of before) (units_of (p ∷ ps))) path path'
      (ltb-true (units_of ps) (units_of before) is) less refl
  rising-by before m i p ps m' i' false path path' below less is = below (ltb-false (units_of ps) (units_of before) is)

  pub rising : (before : List FlatMachine) (m : FlatMachine) (i : ℕ) (before' : List FlatMachine) (m' : FlatMachine)
      (i' : ℕ)
      → IsPath notes opening before m i → IsPath notes opening before' m' i' → units_of before ≤ units_of before'
      → i ≤ i'
  rising before m i [] m' i' path path' less =
      let one = cost-positive m in
      let one' = cost-positive m' in
      let none = units-nil in
      let same = one-place 0 before m i [] m' i' path (omega (arith, less, none)) (omega (arith, one)) path'
      (omega (arith, none)) (omega (arith, one')) in
      let index : i ≡ i' = ap (λ (x : RunPlace). x.index) same in
      omega (arith, index)
  rising before m i (p ∷ ps) m' i' path path' less =
      rising-by before m i p ps m' i' (nat_lt (units_of ps) (units_of before)) path path'
      (λ within. let first = rising before m i ps p path'.0 path path'.1 within in
      let after = later path'.0 (taken_from notes path'.0 (units_of ps)) in let last = path'.3 in
      omega (arith, first, after, last))
      less refl

  -- the event that begins at a place before another was recorded
  abbrev WasMade : ℕ → RunPlace → Type 0
  WasMade end p = IsFit p.machine (taken_in notes p) × (units_of p.before + cost_of p.machine ≤ end)

  made-by : (before : List FlatMachine) (m : FlatMachine) (i : ℕ) (p : FlatMachine) (ps : List FlatMachine)
      (m' : FlatMachine) (i' : ℕ) (b : Bool)
      → IsPath notes opening before m i → IsPath notes opening (p ∷ ps) m' i'
      → (units_of before < units_of ps → WasMade (units_of ps) (at before m i))
      → units_of before < units_of (p ∷ ps)
      → nat_lt (units_of before) (units_of ps) ≡ b → WasMade (units_of (p ∷ ps)) (at before m i)
  made-by before m i p ps m' i' true path path' below less is =
      let units = units-cons p ps in
      let rest = below (ltb-true (units_of before) (units_of ps) is) in
      let within = rest.1 in
      (rest.0, omega (arith, within, units))
  made-by before m i p ps m' i' false path path' below less is =
      let one = cost-positive m in
      let units = units-cons p ps in
      let long = ltb-false (units_of before) (units_of ps) is in
      let same = one-place (units_of before) before m i ps p path'.0 path (omega arith) (omega (arith, one)) path'.1
      (omega (arith, long)) (omega (arith, less, units)) in
      subst (WasMade (units_of (p ∷ ps))) (sym same) (path'.4, omega (arith, units))

  pub was-made : (before : List FlatMachine) (m : FlatMachine) (i : ℕ) (before' : List FlatMachine) (m' : FlatMachine)
      (i' : ℕ)
      → IsPath notes opening before m i → IsPath notes opening before' m' i' → units_of before < units_of before'
      → IsFit m (taken_from notes i (units_of before)) × (units_of before + cost_of m ≤ units_of before')
  was-made before m i [] m' i' path path' less = let none = units-nil in absurd (omega (arith, less, none))
  was-made before m i (p ∷ ps) m' i' path path' less =
      made-by before m i p ps m' i' (nat_lt (units_of before) (units_of ps)) path path'
      (was-made before m i ps p path'.0 path path'.1) less refl

  -- one event more
  pub extended : (before : List FlatMachine) (m : FlatMachine) (i : ℕ) (t : Option (Taken A)) (m' : FlatMachine)
      (i' : ℕ)
      → IsPath notes opening before m i → taken_from notes i (units_of before) ≡ t → machine_after_event m t ≡ m'
      → index_after i t ≡ i' → IsFit m t
      → IsPath notes opening (m ∷ before) m' i'
  extended before m i t m' i' path is makes counts fit =
      (i, path, ap (machine_after_event m) is ∙ makes, ap (index_after i) is ∙ counts, subst (IsFit m) (sym is) fit)

  -- the place of the next note is within the list
  pub bounded : (before : List FlatMachine) (m : FlatMachine) (i : ℕ) → IsPath notes opening before m i
      → i ≤ length notes
  bounded [] m i path = let none = path.1 in omega (arith, none)
  bounded (p ∷ ps) m i path =
      let most = bound notes path.0 (units_of ps) (bounded ps p path.0 path.1) in let counts = path.3 in
      omega (arith, most, counts)

  -- what was recorded before a place stays where notes after it are cut off
  pub cut-path : (k : ℕ) (before : List FlatMachine) (m : FlatMachine) (i : ℕ) → IsPath notes opening before m i
      → i ≤ k → IsPath (take k notes) opening before m i
  cut-path k [] m i path within = path
  cut-path k (p ∷ ps) m i path within =
      let after = later path.0 (taken_from notes path.0 (units_of ps)) in
      let counts = path.3 in
      let same = taken-cut notes k path.0 (units_of ps) (omega (arith, counts, within)) in (
        path.0,
        cut-path k ps p path.0 path.1 (omega (arith, after, counts, within)),
        ap (machine_after_event p) same
            ∙ path.2,
        ap (index_after path.0) same ∙ path.3,
        subst (IsFit p) (sym same) path.4,
      )

  -- and where one comes to them
  pub push-path : (n : Note A) (before : List FlatMachine) (m : FlatMachine) (i : ℕ) → IsPath notes opening before m i
      → units_of before ≤ n.units → IsPath (notes ++ n ∷ []) opening before m i
  push-path n [] m i path within = path
  push-path n (p ∷ ps) m i path within =
      let one = cost-positive p in
      let units = units-cons p ps in
      let same = taken-push notes n path.0 (units_of ps) (omega (arith, one, units, within)) in (
        path.0,
        push-path n ps p path.0 path.1 (omega (arith, one, units, within)),
        ap (machine_after_event p) same
            ∙ path.2,
        ap (index_after path.0) same ∙ path.3,
        subst (IsFit p) (sym same) path.4,
      )

-- what follows takes a unit at least for each event
pub on-long : {A : Type 0} (notes : List (Note A)) (units : ℕ) (m : FlatMachine) (i : ℕ) (after : List FlatMachine)
    (end : ℕ) → IsOn notes units m i after end → units + length after ≤ end
on-long notes units m i [] end on = omega (arith, on)
on-long notes units m i (n ∷ ns) end on =
    let one = cost-positive m in
    let rest = on-long notes (units + cost_of m) n (index_after i (taken_from notes i units)) ns end on.2 in
    omega (arith, one, rest)

-- and these are the units up to the end
pub on-units : {A : Type 0} (notes : List (Note A)) (units : ℕ) (m : FlatMachine) (i : ℕ) (after : List FlatMachine)
    (end : ℕ) → IsOn notes units m i after end → end ≡ units + units_on m after
unfolding units_on
on-units notes units m i [] end on = omega (arith, on)
on-units notes units m i (n ∷ ns) end on =
    let rest = on-units notes (units + cost_of m) n (index_after i (taken_from notes i units)) ns end on.2 in
    omega (arith, rest)

-- what follows is found again
pub onward-is : {A : Type 0} (notes : List (Note A)) (k units : ℕ) (m : FlatMachine) (i : ℕ)
    (after : List FlatMachine) (end : ℕ)
    → IsOn notes units m i after end → length after ≤ k → onward notes k units m i end ≡ after
unfolding onward
onward-is notes zero units m i [] end on enough = refl
onward-is notes (suc k) units m i [] end on enough =
    step-on (nat_lt units end) _ [] (le-ltb units end (omega (arith, on)))
onward-is notes zero units m i (n ∷ ns) end on enough = absurd (omega (arith, enough))
onward-is notes (suc k) units m i (n ∷ ns) end on enough =
    let long = on-long notes units m i (n ∷ ns) end on in
    stop-at (nat_lt units end) _ [] (lt-ltb units end (omega (arith, long)))
    ∙ ap (λ (x : FlatMachine). x ∷ onward notes k (units + cost_of m) x
    (index_after i (taken_from notes i units)) end) on.0
    ∙ ap (λ (xs : List FlatMachine). n ∷ xs)
    (onward-is notes k (units + cost_of m) n (index_after i (taken_from notes i units)) ns end on.2
    (omega (arith, enough)))

-- Where a tape goes back to.
pub record IsBack {A : Type 0} (notes : List (Note A)) (opening : FlatMachine) (t end : ℕ)
    (tape : FlatTape) : Type 0 where
  pub before : List FlatMachine
  pub machine : FlatMachine
  pub after : List FlatMachine
  pub index : ℕ
  pub is : tape ≡ tape_at before machine after
  pub path : IsPath notes opening before machine index
  pub on : IsOn notes (units_of before) machine index after end
  pub within : units_of before ≤ t
  pub last : t < units_of before + cost_of machine

module _ {A : Type 0} (notes : List (Note A)) (opening : FlatMachine) where
  back-by : (t end : ℕ) (p : FlatMachine) (ps : List FlatMachine) (m : FlatMachine) (after : List FlatMachine) (i : ℕ)
      (b : Bool)
      → (t < units_of (p ∷ ps) → IsBack notes opening t end (rewound t ps p (m ∷ after)))
      → IsPath notes opening (p ∷ ps) m i → IsOn notes (units_of (p ∷ ps)) m i after end
      → t < units_of (p ∷ ps) + cost_of m → nat_lt t (units_of (p ∷ ps)) ≡ b
      → IsBack notes opening t end (if b then rewound t ps p (m ∷ after) else tape_at (p ∷ ps) m after)
  back-by t end p ps m after i true before path on last is = before (ltb-true t (units_of (p ∷ ps)) is)
  back-by t end p ps m after i false before path on last is = record {
    before = p ∷ ps;
    machine = m;
    after = after;
    index = i;
    is = refl;
    path = path;
    on = on;
    within = ltb-false t (units_of (p ∷ ps)) is;
    last = last;
  }

  pub goes-back : (t end : ℕ) (before : List FlatMachine) (m : FlatMachine) (after : List FlatMachine) (i : ℕ)
      → IsPath notes opening before m i → IsOn notes (units_of before) m i after end → t < units_of before + cost_of m
      → IsBack notes opening t end (rewound t before m after)
  unfolding rewound
  goes-back t end [] m after i path on last = record {
    before = [];
    machine = m;
    after = after;
    index = i;
    is = refl;
    path = path;
    on = on;
    within = let none = units-nil in omega (arith, none);
    last = last;
  }
  goes-back t end (p ∷ ps) m after i path on last =
      let units : units_of (p ∷ ps) ≡ units_of ps + cost_of p = let e = units-cons p ps in omega (arith, e) in
      let onto : IsOn notes (units_of ps + cost_of p) m (index_after path.0 (taken_from notes path.0 (units_of ps)))
      after end =
      subst (λ (x : ℕ). IsOn notes (units_of ps + cost_of p) m x after end) (sym path.3)
      (subst (λ (x : ℕ). IsOn notes x m i after end) units on) in
      back-by t end p ps m after i (nat_lt t (units_of (p ∷ ps)))
      (λ less. goes-back t end ps p (m ∷ after) path.0 path.1 (path.2, path.4, onto) (omega (arith, less, units)))
      path on last refl
