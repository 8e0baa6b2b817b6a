-- Where a tape goes, and where its record ends.
use Rattle.std.proofs.Common.{◌≡◌, ◌+◌, ◌-◌, ◌<◌, ◌≤◌, ℕ, List, [], ◌∷◌, length, Option, None, refl, ap, subst, sym}
use Rattle.std.proofs.Common.{◌∙◌, arith}
use Rattle.gx_machine.specs.Log.{Log, units_of}
use Rattle.gx_machine.specs.Machine.{FlatMachine, Whole}
use Rattle.gx_machine.specs.Step.{cost_of}
use Rattle.gx_machine.proofs.Costs.{cost-positive}
use Rattle.gx_rewind.specs.declared.books.Book.{Book}
use Rattle.gx_rewind.specs.declared.books.Note.{Note}
use Rattle.gx_rewind.specs.declared.books.Spot.{Spot}
use Rattle.gx_rewind.specs.Path.{RunPlace, index_after, taken_from, IsFit, IsOn, IsPath}
use Rattle.gx_rewind.specs.Tape.{FlatTape, tape_at, gone_back, gone_on, gone_on_to, units_at_end}
use Rattle.gx_rewind.specs.Views.{log_of, IsBook, IsMade, IsSpot}
use Rattle.gx_rewind.proofs.Kept.{booked, logged, present}
use Rattle.gx_rewind.proofs.Paths.{units-cons, extended, goes-back, on-long, on-units, one-place}

pub ends : {A : Type 0} (b : Book A) (w : Whole) → IsBook b w.machine (log_of b w.machine)
    → b.end ≡ units_at_end (record { whole = w; log = log_of b w.machine })
ends b w book =
    let units = book.units_is in
    let rest = on-units b.notes.items b.units w.machine b.index (log_of b w.machine).after b.end book.on in
    omega (arith, units, rest)

-- a book at another place of its run
pub moved : {A : Type 0} (b c : Book A) (m n : FlatMachine) (log last : Log) → IsBook b m log → c.opening ≡ b.opening
    → c.notes.items ≡ b.notes.items → c.checkpoints.items ≡ b.checkpoints.items → c.end ≡ b.end
    → IsPath b.notes.items b.opening.machine last.before n c.index → units_of last.before ≡ c.units
    → IsOn b.notes.items c.units n c.index last.after b.end → IsBook c n last
moved b c m n log last book opening notes checkpoints end path units on = record {
  path = rw (notes, opening) path;
  units_is = units;
  on = rw (notes, end) on;
  checkpoints = rw (notes, opening, end, checkpoints) book.checkpoints;
  opening = rw opening book.opening;
}

-- The tape goes back to the place that was found.
pub record HasGone {A : Type 0} (c : Book A) (w : Whole) (tape : FlatTape) : Type 0 where
  pub book : IsBook c w.machine (log_of c w.machine)
  pub is : record { whole = w; log = log_of c w.machine } ≡ tape

gone : {A : Type 0} (c : Book A) (w : Whole) (last : Log) → w.asking ≡ None → IsBook c w.machine last
    → HasGone c w (tape_at last.before w.machine last.after)
gone c w last asks book = record {
  book = booked c w.machine last book;
  is =
      ap (λ (l : Log). let t : FlatTape = record { whole = w; log = l } in t) (logged c w.machine last book)
      ∙ ap (λ (a : Option _). let t : FlatTape =
      record { whole = record { machine = w.machine; asking = a }; log = last } in t) asks;
}

pub goes : {A : Type 0} (b c : Book A) (w : Whole) (s : Spot A) (k : ℕ) → IsBook b w.machine (log_of b w.machine)
    → IsSpot b s → s.units ≤ b.units - k → b.units - k < s.units + cost_of s.machine.machine
    → c.opening ≡ b.opening → c.notes.items ≡ b.notes.items → c.checkpoints.items ≡ b.checkpoints.items
    → c.end ≡ b.end → c.units ≡ s.units → c.index ≡ s.index
    → HasGone c s.machine (gone_back (record { whole = w; log = log_of b w.machine }) k)
goes {A} b c w s k book spot within last opening notes checkpoints end units index =
    let one = cost-positive w.machine in
    let here = book.units_is in
    let there = spot.units_is in
    let log = log_of b w.machine in
    let t : ℕ = units_of log.before - k in
    let back = goes-back b.notes.items b.opening.machine t b.end log.before w.machine log.after b.index book.path
    (subst (λ (u : ℕ). IsOn b.notes.items u w.machine b.index log.after b.end) (sym here) book.on)
    (omega (arith, one)) in
    let near = back.within in
    let far = back.last in
    let same = one-place b.notes.items b.opening.machine t back.before back.machine back.index spot.before
    s.machine.machine s.index back.path near far spot.path (omega (arith, there, here, within))
    (omega (arith, there, here, last)) in
    let ms : back.before ≡ spot.before = ap (λ (p : RunPlace). p.before) same in
    let m : back.machine ≡ s.machine.machine = ap (λ (p : RunPlace). p.machine) same in
    let i : back.index ≡ s.index = ap (λ (p : RunPlace). p.index) same in
    let on : IsOn b.notes.items (units_of spot.before) s.machine.machine s.index back.after b.end =
    subst (λ (p : RunPlace). IsOn b.notes.items (units_of p.before) p.machine p.index back.after b.end) same back.on in
    let onto : IsOn b.notes.items c.units s.machine.machine c.index back.after b.end =
    subst (λ (x : ℕ). IsOn b.notes.items c.units s.machine.machine x back.after b.end) (sym index)
    (subst (λ (u : ℕ). IsOn b.notes.items u s.machine.machine s.index back.after b.end) (there ∙ sym units) on) in
    let path : IsPath b.notes.items b.opening.machine spot.before s.machine.machine c.index =
    subst (λ (x : ℕ). IsPath b.notes.items b.opening.machine spot.before s.machine.machine x) (sym index) spot.path in
    let new = moved b c w.machine s.machine.machine log (record { before = spot.before; after = back.after }) book
    opening notes checkpoints end path (there ∙ sym units) onto in
    let is : tape_at spot.before s.machine.machine back.after ≡ gone_back (record { whole = w; log = log }) k =
    ap (λ (p : RunPlace). tape_at p.before p.machine back.after) (sym same) ∙ sym back.is in
    subst (HasGone c s.machine) is (gone c s.machine (record { before = spot.before; after = back.after }) spot.asks
    new)

-- A tape that stays at its place drops what is asked.
pub stays : {A : Type 0} (b : Book A) (w v : Whole) (k : ℕ) → IsBook b w.machine (log_of b w.machine)
    → b.units - k ≡ b.units → v ≡ record w { asking = None }
    → HasGone b v (gone_back (record { whole = w; log = log_of b w.machine }) k)
stays b w v k book same drops =
    let log = log_of b w.machine in
    let one = cost-positive v.machine in
    let here : IsBook b v.machine log = subst (λ (x : Whole). IsBook b x.machine log) (sym drops) book in
    let spot = present b v v log here refl (ap (λ (x : Whole). x.asking) drops) in
    goes b b w (record { machine = v; units = b.units; index = b.index }) k book spot.0 (omega (arith, same))
    (omega (arith, same, one)) refl refl refl refl refl refl

-- what follows where the record goes on
follows-by : {A : Type 0} (notes : List (Note A)) (units : ℕ) (m : FlatMachine) (i : ℕ) (after : List FlatMachine)
    (end : ℕ) → IsOn notes units m i after end → (units ≡ end → ⊥) → IsFit m (taken_from notes i units)
follows-by notes units m i [] end on other = absurd (other on)
follows-by notes units m i (n ∷ ns) end on other = on.1

pub follows : {A : Type 0} (b : Book A) (m : FlatMachine) (log : Log) → IsBook b m log → (b.units ≡ b.end → ⊥)
    → IsFit m (taken_from b.notes.items b.index b.units)
follows b m log book other = follows-by b.notes.items b.units m b.index log.after b.end book.on other

fits-by : {A : Type 0} (notes : List (Note A)) (units : ℕ) (m : FlatMachine) (i : ℕ) (after : List FlatMachine)
    (end : ℕ) → IsOn notes units m i after end → (units ≡ end → ⊥) → units + cost_of m ≤ end
fits-by notes units m i [] end on other = absurd (other on)
fits-by notes units m i (n ∷ ns) end on other =
    let long = on-long notes (units + cost_of m) n (index_after i (taken_from notes i units)) ns end on.2 in
    omega (arith, long)

pub before-end : {A : Type 0} (b : Book A) (m : FlatMachine) (log : Log) → IsBook b m log → (b.units ≡ b.end → ⊥)
    → b.units + cost_of m ≤ b.end
before-end b m log book other = fits-by b.notes.items b.units m b.index log.after b.end book.on other

-- at the end nothing follows
none-follows : {A : Type 0} (notes : List (Note A)) (units : ℕ) (m : FlatMachine) (i : ℕ) (after : List FlatMachine)
    (end : ℕ) → IsOn notes units m i after end → units ≡ end → after ≡ []
none-follows notes units m i [] end on same = refl
none-follows notes units m i (n ∷ ns) end on same = let long = on-long notes units m i (n ∷ ns) end on in
    absurd (omega (arith, long, same))

pub at-end : {A : Type 0} (b : Book A) (m : FlatMachine) (log : Log) → IsBook b m log → b.units ≡ b.end → log.after ≡ []
at-end b m log book same = none-follows b.notes.items b.units m b.index log.after b.end book.on same

-- the next event
again-by : {A : Type 0} (b c : Book A) (w : Whole) (before after : List FlatMachine) (s : Spot A)
    → IsBook b w.machine (record { before = before; after = after }) → (b.units ≡ b.end → ⊥)
    → IsMade (taken_from b.notes.items b.index b.units) (record { machine = w; units = b.units; index = b.index }) s
    → c.opening ≡ b.opening → c.notes.items ≡ b.notes.items → c.checkpoints.items ≡ b.checkpoints.items
    → c.end ≡ b.end → c.units ≡ s.units → c.index ≡ s.index
    → HasGone c s.machine (gone_on_to (record { whole = w; log = record { before = before; after = after } }) after)
    × (0 < length after)
again-by b c w before [] s book other made opening notes checkpoints end units index = absurd (other book.on)
again-by {A} b c w before (n ∷ ns) s book other made opening notes checkpoints end units index =
    let here = book.units_is in
    let sum = made.units_is in
    let cons = units-cons w.machine before in
    let is : n ≡ s.machine.machine = sym book.on.0 ∙ made.machine in
    let log : Log = record { before = w.machine ∷ before; after = ns } in
    let path = extended b.notes.items b.opening.machine before w.machine b.index
    (taken_from b.notes.items b.index b.units) s.machine.machine s.index book.path
    (ap (λ (u : ℕ). taken_from b.notes.items b.index u) here) made.machine made.index book.on.1 in
    let on : IsOn b.notes.items (b.units + cost_of w.machine) s.machine.machine s.index ns b.end =
    subst (λ (x : ℕ). IsOn b.notes.items (b.units + cost_of w.machine) s.machine.machine x ns b.end) made.index
    (subst (λ (x : FlatMachine). IsOn b.notes.items (b.units + cost_of w.machine) x
    (index_after b.index (taken_from b.notes.items b.index b.units)) ns b.end) is book.on.2) in
    let onto : IsOn b.notes.items c.units s.machine.machine c.index ns b.end =
    subst (λ (x : ℕ). IsOn b.notes.items c.units s.machine.machine x ns b.end) (sym index)
    (subst (λ (u : ℕ). IsOn b.notes.items u s.machine.machine s.index ns b.end) (sym sum ∙ sym units) on) in
    let new = moved b c w.machine s.machine.machine (record { before = before; after = n ∷ ns }) log book opening
    notes checkpoints end
    (subst (λ (x : ℕ). IsPath b.notes.items b.opening.machine (w.machine ∷ before) s.machine.machine x)
    (sym index) path) (omega (arith, here, sum, cons, units)) onto in (
      subst (HasGone c s.machine) (ap (λ (x : FlatMachine). tape_at (w.machine ∷ before) x ns) (sym is))
          (gone c s.machine log made.asks new),
      omega arith,
    )

pub again-is : {A : Type 0} (b c : Book A) (w : Whole) (s : Spot A) → IsBook b w.machine (log_of b w.machine)
    → (b.units ≡ b.end → ⊥)
    → IsMade (taken_from b.notes.items b.index b.units) (record { machine = w; units = b.units; index = b.index }) s
    → c.opening ≡ b.opening → c.notes.items ≡ b.notes.items → c.checkpoints.items ≡ b.checkpoints.items
    → c.end ≡ b.end → c.units ≡ s.units → c.index ≡ s.index
    → HasGone c s.machine (gone_on (record { whole = w; log = log_of b w.machine }))
    × (0 < length (log_of b w.machine).after)
again-is b c w s book other made opening notes checkpoints end units index =
    again-by b c w (log_of b w.machine).before (log_of b w.machine).after s book other made opening notes checkpoints
    end units index
