-- What a book records stays recorded where it is cut, or gets one event more.
use Rattle.std.proofs.Common.{◌≡◌, ◌+◌, ◌-◌, ◌<◌, ◌≤◌, ℕ, zero, suc, List, [], ◌∷◌, ◌++◌, length, take, Option, Some}
use Rattle.std.proofs.Common.{None, refl, ap, subst, sym, ◌∙◌, arith, length-take, length-append}
use Rattle.std.specs.List.{All, slice_index_or}
use Rattle.std.proofs.lemmas.List.{get_or-take}
use Rattle.std.proofs.lemmas.List.Elements.{All-take}
use Rattle.std.proofs.lemmas.Option.{slice_get_past}
use Rattle.gx_machine.specs.Advancing.{Passes}
use Rattle.gx_machine.specs.Log.{Log, units_of}
use Rattle.gx_machine.specs.Machine.{FlatMachine, Whole}
use Rattle.gx_machine.specs.Step.{cost_of}
use Rattle.gx_machine.proofs.Costs.{cost-positive}
use Rattle.gx_rewind.specs.declared.books.Book.{Book}
use Rattle.gx_rewind.specs.declared.books.Note.{Note}
use Rattle.gx_rewind.specs.declared.books.Spot.{Spot}
use Rattle.gx_rewind.specs.declared.books.Taken.{Taken}
use Rattle.gx_rewind.specs.Path.{RunPlace, begun, machine_after_event, taken_at, taken_from, last_place_within, IsFit}
use Rattle.gx_rewind.specs.Path.{IsPath}
use Rattle.gx_rewind.specs.Views.{log_of, IsBook, IsCheckpoint}
use Rattle.gx_rewind.proofs.Lists.{taken-last}
use Rattle.gx_rewind.proofs.Passing.{passes-on, none-passed}
use Rattle.gx_rewind.proofs.Paths.{units-cons, walk-is, rising, extended, bounded, cut-path, push-path, on-long}
use Rattle.gx_rewind.proofs.Paths.{onward-is}

-- the record is found again
pub logged : {A : Type 0} (b : Book A) (m : FlatMachine) (log : Log) → IsBook b m log → log_of b m ≡ log
logged b m log book =
    let one = cost-positive m in
    let units = book.units_is in
    let long = on-long b.notes.items b.units m b.index log.after b.end book.on in
    let before : last_place_within b.notes.items b.units b.units (begun b.opening.machine)
    ≡ record { before = log.before; machine = m; index = b.index } =
    walk-is b.notes.items b.opening.machine b.units b.units log.before m b.index book.path (omega (arith, units))
    (omega (arith, units, one)) (omega arith) in
    ap (λ (p : RunPlace). record { before = p.before; after = (log_of b m).after }) before
    ∙ ap (λ (ms : List FlatMachine). record { before = log.before; after = ms })
    (onward-is b.notes.items b.end b.units m b.index log.after b.end book.on (omega (arith, long)))

pub booked : {A : Type 0} (b : Book A) (m : FlatMachine) (log : Log) → IsBook b m log → IsBook b m (log_of b m)
booked b m log book = subst (IsBook b m) (sym (logged b m log book)) book

-- each of them, by what holds of each
all-by : {X : Type 0} (P Q R : X → Type 0) → ((x : X) → P x → Q x → R x) → (xs : List X) → All P xs → All Q xs
    → All R xs
all-by P Q R f xs ps qs k d less = f (slice_index_or xs k d) (ps k d less) (qs k d less)

-- a checkpoint before a place stays one where what followed is cut off
cut-place : {A : Type 0} (b : Book A) (m : FlatMachine) (log : Log) → IsBook b m log → (s : Spot A)
    → IsCheckpoint b.notes.items b.opening b.end s → s.units ≤ b.units
    → IsCheckpoint (take b.index b.notes.items) b.opening b.units s
cut-place b m log book s held within =
    let units = book.units_is in
    let here = held.0.units_is in
    let less = rising b.notes.items b.opening.machine held.0.before s.machine.machine s.index log.before m b.index
    held.0.path book.path (omega (arith, units, here, within)) in (
      record {
        before = held.0.before;
        path = cut-path b.notes.items b.opening.machine b.index held.0.before s.machine.machine s.index held.0.path
            less;
        units_is = held.0.units_is;
        asks = held.0.asks;
      },
      within,
    )

pub cut-book : {A : Type 0} (b c : Book A) (k : ℕ) (m : FlatMachine) (log : Log) → IsBook b m log
    → All (λ (s : Spot A). s.units ≤ b.units) (take k b.checkpoints.items)
    → c.opening ≡ b.opening → c.notes.items ≡ take b.index b.notes.items
    → c.checkpoints.items ≡ take k b.checkpoints.items → c.index ≡ b.index → c.units ≡ b.units → c.end ≡ b.units
    → IsBook c m (record { before = log.before; after = [] })
cut-book {A} b c k m log book near opening notes checkpoints index units end = record {
  path = rw (notes, opening, index) (cut-path b.notes.items b.opening.machine b.index log.before m b.index book.path
      (omega arith));
  units_is = book.units_is ∙ sym units;
  on = units ∙ sym end;
  checkpoints = rw (notes, opening, end, checkpoints)
      (all-by (IsCheckpoint b.notes.items b.opening b.end) (λ (s : Spot A). s.units ≤ b.units)
      (IsCheckpoint (take b.index b.notes.items) b.opening b.units) (cut-place b m log book) (take k b.checkpoints.items)
      (All-take (IsCheckpoint b.notes.items b.opening b.end) k b.checkpoints.items book.checkpoints) near);
  opening = rw opening book.opening;
}

-- A book that is cut: what followed its place is cut off.
pub record IsCut {A : Type 0} (b : Book A) (m : FlatMachine) (before : List FlatMachine) : Type 0 where
  pub book : IsBook b m (record { before = before; after = [] })
  pub full : b.index ≡ length b.notes.items

pub is-cut : {A : Type 0} (b c : Book A) (m : FlatMachine) (log : Log) → IsBook b m log
    → c.notes.items ≡ take b.index b.notes.items → c.index ≡ b.index
    → IsBook c m (record { before = log.before; after = [] }) → IsCut c m log.before
is-cut b c m log book notes index cut = record {
  book = cut;
  full =
      let most = bounded b.notes.items b.opening.machine log.before m b.index book.path in
      let long = length-take b.index b.notes.items in
      index ∙ (let e : b.index ≡ length (take b.index b.notes.items) = omega (arith, most, long) in e)
      ∙ ap length (sym notes);
}

free-past : {A : Type 0} (notes : List (Note A)) (i u : ℕ) → i ≡ length notes → taken_from notes i u ≡ None
free-past notes i u full = ap (taken_at u) (slice_get_past notes i (omega (arith, full)))

same-path : {A : Type 0} (notes notes' : List (Note A)) (opening opening' : Whole) (before : List FlatMachine)
    (m : FlatMachine) (i i' : ℕ) → notes' ≡ notes → opening' ≡ opening → i' ≡ i
    → IsPath notes opening.machine before m i → IsPath notes' opening'.machine before m i'
same-path {A} notes notes' opening opening' before m i i' e f g path =
    subst (λ (x : List (Note A)). IsPath x opening'.machine before m i') (sym e)
    (subst (λ (x : Whole). IsPath notes x.machine before m i') (sym f)
    (subst (λ (x : ℕ). IsPath notes opening.machine before m x) (sym g) path))

-- checkpoints stay where more units follow
held-on : {A : Type 0} (notes : List (Note A)) (opening : Whole) (end end' : ℕ) → end ≤ end' → (xs : List (Spot A))
    → All (IsCheckpoint notes opening end) xs → All (IsCheckpoint notes opening end') xs
held-on notes opening end end' less xs all k d within = let one = all k d within in let fits = one.1 in
    (one.0, omega (arith, fits, less))

-- an event that took nothing
pub went-book : {A : Type 0} (c d : Book A) (k : ℕ) (m : FlatMachine) (before : List FlatMachine) → IsCut c m before
    → k ≡ cost_of m → IsFit {A = A} m None
    → d.opening ≡ c.opening → d.notes.items ≡ c.notes.items → d.checkpoints.items ≡ c.checkpoints.items
    → d.index ≡ c.index → d.units ≡ c.units + k → d.end ≡ d.units
    → IsBook d (machine_after_event {A = A} m None) (record { before = m ∷ before; after = [] })
went-book {A} c d k m before cut cost fit opening notes checkpoints index units end =
    let book = cut.book in
    let sum = units-cons m before in
    let here = book.units_is in
    let whole = book.on in
    record {
      path = same-path c.notes.items d.notes.items c.opening d.opening (m ∷ before)
          (machine_after_event {A = A} m None) c.index d.index notes opening index
          (extended c.notes.items c.opening.machine before m c.index None (machine_after_event {A = A} m None) c.index
          book.path (free-past c.notes.items c.index (units_of before) cut.full) refl refl fit);
      units_is = omega (arith, sum, here, units, cost);
      on = sym end;
      checkpoints = rw (notes, opening, checkpoints)
          (held-on c.notes.items c.opening c.end d.end
          (omega (arith, whole, units, end)) c.checkpoints.items book.checkpoints);
      opening = rw opening book.opening;
    }

push-held : {A : Type 0} (notes : List (Note A)) (opening : Whole) (end end' : ℕ) (n : Note A) → end ≤ n.units
    → end ≤ end' → (xs : List (Spot A))
    → All (IsCheckpoint notes opening end) xs → All (IsCheckpoint (notes ++ n ∷ []) opening end') xs
push-held notes opening end end' n later less xs all k d within =
    let one = all k d within in
    let s = slice_index_or xs k d in
    let fits = one.1 in
    let here = one.0.units_is in (
      record {
        before = one.0.before;
        path = push-path notes opening.machine n one.0.before s.machine.machine s.index one.0.path
            (omega (arith, here, fits, later));
        units_is = one.0.units_is;
        asks = one.0.asks;
      },
      omega (arith, fits, less),
    )

-- an event that took something
pub noted-book : {A : Type 0} (c d : Book A) (k : ℕ) (t : Taken A) (m : FlatMachine) (before : List FlatMachine)
    → IsCut c m before → k ≡ cost_of m → IsFit m (Some t)
    → d.opening ≡ c.opening → d.notes.items ≡ c.notes.items ++ record { units = c.units; taken = t } ∷ []
    → d.checkpoints.items ≡ c.checkpoints.items → d.index ≡ c.index + 1 → d.units ≡ c.units + k → d.end ≡ d.units
    → IsBook d (machine_after_event m (Some t)) (record { before = m ∷ before; after = [] })
noted-book {A} c d k t m before cut cost fit opening notes checkpoints index units end =
    let book = cut.book in
    let n : Note A = record { units = c.units; taken = t } in
    let sum = units-cons m before in
    let here = book.units_is in
    let whole = book.on in
    let own : taken_from (c.notes.items ++ n ∷ []) c.index (units_of before) ≡ Some t =
    ap (λ (i : ℕ). taken_from (c.notes.items ++ n ∷ []) i (units_of before)) cut.full
    ∙ ap (λ (u : ℕ). taken_from (c.notes.items ++ n ∷ []) (length c.notes.items) u) here
    ∙ taken-last c.notes.items n in
    record {
      path = same-path (c.notes.items ++ n ∷ []) d.notes.items c.opening d.opening (m ∷ before)
          (machine_after_event m (Some t)) (c.index + 1) d.index notes opening index
          (extended (c.notes.items ++ n ∷ []) c.opening.machine before m c.index (Some t)
          (machine_after_event m (Some t)) (c.index + 1)
          (push-path c.notes.items c.opening.machine n before m c.index book.path (omega (arith, here))) own refl refl
          fit);
      units_is = omega (arith, sum, here, units, cost);
      on = sym end;
      checkpoints = rw (notes, opening, checkpoints)
          (push-held c.notes.items c.opening c.end d.end n (omega (arith, whole))
          (omega (arith, whole, units, end)) c.checkpoints.items book.checkpoints);
      opening = rw opening book.opening;
    }

-- events that took nothing
pub passed-book : {A : Type 0} (c d : Book A) (word n start budget : ℕ) (old new : Whole) (log : Log) (x : Option Log)
    → IsCut c old.machine log.before
    → Passes word n (old, start) None (new, budget) x → (start - budget ≡ 0 → ⊥)
    → d.opening ≡ c.opening → d.notes.items ≡ c.notes.items → d.checkpoints.items ≡ c.checkpoints.items
    → d.index ≡ c.index → d.units ≡ c.units + (start - budget) → d.end ≡ d.units
    → (last : Log) × Passes word n (old, start) (Some log) (new, budget) (Some last) × IsBook d new.machine last
passed-book c d word zero start budget old new log x cut p some opening notes checkpoints index units end =
    let same : start ≡ budget = ap (λ (q : Whole × ℕ). q.1) p.0 in absurd (some (omega (arith, same)))
passed-book c d word (suc n) start budget old new log x cut p some opening notes checkpoints index units end =
    let book = cut.book in
    let all = passes-on c.notes.items c.opening.machine word (suc n) old new start budget log.before log.after c.index
    x p book.path (λ u low high. free-past c.notes.items c.index u cut.full) in
    let here = book.units_is in
    let whole = book.on in
    let sum = all.units_is in (
      record { before = all.last; after = [] },
      all.passes,
      record {
        path = rw (notes, opening, index) all.path;
        units_is = omega (arith, sum, here, units);
        on = sym end;
        checkpoints = rw (notes, opening, checkpoints)
            (held-on c.notes.items c.opening c.end d.end
            (omega (arith, whole, units, end)) c.checkpoints.items book.checkpoints);
        opening = rw opening book.opening;
      },
    )

pub none-book : {A : Type 0} (b : Book A) (word n start budget : ℕ) (old new : Whole) (log : Log) (x : Option Log)
    → IsBook b old.machine log
    → Passes word n (old, start) None (new, budget) x → start - budget ≡ 0
    → (last : Log) × Passes word n (old, start) (Some log) (new, budget) (Some last) × IsBook b new.machine last
none-book b word zero start budget old new log x book p none =
    (log, (p.0, refl), subst (λ (q : Whole × ℕ). IsBook b q.0.machine log) p.0 book)
none-book b word (suc n) start budget old new log x book p none =
    let zero-is = none-passed word (suc n) old new start budget None x p none in absurd (omega (arith, zero-is))

-- a book that differs only in its checkpoints
pub like-book : {A : Type 0} (b c : Book A) (m : FlatMachine) (log : Log) → IsBook b m log → c.opening ≡ b.opening
    → c.notes.items ≡ b.notes.items → c.index ≡ b.index → c.units ≡ b.units → c.end ≡ b.end
    → All (IsCheckpoint b.notes.items b.opening b.end) c.checkpoints.items → IsBook c m log
like-book b c m log book opening notes index units end held = record {
  path = rw (notes, opening, index) book.path;
  units_is = book.units_is ∙ sym units;
  on = rw (notes, units, index, end) book.on;
  checkpoints = rw (notes, opening, end) held;
  opening = rw opening book.opening;
}

-- the present place is one of the run
pub present : {A : Type 0} (b : Book A) (m w : Whole) (log : Log) → IsBook b m.machine log → w ≡ m → m.asking ≡ None
    → IsCheckpoint b.notes.items b.opening b.end (record { machine = w; units = b.units; index = b.index })
present b m w log book same asks =
    let long = on-long b.notes.items b.units m.machine b.index log.after b.end book.on in (
      record {
        before = log.before;
        path = subst (λ (x : Whole). IsPath b.notes.items b.opening.machine log.before x.machine b.index)
            (sym same) book.path;
        units_is = book.units_is;
        asks = ap (λ (x : Whole). x.asking) same ∙ asks;
      },
      omega (arith, long),
    )

-- the checkpoints before a place, by their number
pub near-by : {A : Type 0} (xs : List (Spot A)) (n units : ℕ) → n ≤ length xs
    → ((k : ℕ) (d : Spot A) → k < n → (slice_index_or xs k d).units ≤ units)
    → All (λ (s : Spot A). s.units ≤ units) (take n xs)
near-by xs n units within near k d less =
    let long = length-take n xs in
    let short : k < n = omega (arith, less, long, within) in
    let one = near k d short in
    rw (get_or-take n xs k d short) one

pub one-held : {X : Type 0} (P : X → Type 0) (x : X) → P x → All P (x ∷ [])
one-held P x p zero d within = p
one-held P x p (suc k) d within = absurd (omega (arith, within))

pub next-index : {X : Type 0} (xs ys : List X) (x : X) (i : ℕ) → ys ≡ xs ++ x ∷ [] → i ≡ length xs → length ys ≡ i + 1
next-index xs ys x i is full = ap length is
    ∙ (let long = length-append xs (x ∷ []) in let e : length (xs ++ x ∷ []) ≡ i + 1 = omega (arith, long, full) in e)
