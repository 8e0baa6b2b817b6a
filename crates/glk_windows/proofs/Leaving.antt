-- What goes where a window is closed.
use Rattle.std.proofs.Common.{◌≡◌, ◌<◌, ◌≤◌, ◌+◌, ◌==◌, ◌||◌, ◌&&◌, not, ℕ, suc, Bool, true, false, if◌then◌else◌, Option}
use Rattle.std.proofs.Common.{Some, None, unwrap_or, List, [], ◌∷◌, length, map, inl, inr, refl, sym, ap, ◌∙◌}
use Rattle.std.proofs.Common.{arith, Result, Ok, Err, OnErr}
use Rattle.std.specs.List.{filter}
use Rattle.std.specs.Option.{option_map, option_or}
use Rattle.std.proofs.lemmas.Bool.Decides.{nat_tests}
use Rattle.std.proofs.lemmas.List.{length-map}
use Rattle.glk_objects.specs.Objects as objects
use Rattle.glk_objects.proofs.Found as found
use Rattle.glk_windows.specs.declared.entries.Entry.{Entry}
use Rattle.glk_windows.specs.Tree.{Shape, One, Two, shape_id, ids_in, is_among, part_from, closed_in, unkeyed}
use Rattle.glk_windows.specs.Windows.{entry_id, no_entry}
use Rattle.glk_windows.specs.Changes.{leaving, forgetting, chosen, left_of, closed_tree}
use Rattle.glk_windows.specs.Laws.{ArePlaced}
use Rattle.glk_windows.proofs.Tiling.{there_or_not, among_append}
use Rattle.glk_windows.proofs.Placing.{forgetting_id, part_absent, closed_below}

-- ---- echo streams are forgotten before windows go

module _ (f : Entry → Entry) (same : (e : Entry) → entry_id (f e) ≡ entry_id e) (ids : List ℕ) where
  chosen_changed : (es : List Entry) → map entry_id (chosen ids (map f es)) ≡ map entry_id (chosen ids es)
  chosen_changed [] = refl
  chosen_changed (e ∷ es) = let more = chosen_changed es in elim (there_or_not (is_among ids e.id)) [
    | inl is ↦ let goes : is_among ids (f e).id ≡ true = rw (same e) is in
        rw (goes, is, same e) (ap (λ (xs : List ℕ). e.id ∷ xs) more)
    | inr other ↦ let stays : is_among ids (f e).id ≡ false = rw (same e) other in rw (stays, other) more
  ]

  left_changed : (es : List Entry) → filter (λ e. not (is_among ids e.id)) (map f es)
      ≡ map f (filter (λ e. not (is_among ids e.id)) es)
  left_changed [] = refl
  left_changed (e ∷ es) = let more = left_changed es in elim (there_or_not (is_among ids e.id)) [
    | inl is ↦ let goes : is_among ids (f e).id ≡ true = rw (same e) is in rw (goes, is) more
    | inr other ↦ let stays : is_among ids (f e).id ≡ false = rw (same e) other in
        rw (stays, other) (ap (λ (xs : List Entry). f e ∷ xs) more)
  ]

pub chosen_forgotten : (streams ids : List ℕ) (es : List Entry)
    → map entry_id (chosen ids (map (forgetting streams) es)) ≡ map entry_id (chosen ids es)
chosen_forgotten streams ids es = chosen_changed (forgetting streams) (forgetting_id streams) ids es

pub left_forgotten : (streams ids : List ℕ) (es : List Entry)
    → filter (λ e. not (is_among ids e.id)) (map (forgetting streams) es)
    ≡ map (forgetting streams) (filter (λ e. not (is_among ids e.id)) es)
left_forgotten streams ids es = left_changed (forgetting streams) (forgetting_id streams) ids es

-- ---- keys become none where their windows go

same_keys : (us vs : List ℕ) (t : Shape) → ((id : ℕ) → is_among us id ≡ is_among vs id) → unkeyed us t ≡ unkeyed vs t
same_keys us vs (One id) same = refl
same_keys us vs (Two a first second) same =
    rw (same a.key, same_keys us vs first same, same_keys us vs second same) refl

among_ids : (es : List Entry) (id : ℕ) → is_among (map entry_id es) id ≡ objects.has entry_id es id
among_ids [] id = refl
among_ids (e ∷ es) id = ap (λ (b : Bool). e.id == id || b) (among_ids es id)

both_or_one : (goes there : Bool) → (goes ≡ true → there ≡ true) → (goes && there) ≡ goes
both_or_one true there is = rw (is refl) refl
both_or_one false there is = refl

-- all that go from below the root are windows that are there
pub closes_same : (es : List Entry) (tree : Option Shape) (win : ℕ) → objects.has entry_id es win ≡ true
    → ArePlaced es tree
    → closed_tree (map entry_id (chosen (leaving tree win) es)) tree win ≡ closed_tree (leaving tree win) tree win
closes_same es None win there placed = refl
closes_same es (Some t) win there placed = let ids = leaving (Some t) win in
    elim (there_or_not (shape_id t == win)) [
      | inl top ↦ rw top refl
      | inr below ↦ let closed = closed_below t win placed.once (placed.same win ∙ there) below in
          let same : (id : ℕ) → is_among (map entry_id (chosen ids es)) id ≡ is_among ids id =
          λ id. among_ids (chosen ids es) id
          ∙ found.has_chosen entry_id no_entry (λ (other : ℕ). is_among ids other) es id
          ∙ both_or_one (is_among ids id) (objects.has entry_id es id)
          (λ goes. sym (placed.same id) ∙ closed.within id goes) in
          rw below (ap (λ (s : Shape). Some s)
          (same_keys (map entry_id (chosen ids es)) ids (closed_in t win) same))
    ]

-- ---- there are fewer windows then

in_first : (first second : Option Shape) (win : ℕ)
    → is_among (unwrap_or (option_map ids_in first) []) win ≡ true
    → is_among (unwrap_or (option_map ids_in (option_or first second)) []) win ≡ true
in_first None second win there = absurd (cc)
in_first (Some t) second win there = there

part_has : (t : Shape) (win : ℕ) → is_among (ids_in t) win ≡ true
    → is_among (unwrap_or (option_map ids_in (part_from t win)) []) win ≡ true
part_has (One id) win there = let here : (id == win) ≡ true = grind (arith, there) in rw here there
part_has (Two a first second) win there = elim (there_or_not (a.id == win)) [
  | inl top ↦ rw top there
  | inr below ↦ elim (there_or_not (is_among (ids_in first) win)) [
    | inl is ↦ rw below (in_first (part_from first win) (part_from second win) win (part_has first win is))
    | inr other ↦
        let is : is_among (ids_in second) win ≡ true =
        grind (arith, there, among_append (ids_in first) (ids_in second) win, below, other) in
        rw (below, part_absent first win other) (part_has second win is)
  ]
]

goes_itself : (es : List Entry) (tree : Option Shape) (win : ℕ) → objects.has entry_id es win ≡ true
    → ArePlaced es tree → is_among (leaving tree win) win ≡ true
goes_itself es None win there placed =
    absurd (let gone : objects.has entry_id es win ≡ false = sym (placed.same win) in let e = sym gone ∙ there in cc)
goes_itself es (Some t) win there placed =
    let part = part_has t win (placed.same win ∙ there) in grind (arith, part)

fewer : (p : Entry → Bool) (es : List Entry) → length (filter p es) ≤ length es
fewer p [] = omega arith
fewer p (e ∷ es) = let more = fewer p es in elim (there_or_not (p e)) [
  | inl is ↦ rw is (omega (arith, more))
  | inr other ↦ rw other (omega (arith, more))
]

one_less : (ids : List ℕ) (es : List Entry) (win : ℕ) → is_among ids win ≡ true → objects.has entry_id es win ≡ true
    → length (filter (λ e. not (is_among ids e.id)) es) < length es
one_less ids [] win goes there = absurd (cc)
one_less ids (e ∷ es) win goes there = elim (there_or_not (is_among ids e.id)) [
  | inl is ↦ let more = fewer (λ e. not (is_among ids e.id)) es in rw is (omega (arith, more))
  | inr other ↦
      let apart : (e.id == win) ≡ false = elim (there_or_not (e.id == win)) [
        | inl same ↦ absurd (let is : e.id ≡ win = grind (arith, nat_tests, same) in let gone = rw is at other in cc)
        | inr apart ↦ apart
      ] in
      let more = one_less ids es win goes (grind (arith, there, apart)) in
      rw other (omega (arith, more))
]

-- a list less is enough for them
pub still_enough : (es fs : List Entry) (tree : Option Shape) (win before after : ℕ)
    → objects.has entry_id es win ≡ true → ArePlaced es tree → fs ≡ left_of es (leaving tree win)
    → length es ≤ before → after + 1 ≡ before → length fs ≤ after
still_enough es fs tree win before after there placed is enough less = let ids = leaving tree win in
    let fewer = one_less ids es win (goes_itself es tree win there placed) there in
    rw (is, length-map) (omega (arith, fewer, enough, less))

-- ---- the number of windows stays

pub length_with : (es : List Entry) (new : Entry) → length (objects.with entry_id es new) ≡ length es
unfolding objects.with
length_with [] new = refl
length_with (e ∷ es) new =
    elim (e.id == new.id) as (λ b. length (if b then new ∷ es else e ∷ objects.with entry_id es new) ≡ suc (length es)) [
      | true ↦ refl
      | false ↦ ap suc (length_with es new)
    ]

-- what holds anyway holds where memory was refused
pub on_err : {A E P : Type 0} (r : Result A E) → P → OnErr r P
on_err (Ok x) p = tt
on_err (Err e) p = p
