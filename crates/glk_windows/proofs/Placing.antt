-- Each window keeps one place in the tree.
use Rattle.std.proofs.Common.{◌≡◌, ◌+◌, ◌≤◌, ◌==◌, ◌||◌, ◌&&◌, not, ℕ, Bool, true, false, if◌then◌else◌}
use Rattle.std.proofs.Common.{Option, Some, None, unwrap_or, List, [], ◌∷◌, ◌++◌, map, ◌⊎◌, inl, inr, refl, sym, ap}
use Rattle.std.proofs.Common.{◌∙◌, ◌%◌, arith}
use Rattle.std.proofs.Common.{Result, Ok, Err, OnErr}
use Rattle.std.specs.List.{filter}
use Rattle.std.specs.Option.{option_map, option_or}
use Rattle.std.proofs.lemmas.Bool.Decides.{nat_tests}
use Rattle.glk_objects.specs.Objects as objects
use Rattle.glk_objects.specs.Objects.{IsAboveAll}
use Rattle.glk_objects.proofs.Found as found
use Rattle.glk_objects.proofs.Places.{id_at}
use Rattle.glk_windows.specs.declared.tree.Arrangement.{Arrangement}
use Rattle.glk_windows.specs.declared.entries.Entry.{Entry}
use Rattle.glk_windows.specs.Constants.{pair_window, blank_window}
use Rattle.glk_windows.specs.Methods.{direction}
use Rattle.glk_windows.specs.Tree.{Shape, One, Two, shape_id, ids_in, is_among, part_from, parent_in, split_in}
use Rattle.glk_windows.specs.Tree.{closed_in, unkeyed, rearranged, arranged_in}
use Rattle.glk_windows.specs.Windows.{FlatWindows, entry_id, no_entry, window_entry, is_openable}
use Rattle.glk_windows.specs.Changes.{new_entry, leaving, forgetting, left_of, closed_tree}
use Rattle.glk_windows.specs.Changes.{chosen}
use Rattle.glk_windows.specs.Laws.{AreDistinct, ids_of, is_pair, HaveTypes, ArePlaced, AreWhole, Tile}
use Rattle.glk_windows.proofs.Tiling.{there_or_not, among_append, AreApart, apart_of, leaves_fill}

-- ---- two parts of a tree

both : (xs ys : List ℕ) → AreApart xs ys → AreDistinct (xs ++ ys)
both [] ys parts = parts.second
both (x ∷ xs) ys parts =
    let own = parts.first.0 in
    let other = parts.apart x (grind (arith, nat_tests)) in (
      grind (arith, among_append xs ys x, own, other),
      both xs ys (record {
        first = parts.first.1;
        second = parts.second;
        apart = λ id there. parts.apart id (grind (arith, there));
      }),
    )

-- fewer identifiers in place of others that were apart
fewer : (xs ys us vs : List ℕ) → AreApart xs ys → AreDistinct us → AreDistinct vs
    → ((id : ℕ) → is_among us id ≡ true → is_among xs id ≡ true)
    → ((id : ℕ) → is_among vs id ≡ true → is_among ys id ≡ true) → AreApart us vs
fewer xs ys us vs parts first second in_first in_second = record {
  first = first;
  second = second;
  apart = λ id there. elim (there_or_not (is_among vs id)) [
    | inl also ↦ absurd (let e = parts.apart id (in_first id there) in let f = in_second id also in cc)
    | inr gone ↦ gone
  ];
}

swapped : (xs ys : List ℕ) → AreApart xs ys → AreApart ys xs
swapped xs ys parts = record {
  first = parts.second;
  second = parts.first;
  apart = λ id there. elim (there_or_not (is_among xs id)) [
    | inl also ↦ absurd (let e = parts.apart id also in cc)
    | inr gone ↦ gone
  ];
}

-- ---- the same windows, in another order

record AreSame (before after : List ℕ) : Type 0 where
  pub once : AreDistinct after
  pub same : (id : ℕ) → is_among after id ≡ is_among before id

among_both : (xs ys us vs : List ℕ) (id : ℕ) → is_among us id ≡ is_among xs id → is_among vs id ≡ is_among ys id
    → is_among (us ++ vs) id ≡ is_among (xs ++ ys) id
among_both xs ys us vs id first second = grind (arith, among_append xs ys id, among_append us vs id, first, second)

same_pair : (id : ℕ) (xs ys us vs : List ℕ) → AreDistinct (id ∷ (xs ++ ys)) → AreSame xs us → AreSame ys vs
    → AreSame (id ∷ (xs ++ ys)) (id ∷ (us ++ vs))
same_pair id xs ys us vs distinct first second = record {
  once = (
    among_both xs ys us vs id (first.same id) (second.same id) ∙ distinct.0,
    both us vs (fewer xs ys us vs (apart_of xs ys distinct.1) first.once second.once
        (λ win there. sym (first.same win) ∙ there) (λ win there. sym (second.same win) ∙ there)),
  );
  same = λ win. ap (λ (b : Bool). id == win || b) (among_both xs ys us vs win (first.same win) (second.same win));
}

among_swapped : (xs ys : List ℕ) (id : ℕ) → is_among (ys ++ xs) id ≡ is_among (xs ++ ys) id
among_swapped xs ys id = grind (arith, among_append xs ys id, among_append ys xs id)

same_swapped : (id : ℕ) (xs ys : List ℕ) → AreDistinct (id ∷ (xs ++ ys)) → AreSame (id ∷ (xs ++ ys)) (id ∷ (ys ++ xs))
same_swapped id xs ys distinct = record {
  once = (among_swapped xs ys id ∙ distinct.0, both ys xs (swapped xs ys (apart_of xs ys distinct.1)));
  same = λ win. ap (λ (b : Bool). id == win || b) (among_swapped xs ys win);
}

-- ---- a pair is arranged

module _ (win method size key : ℕ) (blank : Bool) where
  arranged_same : (t : Shape) → AreDistinct (ids_in t)
      → AreSame (ids_in t) (ids_in (arranged_in t win method size key blank))
  arranged_same (One id) distinct = record { once = distinct; same = λ x. refl }
  arranged_same (Two a first second) distinct =
      let xs = ids_in first in
      let ys = ids_in second in
      let new = rearranged a method size key blank in
      elim (a.id == win) as (λ b. AreSame (a.id ∷ (xs ++ ys)) (ids_in
      (if b then (if direction method == direction a.method then Two new first second else Two new second first)
      else Two a (arranged_in first win method size key blank) (arranged_in second win method size key blank)))) [
        | true ↦ elim (direction method == direction a.method) as
            (λ b. AreSame (a.id ∷ (xs ++ ys)) (ids_in (if b then Two new first second else Two new second first))) [
              | true ↦ record { once = distinct; same = λ x. refl }
              | false ↦ same_swapped a.id xs ys distinct
            ]
        | false ↦ let parts = apart_of xs ys distinct.1 in
            same_pair a.id xs ys (ids_in (arranged_in first win method size key blank))
            (ids_in (arranged_in second win method size key blank)) distinct (arranged_same first parts.first)
            (arranged_same second parts.second)
      ]

  arranged_types : (es : List Entry) (t : Shape) → HaveTypes es t
      → HaveTypes es (arranged_in t win method size key blank)
  arranged_types es (One id) types = types
  arranged_types es (Two a first second) types =
      let new = rearranged a method size key blank in
      elim (a.id == win) as (λ b. HaveTypes es
      (if b then (if direction method == direction a.method then Two new first second else Two new second first)
      else Two a (arranged_in first win method size key blank) (arranged_in second win method size key blank))) [
        | true ↦ elim (direction method == direction a.method) as
            (λ b. HaveTypes es (if b then Two new first second else Two new second first)) [
              | true ↦ types
              | false ↦ (types.0, (types.1.1, types.1.0))
            ]
        | false ↦ (types.0, (arranged_types es first types.1.0, arranged_types es second types.1.1))
      ]

  pub placed_arranged : (es : List Entry) (tree : Option Shape) → ArePlaced es tree
      → ArePlaced es (option_map (λ t. arranged_in t win method size key blank) tree)
  placed_arranged es None placed = placed
  placed_arranged es (Some t) placed = let sames = arranged_same t placed.once in record {
    once = sames.once;
    same = λ x. sames.same x ∙ placed.same x;
    types = arranged_types es t placed.types;
  }

-- ---- a window is split

pub split_absent : (t : Shape) (split : ℕ) (a : Arrangement) (new : ℕ) → is_among (ids_in t) split ≡ false
    → split_in t split a new ≡ t
split_absent (One id) split a new gone = let other : (id == split) ≡ false = grind (arith, gone) in rw other refl
split_absent (Two b first second) split a new gone =
    let parts = among_append (ids_in first) (ids_in second) split in
    let other : (b.id == split) ≡ false = grind (arith, gone, parts) in
    let not_first : is_among (ids_in first) split ≡ false = grind (arith, gone, parts) in
    let not_second : is_among (ids_in second) split ≡ false = grind (arith, gone, parts) in
    rw (other, split_absent first split a new not_first, split_absent second split a new not_second) refl

-- a window and its pair are new
record IsSplit (t after : Shape) (pair new : ℕ) : Type 0 where
  pub once : AreDistinct (ids_in after)
  pub same : (id : ℕ) → is_among (ids_in after) id ≡ (is_among (ids_in t) id || (pair == id || new == id))

put_above : (t : Shape) (a : Arrangement) (new : ℕ) → AreDistinct (ids_in t) → is_among (ids_in t) a.id ≡ false
    → is_among (ids_in t) new ≡ false → (new == a.id) ≡ false → IsSplit t (Two a t (One new)) a.id new
put_above t a new distinct no_pair no_new other = record {
  once = (
    grind (arith, among_append (ids_in t) (new ∷ []) a.id, no_pair, other),
    both (ids_in t) (new ∷ []) (record {
      first = distinct;
      second = (refl, tt);
      apart = λ id there. elim (there_or_not (new == id)) [
        | inl here ↦ let e : new ≡ id = grind (arith, nat_tests, here) in
            absurd (let f = rw e at no_new in cc)
        | inr not_here ↦ grind (arith, not_here)
      ];
    }),
  );
  same = λ id. grind (arith, among_append (ids_in t) (new ∷ []) id);
}

among_or : (ids more : List ℕ) (id : ℕ) → is_among ids id ≡ true → is_among (ids ++ more) id ≡ true
among_or ids more id there = grind (arith, among_append ids more id, there)

-- what stands in one part isn't in another one that has grown by two new ones
new_absent : (xs ys vs : List ℕ) (pair new own id : ℕ) → is_among (own ∷ (xs ++ ys)) pair ≡ false
    → is_among (own ∷ (xs ++ ys)) new ≡ false
    → is_among vs id ≡ (is_among ys id || (pair == id || new == id)) → is_among xs id ≡ true → is_among ys id ≡ false
    → is_among vs id ≡ false
new_absent xs ys vs pair new own id no_pair no_new same there gone =
    let not_pair : (pair == id) ≡ false = elim (there_or_not (pair == id)) [
      | inl is ↦ absurd (let here : pair ≡ id = grind (arith, nat_tests, is) in
          let lost = rw here at no_pair in grind (arith, lost, among_append xs ys id, there))
      | inr other ↦ other
    ] in
    let not_new : (new == id) ≡ false = elim (there_or_not (new == id)) [
      | inl is ↦ absurd (let here : new ≡ id = grind (arith, nat_tests, is) in
          let lost = rw here at no_new in grind (arith, lost, among_append xs ys id, there))
      | inr other ↦ other
    ] in
    same ∙ grind (arith, gone, not_pair, not_new)

split_first : (b : Arrangement) (first after second : Shape) (pair new : ℕ)
    → AreDistinct (ids_in (Two b first second)) → is_among (ids_in (Two b first second)) pair ≡ false
    → is_among (ids_in (Two b first second)) new ≡ false → IsSplit first after pair new
    → IsSplit (Two b first second) (Two b after second) pair new
split_first b first after second pair new distinct no_pair no_new split =
    let xs = ids_in first in
    let ys = ids_in second in
    let us = ids_in after in
    let parts = apart_of xs ys distinct.1 in
    let own = distinct.0 in
    let lost : (id : ℕ) → is_among (b.id ∷ (ys ++ xs)) id ≡ is_among (b.id ∷ (xs ++ ys)) id =
    λ id. ap (λ (c : Bool). b.id == id || c) (among_swapped xs ys id) in
    let apart : AreApart ys us = record {
      first = parts.second;
      second = split.once;
      apart = λ id there. new_absent ys xs us pair new b.id id (lost pair ∙ no_pair) (lost new ∙ no_new) (split.same id)
          there ((swapped xs ys parts).apart id there);
    } in
    record {
      once = (
        (let e = split.same b.id in
            grind (arith, nat_tests, among_append us ys b.id, among_append xs ys b.id, e, own, no_pair, no_new)),
        both us ys (swapped ys us apart),
      );
      same = λ id. grind (arith, among_append us ys id, among_append xs ys id, split.same id);
    }

split_second : (b : Arrangement) (first second after : Shape) (pair new : ℕ)
    → AreDistinct (ids_in (Two b first second)) → is_among (ids_in (Two b first second)) pair ≡ false
    → is_among (ids_in (Two b first second)) new ≡ false → IsSplit second after pair new
    → IsSplit (Two b first second) (Two b first after) pair new
split_second b first second after pair new distinct no_pair no_new split =
    let xs = ids_in first in
    let ys = ids_in second in
    let vs = ids_in after in
    let parts = apart_of xs ys distinct.1 in
    let own = distinct.0 in
    let apart : AreApart xs vs = record {
      first = parts.first;
      second = split.once;
      apart = λ id there. new_absent xs ys vs pair new b.id id no_pair no_new (split.same id) there
          (parts.apart id there);
    } in
    record {
      once = (
        (let e = split.same b.id in
            grind (arith, nat_tests, among_append xs vs b.id, among_append xs ys b.id, e, own, no_pair, no_new)),
        both xs vs apart,
      );
      same = λ id. grind (arith, among_append xs vs id, among_append xs ys id, split.same id);
    }

-- a window that holds another one
in_first_or_second : (b : Arrangement) (first second : Shape) (win : ℕ)
    → is_among (ids_in (Two b first second)) win ≡ true → (b.id == win) ≡ false
    → (is_among (ids_in first) win ≡ true) ⊎ (is_among (ids_in second) win ≡ true)
in_first_or_second b first second win there other = elim (there_or_not (is_among (ids_in first) win)) [
  | inl is ↦ inl is
  | inr gone ↦ inr (grind (arith, among_append (ids_in first) (ids_in second) win, there, other, gone))
]

split_once : (t : Shape) (split : ℕ) (a : Arrangement) (new : ℕ) → AreDistinct (ids_in t)
    → is_among (ids_in t) split ≡ true → is_among (ids_in t) a.id ≡ false → is_among (ids_in t) new ≡ false
    → (new == a.id) ≡ false → IsSplit t (split_in t split a new) a.id new
split_once (One id) split a new distinct there no_pair no_new other =
    let here : (id == split) ≡ true = grind (arith, there) in
    rw here (put_above (One id) a new distinct no_pair no_new other)
split_once (Two b first second) split a new distinct there no_pair no_new other =
    let xs = ids_in first in
    let ys = ids_in second in
    let parts = apart_of xs ys distinct.1 in
    let e = among_append xs ys a.id in
    let f = among_append xs ys new in
    elim (there_or_not (b.id == split)) [
      | inl here ↦ rw here (put_above (Two b first second) a new distinct no_pair no_new other)
      | inr below ↦ elim (in_first_or_second b first second split there below) [
        | inl is ↦ rw (below, split_absent second split a new (parts.apart split is))
            (split_first b first (split_in first split a new) second a.id new distinct no_pair no_new
            (split_once first split a new parts.first is (grind (arith, e, no_pair)) (grind (arith, f, no_new)) other))
        | inr is ↦ rw (below, split_absent first split a new ((swapped xs ys parts).apart split is))
            (split_second b first second (split_in second split a new) a.id new distinct no_pair no_new
            (split_once second split a new parts.second is (grind (arith, e, no_pair)) (grind (arith, f, no_new))
            other))
      ]
    ]

split_types : (es : List Entry) (t : Shape) (split : ℕ) (a : Arrangement) (new : ℕ) → HaveTypes es t
    → is_pair es a.id ≡ true → is_pair es new ≡ false → HaveTypes es (split_in t split a new)
split_types es (One id) split a new types pair leaf =
    elim (id == split) as (λ b. HaveTypes es (if b then Two a (One id) (One new) else One id)) [
      | true ↦ (pair, (types, leaf))
      | false ↦ types
    ]
split_types es (Two b first second) split a new types pair leaf =
    elim (b.id == split) as (λ c. HaveTypes es (if c then Two a (Two b first second) (One new) else
    Two b (split_in first split a new) (split_in second split a new))) [
      | true ↦ (pair, (types, leaf))
      | false ↦ (
        types.0,
        (split_types es first split a new types.1.0 pair leaf, split_types es second split a new types.1.1 pair leaf),
      )
    ]

-- ---- a list of windows with other echo streams, or with fewer or more windows

types_kept : (es fs : List Entry) (t : Shape)
    → ((win : ℕ) → is_among (ids_in t) win ≡ true → is_pair fs win ≡ is_pair es win)
    → HaveTypes es t → HaveTypes fs t
types_kept es fs (One id) same types = same id (grind (arith, nat_tests)) ∙ types
types_kept es fs (Two a first second) same types =
    let xs = ids_in first in
    let ys = ids_in second in (
      same a.id (grind (arith, nat_tests)) ∙ types.0,
      (
        types_kept es fs first (λ win there. same win (grind (arith, among_append xs ys win, there))) types.1.0,
        types_kept es fs second (λ win there. same win (grind (arith, among_append xs ys win, there))) types.1.1,
      ),
    )

placed_changed : (es fs : List Entry) (tree : Option Shape)
    → ((win : ℕ) → objects.has entry_id fs win ≡ objects.has entry_id es win)
    → ((win : ℕ) → (window_entry fs win).kind ≡ (window_entry es win).kind) → ArePlaced es tree → ArePlaced fs tree
placed_changed es fs None same kinds placed = record {
  once = placed.once;
  same = λ win. placed.same win ∙ sym (same win);
  types = tt;
}
placed_changed es fs (Some t) same kinds placed = record {
  once = placed.once;
  same = λ win. placed.same win ∙ sym (same win);
  types = types_kept es fs t (λ win there. ap (λ (kind : ℕ). kind == pair_window) (kinds win)) placed.types;
}

pub forgetting_id : (gone : List ℕ) (e : Entry) → entry_id (forgetting gone e) ≡ entry_id e
unfolding forgetting
forgetting_id gone e =
    elim (is_among gone e.echo) as (λ b. entry_id (if b then record e { echo = 0 } else e) ≡ entry_id e) [
      | true ↦ refl
      | false ↦ refl
    ]

forgetting_kind : (gone : List ℕ) (e : Entry) → (forgetting gone e).kind ≡ e.kind
unfolding forgetting
forgetting_kind gone e = elim (is_among gone e.echo) as (λ b. (if b then record e { echo = 0 } else e).kind ≡ e.kind) [
  | true ↦ refl
  | false ↦ refl
]

pub forgetting_none : (gone : List ℕ) → forgetting gone no_entry ≡ no_entry
unfolding forgetting
forgetting_none gone =
    elim (is_among gone 0) as (λ b. (if b then record no_entry { echo = 0 } else no_entry) ≡ no_entry) [
      | true ↦ refl
      | false ↦ refl
    ]

forgotten_kind : (gone : List ℕ) (es : List Entry) (win : ℕ)
    → (window_entry (map (forgetting gone) es) win).kind ≡ (window_entry es win).kind
forgotten_kind gone es win =
    ap (λ (e : Entry). e.kind)
    (found.at_map entry_id no_entry (forgetting gone) (forgetting_id gone) (forgetting_none gone) es win)
    ∙ forgetting_kind gone (window_entry es win)

pub placed_forgotten : (gone : List ℕ) (es : List Entry) (tree : Option Shape) → ArePlaced es tree
    → ArePlaced (map (forgetting gone) es) tree
placed_forgotten gone es tree placed =
    placed_changed es (map (forgetting gone) es) tree
    (λ win. found.has_map entry_id no_entry (forgetting gone) (forgetting_id gone) es win)
    (λ win. forgotten_kind gone es win) placed

echoed_kind : (es : List Entry) (win stream other : ℕ) → objects.has entry_id es win ≡ true
    → (window_entry (objects.with entry_id es (record (window_entry es win) { echo = stream })) other).kind
    ≡ (window_entry es other).kind
echoed_kind es win stream other there =
    let new = record (window_entry es win) { echo = stream } in
    let id : new.id ≡ win = id_at entry_id no_entry es win there in
    elim (there_or_not (other == new.id)) [
      | inl here ↦ let same : other ≡ new.id = grind (arith, nat_tests, here) in
          rw same (ap (λ (e : Entry). e.kind)
          (found.at_with_here entry_id no_entry es new (rw id there))
          ∙ ap (λ (w : ℕ). (window_entry es w).kind) (sym id))
      | inr apart ↦ ap (λ (e : Entry). e.kind)
          (found.at_with entry_id no_entry es new other (grind (arith, nat_tests, apart)))
    ]

pub placed_echoed : (es : List Entry) (win stream : ℕ) (tree : Option Shape) → objects.has entry_id es win ≡ true
    → ArePlaced es tree
    → ArePlaced (objects.with entry_id es (record (window_entry es win) { echo = stream })) tree
placed_echoed es win stream tree there placed =
    placed_changed es (objects.with entry_id es (record (window_entry es win) { echo = stream })) tree
    (λ other. found.has_with entry_id no_entry es (record (window_entry es win) { echo = stream }) other)
    (λ other. echoed_kind es win stream other there) placed

-- ---- windows are opened

openable_leaf : (kind : ℕ) → is_openable kind ≡ true → (kind == pair_window) ≡ false
openable_leaf kind may = grind (arith, nat_tests, may)

-- a new window's entry
not_yet : (es : List Entry) (id win : ℕ) → IsAboveAll entry_id es id → id ≤ win → objects.has entry_id es win ≡ false
not_yet es id win above le = elim (there_or_not (objects.has entry_id es win)) [
  | inl is ↦ absurd (let less = found.has_above entry_id no_entry es id win above is in omega (arith, less, le))
  | inr gone ↦ gone
]

end_kind : (es : List Entry) (e : Entry) (win : ℕ) → objects.has entry_id es win ≡ true
    → is_pair (es ++ e ∷ []) win ≡ is_pair es win
end_kind es e win there =
    ap (λ (f : Entry). f.kind == pair_window) (found.at_end entry_id no_entry es e win there)

new_kind : (es : List Entry) (e : Entry) → objects.has entry_id es e.id ≡ false
    → is_pair (es ++ e ∷ []) e.id ≡ (e.kind == pair_window)
new_kind es e gone =
    let here : (e.id == e.id) ≡ true = grind (arith, nat_tests) in
    let it : window_entry (es ++ e ∷ []) e.id ≡ e = rw (found.at_new entry_id no_entry es e e.id gone, here) refl in
    ap (λ (f : Entry). f.kind == pair_window) it

pub placed_first : (es : List Entry) (id kind rock : ℕ) → IsAboveAll entry_id es id → is_openable kind ≡ true
    → ArePlaced es None → ArePlaced (es ++ new_entry id kind rock ∷ []) (Some (One id))
placed_first es id kind rock above may placed =
    let e = new_entry id kind rock in
    record {
      once = (refl, tt);
      same = λ win. let gone = placed.same win in
          grind (arith, found.has_end entry_id no_entry es e win, gone);
      types = new_kind es e (not_yet es id id above (omega arith)) ∙ openable_leaf kind may;
    }

-- the pair of a new window, which is its key
abbrev new_pair : ℕ → ℕ → ℕ → ℕ → Arrangement
new_pair method size kind id =
    record { id = id + 2; method = method % 256; size = size; key = id; key_is_blank = kind == blank_window }

pub placed_beside : (es : List Entry) (tree : Option Shape) (split method size kind rock id : ℕ)
    → objects.has entry_id es split ≡ true → IsAboveAll entry_id es id → is_openable kind ≡ true → ArePlaced es tree
    → ArePlaced ((es ++ new_entry id kind rock ∷ []) ++ new_entry (id + 2) pair_window 0 ∷ [])
    (option_map (λ t. split_in t split (new_pair method size kind id) id) tree)
placed_beside es None split method size kind rock id there above may placed =
    absurd (let gone : objects.has entry_id es split ≡ false = sym (placed.same split) in
    let e = sym gone ∙ there in cc)
placed_beside es (Some t) split method size kind rock id there above may placed =
    let e = new_entry id kind rock in
    let p = new_entry (id + 2) pair_window 0 in
    let fs = es ++ e ∷ [] in
    let no_new = not_yet es id id above (omega arith) in
    let no_pair = not_yet es id (id + 2) above (omega arith) in
    let other : (id == id + 2) ≡ false = grind (arith, nat_tests) in
    let no_pair_more : objects.has entry_id fs (id + 2) ≡ false =
    grind (arith, found.has_end entry_id no_entry es e (id + 2), no_pair, other) in
    let here : (id == id) ≡ true = grind (arith, nat_tests) in
    let new_there : objects.has entry_id fs id ≡ true =
    grind (arith, found.has_end entry_id no_entry es e id, here) in
    let parts = split_once t split (new_pair method size kind id) id placed.once (placed.same split ∙ there)
    (placed.same (id + 2) ∙ no_pair) (placed.same id ∙ no_new) other in
    let old : (win : ℕ) → is_among (ids_in t) win ≡ true → is_pair (fs ++ p ∷ []) win ≡ is_pair es win =
    λ win is. let was : objects.has entry_id es win ≡ true = sym (placed.same win) ∙ is in
    let still : objects.has entry_id fs win ≡ true =
    grind (arith, found.has_end entry_id no_entry es e win, was) in
    end_kind fs p win still ∙ end_kind es e win was in
    record {
      once = parts.once;
      same = λ win. let was = placed.same win in
          grind (
            arith,
            parts.same win,
            was,
            found.has_end entry_id no_entry es e win,
            found.has_end entry_id no_entry fs p win,
          );
      types = split_types (fs ++ p ∷ []) t split (new_pair method size kind id) id
          (types_kept es (fs ++ p ∷ []) t old placed.types)
          (new_kind fs p no_pair_more)
          (end_kind fs p id new_there ∙ new_kind es e no_new ∙ openable_leaf kind may);
    }

-- where one part of a pair was refused its memory, the other one didn't change
pub first_refused : {A E : Type 0} (r : Result A E) (b : Arrangement) (first second after : Shape)
    → (AreDistinct (ids_in first) → after ≡ first) → AreDistinct (ids_in (Two b first second))
    → OnErr r (Two b after second ≡ Two b first second)
first_refused (Ok x) b first second after kept distinct = tt
first_refused (Err e) b first second after kept distinct =
    ap (λ (t : Shape). Two b t second) (kept (apart_of (ids_in first) (ids_in second) distinct.1).first)

pub second_refused : {A E : Type 0} (r : Result A E) (b : Arrangement) (first second after rest : Shape) (split : ℕ)
    (a : Arrangement) (new : ℕ) → after ≡ split_in first split a new
    → (AreDistinct (ids_in second) → OnErr r (rest ≡ second)) → OnErr r (is_among (ids_in second) split ≡ true)
    → AreDistinct (ids_in (Two b first second)) → OnErr r (Two b after rest ≡ Two b first second)
second_refused (Ok x) b first second after rest split a new made kept there distinct = tt
second_refused (Err e) b first second after rest split a new made kept there distinct =
    let parts = apart_of (ids_in first) (ids_in second) distinct.1 in
    let gone = (swapped (ids_in first) (ids_in second) parts).apart split there in
    rw (made, kept parts.second, split_absent first split a new gone) refl

-- ---- windows are closed

pub record IsClosed (t after : Shape) (gone : List ℕ) : Type 0 where
  pub once : AreDistinct (ids_in after)
  pub left : (id : ℕ) → is_among (ids_in after) id ≡ (is_among (ids_in t) id && not (is_among gone id))
  pub within : (id : ℕ) → is_among gone id ≡ true → is_among (ids_in t) id ≡ true

top_there : (t : Shape) (win : ℕ) → (shape_id t == win) ≡ true → is_among (ids_in t) win ≡ true
top_there (One id) win top = grind (arith, top)
top_there (Two a first second) win top = grind (arith, top)

not_top : (t : Shape) (win : ℕ) → is_among (ids_in t) win ≡ false → (shape_id t == win) ≡ false
not_top t win gone = elim (there_or_not (shape_id t == win)) [
  | inl top ↦ absurd (let e = top_there t win top in cc)
  | inr other ↦ other
]

own_apart : (own id : ℕ) (ids : List ℕ) → is_among ids own ≡ false → is_among ids id ≡ true → (own == id) ≡ false
own_apart own id ids gone there = elim (there_or_not (own == id)) [
  | inl is ↦ absurd (let same : own ≡ id = grind (arith, nat_tests, is) in let e = rw same at gone in cc)
  | inr other ↦ other
]

same_parent : (parent : ℕ) (ids : List ℕ)
    → (if parent == 0 then 0 else parent) ∷ ids ≡ parent ∷ ids
same_parent parent ids = elim (there_or_not (parent == 0)) [
  | inl none ↦ let zero : parent ≡ 0 = grind (arith, nat_tests, none) in rw zero refl
  | inr some ↦ rw some refl
]

closed_absent : (t : Shape) (win : ℕ) → is_among (ids_in t) win ≡ false → closed_in t win ≡ t
closed_absent (One id) win gone = refl
closed_absent (Two a first second) win gone =
    let parts = among_append (ids_in first) (ids_in second) win in
    let not_first : is_among (ids_in first) win ≡ false = grind (arith, gone, parts) in
    let not_second : is_among (ids_in second) win ≡ false = grind (arith, gone, parts) in
    let one = not_top first win not_first in
    let other = not_top second win not_second in
    rw (one, other, closed_absent first win not_first, closed_absent second win not_second) refl

pub part_absent : (t : Shape) (win : ℕ) → is_among (ids_in t) win ≡ false → part_from t win ≡ None
part_absent (One id) win gone = let other : (id == win) ≡ false = grind (arith, gone) in rw other refl
part_absent (Two a first second) win gone =
    let parts = among_append (ids_in first) (ids_in second) win in
    let other : (a.id == win) ≡ false = grind (arith, gone, parts) in
    let not_first : is_among (ids_in first) win ≡ false = grind (arith, gone, parts) in
    let not_second : is_among (ids_in second) win ≡ false = grind (arith, gone, parts) in
    rw (other, part_absent first win not_first, part_absent second win not_second) refl

parent_absent : (t : Shape) (win : ℕ) → is_among (ids_in t) win ≡ false → parent_in t win ≡ 0
parent_absent (One id) win gone = refl
parent_absent (Two a first second) win gone =
    let parts = among_append (ids_in first) (ids_in second) win in
    let not_first : is_among (ids_in first) win ≡ false = grind (arith, gone, parts) in
    let not_second : is_among (ids_in second) win ≡ false = grind (arith, gone, parts) in
    let one = not_top first win not_first in
    let other = not_top second win not_second in
    rw (one, other, parent_absent first win not_first, parent_absent second win not_second) refl

part_top : (t : Shape) (win : ℕ) → (shape_id t == win) ≡ true → part_from t win ≡ Some t
part_top (One id) win here = rw here refl
part_top (Two a first second) win here = rw here refl

or_none : {A : Type 0} (x : Option A) → option_or x None ≡ x
or_none None = refl
or_none (Some x) = refl

-- a window whose part of the tree is its sibling's
first_leaves : (a : Arrangement) (first second : Shape) → AreDistinct (ids_in (Two a first second))
    → IsClosed (Two a first second) second (a.id ∷ ids_in first)
first_leaves a first second distinct =
    let xs = ids_in first in
    let ys = ids_in second in
    let parts = apart_of xs ys distinct.1 in
    let back = swapped xs ys parts in
    let own = distinct.0 in
    record {
      once = parts.second;
      left = λ id. elim (there_or_not (is_among ys id)) [
        | inl is ↦ let gone = back.apart id is in
            let other : (a.id == id) ≡ false = own_apart a.id id (xs ++ ys) own
            (among_append xs ys id ∙ grind (arith, is)) in
            grind (arith, among_append xs ys id, is, gone, other)
        | inr not_there ↦ grind (arith, among_append xs ys id, not_there)
      ];
      within = λ id there. grind (arith, among_append xs ys id, there);
    }

second_leaves : (a : Arrangement) (first second : Shape) → AreDistinct (ids_in (Two a first second))
    → IsClosed (Two a first second) first (a.id ∷ ids_in second)
second_leaves a first second distinct =
    let xs = ids_in first in
    let ys = ids_in second in
    let parts = apart_of xs ys distinct.1 in
    let own = distinct.0 in
    record {
      once = parts.first;
      left = λ id. elim (there_or_not (is_among xs id)) [
        | inl is ↦ let gone = parts.apart id is in
            let other : (a.id == id) ≡ false = own_apart a.id id (xs ++ ys) own
            (among_append xs ys id ∙ grind (arith, is)) in
            grind (arith, among_append xs ys id, is, gone, other)
        | inr not_there ↦ grind (arith, among_append xs ys id, not_there)
      ];
      within = λ id there. grind (arith, among_append xs ys id, there);
    }

-- what goes lies in one part of a pair
closed_first : (a : Arrangement) (first after second : Shape) (gone : List ℕ)
    → AreDistinct (ids_in (Two a first second)) → IsClosed first after gone
    → IsClosed (Two a first second) (Two a after second) gone
closed_first a first after second gone distinct closed =
    let xs = ids_in first in
    let ys = ids_in second in
    let us = ids_in after in
    let parts = apart_of xs ys distinct.1 in
    let own = distinct.0 in
    let fewer_ids : (id : ℕ) → is_among us id ≡ true → is_among xs id ≡ true =
    λ id there. let e = closed.left id in grind (arith, e, there) in
    record {
      once = (
        (let e = closed.left a.id in grind (arith, among_append us ys a.id, among_append xs ys a.id, e, own)),
        both us ys (fewer xs ys us ys parts closed.once parts.second fewer_ids (λ id there. there)),
      );
      left = λ id. let e = closed.left id in elim (there_or_not (is_among gone id)) [
        | inl goes ↦ let was = closed.within id goes in
            let not_second = parts.apart id was in
            let other : (a.id == id) ≡ false = own_apart a.id id (xs ++ ys) own
            (among_append xs ys id ∙ grind (arith, was)) in
            grind (arith, among_append us ys id, among_append xs ys id, e, goes, not_second, other)
        | inr stays ↦ grind (arith, among_append us ys id, among_append xs ys id, e, stays)
      ];
      within = λ id goes. let was = closed.within id goes in grind (arith, among_append xs ys id, was);
    }

closed_second : (a : Arrangement) (first second after : Shape) (gone : List ℕ)
    → AreDistinct (ids_in (Two a first second)) → IsClosed second after gone
    → IsClosed (Two a first second) (Two a first after) gone
closed_second a first second after gone distinct closed =
    let xs = ids_in first in
    let ys = ids_in second in
    let vs = ids_in after in
    let parts = apart_of xs ys distinct.1 in
    let own = distinct.0 in
    let fewer_ids : (id : ℕ) → is_among vs id ≡ true → is_among ys id ≡ true =
    λ id there. let e = closed.left id in grind (arith, e, there) in
    record {
      once = (
        (let e = closed.left a.id in grind (arith, among_append xs vs a.id, among_append xs ys a.id, e, own)),
        both xs vs (fewer xs ys xs vs parts parts.first closed.once (λ id there. there) fewer_ids),
      );
      left = λ id. let e = closed.left id in elim (there_or_not (is_among gone id)) [
        | inl goes ↦ let was = closed.within id goes in
            let not_first = (swapped xs ys parts).apart id was in
            let other : (a.id == id) ≡ false = own_apart a.id id (xs ++ ys) own
            (among_append xs ys id ∙ grind (arith, was)) in
            grind (arith, among_append xs vs id, among_append xs ys id, e, goes, not_first, other)
        | inr stays ↦ grind (arith, among_append xs vs id, among_append xs ys id, e, stays)
      ];
      within = λ id goes. let was = closed.within id goes in grind (arith, among_append xs ys id, was);
    }

-- a window below the topmost one is closed
pub closed_below : (t : Shape) (win : ℕ) → AreDistinct (ids_in t) → is_among (ids_in t) win ≡ true
    → (shape_id t == win) ≡ false → IsClosed t (closed_in t win) (leaving (Some t) win)
closed_below (One id) win distinct there below = absurd (let e = there in grind (arith, e, below))
closed_below (Two a first second) win distinct there below =
    let xs = ids_in first in
    let ys = ids_in second in
    let parts = apart_of xs ys distinct.1 in
    elim (there_or_not (shape_id first == win)) [
      | inl top ↦ rw (top, below, part_top first win top) (first_leaves a first second distinct)
      | inr not_first ↦ elim (there_or_not (shape_id second == win)) [
        | inl top ↦ let gone = (swapped xs ys parts).apart win (top_there second win top) in
            rw (not_first, top, below, part_absent first win gone, part_top second win top)
            (second_leaves a first second distinct)
        | inr not_second ↦ elim (in_first_or_second a first second win there below) [
          | inl is ↦ let gone = parts.apart win is in
              let same : leaving (Some (Two a first second)) win ≡ leaving (Some first) win =
              rw (
                not_first,
                not_second,
                below,
                part_absent second win gone,
                parent_absent second win gone,
                or_none (part_from first win),
              ) (same_parent (parent_in first win)
              (unwrap_or (option_map ids_in (part_from first win)) [])) in
              rw (same, not_first, not_second, closed_absent second win gone)
              (closed_first a first (closed_in first win) second (leaving (Some first) win) distinct
              (closed_below first win parts.first is not_first))
          | inr is ↦ let gone = (swapped xs ys parts).apart win is in
              let same : leaving (Some (Two a first second)) win ≡ leaving (Some second) win =
              rw (not_first, not_second, below, part_absent first win gone, parent_absent first win gone) refl in
              rw (same, not_first, not_second, closed_absent first win gone)
              (closed_second a first second (closed_in second win) (leaving (Some second) win) distinct
              (closed_below second win parts.second is not_second))
        ]
      ]
    ]

closed_types : (es : List Entry) (t : Shape) (win : ℕ) → HaveTypes es t → HaveTypes es (closed_in t win)
closed_types es (One id) win types = types
closed_types es (Two a first second) win types =
    elim (shape_id first == win) as (λ b. HaveTypes es (if b then second else if shape_id second == win then first else
    Two a (closed_in first win) (closed_in second win))) [
      | true ↦ types.1.1
      | false ↦ elim (shape_id second == win) as
          (λ b. HaveTypes es (if b then first else Two a (closed_in first win) (closed_in second win))) [
            | true ↦ types.1.0
            | false ↦ (types.0, (closed_types es first win types.1.0, closed_types es second win types.1.1))
          ]
    ]

unkeyed_ids : (gone : List ℕ) (t : Shape) → ids_in (unkeyed gone t) ≡ ids_in t
unkeyed_ids gone (One id) = refl
unkeyed_ids gone (Two a first second) = rw (unkeyed_ids gone first, unkeyed_ids gone second) refl

unkeyed_types : (es : List Entry) (gone : List ℕ) (t : Shape) → HaveTypes es t → HaveTypes es (unkeyed gone t)
unkeyed_types es gone (One id) types = types
unkeyed_types es gone (Two a first second) types =
    (types.0, (unkeyed_types es gone first types.1.0, unkeyed_types es gone second types.1.1))

left_at : (ids : List ℕ) (es : List Entry) (win : ℕ) → is_among ids win ≡ false
    → is_pair (filter (λ e. not (is_among ids e.id)) es) win ≡ is_pair es win
left_at ids es win stays =
    let it : window_entry (filter (λ e. not (is_among ids e.id)) es) win ≡ window_entry es win =
    rw (found.at_chosen entry_id no_entry (λ (id : ℕ). not (is_among ids id)) es win, stays) refl in
    ap (λ (e : Entry). e.kind == pair_window) it

none_left : (goes parent here kept there : Bool) → kept ≡ (not goes && there) → goes ≡ (parent || here) → here ≡ there
    → false ≡ kept
none_left goes true here kept there is all same = sym (rw (is, all) refl)
none_left goes false true kept there is all same = sym (rw (is, all) refl)
none_left goes false false kept there is all same = sym (rw (is, all, ← same) refl)

stays_there : (goes was now : Bool) → now ≡ (was && not goes) → now ≡ true → goes ≡ false
stays_there true true now is there = absurd (cc)
stays_there true false now is there = absurd (cc)
stays_there false was now is there = refl

some_left : (goes was there now kept : Bool) → now ≡ (was && not goes) → kept ≡ (not goes && there) → was ≡ there
    → now ≡ kept
some_left true true there now kept is left same = cc
some_left true false there now kept is left same = cc
some_left false true there now kept is left same = cc
some_left false false there now kept is left same = cc

all_gone : (t : Shape) (win : ℕ) → (shape_id t == win) ≡ true → leaving (Some t) win ≡ parent_in t win ∷ ids_in t
all_gone t win top = rw (part_top t win top) refl

pub placed_closed : (es : List Entry) (tree : Option Shape) (win : ℕ) → objects.has entry_id es win ≡ true
    → ArePlaced es tree → ArePlaced (left_of es (leaving tree win)) (closed_tree (leaving tree win) tree win)
placed_closed es None win there placed =
    absurd (let gone : objects.has entry_id es win ≡ false = sym (placed.same win) in let e = sym gone ∙ there in cc)
placed_closed es (Some t) win there placed =
    let ids = leaving (Some t) win in
    let fs = filter (λ e. not (is_among ids e.id)) es in
    let was = λ (id : ℕ). placed.same id in
    let fewer_there : (id : ℕ) → objects.has entry_id fs id ≡ (not (is_among ids id) && objects.has entry_id es id) =
    λ id. found.has_chosen entry_id no_entry (λ (other : ℕ). not (is_among ids other)) es id in
    placed_forgotten (map (λ (e : Entry). e.stream) (chosen ids es)) fs (closed_tree ids (Some t) win)
    (elim (there_or_not (shape_id t == win)) [
      | inl top ↦ let same = all_gone t win top in
          rw top (record {
            once = tt;
            same = λ id. let e : is_among ids id ≡ (parent_in t win == id || is_among (ids_in t) id) =
                ap (λ (all : List ℕ). is_among all id) same in
                none_left (is_among ids id) (parent_in t win == id) (is_among (ids_in t) id)
                (objects.has entry_id fs id) (objects.has entry_id es id) (fewer_there id) e (was id);
            types = tt;
          })
      | inr below ↦ let closed = closed_below t win placed.once (was win ∙ there) below in
          let after = closed_in t win in
          let stays : (id : ℕ) → is_among (ids_in after) id ≡ true → is_among ids id ≡ false =
          λ id is. stays_there (is_among ids id) (is_among (ids_in t) id) (is_among (ids_in after) id)
          (closed.left id) is in
          rw below (record {
            once = rw (unkeyed_ids ids after) closed.once;
            same = λ id. ap (λ (all : List ℕ). is_among all id) (unkeyed_ids ids after)
                ∙ some_left (is_among ids id) (is_among (ids_in t) id) (objects.has entry_id es id)
                (is_among (ids_in after) id) (objects.has entry_id fs id) (closed.left id) (fewer_there id) (was id);
            types = unkeyed_types fs ids after
                (types_kept es fs after (λ id is. left_at ids es id (stays id is))
                (closed_types es t win placed.types));
          })
    ])

-- ---- all windows

tiles : (tree : Option Shape) (screen : ℕ × ℕ) → AreDistinct (ids_of tree) → Tile tree screen
tiles None screen once = tt
tiles (Some t) screen once = leaves_fill t screen once

pub whole : (f : FlatWindows) → ArePlaced f.entries f.tree → AreWhole f
whole f placed = record { placed = placed; tile = tiles f.tree (f.columns, f.rows) placed.once }
