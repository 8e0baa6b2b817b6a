-- What keeps windows and streams naming each other.
use Rattle.std.proofs.Common.{◌≡◌, ◌<◌, ◌≤◌, ◌+◌, ◌==◌, ◌||◌, ◌&&◌, inl, inr, ℕ, Bool, true, false, not}
use Rattle.std.proofs.Common.{if◌then◌else◌, Result, Ok, Err, OnOk, OnErr, List, [], ◌∷◌, ◌++◌, map, refl, sym, ◌∙◌}
use Rattle.std.proofs.Common.{ap, arith}
use Rattle.std.specs.List.{filter, list_any}
use Rattle.std.proofs.lemmas.Bool.Decides.{nat_tests}
use Rattle.glk_objects.specs.Objects as objects
use Rattle.glk_objects.specs.Objects.{IsAboveAll, AreRising}
use Rattle.glk_objects.proofs.Places.{id_at}
use Rattle.glk_objects.proofs.Found as found
use Rattle.glk_streams.specs.declared.kinds.Stream.{Stream}
use Rattle.glk_streams.specs.declared.kinds.StreamKind.{StreamKind}
use Rattle.glk_streams.specs.Stream as one
use Rattle.glk_streams.specs.Streams as streams
use Rattle.glk_windows.specs.declared.entries.Entry.{Entry}
use Rattle.glk_windows.specs.Constants.{pair_window}
use Rattle.glk_windows.specs.Tree.{is_among}
use Rattle.glk_windows.specs.Windows.{FlatWindows, entry_id, no_entry, window_entry, no_windows, IsNewId}
use Rattle.glk_windows.specs.Changes.{fitted, new_entry, rooted, split_by, with_new_window, leaving, chosen, forgetting}
use Rattle.glk_windows.specs.Changes.{window_closed, with_echo_stream, arranged, gone}
use Rattle.glk_windows.proofs.Placing.{forgetting_id, forgetting_none}
use Rattle.glk_world.specs.Calls.{window_stream, with_streams}
use Rattle.glk_world.specs.Chains.{AreLinked}
use Rattle.glk_world.specs.Naming.{AreNamed}
use Rattle.glk_world.proofs.Kept.{arranged_new, none_new}
use Rattle.glk_world.proofs.Links.{there_or_not, IsAsNamed, linked_none, entries_arranged}

pub named_none : AreNamed [] []
named_none = record { windows = λ win there. absurd (cc); streams = λ s there some. absurd (cc) }

-- windows and streams that name each other as before
named_same : (es fs : List Entry) (xs ys : List Stream)
    → ((win : ℕ) → objects.has entry_id fs win ≡ objects.has entry_id es win)
    → ((win : ℕ) → (window_entry fs win).stream ≡ (window_entry es win).stream)
    → ((s : ℕ) → streams.has ys s ≡ streams.has xs s)
    → ((s : ℕ) → one.window_of (streams.stream ys s) ≡ one.window_of (streams.stream xs s))
    → AreNamed es xs → AreNamed fs ys
named_same es fs xs ys wins own all names named = record {
  windows = λ win there. let was = named.windows win (sym (wins win) ∙ there) in (
    all (window_entry fs win).stream ∙ ap (λ (s : ℕ). streams.has xs s) (own win) ∙ was.0,
    names (window_entry fs win).stream ∙ ap (λ (s : ℕ). one.window_of (streams.stream xs s)) (own win) ∙ was.1,
  );
  streams = λ s there some.
      let was = named.streams s (sym (all s) ∙ there) (λ none. some (names s ∙ none)) in (
        ap (λ (win : ℕ). objects.has entry_id fs win) (names s) ∙ wins (one.window_of (streams.stream xs s)) ∙ was.0,
        ap (λ (win : ℕ). (window_entry fs win).stream) (names s) ∙ own (one.window_of (streams.stream xs s)) ∙ was.1,
      );
}

-- ---- a stream is put to, read from, or moved in

window_with : (xs : List Stream) (new : Stream) (s : ℕ) → streams.has xs new.id ≡ true
    → one.window_of new ≡ one.window_of (streams.stream xs new.id)
    → one.window_of (streams.stream (streams.with_stream xs new) s) ≡ one.window_of (streams.stream xs s)
window_with xs new s there same = elim (there_or_not (s == new.id)) [
  | inl here ↦ let e : s ≡ new.id = grind (arith, nat_tests, here) in
      rw e (ap one.window_of (found.at_with_here streams.id_of streams.no_stream xs new there) ∙ same)
  | inr other ↦ ap one.window_of
      (found.at_with streams.id_of streams.no_stream xs new s (grind (arith, nat_tests, other)))
]

pub named_changed : (es : List Entry) (xs : List Stream) (s : ℕ) (new : Stream) → streams.has xs s ≡ true
    → IsAsNamed (streams.stream xs s) new → AreNamed es xs → AreNamed es (streams.with_stream xs new)
named_changed es xs s new there same named =
    let id : new.id ≡ s = same.id ∙ id_at streams.id_of streams.no_stream xs s there in
    named_same es es xs (streams.with_stream xs new) (λ win. refl) (λ win. refl)
    (λ t. found.has_with streams.id_of streams.no_stream xs new t)
    (λ t. window_with xs new t (rw id there) (rw id same.window)) named

-- ---- echo streams are others

forgetting_stream : (lost : List ℕ) (e : Entry) → (forgetting lost e).stream ≡ e.stream
unfolding forgetting
forgetting_stream lost e =
    elim (is_among lost e.echo) as (λ b. (if b then record e { echo = 0 } else e).stream ≡ e.stream) [
      | true ↦ refl
      | false ↦ refl
    ]

forgotten_stream : (lost : List ℕ) (es : List Entry) (win : ℕ)
    → (window_entry (map (forgetting lost) es) win).stream ≡ (window_entry es win).stream
forgotten_stream lost es win =
    ap (λ (e : Entry). e.stream)
    (found.at_map entry_id no_entry (forgetting lost) (forgetting_id lost) (forgetting_none lost) es win)
    ∙ forgetting_stream lost (window_entry es win)

named_forgotten : (lost : List ℕ) (es : List Entry) (xs : List Stream) → AreNamed es xs
    → AreNamed (map (forgetting lost) es) xs
named_forgotten lost es xs named =
    named_same es (map (forgetting lost) es) xs xs
    (λ win. found.has_map entry_id no_entry (forgetting lost) (forgetting_id lost) es win)
    (λ win. forgotten_stream lost es win) (λ s. refl) (λ s. refl) named

echoed_stream : (es : List Entry) (win stream other : ℕ) → objects.has entry_id es win ≡ true
    → (window_entry (objects.with entry_id es (record (window_entry es win) { echo = stream })) other).stream
    ≡ (window_entry es other).stream
echoed_stream es win stream other there =
    let new = record (window_entry es win) { echo = stream } in
    let id : new.id ≡ win = id_at entry_id no_entry es win there in
    elim (there_or_not (other == new.id)) [
      | inl here ↦ let same : other ≡ new.id = grind (arith, nat_tests, here) in
          rw same (ap (λ (e : Entry). e.stream)
          (found.at_with_here entry_id no_entry es new (rw id there))
          ∙ ap (λ (w : ℕ). (window_entry es w).stream) (sym id))
      | inr apart ↦ ap (λ (e : Entry). e.stream)
          (found.at_with entry_id no_entry es new other (grind (arith, nat_tests, apart)))
    ]

pub named_echoed : (f : FlatWindows) (xs : List Stream) (win stream : ℕ) → objects.has entry_id f.entries win ≡ true
    → AreNamed f.entries xs → AreNamed (with_echo_stream f win stream).entries xs
unfolding with_echo_stream
named_echoed f xs win stream there named =
    let es = f.entries in
    let new = record (window_entry es win) { echo = stream } in
    named_same es (objects.with entry_id es new) xs xs (λ other. found.has_with entry_id no_entry es new other)
    (λ other. echoed_stream es win stream other there) (λ s. refl) (λ s. refl) named

-- ---- a stream with no window is opened or closed

pub named_own : (es : List Entry) (xs : List Stream) (id mode rock : ℕ) (kind : StreamKind)
    → IsAboveAll streams.id_of xs id → one.window_in kind ≡ 0 → AreNamed es xs
    → AreNamed es (xs ++ one.opened id kind mode rock ∷ [])
unfolding one.opened
named_own es xs id mode rock kind above own named =
    let new = one.opened id kind mode rock in
    record {
      windows = λ win there. let was = named.windows win there in (
        grind (arith, found.has_end streams.id_of streams.no_stream xs new (window_entry es win).stream, was.0),
        ap one.window_of (found.at_end streams.id_of streams.no_stream xs new (window_entry es win).stream was.0)
            ∙ was.1,
      );
      streams = λ s there some. elim (there_or_not (streams.has xs s)) [
        | inl is ↦ let same = found.at_end streams.id_of streams.no_stream xs new s is in
            rw same (named.streams s is (λ none. some (ap one.window_of same ∙ none)))
        | inr lost ↦ let here : (id == s) ≡ true =
            grind (arith, found.has_end streams.id_of streams.no_stream xs new s, there, lost) in
            absurd (some (rw (found.at_new streams.id_of streams.no_stream xs new s lost, here) own))
      ];
    }

has_left : (xs : List Stream) (id s : ℕ) → streams.has xs s ≡ true → (s == id) ≡ false
    → streams.has (objects.all_but streams.id_of xs id) s ≡ true
unfolding objects.all_but
has_left [] id s there other = there
has_left (x ∷ xs) id s there other = grind (arith, nat_tests, has_left xs id s, there, other)

pub named_without : (es : List Entry) (xs : List Stream) (id n : ℕ) → one.window_of (streams.stream xs id) ≡ 0
    → AreLinked es xs n → AreNamed es xs → AreNamed (map (forgetting (id ∷ [])) es)
    (objects.all_but streams.id_of xs id)
named_without es xs id n own linked named =
    named_forgotten (id ∷ []) es (objects.all_but streams.id_of xs id) (record {
      windows = λ win there. let was = named.windows win there in
          let t = (window_entry es win).stream in
          let some = found.has_below entry_id no_entry es 0 win linked.windows there in
          let other : (t == id) ≡ false = elim (there_or_not (t == id)) [
            | inl here ↦ absurd (let same : t ≡ id = grind (arith, nat_tests, here) in
                let none : win ≡ 0 = sym was.1 ∙ ap (λ (s : ℕ). one.window_of (streams.stream xs s)) same ∙ own in
                omega (arith, none, some))
            | inr apart ↦ apart
          ] in
          let left = has_left xs id t was.0 other in (
            left,
            ap one.window_of (found.at_without streams.id_of streams.no_stream xs id t linked.rises left) ∙ was.1,
          );
      streams = λ s there some.
          let same = found.at_without streams.id_of streams.no_stream xs id s linked.rises there in
          rw same (named.streams s (found.has_without streams.id_of streams.no_stream xs id s there)
          (λ none. some (ap one.window_of same ∙ none)));
    })

-- ---- a window is opened

not_there : (es : List Entry) (n win : ℕ) → IsAboveAll entry_id es n → n ≤ win → objects.has entry_id es win ≡ false
not_there es n win above le = elim (there_or_not (objects.has entry_id es win)) [
  | inl is ↦ absurd (let less = found.has_above entry_id no_entry es n win above is in omega (arith, less, le))
  | inr lost ↦ lost
]

no_stream_yet : (xs : List Stream) (n s : ℕ) → IsAboveAll streams.id_of xs n → n ≤ s → streams.has xs s ≡ false
no_stream_yet xs n s above le = elim (there_or_not (streams.has xs s)) [
  | inl is ↦
      absurd (let less = found.has_above streams.id_of streams.no_stream xs n s above is in omega (arith, less, le))
  | inr lost ↦ lost
]

-- a window and its stream
named_more : (es : List Entry) (xs : List Stream) (e : Entry) (new : Stream) → objects.has entry_id es e.id ≡ false
    → streams.has xs new.id ≡ false → one.window_of new ≡ e.id → e.stream ≡ new.id → AreNamed es xs
    → AreNamed (es ++ e ∷ []) (xs ++ new ∷ [])
named_more es xs e new no_window no_stream own stream named =
    let here : (e.id == e.id) ≡ true = grind (arith, nat_tests) in
    let here' : (new.id == new.id) ≡ true = grind (arith, nat_tests) in
    let it : window_entry (es ++ e ∷ []) e.id ≡ e =
    rw (found.at_new entry_id no_entry es e e.id no_window, here) refl in
    let its : streams.stream (xs ++ new ∷ []) new.id ≡ new =
    rw (found.at_new streams.id_of streams.no_stream xs new new.id no_stream, here') refl in
    record {
      windows = λ win there. elim (there_or_not (objects.has entry_id es win)) [
        | inl is ↦ let was = named.windows win is in
            let same = found.at_end entry_id no_entry es e win is in
            rw same (
              grind (arith, found.has_end streams.id_of streams.no_stream xs new (window_entry es win).stream, was.0),
              ap one.window_of (found.at_end streams.id_of streams.no_stream xs new (window_entry es win).stream was.0)
                  ∙ was.1,
            )
        | inr lost ↦ let last : (e.id == win) ≡ true =
            grind (arith, found.has_end entry_id no_entry es e win, there, lost) in
            let same : e.id ≡ win = grind (arith, nat_tests, last) in
            rw (← same, it, stream) (
              grind (arith, found.has_end streams.id_of streams.no_stream xs new new.id, here'),
              ap one.window_of its ∙ own,
            )
      ];
      streams = λ s there some. elim (there_or_not (streams.has xs s)) [
        | inl is ↦ let same = found.at_end streams.id_of streams.no_stream xs new s is in
            let was = named.streams s is (λ none. some (ap one.window_of same ∙ none)) in
            rw same (
              grind (arith, found.has_end entry_id no_entry es e (one.window_of (streams.stream xs s)), was.0),
              ap (λ (f : Entry). f.stream)
                  (found.at_end entry_id no_entry es e (one.window_of (streams.stream xs s)) was.0) ∙ was.1,
            )
        | inr lost ↦ let last : (new.id == s) ≡ true =
            grind (arith, found.has_end streams.id_of streams.no_stream xs new s, there, lost) in
            let same : new.id ≡ s = grind (arith, nat_tests, last) in
            rw (← same, its, own) (
              grind (arith, found.has_end entry_id no_entry es e e.id, here),
              ap (λ (f : Entry). f.stream) it ∙ stream,
            )
      ];
    }

named_first : (es : List Entry) (xs : List Stream) (kind rock n : ℕ) → IsAboveAll entry_id es n
    → IsAboveAll streams.id_of xs n → AreNamed es xs
    → AreNamed (es ++ new_entry n kind rock ∷ []) (xs ++ window_stream n ∷ [])
unfolding one.opened
named_first es xs kind rock n new above named =
    named_more es xs (new_entry n kind rock) (window_stream n) (not_there es n n new (omega arith))
    (no_stream_yet xs n (n + 1) above (omega arith)) refl refl named

named_pair : (es : List Entry) (xs : List Stream) (kind rock n : ℕ) → IsAboveAll entry_id es n
    → IsAboveAll streams.id_of xs n → AreNamed es xs
    → AreNamed ((es ++ new_entry n kind rock ∷ []) ++ new_entry (n + 2) pair_window 0 ∷ [])
    ((xs ++ window_stream n ∷ []) ++ window_stream (n + 2) ∷ [])
unfolding one.opened
named_pair es xs kind rock n new above named =
    let e = new_entry n kind rock in
    let s = window_stream n in
    let other : (n == n + 2) ≡ false = grind (arith, nat_tests) in
    let other' : (n + 1 == n + 2 + 1) ≡ false = grind (arith, nat_tests) in
    let no_window = not_there es n (n + 2) new (omega arith) in
    let no_stream = no_stream_yet xs n (n + 2 + 1) above (omega arith) in
    named_more (es ++ e ∷ []) (xs ++ s ∷ []) (new_entry (n + 2) pair_window 0) (window_stream (n + 2))
    (grind (arith, found.has_end entry_id no_entry es e (n + 2), no_window, other))
    (grind (arith, found.has_end streams.id_of streams.no_stream xs s (n + 2 + 1), no_stream, other')) refl refl
    (named_first es xs kind rock n new above named)

pub named_opened : (f : FlatWindows) (xs : List Stream) (split method size kind rock n : ℕ) → IsNewId f n
    → IsAboveAll streams.id_of xs n → AreNamed f.entries xs
    → AreNamed (with_new_window f split method size kind rock n).entries (with_streams xs split n)
unfolding with_new_window
named_opened f xs split method size kind rock n new above named = elim (split == 0) as (λ b.
    AreNamed (fitted (if b then rooted f kind rock n else split_by f split method size kind rock n)).entries
    (if b then xs ++ window_stream n ∷ [] else (xs ++ window_stream n ∷ []) ++ window_stream (n + 2) ∷ [])) [
      | true ↦ named_first f.entries xs kind rock n new.entries above named
      | false ↦ named_pair f.entries xs kind rock n new.entries above named
    ]

-- ---- windows are closed

among_ids : (es : List Entry) (win : ℕ)
    → list_any (λ (other : ℕ). other == win) (map entry_id es) ≡ objects.has entry_id es win
among_ids [] win = refl
among_ids (e ∷ es) win = ap (λ (b : Bool). e.id == win || b) (among_ids es win)

-- an identifier among those of the windows that are chosen
chosen_among : (ids : List ℕ) (es : List Entry) (win : ℕ)
    → list_any (λ (other : ℕ). other == win) (map entry_id (chosen ids es))
    ≡ (is_among ids win && objects.has entry_id es win)
chosen_among ids es win =
    among_ids (chosen ids es) win ∙ found.has_chosen entry_id no_entry (λ (id : ℕ). is_among ids id) es win

has_staying : (stays : Stream → Bool) (xs : List Stream) (s : ℕ) → streams.has xs s ≡ true
    → stays (streams.stream xs s) ≡ true → streams.has (filter stays xs) s ≡ true
unfolding objects.at
has_staying stays [] s there on = there
has_staying stays (x ∷ xs) s there on = grind (arith, nat_tests, has_staying stays xs s, there, on)

staying : (stays : Stream → Bool) (xs : List Stream) (s : ℕ) → AreRising streams.id_of xs
    → streams.has (filter stays xs) s ≡ true → stays (streams.stream xs s) ≡ true
unfolding objects.at
staying stays [] s up there = absurd (cc)
staying stays (x ∷ xs) s up there =
    grind (
      arith,
      nat_tests,
      staying stays xs s up.1,
      found.has_filter streams.id_of streams.no_stream stays xs s,
      found.has_below streams.id_of streams.no_stream xs x.id s up.0,
      there,
    )

split_and : (goes there : Bool) → (not goes && there) ≡ true → (goes ≡ false) × (there ≡ true)
split_and true there both = absurd (cc)
split_and false there both = (refl, both)

not_chosen : (goes there among : Bool) → among ≡ (goes && there) → there ≡ true → not among ≡ true → goes ≡ false
not_chosen true true among is there on = absurd (let e : among ≡ true = is in cc)
not_chosen true false among is there on = absurd (cc)
not_chosen false there' among is there on = refl

named_left : (es : List Entry) (xs : List Stream) (ids : List ℕ) (n : ℕ) → AreLinked es xs n → AreNamed es xs
    → AreNamed (filter (λ e. not (is_among ids e.id)) es) (streams.without_windows xs (map entry_id (chosen ids es)))
named_left es xs ids n linked named =
    let wins = map entry_id (chosen ids es) in
    let stays = λ (s : Stream). not (list_any (λ (win : ℕ). win == one.window_of s) wins) in
    let fs = filter (λ e. not (is_among ids e.id)) es in
    let kept : (win : ℕ) → objects.has entry_id fs win ≡ (not (is_among ids win) && objects.has entry_id es win) =
    λ win. found.has_chosen entry_id no_entry (λ (id : ℕ). not (is_among ids id)) es win in
    let same : (win : ℕ) → is_among ids win ≡ false → window_entry fs win ≡ window_entry es win =
    λ win off. rw (found.at_chosen entry_id no_entry (λ (id : ℕ). not (is_among ids id)) es win, off) refl in
    record {
      windows = λ win there.
          let both = split_and (is_among ids win) (objects.has entry_id es win) (sym (kept win) ∙ there) in
          let was = named.windows win both.1 in
          let off : list_any (λ (other : ℕ). other == win) wins ≡ false =
          chosen_among ids es win ∙ rw both.0 refl in
          let t = (window_entry es win).stream in
          let left : streams.has (filter stays xs) t ≡ true =
          has_staying stays xs t was.0
          (ap (λ (w : ℕ). not (list_any (λ (other : ℕ). other == w) wins)) was.1 ∙ rw off refl) in
          rw (same win both.0) (
            left,
            ap one.window_of (found.at_filter streams.id_of streams.no_stream stays xs t linked.rises left) ∙ was.1,
          );
      streams = λ s there some.
          let it = found.at_filter streams.id_of streams.no_stream stays xs s linked.rises there in
          let was_there = found.has_filter streams.id_of streams.no_stream stays xs s there in
          let was = named.streams s was_there (λ none. some (ap one.window_of it ∙ none)) in
          let win = one.window_of (streams.stream xs s) in
          let on : stays (streams.stream xs s) ≡ true = staying stays xs s linked.rises there in
          let apart : is_among ids win ≡ false =
          not_chosen (is_among ids win) (objects.has entry_id es win)
          (list_any (λ (other : ℕ). other == win) wins) (chosen_among ids es win) was.0 on in
          rw it (
            kept win ∙ rw (apart, was.0) refl,
            ap (λ (e : Entry). e.stream) (same win apart) ∙ was.1,
          );
    }

pub named_closed : (f : FlatWindows) (xs : List Stream) (win n : ℕ) (wins : List ℕ) → wins ≡ gone f win
    → AreLinked f.entries xs n → AreNamed f.entries xs
    → AreNamed (window_closed f win).entries (streams.without_windows xs wins)
unfolding window_closed
named_closed f xs win n wins is linked named =
    let ids = leaving f.tree win in
    rw is (named_forgotten (map (λ (e : Entry). e.stream) (chosen ids f.entries))
    (filter (λ e. not (is_among ids e.id)) f.entries)
    (streams.without_windows xs (map entry_id (chosen ids f.entries))) (named_left f.entries xs ids n linked named))

-- ---- windows and streams after a change, or after want of memory

pub record AreKept (f : FlatWindows) (xs : List Stream) (n : ℕ) : Type 0 where
  pub windows : IsNewId f n
  pub streams : IsAboveAll streams.id_of xs n
  pub links : AreLinked f.entries xs n
  pub named : AreNamed f.entries xs

pub lost : (f : FlatWindows) (xs : List Stream) (n : ℕ) → (f ≡ no_windows 1 1) × (xs ≡ []) → 0 < n → AreKept f xs n
lost f xs n none some = record {
  windows = rw none.0 (none_new 1 1 n);
  streams = rw none.1 tt;
  links = rw (none.0, none.1) (linked_none n some);
  named = rw (none.0, none.1) named_none;
}

pub arranged_or_lost : {A E : Type 0} (r : Result A E) (f now left : FlatWindows) (xs ys : List Stream)
    (win method size key n : ℕ) → AreKept f xs n
    → OnOk r (now ≡ arranged f win method size key) → OnOk r ((left ≡ now) × (ys ≡ xs))
    → OnErr r ((left ≡ no_windows 1 1) × (ys ≡ [])) → AreKept left ys n
arranged_or_lost (Ok x) f now left xs ys win method size key n kept made same none = record {
  windows = rw (same.0, made) (arranged_new f win method size key n kept.windows);
  streams = rw same.1 kept.streams;
  links = rw (same.0, same.1, made, entries_arranged f win method size key) kept.links;
  named = rw (same.0, same.1, made, entries_arranged f win method size key) kept.named;
}
arranged_or_lost (Err e) f now left xs ys win method size key n kept made same none =
    lost left ys n none kept.links.begun
