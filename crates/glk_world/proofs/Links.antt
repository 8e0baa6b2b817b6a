-- What keeps chains of echo streams from coming back to where they were.
use Rattle.std.proofs.Common.{◌≡◌, ◌<◌, ◌≤◌, ◌+◌, ◌==◌, ◌⊎◌, inl, inr, ℕ, Bool, true, false, not, if◌then◌else◌, Option}
use Rattle.std.proofs.Common.{Some, None, List, [], ◌∷◌, ◌++◌, map, refl, sym, ◌∙◌, ap}
use Rattle.std.proofs.Common.{arith}
use Rattle.std.specs.List.{filter, list_any}
use Rattle.std.proofs.lemmas.Bool.Decides.{nat_tests}
use Rattle.glk_objects.specs.Objects as objects
use Rattle.glk_objects.specs.Objects.{IsAboveAll, IsBelowAll}
use Rattle.glk_objects.proofs.Places.{id_at}
use Rattle.glk_objects.proofs.Rising.{below_end, below_without, below_filter, below_map, rises_end, rises_without}
use Rattle.glk_objects.proofs.Rising.{rises_filter}
use Rattle.glk_objects.proofs.Above.{above_more, above_end, at_absent}
use Rattle.glk_streams.specs.declared.kinds.Stream.{Stream}
use Rattle.glk_streams.specs.declared.kinds.StreamKind.{StreamKind}
use Rattle.glk_streams.specs.declared.kinds.StreamKind.TheVariants as kinds
use Rattle.glk_streams.specs.Stream as one
use Rattle.glk_streams.specs.Streams as streams
use Rattle.glk_windows.specs.declared.entries.Entry.{Entry}
use Rattle.glk_windows.specs.Tree.{is_among}
use Rattle.glk_windows.specs.Constants.{pair_window}
use Rattle.glk_windows.specs.Windows.{FlatWindows, entry_id, no_entry, window_entry}
use Rattle.glk_windows.specs.Windows.{grid_at, last_given, IsNewId}
use Rattle.glk_windows.specs.declared.grid.Grid.{Grid}
use Rattle.glk_windows.specs.Grids as grids
use Rattle.glk_windows.specs.Changes.{fitted, new_entry, rooted, split_by, with_new_window, leaving, chosen, forgetting}
use Rattle.glk_windows.specs.Changes.{window_closed, with_grid_of, cleared_in, moved_in, allows_arrangement}
use Rattle.glk_windows.specs.Changes.{arranged_tree}
use Rattle.glk_windows.specs.Changes.{arranged}
use Rattle.glk_windows.proofs.Placing.{forgetting_id, forgetting_none}
use Rattle.glk_world.specs.Calls.{window_stream, with_streams}
use Rattle.glk_world.specs.Chains.{echo_in, EchoesBelow, AreLinked}
use Rattle.glk_objects.proofs.Found as found
use Rattle.glk_world.proofs.Ranks.{IsEdge, ranked_within, with_edge, put_id, put_window}
use Rattle.glk_world.proofs.Alone.{puts_id, puts_window}

pub there_or_not : (b : Bool) → (b ≡ true) ⊎ (b ≡ false)
there_or_not true = inl refl
there_or_not false = inr refl

-- 0 is no stream
pub no_zero : (xs : List Stream) (e : ℕ) → IsBelowAll streams.id_of xs 0 → e ≡ 0 → streams.has xs e ≡ true → ⊥
no_zero xs e first is_zero there = let more = found.has_below streams.id_of streams.no_stream xs 0 e first there in
    omega (arith, more, is_zero)

echoes_more : (es : List Entry) (n m : ℕ) → EchoesBelow es n → n ≤ m → EchoesBelow es m
echoes_more [] n m below le = tt
echoes_more (e ∷ es) n m below le = (let less = below.0 in omega (arith, less), echoes_more es n m below.1 le)

echo_below : (es : List Entry) (n win : ℕ) → EchoesBelow es n → 0 < n → (window_entry es win).echo < n
unfolding objects.at
echo_below [] n win below some = some
echo_below (e ∷ es) n win below some = grind (arith, nat_tests, echo_below es n win below.1 some, below.0)

-- the echo stream of any stream is below the next identifier
echo_in_below : (es : List Entry) (xs : List Stream) (n s : ℕ) → EchoesBelow es n → 0 < n → echo_in es xs s < n
echo_in_below es xs n s below some =
    elim (one.window_of (streams.stream xs s) == 0) as
    (λ b. (if b then 0 else (window_entry es (one.window_of (streams.stream xs s))).echo) < n) [
      | true ↦ some
      | false ↦ echo_below es n (one.window_of (streams.stream xs s)) below some
    ]

-- ---- identifiers go on

pub linked_more : (es : List Entry) (xs : List Stream) (n m : ℕ) → AreLinked es xs n → n ≤ m → AreLinked es xs m
linked_more es xs n m linked le = record {
  ranked = linked.ranked;
  echoes = echoes_more es n m linked.echoes le;
  rises = linked.rises;
  first = linked.first;
  windows = linked.windows;
  begun = (let some = linked.begun in omega (arith, some));
}

-- ---- a stream takes another's place

pub linked_with : (es : List Entry) (xs : List Stream) (new : Stream) (n : ℕ) → streams.has xs new.id ≡ true
    → one.window_of new ≡ one.window_of (streams.stream xs new.id)
    → AreLinked es xs n → AreLinked es (streams.with_stream xs new) n
linked_with es xs new n known same linked = record {
  ranked = (
    linked.ranked.0,
    ranked_within es es xs (streams.with_stream xs new) linked.ranked.0
        (λ s there echo. with_edge es xs new s known same there echo) linked.ranked.1,
  );
  echoes = linked.echoes;
  rises = found.rises_with streams.id_of streams.no_stream xs new linked.rises;
  first = found.below_with streams.id_of streams.no_stream xs new 0 linked.first;
  windows = linked.windows;
  begun = linked.begun;
}

-- ---- streams are gone, and windows

window_same : (es fs : List Entry) (xs ys : List Stream) (s : ℕ) → streams.stream ys s ≡ streams.stream xs s
    → ((win : ℕ) → ((window_entry fs win).echo ≡ 0) ⊎ ((window_entry fs win).echo ≡ (window_entry es win).echo))
    → (echo_in fs ys s ≡ 0) ⊎ (echo_in fs ys s ≡ echo_in es xs s)
window_same es fs xs ys s same fewer = rw same (elim (one.window_of (streams.stream xs s) == 0) as (λ b.
    ((if b then 0 else (window_entry fs (one.window_of (streams.stream xs s))).echo) ≡ 0)
    ⊎ ((if b then 0 else (window_entry fs (one.window_of (streams.stream xs s))).echo)
    ≡ (if b then 0 else (window_entry es (one.window_of (streams.stream xs s))).echo))) [
      | true ↦ inl refl
      | false ↦ fewer (one.window_of (streams.stream xs s))
    ])

-- where streams and echo streams are fewer
fewer_edge : (es fs : List Entry) (xs ys : List Stream) (s : ℕ) → IsBelowAll streams.id_of ys 0
    → ((t : ℕ) → streams.has ys t ≡ true → streams.has xs t ≡ true)
    → ((t : ℕ) → streams.has ys t ≡ true → streams.stream ys t ≡ streams.stream xs t)
    → ((win : ℕ) → ((window_entry fs win).echo ≡ 0) ⊎ ((window_entry fs win).echo ≡ (window_entry es win).echo))
    → streams.has ys s ≡ true → streams.has ys (echo_in fs ys s) ≡ true → IsEdge es fs xs ys s
fewer_edge es fs xs ys s first were same fewer there echo = elim (window_same es fs xs ys s (same s there) fewer) [
  | inl none ↦ absurd (no_zero ys (echo_in fs ys s) first none echo)
  | inr e ↦ record {
    from = were s there;
    to = sym (ap (λ (t : ℕ). streams.has xs t) e) ∙ were (echo_in fs ys s) echo;
    same = e;
  }
]

forgetting_echo : (gone : List ℕ) (e : Entry) → ((forgetting gone e).echo ≡ 0) ⊎ ((forgetting gone e).echo ≡ e.echo)
unfolding forgetting
forgetting_echo gone e =
    elim (is_among gone e.echo) as
    (λ b. ((if b then record e { echo = 0 } else e).echo ≡ 0)
    ⊎ ((if b then record e { echo = 0 } else e).echo ≡ e.echo)) [ true ↦ inl refl | false ↦ inr refl ]

forgotten_at : (gone : List ℕ) (es : List Entry) (win : ℕ)
    → window_entry (map (forgetting gone) es) win ≡ forgetting gone (window_entry es win)
forgotten_at gone es win =
    found.at_map entry_id no_entry (forgetting gone) (forgetting_id gone) (forgetting_none gone) es win

forgotten_echo : (gone : List ℕ) (es : List Entry) (win : ℕ) → ((window_entry (map (forgetting gone) es) win).echo ≡ 0)
    ⊎ ((window_entry (map (forgetting gone) es) win).echo ≡ (window_entry es win).echo)
forgotten_echo gone es win = rw (forgotten_at gone es win) (forgetting_echo gone (window_entry es win))

echoes_forgotten : (gone : List ℕ) (es : List Entry) (n : ℕ) → 0 < n → EchoesBelow es n
    → EchoesBelow (map (forgetting gone) es) n
unfolding forgetting
echoes_forgotten gone [] n some below = tt
echoes_forgotten gone (e ∷ es) n some below = (
  elim (is_among gone e.echo) as (λ b. (if b then record e { echo = 0 } else e).echo < n) [
    | true ↦ some
    | false ↦ below.0
  ],
  echoes_forgotten gone es n some below.1,
)

echoes_chosen : (test : Entry → Bool) (es : List Entry) (n : ℕ) → EchoesBelow es n → EchoesBelow (filter test es) n
echoes_chosen test [] n below = tt
echoes_chosen test (e ∷ es) n below =
    elim (test e) as (λ b. EchoesBelow (if b then e ∷ filter test es else filter test es) n) [
      | true ↦ (below.0, echoes_chosen test es n below.1)
      | false ↦ echoes_chosen test es n below.1
    ]

-- a stream is closed
pub linked_without : (es : List Entry) (xs : List Stream) (id n : ℕ) → AreLinked es xs n
    → AreLinked (map (forgetting (id ∷ [])) es) (objects.all_but streams.id_of xs id) n
linked_without es xs id n linked = record {
  ranked = (
    linked.ranked.0,
    ranked_within es (map (forgetting (id ∷ [])) es) xs (objects.all_but streams.id_of xs id) linked.ranked.0
        (λ s there echo. fewer_edge es (map (forgetting (id ∷ [])) es) xs (objects.all_but streams.id_of xs id) s
        (below_without streams.id_of xs 0 id linked.first)
        (λ t is. found.has_without streams.id_of streams.no_stream xs id t is)
        (λ t is. found.at_without streams.id_of streams.no_stream xs id t linked.rises is)
        (forgotten_echo (id ∷ []) es) there echo) linked.ranked.1,
  );
  echoes = echoes_forgotten (id ∷ []) es n linked.begun linked.echoes;
  rises = rises_without streams.id_of xs id linked.rises;
  first = below_without streams.id_of xs 0 id linked.first;
  windows = below_map entry_id (forgetting (id ∷ [])) (forgetting_id (id ∷ [])) es 0 linked.windows;
  begun = linked.begun;
}

-- windows are closed, and their streams
left_echo : (gone ids : List ℕ) (es : List Entry) (win : ℕ)
    → ((window_entry (map (forgetting gone) (filter (λ e. not (is_among ids e.id)) es)) win).echo ≡ 0)
    ⊎ ((window_entry (map (forgetting gone) (filter (λ e. not (is_among ids e.id)) es)) win).echo
    ≡ (window_entry es win).echo)
left_echo gone ids es win =
    rw (
      forgotten_at gone (filter (λ e. not (is_among ids e.id)) es) win,
      found.at_chosen entry_id no_entry (λ (id : ℕ). not (is_among ids id)) es win,
    )
    (elim (not (is_among ids win)) as
    (λ b. ((forgetting gone (if b then window_entry es win else no_entry)).echo ≡ 0)
    ⊎ ((forgetting gone (if b then window_entry es win else no_entry)).echo ≡ (window_entry es win).echo)) [
      | true ↦ forgetting_echo gone (window_entry es win)
      | false ↦ inl (ap (λ (e : Entry). e.echo) (forgetting_none gone))
    ])

pub linked_closed : (es : List Entry) (xs : List Stream) (gone ids wins : List ℕ) (n : ℕ) → AreLinked es xs n
    → AreLinked (map (forgetting gone) (filter (λ e. not (is_among ids e.id)) es)) (streams.without_windows xs wins) n
linked_closed es xs gone ids wins n linked =
    let test = λ (s : Stream). not (list_any (λ (win : ℕ). win == one.window_of s) wins) in
    let fs = map (forgetting gone) (filter (λ e. not (is_among ids e.id)) es) in
    record {
      ranked = (
        linked.ranked.0,
        ranked_within es fs xs (filter test xs) linked.ranked.0
            (λ s there echo. fewer_edge es fs xs (filter test xs) s
            (below_filter streams.id_of test xs 0 linked.first)
            (λ t is. found.has_filter streams.id_of streams.no_stream test xs t is)
            (λ t is. found.at_filter streams.id_of streams.no_stream test xs t linked.rises is)
            (left_echo gone ids es) there echo) linked.ranked.1,
      );
      echoes = echoes_forgotten gone (filter (λ e. not (is_among ids e.id)) es) n linked.begun
          (echoes_chosen (λ e. not (is_among ids e.id)) es n linked.echoes);
      rises = rises_filter streams.id_of test xs linked.rises;
      first = below_filter streams.id_of test xs 0 linked.first;
      windows = below_map entry_id (forgetting gone) (forgetting_id gone) (filter (λ e. not (is_among ids e.id)) es) 0
          (below_filter entry_id (λ e. not (is_among ids e.id)) es 0 linked.windows);
      begun = linked.begun;
    }

-- ---- a stream is new, and its window if it has one: neither is or has an echo stream

-- `win` is the new stream's window, 0 for none
new_edge : (es fs : List Entry) (xs : List Stream) (new : Stream) (s : ℕ) → AreLinked es xs new.id
    → IsAboveAll streams.id_of xs new.id → ((t : ℕ) → echo_in es xs t < new.id)
    → ((t : ℕ) → streams.has xs t ≡ true → echo_in fs (xs ++ new ∷ []) t ≡ echo_in es xs t)
    → echo_in fs (xs ++ new ∷ []) new.id ≡ 0
    → streams.has (xs ++ new ∷ []) s ≡ true → streams.has (xs ++ new ∷ []) (echo_in fs (xs ++ new ∷ []) s) ≡ true
    → IsEdge es fs xs (xs ++ new ∷ []) s
new_edge es fs xs new s linked above below old none there echo =
    let first : IsBelowAll streams.id_of (xs ++ new ∷ []) 0 =
    below_end streams.id_of xs 0 new linked.first linked.begun in
    elim (there_or_not (streams.has xs s)) [
      | inl is ↦
          let e = old s is in
          let less = below s in
          let other : new.id == echo_in es xs s ≡ false = grind (arith, nat_tests, less) in
          let to : streams.has xs (echo_in es xs s) ≡ true =
          grind (
            arith,
            nat_tests,
            found.has_end streams.id_of streams.no_stream xs new (echo_in es xs s),
            ap (λ (t : ℕ). streams.has (xs ++ new ∷ []) t) e,
            echo,
            other,
          ) in
          record { from = is; to = to; same = e }
      | inr gone ↦ let here : new.id ≡ s =
          grind (arith, nat_tests, found.has_end streams.id_of streams.no_stream xs new s, there, gone) in
          let zero : echo_in fs (xs ++ new ∷ []) s ≡ 0 = rw (← here) none in
          absurd (no_zero (xs ++ new ∷ []) (echo_in fs (xs ++ new ∷ []) s) first zero echo)
    ]

new_falls_nowhere : (es : List Entry) (xs : List Stream) (new : Stream) → IsAboveAll streams.id_of xs new.id
    → (if one.window_of new == 0 then 0 else (window_entry es (one.window_of new)).echo) ≡ 0
    → echo_in es (xs ++ new ∷ []) new.id ≡ 0
new_falls_nowhere es xs new above none =
    let gone : streams.has xs new.id ≡ false = elim (there_or_not (streams.has xs new.id)) [
      | inl is ↦ absurd (let less = found.has_above streams.id_of streams.no_stream xs new.id new.id above is in
          omega (arith, less))
      | inr not_there ↦ not_there
    ] in
    let it : streams.stream (xs ++ new ∷ []) new.id ≡ new =
    grind (arith, nat_tests, found.at_new streams.id_of streams.no_stream xs new new.id gone) in
    rw it none

pub linked_stream : (es : List Entry) (xs : List Stream) (new : Stream) (n : ℕ) → AreLinked es xs n
    → IsAboveAll streams.id_of xs n → n ≤ new.id
    → (if one.window_of new == 0 then 0 else (window_entry es (one.window_of new)).echo) ≡ 0
    → AreLinked es (xs ++ new ∷ []) (new.id + 1)
linked_stream es xs new n linked above le none =
    let known = linked_more es xs n new.id linked le in
    let higher = above_more streams.id_of xs n new.id above le in
    record {
      ranked = (
        linked.ranked.0,
        ranked_within es es xs (xs ++ new ∷ []) linked.ranked.0 (λ s there echo. new_edge es es xs new s known higher
            (λ t. echo_in_below es xs new.id t known.echoes known.begun)
            (λ t is. ap (λ (it : Stream). if one.window_of it == 0 then 0
            else (window_entry es (one.window_of it)).echo)
            (found.at_end streams.id_of streams.no_stream xs new t is))
            (new_falls_nowhere es xs new higher none) there echo) linked.ranked.1,
      );
      echoes = echoes_more es n (new.id + 1) linked.echoes (omega arith);
      rises = rises_end streams.id_of xs new linked.rises higher;
      first = below_end streams.id_of xs 0 new linked.first known.begun;
      windows = linked.windows;
      begun = omega arith;
    }

-- a window is new
entry_end_echo : (es : List Entry) (e : Entry) (win : ℕ) → e.echo ≡ 0
    → (window_entry (es ++ e ∷ []) win).echo ≡ (window_entry es win).echo
unfolding objects.at
entry_end_echo [] e win none = elim (e.id == win) as (λ b. (if b then e else no_entry).echo ≡ 0) [
  | true ↦ none
  | false ↦ refl
]
entry_end_echo (x ∷ es) e win none =
    elim (x.id == win) as (λ b. (if b then x else window_entry (es ++ e ∷ []) win).echo ≡
    (if b then x else window_entry es win).echo) [ true ↦ refl | false ↦ entry_end_echo es e win none ]

echo_in_end : (es : List Entry) (e : Entry) (xs : List Stream) (s : ℕ) → e.echo ≡ 0
    → echo_in (es ++ e ∷ []) xs s ≡ echo_in es xs s
echo_in_end es e xs s none = rw (entry_end_echo es e (one.window_of (streams.stream xs s)) none) refl

echoes_end : (es : List Entry) (e : Entry) (n : ℕ) → EchoesBelow es n → e.echo < n → EchoesBelow (es ++ e ∷ []) n
echoes_end [] e n below less = (less, tt)
echoes_end (x ∷ es) e n below less = (below.0, echoes_end es e n below.1 less)

pub linked_entry : (es : List Entry) (e : Entry) (xs : List Stream) (n : ℕ) → e.echo ≡ 0 → 0 < e.id → AreLinked es xs n
    → AreLinked (es ++ e ∷ []) xs n
linked_entry es e xs n none some linked = record {
  ranked = (
    linked.ranked.0,
    ranked_within es (es ++ e ∷ []) xs xs linked.ranked.0
        (λ s there echo. let same = echo_in_end es e xs s none in record {
          from = there;
          to = sym (ap (λ (t : ℕ). streams.has xs t) same) ∙ echo;
          same = same;
        }) linked.ranked.1,
  );
  echoes = echoes_end es e n linked.echoes (let begun = linked.begun in omega (arith, none, begun));
  rises = linked.rises;
  first = linked.first;
  windows = below_end entry_id es 0 e linked.windows some;
  begun = linked.begun;
}

absent_echo : (es : List Entry) (n win : ℕ) → IsAboveAll entry_id es n → n ≤ win → (window_entry es win).echo ≡ 0
absent_echo es n win above le =
    let gone : objects.has entry_id es win ≡ false = elim (there_or_not (objects.has entry_id es win)) [
      | inl is ↦ absurd (let less = found.has_above entry_id no_entry es n win above is in omega (arith, less))
      | inr not_there ↦ not_there
    ] in
    ap (λ (e : Entry). e.echo) (at_absent entry_id no_entry es win gone)

window_stream_none : (es : List Entry) (win : ℕ) → (window_entry es win).echo ≡ 0
    → (if win == 0 then 0 else (window_entry es win).echo) ≡ 0
window_stream_none es win none = elim (win == 0) as (λ b. (if b then 0 else (window_entry es win).echo) ≡ 0) [
  | true ↦ refl
  | false ↦ none
]

linked_first : (es : List Entry) (xs : List Stream) (kind rock n : ℕ) → IsAboveAll entry_id es n
    → IsAboveAll streams.id_of xs n → AreLinked es xs n
    → AreLinked (es ++ new_entry n kind rock ∷ []) (xs ++ window_stream n ∷ []) (n + 1 + 1)
unfolding one.opened
linked_first es xs kind rock n new above linked =
    let es1 = es ++ new_entry n kind rock ∷ [] in
    let none : (window_entry es1 n).echo ≡ 0 =
    entry_end_echo es (new_entry n kind rock) n refl ∙ absent_echo es n n new (omega arith) in
    linked_stream es1 xs (window_stream n) n
    (linked_entry es (new_entry n kind rock) xs n refl linked.begun linked) above (omega arith)
    (window_stream_none es1 n none)

linked_pair : (es : List Entry) (xs : List Stream) (kind rock n : ℕ) → IsAboveAll entry_id es n
    → IsAboveAll streams.id_of xs n → AreLinked es xs n
    → AreLinked ((es ++ new_entry n kind rock ∷ []) ++ new_entry (n + 2) pair_window 0 ∷ [])
    ((xs ++ window_stream n ∷ []) ++ window_stream (n + 2) ∷ []) (n + 3 + 1)
unfolding one.opened
linked_pair es xs kind rock n new above linked =
    let es1 = es ++ new_entry n kind rock ∷ [] in
    let es2 = es1 ++ new_entry (n + 2) pair_window 0 ∷ [] in
    let xs1 = xs ++ window_stream n ∷ [] in
    let first = linked_first es xs kind rock n new above linked in
    let more = linked_entry es1 (new_entry (n + 2) pair_window 0) xs1 (n + 1 + 1) refl (omega arith) first in
    let above1 : IsAboveAll streams.id_of xs1 (n + 1 + 1) =
    above_end streams.id_of xs (window_stream n) (n + 1 + 1)
    (above_more streams.id_of xs n (n + 1 + 1) above (omega arith)) (omega arith) in
    let none : (window_entry es2 (n + 2)).echo ≡ 0 =
    entry_end_echo es1 (new_entry (n + 2) pair_window 0) (n + 2) refl
    ∙ entry_end_echo es (new_entry n kind rock) (n + 2) refl ∙ absent_echo es n (n + 2) new (omega arith) in
    let result : AreLinked es2 (xs1 ++ window_stream (n + 2) ∷ []) (n + 2 + 1 + 1) =
    linked_stream es2 xs1 (window_stream (n + 2)) (n + 1 + 1) more above1 (omega arith)
    (window_stream_none es2 (n + 2) none) in
    let same : n + 3 + 1 ≡ n + 2 + 1 + 1 = omega arith in
    rw same result

pub linked_opened : (f : FlatWindows) (xs : List Stream) (split method size kind rock n : ℕ) → IsNewId f n
    → IsAboveAll streams.id_of xs n → AreLinked f.entries xs n
    → AreLinked (with_new_window f split method size kind rock n).entries (with_streams xs split n)
    (last_given split n + 1)
unfolding with_new_window
linked_opened f xs split method size kind rock n new above linked = elim (split == 0) as (λ b.
    AreLinked (fitted (if b then rooted f kind rock n else split_by f split method size kind rock n)).entries
    (if b then xs ++ window_stream n ∷ [] else (xs ++ window_stream n ∷ []) ++ window_stream (n + 2) ∷ [])
    ((if b then n + 1 else n + 3) + 1)) [
      | true ↦ linked_first f.entries xs kind rock n new.entries above linked
      | false ↦ linked_pair f.entries xs kind rock n new.entries above linked
    ]

pub linked_left : (f : FlatWindows) (xs : List Stream) (win n : ℕ) (wins : List ℕ) → AreLinked f.entries xs n
    → AreLinked (window_closed f win).entries (streams.without_windows xs wins) n
unfolding window_closed
linked_left f xs win n wins linked =
    linked_closed f.entries xs (map (λ (e : Entry). e.stream) (chosen (leaving f.tree win) f.entries))
    (leaving f.tree win) wins n linked

pub linked_none : (n : ℕ) → 0 < n → AreLinked [] [] n
linked_none n some = record {
  ranked = (λ s. 0, record { falls = λ s there echo. absurd (cc) });
  echoes = tt;
  rises = tt;
  first = tt;
  windows = tt;
  begun = some;
}

-- a stream of memory or of a file is new
pub linked_own : (es : List Entry) (xs : List Stream) (id mode rock : ℕ) (kind : StreamKind) → AreLinked es xs id
    → IsAboveAll streams.id_of xs id → one.window_in kind ≡ 0
    → AreLinked es (xs ++ one.opened id kind mode rock ∷ []) (id + 1)
unfolding one.opened
linked_own es xs id mode rock kind linked above own =
    linked_stream es xs (one.opened id kind mode rock) id linked above (omega arith) (rw own refl)

-- a stream is put to, read from, or moved in
pub record IsAsNamed (s new : Stream) : Type 0 where
  pub id : new.id ≡ s.id
  pub window : one.window_of new ≡ one.window_of s

pub as_put : (s : Stream) (c : ℕ) → IsAsNamed s (one.after_put s c)
as_put s c = record { id = put_id s c; window = put_window s c }

pub as_puts : (s : Stream) (cs : List ℕ) → IsAsNamed s (one.after_puts s cs)
as_puts s cs = record { id = puts_id s cs; window = puts_window s cs }

pub as_got : (s : Stream) (got : Option (ℕ × ℕ)) → IsAsNamed s (one.after_get s got)
as_got s None = record { id = refl; window = refl }
as_got s (Some got) = record { id = refl; window = refl }

pub as_passed : (s : Stream) (position count : ℕ) → IsAsNamed s (one.passed s position count)
as_passed s position count = record { id = refl; window = refl }

moved_id : (s : Stream) (pos seek : ℕ) → (one.positioned s pos seek).id ≡ s.id
unfolding one.positioned
moved_id s pos seek = grind (arith, nat_tests)

moved_kind : (s : Stream) (pos seek : ℕ) → (one.positioned s pos seek).kind ≡ s.kind
unfolding one.positioned
moved_kind s pos seek = grind (arith, nat_tests)

pub as_moved : (s : Stream) (pos seek : ℕ) → IsAsNamed s (one.positioned s pos seek)
as_moved s pos seek = record { id = moved_id s pos seek; window = ap one.window_in (moved_kind s pos seek) }

-- a file is no window's
file_window : (kind : StreamKind) (file : List ℕ × List ℕ) → one.file_in kind ≡ Some file → one.window_in kind ≡ 0
file_window (kinds.Window win) file is = absurd (cc)
file_window (kinds.Memory at len wide) file is = refl
file_window (kinds.File name content form) file is = refl

pub as_taken : (s : Stream) (file : List ℕ × List ℕ) → one.file_in s.kind ≡ Some file
    → IsAsNamed s (one.without_file s)
as_taken s file is = record { id = refl; window = sym (file_window s.kind file is) }

pub linked_changed : (es : List Entry) (xs : List Stream) (s n : ℕ) (new : Stream) → streams.has xs s ≡ true
    → IsAsNamed (streams.stream xs s) new → AreLinked es xs n → AreLinked es (streams.with_stream xs new) n
linked_changed es xs s n new there same linked =
    let id : new.id ≡ s = same.id ∙ id_at streams.id_of streams.no_stream xs s there in
    linked_with es xs new n (rw id there) (rw id same.window) linked

-- what changes grids alone keeps the list of windows
entries_with : (f : FlatWindows) (win : ℕ) (g : Grid) → (with_grid_of f win g).entries ≡ f.entries
entries_with f win g =
    elim (objects.has grids.grid_id f.grids win) as
    (λ b. (if b then record f { grids = objects.with grids.grid_id f.grids g } else f).entries ≡ f.entries) [
      | true ↦ refl
      | false ↦ refl
    ]

pub entries_cleared : (f : FlatWindows) (win : ℕ) → (cleared_in f win).entries ≡ f.entries
unfolding cleared_in
entries_cleared f win = entries_with f win (grids.blanked (grid_at f.grids win))

pub entries_moved : (f : FlatWindows) (win x y : ℕ) → (moved_in f win x y).entries ≡ f.entries
unfolding moved_in
entries_moved f win x y = entries_with f win (record (grid_at f.grids win) { x = x; y = y })

pub entries_arranged : (f : FlatWindows) (win method size key : ℕ)
    → (arranged f win method size key).entries ≡ f.entries
unfolding arranged
entries_arranged f win method size key =
    elim (allows_arrangement f win method key) as
    (λ b. (if b then fitted (record f { tree = arranged_tree f win method size key }) else f).entries ≡ f.entries) [
      | true ↦ refl
      | false ↦ refl
    ]
