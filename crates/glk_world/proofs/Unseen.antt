-- A stream that takes no characters: what is put to it grows nowhere, and has no place in memory.
use Rattle.std.proofs.Common.{zero, suc, ◌≡◌, ◌+◌, ◌%◌, ◌^◌, ◌==◌, ◌||◌, not, ℕ, Bool, true, false, if◌then◌else◌, List, length}
use Rattle.std.proofs.Common.{refl, sym, ap, ◌∙◌, arith, IsTrue}
use Rattle.std.proofs.lemmas.Bool.Decides.{nat_tests}
use Rattle.glk_objects.specs.Objects.{IsBelowAll}
use Rattle.glk_objects.proofs.Places.{id_at}
use Rattle.glk_objects.proofs.Found.{has_with, at_with_here}
use Rattle.glk_streams.specs.declared.kinds.Stream.{Stream}
use Rattle.glk_streams.specs.declared.kinds.StreamKind.{StreamKind}
use Rattle.glk_streams.specs.declared.kinds.StreamKind.TheVariants as kinds
use Rattle.glk_streams.specs.Constants.{write_mode, read_write_mode, write_append_mode}
use Rattle.glk_streams.specs.Stream as one
use Rattle.glk_streams.specs.Streams as streams
use Rattle.glk_windows.specs.Constants.{text_buffer, text_grid}
use Rattle.glk_windows.specs.declared.entries.Entry.{Entry}
use Rattle.glk_windows.specs.Windows.{window_entry}
use Rattle.glk_world.specs.World.{Scene}
use Rattle.glk_world.specs.Putting.{window_of_stream, entry_of, stream_put, echo_of, put_of}
use Rattle.glk_world.specs.Putting.{stream_grows, grows_along, put_grows, places_of, takes_chars}
use Rattle.glk_world.proofs.Ranks.{nothing_along, put_id, put_window, stream_put_streams, stream_put_entries}
use Rattle.glk_world.proofs.Alone.{none_at_0, some_streams, put_alone, end_alone, window_places}

-- ---- what is put leaves a stream as open as it was

put_mode_in : (kind : StreamKind) (t : Stream) (c : ℕ) → (one.put_in kind t c).mode ≡ t.mode
put_mode_in (kinds.Window win) t c = refl
put_mode_in (kinds.Memory at len wide) t c = grind (arith, nat_tests)
put_mode_in (kinds.File name content form) t c = refl

put_mode : (s : Stream) (c : ℕ) → (one.after_put s c).mode ≡ s.mode
unfolding one.after_put
put_mode s c =
    elim (one.writable s) as
    (λ b. (if b then one.put_in s.kind (record s { written = (s.written + 1) % 2 ^ 32 }) c else s).mode ≡ s.mode) [
      | true ↦ put_mode_in s.kind (record s { written = (s.written + 1) % 2 ^ 32 }) c
      | false ↦ refl
    ]

-- whether a stream takes characters, by its window and its mode
abbrev pub takes_by : List Entry → ℕ → ℕ → Bool
takes_by entries win mode = let e = window_entry entries win in
    if win == 0 then (mode == write_mode || mode == read_write_mode || mode == write_append_mode)
    else e.kind == text_buffer || e.kind == text_grid || not (e.echo == 0)

abbrev pub takes_in : List Entry → List Stream → ℕ → Bool
takes_in entries all s =
    takes_by entries (one.window_of (streams.stream all s)) (streams.stream all s).mode

takes_put : (w : Scene) (s c : ℕ) → streams.has w.streams s ≡ true
    → takes_chars (stream_put w s c).0 s ≡ takes_chars w s
takes_put w s c there =
    let v = (stream_put w s c).0 in
    let es = w.windows.entries in
    let old = streams.stream w.streams s in
    let new = one.after_put old c in
    let id : new.id ≡ s = put_id old c ∙ id_at streams.id_of streams.no_stream w.streams s there in
    let here : streams.stream (streams.with_stream w.streams new) new.id ≡ new =
    at_with_here streams.id_of streams.no_stream w.streams new (rw id there) in
    let found : streams.stream (streams.with_stream w.streams new) s ≡ new =
    ap (λ (i : ℕ). streams.stream (streams.with_stream w.streams new) i) (sym id) ∙ here in
    ap (λ (fs : List Entry). takes_in fs v.streams s) (stream_put_entries w s c)
    ∙ ap (λ (xs : List Stream). takes_in es xs s) (stream_put_streams w s c)
    ∙ ap (λ (x : Stream). takes_by es (one.window_of x) x.mode) found
    ∙ ap (λ (win : ℕ). takes_by es win new.mode) (put_window old c)
    ∙ ap (λ (mode : ℕ). takes_by es (one.window_of old) mode) (put_mode old c)

-- ---- what a stream that takes none isn't

none_of : (a b c : Bool) → (a || b || c) ≡ false → (a ≡ false) × (c ≡ false)
none_of true b c h = absurd (cc)
none_of false true c h = absurd (cc)
none_of false false c h = (refl, h)

unseen_echo : (w : Scene) (s : ℕ) → takes_chars w s ≡ false → echo_of w s ≡ 0
unseen_echo w s none =
    let e = entry_of w s in
    elim (window_of_stream w s == 0) as (λ b. (if b then one.writable (streams.stream w.streams s)
    else e.kind == text_buffer || e.kind == text_grid || not (e.echo == 0)) ≡ false → (if b then 0 else e.echo) ≡ 0) [
      | true ↦ λ _. refl
      | false ↦ λ h.
          let apart = none_of (e.kind == text_buffer) (e.kind == text_grid) (not (e.echo == 0)) h in
          grind (arith, nat_tests, apart.1)
    ] none

short : (kind : StreamKind) (s : Stream) (c : ℕ) → one.writable s ≡ false → one.lengthens kind s c ≡ false
short (kinds.Window win) s c closed = refl
short (kinds.Memory at len wide) s c closed = refl
short (kinds.File name content form) s c closed = rw closed refl

unseen_here : (w : Scene) (s c : ℕ) → takes_chars w s ≡ false → stream_grows w s c ≡ false
unseen_here w s c none =
    let e = entry_of w s in
    let x = streams.stream w.streams s in
    elim (window_of_stream w s == 0) as (λ b. (if b then one.writable x
    else e.kind == text_buffer || e.kind == text_grid || not (e.echo == 0)) ≡ false
    → (if b then one.lengthens x.kind x c else e.kind == text_buffer) ≡ false) [
      | true ↦ λ h. short x.kind x c h
      | false ↦ λ h. (none_of (e.kind == text_buffer) (e.kind == text_grid) (not (e.echo == 0)) h).0
    ] none

nothing_grows : (n : ℕ) (w : Scene) (s c : ℕ) → streams.has w.streams s ≡ false → grows_along n w s c ≡ false
unfolding grows_along
nothing_grows zero w s c gone = refl
nothing_grows (suc n) w s c gone = rw gone refl

grows_step : (n : ℕ) (w : Scene) (s c : ℕ) → streams.has w.streams s ≡ true
    → grows_along (suc n) w s c ≡ (stream_grows w s c || grows_along n (stream_put w s c).0 (echo_of w s) c)
unfolding grows_along
grows_step n w s c there = rw there refl

-- ---- so nothing grows, it takes none later, and has no place in memory

pub unseen_grows : (w : Scene) (s c : ℕ) → IsBelowAll streams.id_of w.streams 0 → takes_chars w s ≡ false
    → put_grows w s c ≡ false
unseen_grows w s c first none =
    elim (streams.has w.streams s) as (λ b. streams.has w.streams s ≡ b → put_grows w s c ≡ false) [
      | false ↦ λ gone. nothing_grows (length w.streams) w s c gone
      | true ↦ λ there.
          let some = some_streams w.streams s there in
          let v = (stream_put w s c).0 in
          let gone : streams.has v.streams 0 ≡ false =
          ap (λ (all : List Stream). streams.has all 0) (stream_put_streams w s c)
          ∙ has_with streams.id_of streams.no_stream w.streams (one.after_put (streams.stream w.streams s) c) 0
          ∙ none_at_0 w.streams first in
          let rest : grows_along some.0 v (echo_of w s) c ≡ false =
          rw (unseen_echo w s none) (nothing_grows some.0 v 0 c gone) in
          rw some.1 (grows_step some.0 w s c there ∙ ap (λ (b : Bool). b || grows_along some.0 v (echo_of w s) c)
          (unseen_here w s c none) ∙ rest)
    ] refl

pub unseen_stays : (w : Scene) (s c : ℕ) → IsBelowAll streams.id_of w.streams 0 → takes_chars w s ≡ false
    → takes_chars (put_of w s c).0 s ≡ false
unseen_stays w s c first none =
    elim (streams.has w.streams s) as (λ b. streams.has w.streams s ≡ b → takes_chars (put_of w s c).0 s ≡ false) [
      | false ↦ λ gone. rw (nothing_along (length w.streams) w s c gone) none
      | true ↦ λ there. rw (put_alone w s c first there (unseen_echo w s none)) (takes_put w s c there ∙ none)
    ] refl

pub unseen_places : (w : Scene) (s count : ℕ) → IsBelowAll streams.id_of w.streams 0 → takes_chars w s ≡ false
    → (places_of w s count).count ≡ 0
unseen_places w s count first none =
    elim (window_of_stream w s == 0) as (λ b. (window_of_stream w s == 0) ≡ b → (places_of w s count).count ≡ 0) [
      | true ↦ λ own.
          let closed : one.writable (streams.stream w.streams s) ≡ false = rw own at none in
          rw (end_alone w s first (unseen_echo w s none), closed) refl
      | false ↦ λ own. window_places w s count first (unseen_echo w s none) (grind (arith, nat_tests, own))
    ] refl

pub not_so : (b : Bool) → IsTrue (not b) → b ≡ false
not_so true is = absurd (cc)
not_so false is = refl

-- the same as a call of putting says it
pub takes_grown : (w : Scene) (s c : ℕ) → IsBelowAll streams.id_of w.streams 0 → IsTrue (put_grows w s c)
    → IsTrue (takes_chars w s)
takes_grown w s c first grows =
    elim (takes_chars w s) as (λ b. takes_chars w s ≡ b → IsTrue b) [
      | true ↦ λ _. refl
      | false ↦ λ none. absurd (let never = unseen_grows w s c first none in cc)
    ] refl

pub stays_unseen : (w : Scene) (s c : ℕ) → IsBelowAll streams.id_of w.streams 0 → IsTrue (not (takes_chars w s))
    → IsTrue (not (takes_chars (put_of w s c).0 s))
stays_unseen w s c first none = rw (unseen_stays w s c first (not_so (takes_chars w s) none)) refl
