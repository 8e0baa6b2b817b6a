-- A stream with no echo stream: what is put to it goes nowhere else.
use Rattle.std.proofs.Common.{suc, ◌≡◌, ◌≢◌, ◌==◌, ◌||◌, ◌&&◌, not, ℕ, Bool, true, false, if◌then◌else◌, List, [], ◌∷◌}
use Rattle.std.proofs.Common.{◌++◌, length, refl, sym, ap, ◌∙◌, arith, ◌⊎◌, inl, inr, Result, Ok, Err, OnErr, OnOk}
use Rattle.std.proofs.Common.{IfOk, IsTrue, map}
use Rattle.std.proofs.lemmas.Bool.Decides.{nat_tests}
use Rattle.std.proofs.lemmas.List.{append-nil}
use Rattle.glk_objects.specs.Objects as objects
use Rattle.glk_objects.specs.Objects.{IsBelowAll}
use Rattle.glk_objects.proofs.Places.{id_at}
use Rattle.std.specs.Char.{encode_utf8}
use Rattle.std.specs.Str.{encode_utf8_all}
use Rattle.gx_words.specs.Constants.{line_feed}
use Rattle.glk_text.specs.Characters.{shown}
use Rattle.glk_streams.specs.declared.kinds.Stream.{Stream}
use Rattle.glk_streams.specs.declared.kinds.StreamKind.{StreamKind}
use Rattle.glk_streams.specs.declared.kinds.StreamKind.TheVariants as kinds
use Rattle.glk_streams.specs.Stream as one
use Rattle.glk_streams.specs.Streams as streams
use Rattle.glk_windows.specs.Constants.{text_buffer}
use Rattle.glk_screen.specs.Texts.{screen_put}
use Rattle.glk_world.specs.declared.views.View.{View}
use Rattle.glk_world.specs.declared.views.View.TheVariants as view
use Rattle.glk_world.specs.World.{Scene, FlatWorld, Said, after, silent, then_said, is_composed, is_wrapping, is_direct}
use Rattle.glk_world.specs.Putting.{said_char, buffer_put, window_of_stream, entry_of, is_plain_text, window_put}
use Rattle.glk_world.specs.Putting.{counted, stream_put, echo_of, put_along, put_of, put_chars, grows_along, put_grows}
use Rattle.glk_world.specs.Putting.{chain_end, places_of, no_places, flowed, fresh_after}
use Rattle.glk_objects.proofs.Found.{has_with, has_below, at_with_here, below_with}
use Rattle.glk_world.proofs.Ranks.{nothing_along, stream_put_streams, put_step, put_id, put_window, buffer_put_streams}
use Rattle.glk_world.proofs.Turns.{end_here}

-- ---- no stream has the identifier 0

pub none_at_0 : (all : List Stream) → IsBelowAll streams.id_of all 0 → streams.has all 0 ≡ false
none_at_0 all first = elim (streams.has all 0) as (λ b. streams.has all 0 ≡ b → b ≡ false) [
  | true ↦ λ there. absurd (omega (arith, has_below streams.id_of streams.no_stream all 0 0 first there))
  | false ↦ λ gone. refl
] refl

pub some_streams : (all : List Stream) (s : ℕ) → streams.has all s ≡ true → (n : ℕ) × (length all ≡ suc n)
some_streams [] s there = absurd (cc)
some_streams (x ∷ xs) s there = (length xs, refl)

said_alone : (said : Said) → then_said said (λ more. silent more) ≡ said
said_alone said = ap (λ (text : List ℕ). let both : Said = (said.0, text) in both) (append-nil said.1)

-- ---- one character

pub put_alone : (w : Scene) (s c : ℕ) → IsBelowAll streams.id_of w.streams 0 → streams.has w.streams s ≡ true
    → echo_of w s ≡ 0 → put_of w s c ≡ stream_put w s c
put_alone w s c first there echo =
    let some = some_streams w.streams s there in
    let gone : (more : Scene) → more.streams ≡ (counted w s c).streams → streams.has more.streams 0 ≡ false =
    λ (more : Scene) (same : more.streams ≡ (counted w s c).streams).
    ap (λ (all : List Stream). streams.has all 0) same
    ∙ has_with streams.id_of streams.no_stream w.streams (one.after_put (streams.stream w.streams s) c) 0
    ∙ none_at_0 w.streams first in
    let after = (stream_put w s c).0 in
    let rest : put_along some.0 after (echo_of w s) c ≡ silent after =
    rw echo (nothing_along some.0 after 0 c (gone after (stream_put_streams w s c))) in
    rw some.1 (put_step some.0 w s c there ∙ ap
    (λ (r : Said). let both : Said = (r.0, (stream_put w s c).1 ++ r.1) in both) rest
    ∙ said_alone (stream_put w s c))

pub end_alone : (w : Scene) (s : ℕ) → IsBelowAll streams.id_of w.streams 0 → echo_of w s ≡ 0 → chain_end w s ≡ s
end_alone w s first echo = end_here w (length w.streams) s (rw echo (none_at_0 w.streams first))

-- ---- a window's stream has no places in memory

no_places_in : (kind : StreamKind) (position count : ℕ) → one.window_in kind ≢ 0
    → (one.places_in kind position count).count ≡ 0
no_places_in (kinds.Window win) position count some = refl
no_places_in (kinds.Memory at len wide) position count some = absurd (some refl)
no_places_in (kinds.File name content form) position count some = absurd (some refl)

pub window_places : (w : Scene) (s count : ℕ) → IsBelowAll streams.id_of w.streams 0 → echo_of w s ≡ 0
    → window_of_stream w s ≢ 0
    → (places_of w s count).count ≡ 0
unfolding one.next_places
window_places w s count first echo some =
    let stream = streams.stream w.streams s in
    rw (end_alone w s first echo)
    (elim (one.writable stream) as (λ b. (if b then one.next_places stream count else no_places).count ≡ 0) [
      | true ↦ no_places_in stream.kind stream.position count some
      | false ↦ refl
    ])

-- ---- some characters

pub puts_id : (s : Stream) (cs : List ℕ) → (one.after_puts s cs).id ≡ s.id
unfolding one.after_puts
puts_id s [] = refl
puts_id s (c ∷ cs) = puts_id (one.after_put s c) cs ∙ put_id s c

pub puts_window : (s : Stream) (cs : List ℕ) → one.window_of (one.after_puts s cs) ≡ one.window_of s
unfolding one.after_puts
puts_window s [] = refl
puts_window s (c ∷ cs) = puts_window (one.after_put s c) cs ∙ put_window s c

with_same : (all : List Stream) (s : ℕ) → streams.has all s ≡ true
    → streams.with_stream all (streams.stream all s) ≡ all
unfolding objects.with objects.at
with_same [] s there = absurd (cc)
with_same (x ∷ xs) s there =
    let t = streams.stream xs s in
    elim (x.id == s) as (λ b. (x.id == s) ≡ b → (b || streams.has xs s) ≡ true → streams.with_stream (x ∷ xs)
    (if b then x else t) ≡ x ∷ xs) [
      | true ↦ λ same there. let here : (x.id == x.id) ≡ true = grind (arith, nat_tests) in rw here refl
      | false ↦ λ other there.
          let id : t.id ≡ s = id_at streams.id_of streams.no_stream xs s there in
          let apart : (x.id == t.id) ≡ false = rw id other in
          rw apart (ap (λ (ys : List Stream). x ∷ ys) (with_same xs s there))
    ] refl there

with_twice : (all : List Stream) (a b : Stream) → a.id ≡ b.id
    → streams.with_stream (streams.with_stream all a) b ≡ streams.with_stream all b
unfolding objects.with
with_twice [] a b same = refl
with_twice (x ∷ xs) a b same = grind (arith, nat_tests, with_twice xs a b same)

abbrev pub all_counted : Scene → ℕ → List ℕ → Scene
all_counted w s cs = record w {
  streams = streams.with_stream w.streams (one.after_puts (streams.stream w.streams s) cs);
}

own_put : (w : Scene) (s c : ℕ) → window_of_stream w s ≡ 0 → stream_put w s c ≡ silent (counted w s c)
unfolding stream_put
own_put w s c none = rw none refl

own_echo : (w : Scene) (s : ℕ) → window_of_stream w s ≡ 0 → echo_of w s ≡ 0
own_echo w s none = rw none refl

puts_step : (w : Scene) (s c : ℕ) (cs : List ℕ)
    → put_chars w s (c ∷ cs) ≡ then_said (put_of w s c) (λ more. put_chars more s cs)
unfolding put_chars
puts_step w s c cs = refl

puts_end : (w : Scene) (s : ℕ) → put_chars w s [] ≡ silent w
unfolding put_chars
puts_end w s = refl

counted_more : (w : Scene) (s c : ℕ) (cs : List ℕ) → streams.has w.streams s ≡ true
    → all_counted (counted w s c) s cs ≡ all_counted w s (c ∷ cs)
unfolding one.after_puts
counted_more w s c cs there =
    let new = one.after_put (streams.stream w.streams s) c in
    let id : new.id ≡ s =
    put_id (streams.stream w.streams s) c ∙ id_at streams.id_of streams.no_stream w.streams s there in
    let here : streams.stream (streams.with_stream w.streams new) new.id ≡ new =
    at_with_here streams.id_of streams.no_stream w.streams new (rw id there) in
    let found : streams.stream (streams.with_stream w.streams new) s ≡ new =
    ap (λ (i : ℕ). streams.stream (streams.with_stream w.streams new) i) (sym id) ∙ here in
    let twice : streams.with_stream (streams.with_stream w.streams new) (one.after_puts new cs)
    ≡ streams.with_stream w.streams (one.after_puts new cs) =
    with_twice w.streams new (one.after_puts new cs) (sym (puts_id new cs)) in
    ap (λ (all : List Stream). let v : Scene = record w { streams = all } in v)
    (ap (λ (x : Stream). streams.with_stream (streams.with_stream w.streams new) (one.after_puts x cs)) found ∙ twice)

-- all that are put to a stream with no window change that stream alone
pub puts_alone : (w : Scene) (s : ℕ) (cs : List ℕ) → IsBelowAll streams.id_of w.streams 0
    → streams.has w.streams s ≡ true
    → window_of_stream w s ≡ 0 → put_chars w s cs ≡ silent (all_counted w s cs)
unfolding one.after_puts
puts_alone w s [] first there none =
    puts_end w s ∙ ap (λ (all : List Stream). let v : Scene = record w { streams = all } in silent v)
    (sym (with_same w.streams s there))
puts_alone w s (c ∷ cs) first there none =
    let new = one.after_put (streams.stream w.streams s) c in
    let v = counted w s c in
    let id : new.id ≡ s =
    put_id (streams.stream w.streams s) c ∙ id_at streams.id_of streams.no_stream w.streams s there in
    let here : streams.stream v.streams new.id ≡ new =
    at_with_here streams.id_of streams.no_stream w.streams new (rw id there) in
    let found : streams.stream v.streams s ≡ new = ap (λ (i : ℕ). streams.stream v.streams i) (sym id) ∙ here in
    let still : window_of_stream v s ≡ 0 = ap one.window_of found ∙ put_window (streams.stream w.streams s) c ∙ none in
    let there' : streams.has v.streams s ≡ true = has_with streams.id_of streams.no_stream w.streams new s ∙ there in
    let once : put_of w s c ≡ silent v = put_alone w s c first there (own_echo w s none) ∙ own_put w s c none in
    let rest = puts_alone v s cs (below_with streams.id_of streams.no_stream w.streams new 0 first) there' still in
    puts_step w s c cs
    ∙ ap (λ (said : Said). then_said said (λ more. put_chars more s cs)) once
    ∙ ap (λ (said : Said). let both : Said = (said.0, said.1) in both)
    (rest ∙ ap (λ (x : Scene). silent x) (counted_more w s c cs there))

kind_windowless : (kind : StreamKind) (position n : ℕ) → one.takes_bytes_in kind position n ≡ true
    → one.window_in kind ≡ 0
kind_windowless (kinds.Window win) position n room = absurd (cc)
kind_windowless (kinds.Memory at len wide) position n room = refl
kind_windowless (kinds.File name content form) position n room = refl

pub bytes_windowless : (s : Stream) (n : ℕ) → one.takes_bytes s n ≡ true → one.window_of s ≡ 0
unfolding one.takes_bytes
bytes_windowless s n room =
    kind_windowless s.kind s.position n
    (elim (one.writable s) as
    (λ b. (b && one.takes_bytes_in s.kind s.position n) ≡ true → one.takes_bytes_in s.kind s.position n ≡ true) [
      | true ↦ λ h. h
      | false ↦ λ h. absurd (cc)
    ] room)

-- ---- a text buffer window that has no echo stream

and_both : (a b : Bool) → (a && b) ≡ true → (a ≡ true) × (b ≡ true)
and_both true b h = (refl, h)
and_both false b h = absurd (cc)

not_true : (b : Bool) → not b ≡ true → b ≡ false
not_true true h = absurd (cc)
not_true false h = refl

pub record IsPlain (w : Scene) (s : ℕ) : Type 0 where
  pub there : streams.has w.streams s ≡ true
  pub own : (window_of_stream w s == 0) ≡ false
  pub text : ((entry_of w s).kind == text_buffer) ≡ true
  pub echo : (entry_of w s).echo ≡ 0

pub plain : (w : Scene) (s : ℕ) → is_plain_text w s ≡ true → IsPlain w s
plain w s h =
    let own = not (window_of_stream w s == 0) in
    let there = streams.has w.streams s in
    let text = (entry_of w s).kind == text_buffer in
    let all = and_both (there && own && text) ((entry_of w s).echo == 0) h in
    let texts = and_both (there && own) text all.0 in
    let owns = and_both there own texts.0 in
    record {
      there = owns.0;
      own = not_true (window_of_stream w s == 0) owns.1;
      text = texts.1;
      echo = grind (arith, nat_tests, all.1);
    }

plain_echo : (w : Scene) (s : ℕ) → IsPlain w s → echo_of w s ≡ 0
plain_echo w s is = rw is.own is.echo

-- of so many characters one is counted
pub counted_once : (new all : List Stream) (s c : ℕ)
    → ((cs : List ℕ) → length cs ≡ 1 → new ≡ streams.with_stream all (one.after_puts (streams.stream all s) cs))
    → new ≡ streams.with_stream all (one.after_put (streams.stream all s) c)
unfolding one.after_puts
counted_once new all s c is = is (c ∷ []) refl

-- a character comes to the text, or to the composed screen
pub plain_put : (w : Scene) (s c : ℕ) → IsBelowAll streams.id_of w.streams 0 → is_plain_text w s ≡ true
    → put_of w s c ≡ buffer_put (counted w s c) (window_of_stream w s) (shown c)
unfolding stream_put window_put
plain_put w s c first h =
    let is = plain w s h in
    rw (put_alone w s c first is.there (plain_echo w s is), is.own, is.text) refl

pub text_put : (w : FlatWorld) (s c : ℕ) → IsBelowAll streams.id_of w.scene.streams 0 → is_plain_text w.scene s ≡ true
    → after w (buffer_put (counted w.scene s c) (window_of_stream w.scene s) (shown c)) ≡ after w (put_of w.scene s c)
text_put w s c first h = ap (after w) (sym (plain_put w.scene s c first h))

pub text_places : (w : Scene) (s count : ℕ) → IsBelowAll streams.id_of w.streams 0 → is_plain_text w s ≡ true
    → (places_of w s count).count ≡ 0
text_places w s count first h =
    let is = plain w s h in
    window_places w s count first (plain_echo w s is) (grind (arith, nat_tests, is.own))

grows_plain : (n : ℕ) (w : Scene) (s c : ℕ) → IsPlain w s → grows_along (suc n) w s c ≡ true
unfolding grows_along
grows_plain n w s c is = rw (is.there, is.own, is.text) refl

pub text_grows : (w : Scene) (s c : ℕ) → is_plain_text w s ≡ true → put_grows w s c ≡ true
text_grows w s c h =
    let is = plain w s h in
    let some = some_streams w.streams s is.there in
    rw some.1 (grows_plain some.0 w s c is)

pub plain_there : (w : Scene) (s : ℕ) → is_plain_text w s ≡ true → streams.has w.streams s ≡ true
plain_there w s h = (plain w s h).there

pub plain_window : (w : Scene) (s : ℕ) → is_plain_text w s ≡ true → window_of_stream w s ≢ 0
plain_window w s h = let is = plain w s h in grind (arith, nat_tests, is.own)

-- the window of a stream that has counted a character, and whether it shows text
window_counted : (w : Scene) (s c : ℕ) → streams.has w.streams s ≡ true
    → window_of_stream (counted w s c) s ≡ window_of_stream w s
window_counted w s c there =
    let new = one.after_put (streams.stream w.streams s) c in
    let id : new.id ≡ s =
    put_id (streams.stream w.streams s) c ∙ id_at streams.id_of streams.no_stream w.streams s there in
    let here : streams.stream (streams.with_stream w.streams new) new.id ≡ new =
    at_with_here streams.id_of streams.no_stream w.streams new (rw id there) in
    let found : streams.stream (streams.with_stream w.streams new) s ≡ new =
    ap (λ (i : ℕ). streams.stream (streams.with_stream w.streams new) i) (sym id) ∙ here in
    ap one.window_of found ∙ put_window (streams.stream w.streams s) c

plain_counted : (w : Scene) (s c : ℕ) → is_plain_text w s ≡ true → is_plain_text (counted w s c) s ≡ true
plain_counted w s c h =
    rw (
      has_with streams.id_of streams.no_stream w.streams (one.after_put (streams.stream w.streams s) c) s,
      window_counted w s c (plain w s h).there,
    ) h

-- and so it is after a character
pub plain_stays : (w : Scene) (s c win d : ℕ) → is_plain_text w s ≡ true
    → is_plain_text (buffer_put (counted w s c) win d).0 s ≡ true
unfolding buffer_put
plain_stays w s c win d h =
    let v = counted w s c in
    elim (is_composed w) as
    (λ b. is_plain_text (if b then silent (record v { screen = screen_put v.screen win d }) else said_char v d).0 s
    ≡ true) [
      | true ↦ plain_counted w s c h
      | false ↦ plain_counted w s c h
    ]

pub window_stays : (w : Scene) (s c win d : ℕ) → is_plain_text w s ≡ true → win ≡ window_of_stream w s
    → win ≡ window_of_stream (buffer_put (counted w s c) win d).0 s
window_stays w s c win d h is =
    is ∙ sym (ap (λ (all : List Stream). one.window_of (streams.stream all s))
    (buffer_put_streams (counted w s c) win d) ∙ window_counted w s c (plain w s h).there)

place_with : (xs : List Stream) (new : Stream) (s : ℕ)
    → objects.object_place streams.id_of (streams.with_stream xs new) s ≡ objects.object_place streams.id_of xs s
unfolding objects.with objects.object_place
place_with [] new s = refl
place_with (x ∷ xs) new s = grind (arith, nat_tests, place_with xs new s)

pub place_stays : (w : Scene) (s c win d at : ℕ) → at ≡ objects.object_place streams.id_of w.streams s
    → at ≡ objects.object_place streams.id_of (buffer_put (counted w s c) win d).0.streams s
place_stays w s c win d at is =
    rw (buffer_put_streams (counted w s c) win d)
    (is ∙ sym (place_with w.streams (one.after_put (streams.stream w.streams s) c) s))

-- ---- characters that are text as they come

direct_text : (w : Scene) (v : View) → w.view ≡ v → is_direct v ≡ true
    → (is_composed w ≡ false) × (is_wrapping w ≡ false)
direct_text w view.Rows is on = (rw is refl, rw is refl)
direct_text w view.Plain is on = (rw is refl, rw is refl)
direct_text w view.Screen is on = absurd (cc)
direct_text w view.WrappedRows is on = absurd (cc)
direct_text w view.WrappedPlain is on = absurd (cc)

abbrev pub all_said : Scene → ℕ → List ℕ → Said
all_said w s cs =
    (record (all_counted w s cs) { fresh = fresh_after w.fresh cs }, encode_utf8_all (map shown cs))

abbrev char_said : Scene → ℕ → ℕ → Scene
char_said w s c = record (counted w s c) { fresh = shown c == line_feed }

direct_put : (w : Scene) (s c : ℕ) → is_direct w.view ≡ true → IsBelowAll streams.id_of w.streams 0
    → is_plain_text w s ≡ true → put_of w s c ≡ (char_said w s c, encode_utf8 (shown c))
unfolding buffer_put flowed
direct_put w s c on first h =
    let is = direct_text w w.view refl on in
    plain_put w s c first h ∙ rw (is.0, is.1) refl

direct_more : (w : Scene) (s c : ℕ) (cs : List ℕ) → streams.has w.streams s ≡ true
    → (all_said (char_said w s c) s cs).0 ≡ (all_said w s (c ∷ cs)).0
unfolding fresh_after
direct_more w s c cs there =
    ap (λ (x : Scene). let v : Scene = record w { streams = x.streams; fresh = fresh_after (shown c == line_feed) cs } in v)
    (counted_more w s c cs there)

pub direct_puts : (w : Scene) (s : ℕ) (cs : List ℕ) → is_direct w.view ≡ true → IsBelowAll streams.id_of w.streams 0
    → is_plain_text w s ≡ true → put_chars w s cs ≡ all_said w s cs
unfolding fresh_after one.after_puts
direct_puts w s [] on first h =
    puts_end w s ∙ ap (λ (all : List Stream). let v : Scene = record w { streams = all } in silent v)
    (sym (with_same w.streams s (plain_there w s h)))
direct_puts w s (c ∷ cs) on first h =
    let new = one.after_put (streams.stream w.streams s) c in
    let v = char_said w s c in
    let rest = direct_puts v s cs on (below_with streams.id_of streams.no_stream w.streams new 0 first)
    (plain_counted w s c h) in
    puts_step w s c cs
    ∙ ap (λ (said : Said). then_said said (λ more. put_chars more s cs)) (direct_put w s c on first h)
    ∙ ap (λ (said : Said). let both : Said = (said.0, encode_utf8 (shown c) ++ said.1) in both) rest
    ∙ ap (λ (x : Scene). let both : Said = (x, encode_utf8 (shown c) ++ encode_utf8_all (map shown cs)) in both)
    (direct_more w s c cs (plain_there w s h))

-- ---- a stream with no window

-- bytes that are taken at once
pub bytes_alone : (w : FlatWorld) (s : ℕ) (cs : List ℕ) → IsBelowAll streams.id_of w.scene.streams 0
    → streams.has w.scene.streams s ≡ true → one.takes_bytes (streams.stream w.scene.streams s) (length cs) ≡ true
    → record w { scene = all_counted w.scene s cs } ≡ after w (put_chars w.scene s cs)
bytes_alone w s cs first there room =
    rw (
      puts_alone w.scene s cs first there (bytes_windowless (streams.stream w.scene.streams s) (length cs) room),
      append-nil w.text,
    ) refl

-- ---- results

pub on_err : {A E P : Type 0} (r : Result A E) → P → OnErr r P
on_err (Ok x) holds = tt
on_err (Err e) holds = holds

pub on_ok_by : {A E P Q : Type 0} (r : Result A E) → OnOk r P → (P → Q) → OnOk r Q
on_ok_by (Ok x) holds more = more holds
on_ok_by (Err e) holds more = tt

pub err_by : {A E P Q : Type 0} (r : Result A E) → OnErr r P → (P → Q) → OnErr r Q
err_by (Ok x) holds more = tt
err_by (Err e) holds more = more holds

pub ok_by : {E : Type 0} (r : Result Bool E) (P Q R : Bool → Type 0) → IfOk r P → IfOk r Q
    → ((b : Bool) → P b → Q b → R b) → IfOk r R
ok_by (Ok b) P Q R p q both = both b p q
ok_by (Err e) P Q R p q both = tt

pub made_or_same : {E : Type 0} (r : Result Bool E) (old new made : List Stream)
    → IfOk r (λ put. IsTrue put → new ≡ made) → IfOk r (λ put. IsTrue (not put) → new ≡ old) → OnErr r (new ≡ old)
    → (new ≡ made) ⊎ (new ≡ old)
made_or_same (Ok true) old new made put other err = inl (put refl)
made_or_same (Ok false) old new made put other err = inr (other refl)
made_or_same (Err e) old new made put other err = inr err
