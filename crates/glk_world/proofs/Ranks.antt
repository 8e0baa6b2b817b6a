-- A chain of echo streams is no longer than there are streams, so that a put along it comes to its end.
use Rattle.std.proofs.Common.{zero, suc, ◌≡◌, ◌≢◌, ◌<◌, ◌≤◌, ◌+◌, ◌%◌, ◌^◌, max, ◌==◌, ◌⊎◌, inl, inr, ℕ, Bool, true}
use Rattle.std.proofs.Common.{false, nat_le, nat_lt, if◌then◌else◌, List, [], ◌∷◌, ◌++◌, length, refl, sym, ◌∙◌, ap}
use Rattle.std.proofs.Common.{arith}
use Rattle.std.proofs.lemmas.Bool.Decides.{nat_tests}
use Rattle.glk_objects.specs.Objects as objects
use Rattle.glk_objects.proofs.Places.{id_at}
use Rattle.glk_streams.specs.declared.kinds.StreamKind.{StreamKind}
use Rattle.glk_streams.specs.declared.kinds.StreamKind.TheVariants as kinds
use Rattle.glk_streams.specs.declared.kinds.Stream.{Stream}
use Rattle.glk_streams.specs.Stream as one
use Rattle.glk_streams.specs.Streams as streams
use Rattle.glk_windows.specs.declared.entries.Entry.{Entry}
use Rattle.glk_windows.specs.Windows.{FlatWindows, grid_at}
use Rattle.glk_windows.specs.Grids as grids
use Rattle.glk_windows.specs.Changes.{put_to}
use Rattle.glk_windows.specs.Constants.{text_buffer}
use Rattle.glk_text.specs.Characters.{shown}
use Rattle.glk_screen.specs.Texts.{screen_put}
use Rattle.glk_world.specs.World.{Scene, Said, silent, then_said, is_composed}
use Rattle.glk_world.specs.Putting.{said_char, buffer_put, window_of_stream, entry_of, window_put, counted, stream_put}
use Rattle.glk_world.specs.Putting.{echo_of, put_along, put_of, end_along, chain_end}
use Rattle.glk_world.specs.Chains.{echo_in, IsRanked}
use Rattle.glk_objects.proofs.Found.{has_with, at_with, at_with_here}

-- how many streams rank no higher
pub under : (ℕ → ℕ) → ℕ → List Stream → ℕ
under rank r [] = 0
under rank r (x ∷ xs) = (if nat_le (rank x.id) r then 1 else 0) + under rank r xs

pub under_all : (rank : ℕ → ℕ) (r : ℕ) (xs : List Stream) → under rank r xs ≤ length xs
unfolding under
under_all rank r [] = omega arith
under_all rank r (x ∷ xs) = grind (arith, nat_tests, under_all rank r xs)

under_more : (rank : ℕ → ℕ) (r q : ℕ) (xs : List Stream) → r ≤ q → under rank r xs ≤ under rank q xs
unfolding under
under_more rank r q [] le = omega arith
under_more rank r q (x ∷ xs) le = grind (arith, nat_tests, under_more rank r q xs le)

pub under_less : (rank : ℕ → ℕ) (r s : ℕ) (xs : List Stream) → streams.has xs s ≡ true → r < rank s
    → under rank r xs < under rank (rank s) xs
unfolding under
under_less rank r s [] there less = absurd (cc)
under_less rank r s (x ∷ xs) there less =
    elim (x.id == s) as (λ b. (x.id == s) ≡ b → under rank r (x ∷ xs) < under rank (rank s) (x ∷ xs)) [
      | true ↦ λ is. let same : x.id ≡ s = grind (arith, nat_tests, is) in let more =
          under_more rank r (rank s) xs (omega arith) in let e : rank x.id ≡ rank s = ap rank same in
          grind (arith, nat_tests, more, e)
      | false ↦ λ is. let rest : streams.has xs s ≡ true = grind (arith, nat_tests, is, there) in let more =
          under_less rank r s xs rest less in grind (arith, nat_tests, more)
    ] refl

pub under_some : (rank : ℕ → ℕ) (s : ℕ) (xs : List Stream) → streams.has xs s ≡ true → 0 < under rank (rank s) xs
unfolding under
under_some rank s [] there = absurd (cc)
under_some rank s (x ∷ xs) there = elim (x.id == s) as (λ b. (x.id == s) ≡ b → 0 < under rank (rank s) (x ∷ xs)) [
  | true ↦ λ is. let same : x.id ≡ s = grind (arith, nat_tests, is) in let e : rank x.id ≡ rank s = ap rank same in
      grind (arith, nat_tests, e)
  | false ↦ λ is. let rest : streams.has xs s ≡ true = grind (arith, nat_tests, is, there) in let more =
      under_some rank s xs rest in grind (arith, nat_tests, more)
] refl

under_with : (rank : ℕ → ℕ) (r : ℕ) (xs : List Stream) (new : Stream)
    → under rank r (streams.with_stream xs new) ≡ under rank r xs
unfolding under objects.with
under_with rank r [] new = refl
under_with rank r (x ∷ xs) new =
    elim (x.id == new.id) as
    (λ b. (x.id == new.id) ≡ b
    → under rank r (if b then new ∷ xs else x ∷ streams.with_stream xs new) ≡ under rank r (x ∷ xs)) [
      | true ↦ λ is. let same : x.id ≡ new.id = grind (arith, nat_tests, is) in let e : rank x.id ≡ rank new.id =
          ap rank same in grind (arith, nat_tests, e)
      | false ↦ λ is. ap (λ (n : ℕ). (if nat_le (rank x.id) r then 1 else 0) + n) (under_with rank r xs new)
    ] refl

-- a stream that takes another's place belongs to the same window
pub window_with : (xs : List Stream) (new : Stream) (s : ℕ) → streams.has xs new.id ≡ true
    → one.window_of new ≡ one.window_of (streams.stream xs new.id)
    → one.window_of (streams.stream (streams.with_stream xs new) s) ≡ one.window_of (streams.stream xs s)
window_with xs new s there same =
    elim (s == new.id) as (λ b. (s == new.id) ≡ b → one.window_of (streams.stream (streams.with_stream xs new) s)
    ≡ one.window_of (streams.stream xs s)) [
      | true ↦ λ is. let e : s ≡ new.id = grind (arith, nat_tests, is) in
          rw e (ap one.window_of (at_with_here streams.id_of streams.no_stream xs new there) ∙ same)
      | false ↦ λ is. let other : s ≢ new.id = grind (arith, nat_tests, is) in
          ap one.window_of (at_with streams.id_of streams.no_stream xs new s other)
    ] refl

pub echo_with : (entries : List Entry) (xs : List Stream) (new : Stream) (s : ℕ) → streams.has xs new.id ≡ true
    → one.window_of new ≡ one.window_of (streams.stream xs new.id)
    → echo_in entries (streams.with_stream xs new) s ≡ echo_in entries xs s
echo_with entries xs new s there same = rw (window_with xs new s there same) refl

-- ---- what a put keeps

put_in_id : (kind : StreamKind) (t : Stream) (c : ℕ) → (one.put_in kind t c).id ≡ t.id
put_in_id (kinds.Window win) t c = refl
put_in_id (kinds.Memory at len wide) t c = grind (arith, nat_tests)
put_in_id (kinds.File name content form) t c = refl

put_in_window : (kind : StreamKind) (t : Stream) (c : ℕ) → t.kind ≡ kind
    → one.window_of (one.put_in kind t c) ≡ one.window_in kind
put_in_window (kinds.Window win) t c is = ap one.window_in is
put_in_window (kinds.Memory at len wide) t c is =
    elim (nat_lt t.position (one.place_count at len)) as
    (λ b. one.window_of (if b then record t { position = t.position + 1; highest = max t.highest (t.position + 1) }
    else t) ≡ 0) [
      | true ↦ ap one.window_in is
      | false ↦ ap one.window_in is
    ]
put_in_window (kinds.File name content form) t c is = refl

pub put_id : (s : Stream) (c : ℕ) → (one.after_put s c).id ≡ s.id
unfolding one.after_put
put_id s c =
    elim (one.writable s) as
    (λ b. (if b then one.put_in s.kind (record s { written = (s.written + 1) % 2 ^ 32 }) c else s).id ≡ s.id) [
      | true ↦ put_in_id s.kind (record s { written = (s.written + 1) % 2 ^ 32 }) c
      | false ↦ refl
    ]

pub put_window : (s : Stream) (c : ℕ) → one.window_of (one.after_put s c) ≡ one.window_of s
unfolding one.after_put
put_window s c =
    elim (one.writable s) as
    (λ b. one.window_of (if b then one.put_in s.kind (record s { written = (s.written + 1) % 2 ^ 32 }) c else s)
    ≡ one.window_of s) [
      | true ↦ put_in_window s.kind (record s { written = (s.written + 1) % 2 ^ 32 }) c refl
      | false ↦ refl
    ]

pub entries_put : (f : FlatWindows) (win c : ℕ) → (put_to f win c).entries ≡ f.entries
unfolding put_to
entries_put f win c =
    elim (objects.has grids.grid_id f.grids win) as
    (λ b. (if b then record f {
      grids = objects.with grids.grid_id f.grids (grids.put (grid_at f.grids win) c);
    } else f).entries ≡ f.entries) [
      | true ↦ refl
      | false ↦ refl
    ]

pub buffer_put_streams : (w : Scene) (win c : ℕ) → (buffer_put w win c).0.streams ≡ w.streams
unfolding buffer_put
buffer_put_streams w win c =
    elim (is_composed w) as
    (λ b. (if b then silent (record w { screen = screen_put w.screen win c }) else said_char w c).0.streams
    ≡ w.streams) [ true ↦ refl | false ↦ refl ]

buffer_put_entries : (w : Scene) (win c : ℕ) → (buffer_put w win c).0.windows.entries ≡ w.windows.entries
unfolding buffer_put
buffer_put_entries w win c =
    elim (is_composed w) as
    (λ b. (if b then silent (record w { screen = screen_put w.screen win c }) else said_char w c).0.windows.entries
    ≡ w.windows.entries) [ true ↦ refl | false ↦ refl ]

window_put_streams : (w : Scene) (e : Entry) (win c : ℕ) → (window_put w e win c).0.streams ≡ w.streams
unfolding window_put
window_put_streams w e win c =
    elim (e.kind == text_buffer) as
    (λ b. (if b then buffer_put w win (shown c)
    else silent (record w { windows = put_to w.windows win (shown c) })).0.streams ≡ w.streams) [
      | true ↦ buffer_put_streams w win (shown c)
      | false ↦ refl
    ]

window_put_entries : (w : Scene) (e : Entry) (win c : ℕ) → (window_put w e win c).0.windows.entries ≡ w.windows.entries
unfolding window_put
window_put_entries w e win c =
    elim (e.kind == text_buffer) as
    (λ b. (if b then buffer_put w win (shown c)
    else silent (record w { windows = put_to w.windows win (shown c) })).0.windows.entries ≡ w.windows.entries) [
      | true ↦ buffer_put_entries w win (shown c)
      | false ↦ entries_put w.windows win (shown c)
    ]

pub stream_put_streams : (w : Scene) (s c : ℕ) → (stream_put w s c).0.streams ≡ (counted w s c).streams
unfolding stream_put
stream_put_streams w s c =
    elim (window_of_stream w s == 0) as
    (λ b. (if b then silent (counted w s c)
    else window_put (counted w s c) (entry_of w s) (window_of_stream w s) c).0.streams
    ≡ (counted w s c).streams) [
      | true ↦ refl
      | false ↦ window_put_streams (counted w s c) (entry_of w s) (window_of_stream w s) c
    ]

pub stream_put_entries : (w : Scene) (s c : ℕ) → (stream_put w s c).0.windows.entries ≡ w.windows.entries
unfolding stream_put
stream_put_entries w s c =
    elim (window_of_stream w s == 0) as
    (λ b. (if b then silent (counted w s c)
    else window_put (counted w s c) (entry_of w s) (window_of_stream w s) c).0.windows.entries ≡ w.windows.entries) [
      | true ↦ refl
      | false ↦ window_put_entries (counted w s c) (entry_of w s) (window_of_stream w s) c
    ]

-- ---- ranks stay where no echo stream is new

pub record IsEdge (es fs : List Entry) (xs ys : List Stream) (s : ℕ) : Type 0 where
  pub from : streams.has xs s ≡ true
  pub to : streams.has xs (echo_in es xs s) ≡ true
  pub same : echo_in fs ys s ≡ echo_in es xs s

pub ranked_within : (es fs : List Entry) (xs ys : List Stream) (rank : ℕ → ℕ)
    → ((s : ℕ) → streams.has ys s ≡ true → streams.has ys (echo_in fs ys s) ≡ true → IsEdge es fs xs ys s)
    → IsRanked es xs rank → IsRanked fs ys rank
ranked_within es fs xs ys rank edges ranked = record {
  falls = λ s there echo. let e = edges s there echo in rw e.same (ranked.falls s e.from e.to);
}

pub with_edge : (es : List Entry) (xs : List Stream) (new : Stream) (s : ℕ) → streams.has xs new.id ≡ true
    → one.window_of new ≡ one.window_of (streams.stream xs new.id)
    → streams.has (streams.with_stream xs new) s ≡ true
    → streams.has (streams.with_stream xs new) (echo_in es (streams.with_stream xs new) s) ≡ true
    → IsEdge es es xs (streams.with_stream xs new) s
with_edge es xs new s known same there echo =
    let e = echo_with es xs new s known same in
    record {
      from = sym (has_with streams.id_of streams.no_stream xs new s) ∙ there;
      to = sym (ap (λ (t : ℕ). streams.has xs t) e)
          ∙ sym (has_with streams.id_of streams.no_stream xs new (echo_in es (streams.with_stream xs new) s)) ∙ echo;
      same = e;
    }

-- ---- the fuel is enough

pub nothing_along : (n : ℕ) (w : Scene) (s c : ℕ) → streams.has w.streams s ≡ false → put_along n w s c ≡ silent w
unfolding put_along
nothing_along zero w s c gone = refl
nothing_along (suc n) w s c gone = rw gone refl

pub put_step : (n : ℕ) (w : Scene) (s c : ℕ) → streams.has w.streams s ≡ true
    → put_along (suc n) w s c ≡ then_said (stream_put w s c) (λ more. put_along n more (echo_of w s) c)
unfolding put_along
put_step n w s c there = rw there refl

there_or_not : (b : Bool) → (b ≡ true) ⊎ (b ≡ false)
there_or_not true = inl refl
there_or_not false = inr refl

enough : (n more : ℕ) (w : Scene) (rank : ℕ → ℕ) → IsRanked w.windows.entries w.streams rank → (s c : ℕ)
    → (streams.has w.streams s ≡ true → under rank (rank s) w.streams ≤ n)
    → put_along (n + more) w s c ≡ put_along n w s c
enough zero more w rank ranked s c few = elim (there_or_not (streams.has w.streams s)) [
  | inl there ↦ absurd (omega (arith, few there, under_some rank s w.streams there))
  | inr gone ↦ nothing_along (0 + more) w s c gone ∙ sym (nothing_along 0 w s c gone)
]
enough (suc n) more w rank ranked s c few = elim (there_or_not (streams.has w.streams s)) [
  | inr gone ↦ nothing_along (suc n + more) w s c gone ∙ sym (nothing_along (suc n) w s c gone)
  | inl there ↦
      let v = (stream_put w s c).0 in
      let new = one.after_put (streams.stream w.streams s) c in
      let e = echo_of w s in
      let id : new.id ≡ s =
      put_id (streams.stream w.streams s) c ∙ id_at streams.id_of streams.no_stream w.streams s there in
      let known : streams.has w.streams new.id ≡ true = rw id there in
      let same : one.window_of new ≡ one.window_of (streams.stream w.streams new.id) =
      rw id (put_window (streams.stream w.streams s) c) in
      let all : v.streams ≡ streams.with_stream w.streams new = stream_put_streams w s c in
      let entries : v.windows.entries ≡ w.windows.entries = stream_put_entries w s c in
      let ranked' : IsRanked v.windows.entries v.streams rank =
      rw (entries, all) (ranked_within w.windows.entries w.windows.entries w.streams (streams.with_stream w.streams new)
      rank (λ t from to. with_edge w.windows.entries w.streams new t known same from to) ranked) in
      let few' : streams.has v.streams e ≡ true → under rank (rank e) v.streams ≤ n =
      λ here.
      let echo : streams.has w.streams e ≡ true =
      sym (has_with streams.id_of streams.no_stream w.streams new e)
      ∙ sym (ap (λ (xs : List Stream). streams.has xs e) all) ∙ here in
      let less = under_less rank (rank e) s w.streams there (ranked.falls s there echo) in
      rw (all, under_with rank (rank e) w.streams new) (omega (arith, less, few there)) in
      let rest : put_along (n + more) v e c ≡ put_along n v e c = enough n more v rank ranked' e c few' in
      let longer : suc n + more ≡ suc (n + more) = omega arith in
      rw longer (put_step (n + more) w s c there ∙ ap (λ (r : Said). (r.0, (stream_put w s c).1 ++ r.1)) rest ∙ sym
      (put_step n w s c there))
]

-- The law: a put with more fuel than there are streams does what it does with as much.
pub fuel_is_enough : (w : Scene) (rank : ℕ → ℕ) → IsRanked w.windows.entries w.streams rank → (s c more : ℕ)
    → put_along (length w.streams + more) w s c ≡ put_of w s c
fuel_is_enough w rank ranked s c more =
    enough (length w.streams) more w rank ranked s c (λ there. under_all rank (rank s) w.streams)

end_step : (n : ℕ) (w : Scene) (s : ℕ)
    → end_along (suc n) w s ≡ (if streams.has w.streams (echo_of w s) then end_along n w (echo_of w s) else s)
unfolding end_along
end_step n w s = refl

enough_to_end : (n more : ℕ) (w : Scene) (rank : ℕ → ℕ) → IsRanked w.windows.entries w.streams rank → (s : ℕ)
    → streams.has w.streams s ≡ true → under rank (rank s) w.streams ≤ n → end_along (n + more) w s ≡ end_along n w s
enough_to_end zero more w rank ranked s there few = absurd (omega (arith, few, under_some rank s w.streams there))
enough_to_end (suc n) more w rank ranked s there few =
    let longer : suc n + more ≡ suc (n + more) = omega arith in
    elim (there_or_not (streams.has w.streams (echo_of w s))) [
      | inl echo ↦
          let less = under_less rank (rank (echo_of w s)) s w.streams there (ranked.falls s there echo) in
          let rest = enough_to_end n more w rank ranked (echo_of w s) echo (omega (arith, less, few)) in
          rw (longer, end_step (n + more) w s, end_step n w s, echo, rest) refl
      | inr gone ↦ rw (longer, end_step (n + more) w s, end_step n w s, gone) refl
    ]

-- and so is that of the way to the end of a chain
pub fuel_to_end : (w : Scene) (rank : ℕ → ℕ) → IsRanked w.windows.entries w.streams rank → (s more : ℕ)
    → streams.has w.streams s ≡ true → end_along (length w.streams + more) w s ≡ chain_end w s
fuel_to_end w rank ranked s more there =
    enough_to_end (length w.streams) more w rank ranked s there (under_all rank (rank s) w.streams)
