-- Characters that are put, and their places.
use Rattle.std.proofs.Common.{◌≡◌, ◌≢◌, ◌<◌, ◌≤◌, ◌==◌, ◌&&◌, ◌||◌, ◌⊎◌, not, ℕ, Bool, true, false, if◌then◌else◌}
use Rattle.std.proofs.Common.{◌+◌, ◌*◌, ◌++◌, append_assoc, List, [], ◌∷◌, length, refl, sym, ap, subst, ◌∙◌, inl, inr, arith, Result, Ok, Err}
use Rattle.std.proofs.Common.{IsOk, IfOk, IsTrue}
use Rattle.std.proofs.lemmas.Bool.Decides.{nat_tests}
use Rattle.std.proofs.lemmas.List.{append-nil}
use Rattle.gx_words.specs.declared.faults.Fault.{Fault}
use Rattle.gx_words.specs.declared.faults.Fault.TheVariants.{NoMemory}
use Rattle.gx_words.specs.Numbers.{number}
use Rattle.gx_state.specs.Flat.{FlatState}
use Rattle.gx_state.specs.declared.effects.Reply.{Reply}
use Rattle.gx_state.specs.Replies.{IsReply}
use Rattle.glk_streams.specs.declared.kinds.Places.{Places}
use Rattle.glk_streams.specs.declared.kinds.Stream.{Stream}
use Rattle.glk_streams.specs.declared.kinds.StreamKind.{StreamKind}
use Rattle.glk_streams.specs.declared.kinds.StreamKind.TheVariants as kinds
use Rattle.glk_streams.specs.Stream as one
use Rattle.glk_streams.specs.Streams as streams
use Rattle.glk_windows.specs.Constants.{text_buffer}
use Rattle.glk_world.specs.World.{Scene, FlatWorld, Said, after, then_said, on_world, MakesCall}
use Rattle.glk_world.specs.Putting.{window_of_stream, entry_of, is_plain_text, put_of, put_chars, put_grows}
use Rattle.glk_world.specs.Putting.{places_of, chain_end, takes_chars}
use Rattle.glk_replies.specs.Parts.{IsCharWidth, replies, can_lay, numbers_in, reply_filling, MayWant}
use Rattle.glk_text_calls.specs.Putting.{put_all, put_grows_one, put_grows_some}
use Rattle.glk_world.proofs.Alone.{text_grows as plain_grows}
use Rattle.glk_replies.proofs.Counting.{count_numbers, some_numbers}
use Rattle.glk_replies.proofs.Laying.{numbers_more}
use Rattle.glk_replies.proofs.Ram.{laid_in_ram}

or_last : (b : Bool) → (b || true) ≡ true
or_last true = refl
or_last false = refl

-- one character
pub puts_one : (w : FlatWorld) (stream c : ℕ)
    → after w (put_chars w.scene stream (c ∷ [])) ≡ after w (put_of w.scene stream c)
unfolding put_chars
puts_one w stream c = rw (append-nil (put_of w.scene stream c).1) refl

-- the width of places
width_in : (kind : StreamKind) (position count : ℕ) → IsCharWidth (one.places_in kind position count).width
width_in (kinds.Window win) position count = inl refl
width_in (kinds.Memory at len true) position count = inr refl
width_in (kinds.Memory at len false) position count = inl refl
width_in (kinds.File name content form) position count = inl refl

pub width_of : (s : Stream) (count : ℕ) → IsCharWidth (one.next_places s count).width
unfolding one.next_places
width_of s count = width_in s.kind s.position count

pub places_width : (w : Scene) (stream count : ℕ) → IsCharWidth (places_of w stream count).width
places_width w stream count =
    elim (one.writable (streams.stream w.streams (chain_end w stream))) as
    (λ b. IsCharWidth (if b then one.next_places (streams.stream w.streams (chain_end w stream)) count else record {
      at = 0;
      width = 1;
      count = 0;
    }).width) [
      | true ↦ width_of (streams.stream w.streams (chain_end w stream)) count
      | false ↦ inl refl
    ]

-- the reply that fills places which were looked at
pub fits_filling : (f : FlatState) (value : ℕ) (p : Places) (cs : List ℕ) (reply : Reply) → IsCharWidth p.width
    → p.count ≤ length cs → can_lay f p ≡ Ok tt → reply ≡ reply_filling value p cs → (room : ℕ)
    → IsReply f room reply
fits_filling f value p cs reply width few lays filled room =
    subst (λ (r : Reply). IsReply f room r) (sym filled) (record {
      writes = laid_in_ram f p cs width few lays;
      pushes = omega arith;
    })

pub wanted_fits : (f : FlatState) (value : ℕ) (p : Places) (cs : List ℕ) (wants : Type 0) (r : Result Reply Fault)
    → IsCharWidth p.width → p.count ≤ length cs → can_lay f p ≡ Ok tt
    → MayWant wants (λ (reply : Reply). reply) r (Ok (reply_filling value p cs)) → (room : ℕ) → IfOk r (IsReply f room)
wanted_fits f value p cs wants (Ok reply) width few lays filled room =
    fits_filling f value p cs reply width few lays (cc) room
wanted_fits f value p cs wants (Err e) width few lays filled room = tt

pub put_ends_fit : (f : FlatState) (w : Scene) (stream count value : ℕ) (cs : List ℕ) (p : Places)
    (r : Result Reply Fault) → p ≡ places_of w stream count → p.count ≤ length cs → can_lay f p ≡ Ok tt
    → MayWant (0 < p.count) (λ (reply : Reply). reply) r (Ok (reply_filling value p cs)) → (room : ℕ)
    → IfOk r (IsReply f room)
put_ends_fit f w stream count value cs p r is few lays filled room = wanted_fits f value p cs (0 < p.count) r
    (subst (λ (q : Places). IsCharWidth q.width) (sym is) (places_width w stream count)) few lays filled room

-- some of them are put
pub some_put : (w : Scene) (stream count : ℕ) → streams.has w.streams stream ≡ true → takes_chars w stream ≡ true
    → 0 < count → put_grows_some w stream (not (count == 0)) ≡ true
some_put w stream count there takes some =
    let counted : (count == 0) ≡ false = grind (arith, nat_tests, some) in rw (there, takes, counted) refl

pub some_counted : (n : ℕ) (cs : List ℕ) → 0 < n → n ≤ length cs → cs ≢ []
some_counted n [] some few same = absurd (omega arith)
some_counted n (c ∷ cs) some few same = cc

-- a stream that isn't there takes nothing
pub put_nowhere : (w : FlatWorld) (f : FlatState) (stream : ℕ) (cs : List ℕ)
    → streams.has w.scene.streams stream ≡ false → on_world w (put_all w.scene f stream cs) ≡ Ok (w, replies 0)
unfolding put_all
put_nowhere w f stream cs gone = rw (gone, append-nil w.text) refl

-- so many characters, whose places may be written
pub put_there : (w : FlatWorld) (f : FlatState) (stream count : ℕ) (cs : List ℕ) → length cs ≡ count
    → streams.has w.scene.streams stream ≡ true → can_lay f (places_of w.scene stream count) ≡ Ok tt
    → on_world w (put_all w.scene f stream cs)
    ≡ Ok (after w (put_chars w.scene stream cs), reply_filling 0 (places_of w.scene stream count) cs)
unfolding put_all
put_there w f stream count cs len there lays = rw (there, len, lays) refl

pub put_fine : (w : FlatWorld) (f : FlatState) (stream count : ℕ) (cs : List ℕ) → length cs ≡ count
    → streams.has w.scene.streams stream ≡ true → can_lay f (places_of w.scene stream count) ≡ Ok tt
    → IsOk (on_world w (put_all w.scene f stream cs))
put_fine w f stream count cs len there lays = rw (put_there w f stream count cs len there lays) refl

-- places that can't be written
pub put_refused : {wants : Type 0} (w : FlatWorld) (f : FlatState) (stream count : ℕ) (cs : List ℕ) (p : Places)
    (e : Fault) → p ≡ places_of w.scene stream count → length cs ≡ count → streams.has w.scene.streams stream ≡ true
    → (can_lay f p ≡ Err e) × (e ≢ NoMemory) → MakesCall wants (Err e) w w (put_all w.scene f stream cs)
unfolding put_all
put_refused w f stream count cs p e is len there lays =
    let at_places : can_lay f (places_of w.scene stream count) ≡ Err e = rw (← is) lays.0 in
    (λ other. refl, (λ other. rw (there, len, at_places) refl, λ none. absurd (lays.1 none)))

-- want of memory behind the looks
pub put_wanted : {wants : Type 0} (w now : FlatWorld) (f : FlatState) (stream count : ℕ) (cs : List ℕ) (p : Places)
    → wants → p ≡ places_of w.scene stream count → length cs ≡ count → streams.has w.scene.streams stream ≡ true
    → can_lay f p ≡ Ok tt → MakesCall wants (Err NoMemory) w now (put_all w.scene f stream cs)
put_wanted w now f stream count cs p some is len there lays =
    let at_places : can_lay f (places_of w.scene stream count) ≡ Ok tt = rw (← is) lays in (
      λ other. absurd (other refl),
      (λ other. absurd (other refl), λ none. (some, put_fine w f stream count cs len there at_places)),
    )

-- all that is put
pub put_filled : (w now : FlatWorld) (f : FlatState) (stream count : ℕ) (cs : List ℕ) (p : Places) (reply : Reply)
    → p ≡ places_of w.scene stream count → length cs ≡ count → streams.has w.scene.streams stream ≡ true
    → can_lay f p ≡ Ok tt → now ≡ after w (put_chars w.scene stream cs) → reply ≡ reply_filling 0 p cs
    → on_world w (put_all w.scene f stream cs) ≡ Ok (now, reply)
put_filled w now f stream count cs p reply is len there lays made filled =
    let at_places : can_lay f (places_of w.scene stream count) ≡ Ok tt = rw (← is) lays in
    let at_reply : reply ≡ reply_filling 0 (places_of w.scene stream count) cs = rw (← is) filled in
    rw (made, at_reply) (put_there w f stream count cs len there at_places)

-- all that is put, or want of memory for its places
pub put_ends : {wants : Type 0} (w now : FlatWorld) (f : FlatState) (stream count : ℕ) (cs : List ℕ) (p : Places)
    (r : Result Reply Fault) → (0 < p.count → wants) → p ≡ places_of w.scene stream count → length cs ≡ count
    → streams.has w.scene.streams stream ≡ true → can_lay f p ≡ Ok tt → now ≡ after w (put_chars w.scene stream cs)
    → MayWant (0 < p.count) (λ (reply : Reply). reply) r (Ok (reply_filling 0 p cs))
    → MakesCall wants r w now (put_all w.scene f stream cs)
put_ends w now f stream count cs p (Ok reply) some is len there lays made filled =
    put_filled w now f stream count cs p reply is len there lays made (cc)
put_ends w now f stream count cs p (Err e) some is len there lays made filled =
    let at_places : can_lay f (places_of w.scene stream count) ≡ Ok tt = rw (← is) lays in (
      λ other. absurd (let no = filled.0 other in cc),
      (
        λ other. absurd (let no = filled.0 other in cc),
        λ none. (some (filled.1 none).0, put_fine w f stream count cs len there at_places),
      ),
    )

-- numbers that were read
module _ (f : FlatState) (width at count : ℕ) (memory cs : List ℕ) (same : memory ≡ f.memory)
    (read : cs ≡ numbers_in width memory at count) where
  read_there : cs ≡ numbers_in width f.memory at count
  read_there = read ∙ ap (λ (m : List ℕ). numbers_in width m at count) same

  pub count_read_there : length cs ≡ count
  count_read_there = ap (λ (xs : List ℕ). length xs) read ∙ count_numbers width at count memory

  pub few_read : (n : ℕ) → n ≤ count → n ≤ length cs
  few_read n few = omega (arith, count_read_there)

  pub some_read : (w : Scene) (stream : ℕ) → streams.has w.streams stream ≡ true → takes_chars w stream ≡ true
      → cs ≢ [] → put_grows_some w stream (not (count == 0)) ≡ true
  some_read w stream there takes some = some_put w stream count there takes
      (omega (arith, some_numbers width at count memory (λ none. some (read ∙ none))))

  pub numbers_end : (w now : FlatWorld) (stream : ℕ) (p : Places) (r : Result Reply Fault) → p.count ≤ count
      → p ≡ places_of w.scene stream count → streams.has w.scene.streams stream ≡ true
      → takes_chars w.scene stream ≡ true → can_lay f p ≡ Ok tt → now ≡ after w (put_chars w.scene stream cs)
      → MayWant (0 < p.count) (λ (reply : Reply). reply) r (Ok (reply_filling 0 p cs))
      → MakesCall (IsTrue (put_grows_some w.scene stream (not (count == 0)))) r w now
      (put_all w.scene f stream (numbers_in width f.memory at count))
  numbers_end w now stream p r few is there takes lays made filled = subst
      (λ (xs : List ℕ). MakesCall (IsTrue (put_grows_some w.scene stream (not (count == 0)))) r w now
      (put_all w.scene f stream xs)) read_there
      (put_ends w now f stream count cs p r (λ some. some_put w.scene stream count there takes (omega arith)) is
      count_read_there there lays made filled)

-- ---- characters for a stream that takes none

puts_last : (w : Scene) (stream : ℕ) (cs : List ℕ) (c : ℕ)
    → put_chars w stream (cs ++ c ∷ []) ≡ then_said (put_chars w stream cs) (λ more. put_of more stream c)
unfolding put_chars
puts_last w stream [] c = ap (λ (text : List ℕ). let both : Said = ((put_of w stream c).0, text) in both)
    (append-nil (put_of w stream c).1)
puts_last w stream (d ∷ cs) c =
    let first = put_of w stream d in
    let rest = put_chars first.0 stream cs in
    ap (λ (said : Said). let both : Said = (said.0, first.1 ++ said.1) in both) (puts_last first.0 stream cs c)
    ∙ ap (λ (text : List ℕ). let both : Said = ((put_of rest.0 stream c).0, text) in both)
    (sym (append_assoc first.1 rest.1 (put_of rest.0 stream c).1))

pub unseen_first : (w : FlatWorld) (stream width at : ℕ) (memory : List ℕ)
    → w ≡ after w (put_chars w.scene stream (numbers_in width memory at 0))
unfolding put_chars numbers_in
unseen_first w stream width at memory = rw (append-nil w.text) refl

pub unseen_more : (w v : FlatWorld) (stream width at i : ℕ) (memory : List ℕ)
    → v ≡ after w (put_chars w.scene stream (numbers_in width memory at i))
    → after v (put_of v.scene stream (number width memory (at + width * i)))
    ≡ after w (put_chars w.scene stream (numbers_in width memory at (i + 1)))
unseen_more w v stream width at i memory is =
    let cs = numbers_in width memory at i in
    let c = number width memory (at + width * i) in
    let all : put_chars w.scene stream (numbers_in width memory at (i + 1))
    ≡ then_said (put_chars w.scene stream cs) (λ more. put_of more stream c) =
    ap (λ (xs : List ℕ). put_chars w.scene stream xs) (sym (numbers_more width memory at i))
    ∙ puts_last w.scene stream cs c in
    rw (is, all, append_assoc) refl

pub ruleset unseen_turns = (unseen_first, unseen_more)

pub nothing_filled : (p : Places) (cs : List ℕ) → p.count ≡ 0 → replies 0 ≡ reply_filling 0 p cs
nothing_filled p cs none = rw none refl

-- ---- one character

module _ (w : FlatWorld) (f : FlatState) (stream c : ℕ) (p : Places) (is : p ≡ places_of w.scene stream 1)
    (there : streams.has w.scene.streams stream ≡ true) where
  grows_one : IsTrue (put_grows w.scene stream c) ⊎ (0 < p.count) → put_grows_one w.scene stream c ≡ true
  grows_one (inl grows) = rw (there, grows) refl
  grows_one (inr some) =
      let placed : 0 < (places_of w.scene stream 1).count = subst (λ (q : Places). 0 < q.count) is some in
      let counted : (places_of w.scene stream 1).count == 0 ≡ false = grind (arith, nat_tests, placed) in
      rw (there, counted) (or_last (put_grows w.scene stream c))

  pub one_wanted : (now : FlatWorld) → can_lay f p ≡ Ok tt → IsTrue (put_grows w.scene stream c)
      → MakesCall (IsTrue (put_grows_one w.scene stream c)) (Err NoMemory) w now (put_all w.scene f stream (c ∷ []))
  one_wanted now lays some = put_wanted w now f stream 1 (c ∷ []) p (grows_one (inl some)) is refl there lays

  pub one_ends : (now : FlatWorld) (r : Result Reply Fault) → can_lay f p ≡ Ok tt
      → now ≡ after w (put_of w.scene stream c)
      → MayWant (0 < p.count) (λ (reply : Reply). reply) r (Ok (reply_filling 0 p (c ∷ [])))
      → MakesCall (IsTrue (put_grows_one w.scene stream c)) r w now (put_all w.scene f stream (c ∷ []))
  one_ends now r lays made filled = put_ends w now f stream 1 (c ∷ []) p r (λ some. grows_one (inr some)) is refl there
      lays (made ∙ sym (puts_one w stream c)) filled

and_first : (a b : Bool) → (a && b) ≡ true → a ≡ true
and_first true b h = refl
and_first false b h = absurd (cc)

text_there : (w : Scene) (stream : ℕ) → is_plain_text w stream ≡ true → streams.has w.streams stream ≡ true
text_there w stream plain =
    let a = streams.has w.streams stream in
    let b = not (window_of_stream w stream == 0) in
    let text = (entry_of w stream).kind == text_buffer in
    and_first a b (and_first (a && b) text (and_first (a && b && text) ((entry_of w stream).echo == 0) plain))

-- a character of the text
pub text_put : (w : FlatWorld) (f : FlatState) (stream c : ℕ) → is_plain_text w.scene stream ≡ true
    → (places_of w.scene stream 1).count ≡ 0
    → on_world w (put_all w.scene f stream (c ∷ [])) ≡ Ok (after w (put_of w.scene stream c), replies 0)
unfolding put_all can_lay
text_put w f stream c plain none =
    let there : streams.has w.scene.streams stream ≡ true = text_there w.scene stream plain in
    let nowhere : (places_of w.scene stream 1).count == 0 ≡ true = rw none refl in
    rw (there, nowhere) (ap (λ (v : FlatWorld). let both : Result (FlatWorld × Reply) Fault = Ok (v, replies 0) in
    both)
    (puts_one w stream c))

pub text_grows : (w : Scene) (stream c : ℕ) → is_plain_text w stream ≡ true → put_grows w stream c ≡ true
    → put_grows_one w stream c ≡ true
text_grows w stream c plain grows = rw (text_there w stream plain, grows) refl

-- it may want memory
pub text_longer : (w : Scene) (stream c : ℕ) → is_plain_text w stream ≡ true → put_grows_one w stream c ≡ true
text_longer w stream c plain = text_grows w stream c plain (plain_grows w stream c plain)

-- memory is wanted for it where it has no fault
pub text_fine : (w : FlatWorld) (f : FlatState) (stream c : ℕ) → is_plain_text w.scene stream ≡ true
    → (places_of w.scene stream 1).count ≡ 0 → IsOk (on_world w (put_all w.scene f stream (c ∷ [])))
text_fine w f stream c plain none = rw (text_put w f stream c plain none) refl

pub text_wanted : (w now : FlatWorld) (f : FlatState) (stream c : ℕ) → is_plain_text w.scene stream ≡ true
    → put_grows w.scene stream c ≡ true → (places_of w.scene stream 1).count ≡ 0
    → MakesCall (IsTrue (put_grows_one w.scene stream c)) (Err NoMemory) w now (put_all w.scene f stream (c ∷ []))
text_wanted w now f stream c plain grows none = (
  λ other. absurd (other refl),
  (
    λ other. absurd (other refl),
    λ wanted. (text_grows w.scene stream c plain grows, text_fine w f stream c plain none),
  ),
)

pub ruleset text_rules = (text_put, text_grows, text_longer, text_fine)
