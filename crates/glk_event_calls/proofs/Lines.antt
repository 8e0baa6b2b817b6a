-- What a line gives: how many characters, and where they are written.
use Rattle.std.proofs.Common.{◌≡◌, ◌≢◌, ◌≤◌, ◌+◌, ◌++◌, ◌==◌, ◌&&◌, ◌||◌, not, ℕ, Bool, true, false, if◌then◌else◌}
use Rattle.std.proofs.Common.{List, [], ◌∷◌}
use Rattle.std.proofs.Common.{length, take, map, refl, sym, ◌∙◌, inl, inr, arith, IsTrue, Result, Ok, Err}
use Rattle.std.proofs.lemmas.Bool.Decides.{nat_tests}
use Rattle.std.proofs.lemmas.Grind.{common_steps}
use Rattle.std.proofs.lemmas.List.{length-append, append-nil}
use Rattle.gx_words.specs.Constants.{line_feed}
use Rattle.gx_words.specs.Results.{◌>>=◌}
use Rattle.gx_words.specs.declared.faults.Fault.{Fault}
use Rattle.gx_words.specs.declared.faults.Fault.TheVariants.{NoMemory}
use Rattle.gx_state.specs.Flat.{FlatState}
use Rattle.gx_state.specs.Replies.{IsReply}
use Rattle.glk_events.specs.declared.requests.Request.{Request}
use Rattle.glk_events.specs.Requests.{line_length}
use Rattle.glk_streams.specs.declared.kinds.Places.{Places}
use Rattle.glk_streams.specs.declared.kinds.Stream.{Stream}
use Rattle.glk_streams.specs.declared.kinds.StreamKind.{StreamKind}
use Rattle.glk_streams.specs.declared.kinds.StreamKind.TheVariants as kinds
use Rattle.glk_streams.specs.Stream as one
use Rattle.glk_streams.specs.Streams as streams
use Rattle.glk_world.specs.World.{Scene, FlatWorld, MakesCall}
use Rattle.glk_world.specs.Putting.{places_of, chain_end}
use Rattle.glk_replies.specs.Constants.{on_stack}
use Rattle.glk_replies.specs.Parts.{IsCharWidth, pushes_for, char_writes, writes_for, can_lay, can_give, can_push}
use Rattle.glk_replies.proofs.Ram.{between_append, laid_in_ram, written_in_ram}
use Rattle.glk_text.specs.Characters.{latin_of}
use Rattle.glk_event_calls.specs.Events.{echo_for, echoes, echoed, event_of, line_places, echo_places}
use Rattle.glk_event_calls.specs.Events.{line_reply, looked_at_line, met, met_grows}

-- ---- how many characters are put to the echo stream

echoed_with : (line there : Bool) (r : Request) (chars : List ℕ) → (line && there) ≡ true
    → (if line then line_length r chars else 0) + 1
    ≡ length (if line && there then map (λ c. if r.wide then c else latin_of c) (take (line_length r chars) chars)
    ++ line_feed ∷ [] else [])
echoed_with true true r chars is = grind (arith, common_steps, length-append)
echoed_with true false r chars is = absurd (cc)
echoed_with false there r chars is = absurd (cc)

pub echoed_length : (w : Scene) (r : Request) (chars : List ℕ) → echoes w r ≡ true
    → (line_places r chars).count + 1 ≡ length (echoed w r chars)
echoed_length w r chars is = echoed_with r.line (streams.has w.streams (echo_for w r)) r chars is

pub ruleset line_rules = echoed_length

-- ---- where they are written

line_width : (r : Request) (line : List ℕ) → IsCharWidth (line_places r line).width
line_width r line = elim r.wide as (λ wide. IsCharWidth (if wide then 4 else 1)) [ true ↦ inr refl | false ↦ inl refl ]

width_in : (kind : StreamKind) (position count : ℕ) → IsCharWidth (one.places_in kind position count).width
width_in (kinds.Window win) position count = inl refl
width_in (kinds.Memory at len true) position count = inr refl
width_in (kinds.Memory at len false) position count = inl refl
width_in (kinds.File name content form) position count = inl refl

width_of : (s : Stream) (count : ℕ) → IsCharWidth (one.next_places s count).width
unfolding one.next_places
width_of s count = width_in s.kind s.position count

places_width : (w : Scene) (stream count : ℕ) → IsCharWidth (places_of w stream count).width
places_width w stream count =
    elim (one.writable (streams.stream w.streams (chain_end w stream))) as
    (λ b. IsCharWidth (if b then one.next_places (streams.stream w.streams (chain_end w stream)) count else record {
      at = 0;
      width = 1;
      count = 0;
    }).width) [
      | true ↦ width_of (streams.stream w.streams (chain_end w stream)) count
      | false ↦ inl refl
    ]

echo_width : (w : Scene) (r : Request) (line : List ℕ) → IsCharWidth (echo_places w r line).width
echo_width w r line =
    let count = length (echoed w r line) in
    elim (echoes w r) as (λ there. IsCharWidth
    (if there then places_of w (echo_for w r) count else record { at = 0; width = 1; count = 0 }).width) [
      | true ↦ places_width w (echo_for w r) count
      | false ↦ inl refl
    ]

event_length : (r : Request) (line : List ℕ) → length (event_of r line) ≡ 4
event_length r line = grind (arith, common_steps)

line_few : (r : Request) (line : List ℕ) → (line_places r line).count ≤ length line
line_few r line = elim r.line as (λ b. (if b then line_length r line else 0) ≤ length line) [
  | true ↦ omega arith
  | false ↦ omega arith
]

-- each look was good
both : (first second : Result (Unit {0}) Fault) → (first >>= λ _. second) ≡ Ok tt → (first ≡ Ok tt) × (second ≡ Ok tt)
both (Ok _) second is = (refl, is)
both (Err e) second is = absurd (cc)

pushes_fit : (room pushes : ℕ) → can_push room pushes ≡ Ok tt → pushes ≤ room
unfolding can_push
pushes_fit room pushes is = grind (arith, common_steps, nat_tests)

pub reply_fits : (f : FlatState) (room : ℕ) (w : Scene) (at : ℕ) (r : Request) (line : List ℕ)
    → (echo_places w r line).count ≤ length (echoed w r line) → looked_at_line w f room at r line ≡ Ok tt
    → IsReply f room (line_reply w at r line)
unfolding looked_at_line
reply_fits f room w at r line less looked =
    let there : Result (Unit {0}) Fault = can_give f at 4 in
    let fits : Result (Unit {0}) Fault = can_push room (length (pushes_for at (event_of r line))) in
    let echo : Result (Unit {0}) Fault = can_lay f (echo_places w r line) in
    let buffered = both (can_lay f (line_places r line)) (there >>= λ _. fits >>= λ _. echo) looked in
    let given = both there (fits >>= λ _. echo) buffered.1 in
    let pushed = both fits echo given.1 in
    record {
      writes = between_append _ _ (char_writes (line_places r line) line ++ writes_for at (event_of r line))
          (char_writes (echo_places w r line) (echoed w r line))
          (between_append _ _ (char_writes (line_places r line) line) (writes_for at (event_of r line))
          (laid_in_ram f (line_places r line) line (line_width r line) (line_few r line) buffered.0)
          (written_in_ram f at (event_of r line) (rw (event_length r line) given.0)))
          (laid_in_ram f (echo_places w r line) (echoed w r line) (echo_width w r line) less pushed.1);
      pushes = pushes_fit room (length (pushes_for at (event_of r line))) pushed.0;
    }

pub ruleset reply_rules = (reply_fits, append-nil)

-- ---- a line that is refused, and one for which there is no memory

pub met_refused : (wants : Type 0) (w : FlatWorld) (f : FlatState) (room at : ℕ) (r : Request) (line : List ℕ)
    (e : Fault)
    → (looked_at_line w.scene f room at r line ≡ Err e) × (e ≢ NoMemory)
    → MakesCall wants (Err e) w w (met w.scene f room at r line)
unfolding met
met_refused wants w f room at r line e is = rw is.0 ((λ _. refl), ((λ _. refl), (λ same. absurd (is.1 same))))

pub met_wanted : (w now : FlatWorld) (f : FlatState) (room at : ℕ) (r : Request) (line : List ℕ)
    → looked_at_line w.scene f room at r line ≡ Ok tt → met_grows w.scene at r line ≡ true
    → MakesCall (IsTrue (met_grows w.scene at r line)) (Err NoMemory) w now (met w.scene f room at r line)
unfolding met
met_wanted w now f room at r line good some =
    rw good ((λ other. absurd (other refl)), ((λ other. absurd (other refl)), (λ _. (some, refl))))

or_last : (a : Bool) → (a || true) ≡ true
or_last true = refl
or_last false = refl

pub echo_grows : (w : Scene) (at : ℕ) (r : Request) (line : List ℕ) → echoes w r ≡ true → met_grows w at r line ≡ true
unfolding met_grows
echo_grows w at r line is = rw is (or_last (not (at == 0) || not ((line_places r line).count == 0)))

-- ---- each look was good

pushes_are : (at : ℕ) (r : Request) (line : List ℕ)
    → (if at == on_stack then 4 else 0) ≡ length (pushes_for at (event_of r line))
pushes_are at r line = elim (at == on_stack) as
    (λ b. (if b then 4 else 0) ≡ length (if b then event_of r line else [])) [
      | true ↦ sym (event_length r line)
      | false ↦ refl
    ]

pub all_looked : (w : Scene) (f : FlatState) (room at : ℕ) (r : Request) (line : List ℕ) (places echo : Places)
    (pushes : ℕ) → places ≡ line_places r line → can_lay f places ≡ Ok tt → can_give f at 4 ≡ Ok tt
    → pushes ≡ (if at == on_stack then 4 else 0) → can_push room pushes ≡ Ok tt → echo ≡ echo_places w r line
    → can_lay f echo ≡ Ok tt → looked_at_line w f room at r line ≡ Ok tt
unfolding looked_at_line
all_looked w f room at r line places echo pushes is laid given are pushed ends echoes =
    let few : length (pushes_for at (event_of r line)) ≡ pushes = sym (are ∙ pushes_are at r line) in
    rw (← is, laid, given, few, pushed, ← ends) echoes
