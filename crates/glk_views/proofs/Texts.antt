-- The calls of output, input and events, in both views.
use Rattle.std.proofs.Common.{◌≡◌, ℕ, zero, suc, ◌+◌, ◌-◌, ◌*◌, ◌==◌, ◌&&◌, not, Bool, true, false, if◌then◌else◌, List, []}
use Rattle.std.proofs.Common.{◌∷◌, ◌++◌, length, Option, Some, None, Result, Ok, Err, refl, ap, subst}
use Rattle.std.specs.Prelude.{is_none}
use Rattle.std.specs.Option.{option_map}
use Rattle.gx_words.specs.declared.faults.Fault.{Fault}
use Rattle.gx_words.specs.declared.faults.Fault.TheVariants.{BadGlk}
use Rattle.gx_words.specs.Results.{◌>>=◌}
use Rattle.gx_state.specs.Flat.{FlatState}
use Rattle.gx_state.specs.declared.effects.Reply.{Reply}
use Rattle.glk_streams.specs.declared.kinds.Places.{Places}
use Rattle.glk_streams.specs.Stream as one
use Rattle.glk_streams.specs.Streams as streams
use Rattle.glk_events.specs.declared.requests.Request.{Request}
use Rattle.glk_events.specs.Requests as requests
use Rattle.glk_screen.specs.Wrapper.{FlatWrapper, restarted}
use Rattle.glk_world.specs.World.{Scene, Said, silent, Outcome, answered, waits, arg}
use Rattle.glk_world.specs.Putting.{echo_of, end_along, places_of, places_read, put_chars, no_places}
use Rattle.glk_world.specs.Calls.{char_got, chars_got}
use Rattle.glk_world.specs.Shown.{line_taken}
use Rattle.glk_replies.specs.declared.Turn.{Turn}
use Rattle.glk_replies.specs.declared.Turn.TheVariants.{Wait, Stuck}
use Rattle.glk_replies.specs.TextNumbers as texts
use Rattle.glk_replies.specs.Parts.{replies, can_read, can_lay, can_give, can_push, pushes_for, give, reply_filling, numbers_in}
use Rattle.glk_replies.specs.Parts.{char_writes, writes_for}
use Rattle.glk_replies.specs.Strings.{string_length, string_chars}
use Rattle.glk_text_calls.specs.declared.characters.Case.{Case}
use Rattle.glk_text_calls.specs.Putting.{put_all}
use Rattle.glk_text_calls.specs.Output.{char_given, put_char, put_string, put_buffer, putting}
use Rattle.glk_text_calls.specs.Input.{found_in, reading, get_chars, get_buffer, get_line, get_char, char_answer}
use Rattle.glk_text_calls.specs.Characters.{buffer_of, buffer_to_case}
use Rattle.glk_text_calls.specs.PuttingSaves.{takes_save, put_save, take_rest, rest_len, as_bytes}
use Rattle.glk_event_calls.specs.Constants.{line_event_type}
use Rattle.glk_event_calls.specs.Events.{may_ask, requested, request_line_event, request_char_event, is_for, without_request}
use Rattle.glk_event_calls.specs.Events.{cancel_char_event, cancel_line_event, event, no_event, select}
use Rattle.glk_event_calls.specs.Events.{event_of, line_places, echo_for, echoes, echoed, echo_places, looked_at_line}
use Rattle.glk_event_calls.specs.Events.{met, select_goes_on}
use Rattle.glk_views.specs.Beside.{in_wrapping, in_plain, ComesBeside, comes_to, fails}
use Rattle.glk_views.proofs.Says.{quiet, then_taken, after_taken}
use Rattle.glk_views.proofs.Putting.{chars_say}
use Rattle.glk_views.proofs.Outcomes.{comes_if, scene_if, looked, bound}

module _ (rows : Bool) (limit : ℕ) where
  -- ---- the places where what is put ends in memory

  end_same : (n : ℕ) (r : FlatWrapper) (w : Scene) (stream : ℕ)
      → end_along n (in_wrapping rows r w) stream ≡ end_along n (in_plain rows limit w) stream
  unfolding end_along
  end_same zero r w stream = refl
  end_same (suc n) r w stream =
      ap (λ (last : ℕ). if streams.has w.streams (echo_of w stream) then last else stream) (end_same n r w (echo_of w stream))

  pub places_same : (r : FlatWrapper) (w : Scene) (stream count : ℕ)
      → places_of (in_wrapping rows r w) stream count ≡ places_of (in_plain rows limit w) stream count
  places_same r w stream count =
      ap (λ (last : ℕ). let s = streams.stream w.streams last in if one.writable s then one.next_places s count else no_places)
      (end_same (length w.streams) r w stream)

  -- ---- output

  put_at : (p q : Places) → p ≡ q → (r : FlatWrapper) (w : Scene) (f : FlatState) (stream : ℕ) (cs : List ℕ)
      → ComesBeside 0 rows limit r
      (can_lay f p >>= λ there. Ok (put_chars (in_wrapping rows r w) stream cs, reply_filling 0 p cs))
      (can_lay f q >>= λ there. Ok (put_chars (in_plain rows limit w) stream cs, reply_filling 0 q cs))
  put_at p q same r w f stream cs =
      subst (λ (q : Places). ComesBeside 0 rows limit r
      (can_lay f p >>= λ there. Ok (put_chars (in_wrapping rows r w) stream cs, reply_filling 0 p cs))
      (can_lay f q >>= λ there. Ok (put_chars (in_plain rows limit w) stream cs, reply_filling 0 q cs))) same
      (looked rows limit (can_lay f p) (comes_to (chars_say rows limit r w stream cs)))

  pub puts_all : (r : FlatWrapper) (w : Scene) (f : FlatState) (stream : ℕ) (cs : List ℕ)
      → ComesBeside 0 rows limit r (put_all (in_wrapping rows r w) f stream cs) (put_all (in_plain rows limit w) f stream cs)
  unfolding put_all
  puts_all r w f stream cs =
      comes_if rows limit (not (streams.has w.streams stream)) (comes_to (quiet rows limit r w))
      (put_at (places_of (in_wrapping rows r w) stream (length cs)) (places_of (in_plain rows limit w) stream (length cs))
      (places_same r w stream (length cs)) r w f stream cs)

  pub puts_char : (r : FlatWrapper) (w : Scene) (f : FlatState) (stream width c : ℕ)
      → ComesBeside 0 rows limit r (put_char (in_wrapping rows r w) f stream width c)
      (put_char (in_plain rows limit w) f stream width c)
  unfolding put_char
  puts_char r w f stream width c = puts_all r w f stream (char_given width c ∷ [])

  pub puts_string : (r : FlatWrapper) (w : Scene) (f : FlatState) (stream width at : ℕ)
      → ComesBeside 0 rows limit r (put_string (in_wrapping rows r w) f stream width at)
      (put_string (in_plain rows limit w) f stream width at)
  unfolding put_string
  puts_string r w f stream width at =
      bound rows limit (string_length f width at) (λ v count. put_all v f stream (string_chars f width at count)) r w
      (λ count. puts_all r w f stream (string_chars f width at count))

  pub puts_buffer : (r : FlatWrapper) (w : Scene) (f : FlatState) (stream width at count : ℕ)
      → ComesBeside 0 rows limit r (put_buffer (in_wrapping rows r w) f stream width at count)
      (put_buffer (in_plain rows limit w) f stream width at count)
  unfolding put_buffer
  puts_buffer r w f stream width at count =
      looked rows limit (can_read f at (width * count)) (puts_all r w f stream (numbers_in width f.memory at count))

  pub program_puts : (r : FlatWrapper) (w : Scene) (f : FlatState) (c : ℕ)
      → ComesBeside 0 rows limit r (putting (in_wrapping rows r w) f c) (putting (in_plain rows limit w) f c)
  unfolding putting
  program_puts r w f c = puts_all r w f w.current (c ∷ [])

  -- ---- input

  gets_chars : (r : FlatWrapper) (w : Scene) (f : FlatState) (stream : ℕ) (stops : Bool) (most width at : ℕ)
      → ComesBeside 0 rows limit r (get_chars (in_wrapping rows r w) f stream stops most width at)
      (get_chars (in_plain rows limit w) f stream stops most width at)
  unfolding get_chars chars_got
  gets_chars r w f stream stops most width at =
      let buffer : ℕ → Places =
      λ count. record { at = at; width = width; count = count + (if stops then 1 else 0) } in
      bound rows limit (reading w f stream stops most)
      (λ v got. can_lay f (buffer (length got.0)) >>= λ there.
      Ok (
        silent (chars_got v stream got.1 (length got.0)),
        reply_filling (length got.0) (buffer (length got.0)) (got.0 ++ (if stops then 0 ∷ [] else [])),
      )) r w
      (λ got. looked rows limit (can_lay f (buffer (length got.0)))
      (comes_to (quiet rows limit r (chars_got w stream got.1 (length got.0)))))

  pub gets_buffer : (width : ℕ) (r : FlatWrapper) (w : Scene) (f : FlatState) (args : List ℕ)
      → ComesBeside 0 rows limit r (get_buffer width (in_wrapping rows r w) f args) (get_buffer width (in_plain rows limit w) f args)
  gets_buffer width r w f args = gets_chars r w f (arg args 0) false (arg args 2) width (arg args 1)

  pub gets_line : (width : ℕ) (r : FlatWrapper) (w : Scene) (f : FlatState) (args : List ℕ)
      → ComesBeside 0 rows limit r (get_line width (in_wrapping rows r w) f args) (get_line width (in_plain rows limit w) f args)
  gets_line width r w f args =
      comes_if rows limit (arg args 2 == 0) (comes_to (quiet rows limit r w))
      (gets_chars r w f (arg args 0) true (arg args 2 - 1) width (arg args 1))

  pub gets_char : (width : ℕ) (r : FlatWrapper) (w : Scene) (f : FlatState) (args : List ℕ)
      → ComesBeside 0 rows limit r (get_char width (in_wrapping rows r w) f args) (get_char width (in_plain rows limit w) f args)
  unfolding get_char char_got
  gets_char width r w f args =
      let char : ℕ → Option ℕ = λ found.
      option_map (λ (got : ℕ × ℕ). got.0) (one.read_next (streams.stream w.streams (arg args 0)) found) in
      bound rows limit (found_in f (places_read w (arg args 0) 1) 0)
      (λ v found. Ok (silent (char_got v (arg args 0) found), replies (char_answer width (char found)))) r w
      (λ found. comes_to (quiet rows limit r (char_got w (arg args 0) found)))

  pub recases : (first others : Case) (r : FlatWrapper) (w : Scene) (f : FlatState) (args : List ℕ)
      → ComesBeside 0 rows limit r (buffer_to_case (in_wrapping rows r w) f first others args)
      (buffer_to_case (in_plain rows limit w) f first others args)
  unfolding buffer_to_case
  recases first others r w f args =
      looked rows limit (can_read f (arg args 0) (4 * (buffer_of args).count))
      (looked rows limit (can_lay f (buffer_of args)) (comes_to (quiet rows limit r w)))

  -- ---- events

  asks_for : (r : FlatWrapper) (w : Scene) (request : Request)
      → ComesBeside 0 rows limit r (requested (in_wrapping rows r w) request) (requested (in_plain rows limit w) request)
  asks_for r w request =
      let asking : Scene = record w { requests = requests.with_request w.requests request } in
      comes_to (scene_if rows limit (may_ask w request.win) (quiet rows limit r asking) (quiet rows limit r w))

  pub asks_line : (wide : Bool) (r : FlatWrapper) (w : Scene) (args : List ℕ)
      → ComesBeside 0 rows limit r (request_line_event wide (in_wrapping rows r w) args)
      (request_line_event wide (in_plain rows limit w) args)
  unfolding request_line_event
  asks_line wide r w args =
      asks_for r w (record { win = arg args 0; line = true; wide = wide; buf = arg args 1; max = arg args 2 })

  pub asks_char : (wide : Bool) (r : FlatWrapper) (w : Scene) (args : List ℕ)
      → ComesBeside 0 rows limit r (request_char_event wide (in_wrapping rows r w) args)
      (request_char_event wide (in_plain rows limit w) args)
  unfolding request_char_event
  asks_char wide r w args = asks_for r w (record { win = arg args 0; line = false; wide = wide; buf = 0; max = 0 })

  pub cancels_char : (r : FlatWrapper) (w : Scene) (args : List ℕ)
      → ComesBeside 0 rows limit r (cancel_char_event (in_wrapping rows r w) args) (cancel_char_event (in_plain rows limit w) args)
  unfolding cancel_char_event
  cancels_char r w args =
      comes_to (scene_if rows limit (is_for false (requests.of w.requests (arg args 0)))
      (quiet rows limit r (without_request w (arg args 0))) (quiet rows limit r w))

  pub cancels_line : (r : FlatWrapper) (w : Scene) (f : FlatState) (room : ℕ) (args : List ℕ)
      → ComesBeside 0 rows limit r (cancel_line_event (in_wrapping rows r w) f room args)
      (cancel_line_event (in_plain rows limit w) f room args)
  unfolding cancel_line_event
  cancels_line r w f room args =
      let cancels = is_for true (requests.of w.requests (arg args 0)) in
      bound rows limit (give f room 0 (arg args 1) (if cancels then event line_event_type (arg args 0) 0 else no_event))
      (λ v reply. answered (if cancels then without_request v (arg args 0) else v) reply) r w
      (λ reply. comes_to (scene_if rows limit cancels (quiet rows limit r (without_request w (arg args 0))) (quiet rows limit r w)))

  waits_or_stuck : (none : Bool) (r : FlatWrapper) (w : Scene) (args : List ℕ)
      → ComesBeside 0 rows limit r {X = Turn}
      (Ok (if none then (silent (in_wrapping rows r w), Stuck) else (silent (waits (in_wrapping rows r w) texts.select args), Wait)))
      (Ok (if none then (silent (in_plain rows limit w), Stuck) else (silent (waits (in_plain rows limit w) texts.select args), Wait)))
  waits_or_stuck true r w args = comes_to (quiet rows limit r w)
  waits_or_stuck false r w args = comes_to (quiet rows limit r (waits w texts.select args))

  pub selects : (r : FlatWrapper) (w : Scene) (f : FlatState) (room : ℕ) (args : List ℕ)
      → ComesBeside 0 rows limit r (select (in_wrapping rows r w) f room args) (select (in_plain rows limit w) f room args)
  unfolding select
  selects r w f room args =
      bound rows limit (give f room 0 (arg args 0) no_event)
      (λ v reply. Ok (if is_none (requests.oldest w.requests) then (silent v, Stuck) else (silent (waits v texts.select args), Wait)))
      r w (λ reply. waits_or_stuck (is_none (requests.oldest w.requests)) r w args)

  -- ---- a line meets a request

  echo_same : (r : FlatWrapper) (w : Scene) (request : Request) (line : List ℕ)
      → echo_places (in_wrapping rows r w) request line ≡ echo_places (in_plain rows limit w) request line
  echo_same r w request line =
      ap (λ (p : Places). if echoes w request then p else no_places)
      (places_same r w (echo_for w request) (length (echoed w request line)))

  met_at : (p q : Places) → p ≡ q → (r : FlatWrapper) (w : Scene) (f : FlatState) (room at : ℕ) (request : Request) (line : List ℕ)
      → (look : Places → Result (Unit {0}) Fault) (reply : Places → Reply)
      → ComesBeside 1 rows limit r
      (look p >>= λ there. let said = put_chars (in_wrapping rows r w) (echo_for w request) (echoed w request line) in
      Ok ((line_taken (without_request said.0 request.win), said.1), reply p))
      (look q >>= λ there. let said = put_chars (in_plain rows limit w) (echo_for w request) (echoed w request line) in
      Ok ((line_taken (without_request said.0 request.win), said.1), reply q))
  met_at p q same r w f room at request line look reply =
      let putting : Scene → Said = λ v. put_chars v (echo_for w request) (echoed w request line) in
      let after : Scene → Scene = λ v. line_taken (without_request v request.win) in
      let ends : Scene → Reply → Outcome Reply = λ v answer. Ok ((after (putting v).0, (putting v).1), answer) in
      subst (λ (q : Places). ComesBeside 1 rows limit r (look p >>= λ there. ends (in_wrapping rows r w) (reply p))
      (look q >>= λ there. ends (in_plain rows limit w) (reply q))) same
      (looked rows limit (look p) (comes_to (then_taken rows limit after
      (chars_say rows limit r w (echo_for w request) (echoed w request line))
      (λ r' v. after_taken rows limit (quiet rows limit (restarted r') (record (without_request v request.win) { fresh = true }))))))

  pub meets : (r : FlatWrapper) (w : Scene) (f : FlatState) (room at : ℕ) (request : Request) (line : List ℕ)
      → ComesBeside 1 rows limit r (met (in_wrapping rows r w) f room at request line)
      (met (in_plain rows limit w) f room at request line)
  unfolding met looked_at_line
  meets r w f room at request line =
      let given = event_of request line in
      met_at (echo_places (in_wrapping rows r w) request line) (echo_places (in_plain rows limit w) request line)
      (echo_same r w request line) r w f room at request line
      (λ p. can_lay f (line_places request line) >>= λ buffer. can_give f at 4 >>= λ there.
      can_push room (length (pushes_for at given)) >>= λ fits. can_lay f p)
      (λ p. record {
        value = 0;
        pushes = pushes_for at given;
        writes = char_writes (line_places request line) line ++ writes_for at given
            ++ char_writes p (echoed w request line);
      })

  meets_oldest : (oldest : Option Request) (r : FlatWrapper) (w : Scene) (f : FlatState) (room at : ℕ) (line : List ℕ)
      → ComesBeside 1 rows limit r {X = Reply}
      (elim oldest [ None ↦ Err BadGlk | Some request ↦ met (in_wrapping rows r w) f room at request line ])
      (elim oldest [ None ↦ Err BadGlk | Some request ↦ met (in_plain rows limit w) f room at request line ])
  meets_oldest None r w f room at line = fails BadGlk
  meets_oldest (Some request) r w f room at line = meets r w f room at request line

  pub select_goes : (r : FlatWrapper) (w : Scene) (f : FlatState) (room : ℕ) (args line : List ℕ)
      → ComesBeside 1 rows limit r (select_goes_on (in_wrapping rows r w) f room args line)
      (select_goes_on (in_plain rows limit w) f room args line)
  unfolding select_goes_on
  select_goes r w f room args line = meets_oldest (requests.oldest w.requests) r w f room (arg args 0) line

  -- ---- saves

  pub answers_as : {X Y : Type 0} {r : FlatWrapper} {o p : Outcome X} (view : X → Y) → ComesBeside 0 rows limit r o p
      → ComesBeside 0 rows limit r {X = Y} (o >>= λ x. Ok (x.0, view x.1)) (p >>= λ x. Ok (x.0, view x.1))
  answers_as view (comes_to says) = comes_to says
  answers_as view (fails e) = fails e

  pub puts_save : (r : FlatWrapper) (w : Scene) (f : FlatState) (id : ℕ) (bytes : List ℕ)
      → ComesBeside 0 rows limit r (put_save (in_wrapping rows r w) f id bytes) (put_save (in_plain rows limit w) f id bytes)
  unfolding put_save
  puts_save r w f id bytes =
      comes_if rows limit (takes_save w id bytes) (answers_as Some (puts_all r w f id bytes)) (comes_to (quiet rows limit r w))

  pub takes_rest : (r : FlatWrapper) (w : Scene) (f : FlatState) (id : ℕ)
      → ComesBeside 0 rows limit r (take_rest (in_wrapping rows r w) f id) (take_rest (in_plain rows limit w) f id)
  unfolding take_rest chars_got
  takes_rest r w f id =
      let s = streams.stream w.streams id in
      comes_if rows limit (streams.has w.streams id && one.readable s)
      (bound rows limit (reading w f id false (rest_len s))
      (λ v got. Ok (silent (chars_got v id got.1 (length got.0)), as_bytes got.0)) r w
      (λ got. comes_to (quiet rows limit r (chars_got w id got.1 (length got.0)))))
      (comes_to (quiet rows limit r w))
