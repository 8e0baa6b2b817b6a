-- The calls of events (Glk 0.7.5, "Events").
use Rattle.std.specs.Prelude.{ℕ, ◌==◌, ◌&&◌, ◌||◌, not, Bool, true, false, if◌then◌else◌, List, [], ◌∷◌, ◌++◌, take}
use Rattle.std.specs.Prelude.{map, length, Option, Some, None, is_none, Result, Ok, Err}
use Rattle.gx_words.specs.declared.faults.Fault.{Fault}
use Rattle.gx_words.specs.declared.faults.Fault.TheVariants.{BadGlk}
use Rattle.gx_words.specs.Results.{◌>>=◌}
use Rattle.gx_state.specs.Flat.{FlatState}
use Rattle.gx_state.specs.declared.effects.Reply.{Reply}
use Rattle.gx_words.specs.Constants.{line_feed}
use Rattle.glk_text.specs.Characters.{latin_of}
use Rattle.glk_streams.specs.declared.kinds.Places.{Places}
use Rattle.glk_streams.specs.Streams as streams
use Rattle.glk_windows.specs.Windows.{window_entry, has_text}
use Rattle.glk_events.specs.declared.requests.Request.{Request}
use Rattle.glk_events.specs.Requests as requests
use Rattle.glk_events.specs.Requests.{line_length, char_value}
use Rattle.glk_world.specs.World.{Scene, silent, Outcome, waits, answered, arg}
use Rattle.glk_world.specs.Putting.{places_of, no_places, put_chars}
use Rattle.glk_world.specs.Shown.{line_taken}
use Rattle.glk_replies.specs.declared.Turn.{Turn}
use Rattle.glk_replies.specs.declared.Turn.TheVariants.{Wait, Stuck}
use Rattle.glk_replies.specs.TextNumbers as texts
use Rattle.glk_event_calls.specs.Constants.{no_event_type, char_event_type, line_event_type}
use Rattle.glk_replies.specs.Parts.{replies, can_lay, char_writes, pushes_for, writes_for, can_give, can_push, give}

-- an event: its type, its window, and a value; a second value is 0
abbrev pub event : ℕ → ℕ → ℕ → List ℕ
event kind win value = kind ∷ win ∷ value ∷ 0 ∷ []

abbrev pub no_event : List ℕ
no_event = event no_event_type 0 0

-- ---- "Line Input Events" and "Character Input Events"

-- a window may ask: it has text, and no other request
abbrev pub may_ask : Scene → ℕ → Bool
may_ask w win = has_text (window_entry w.windows.entries win).kind && is_none (requests.of w.requests win)

-- a window asks, if it may
abbrev pub requested : Scene → Request → Outcome Reply
requested w r =
    answered (if may_ask w r.win then record w { requests = requests.with_request w.requests r } else w) (replies 0)

-- request_line_event and its Unicode form; the initial text isn't looked at
unfoldable pub request_line_event : Bool → Scene → List ℕ → Outcome Reply
request_line_event wide w args =
    requested w (record { win = arg args 0; line = true; wide = wide; buf = arg args 1; max = arg args 2 })

-- request_char_event and its Unicode form
unfoldable pub request_char_event : Bool → Scene → List ℕ → Outcome Reply
request_char_event wide w args = requested w (record { win = arg args 0; line = false; wide = wide; buf = 0; max = 0 })

-- a window waits for a line, or else for a character
abbrev pub is_for : Bool → Option Request → Bool
is_for line None = false
is_for line (Some r) = if line then r.line else not r.line

-- the request of a window is dropped
abbrev pub without_request : Scene → ℕ → Scene
without_request w win = record w { requests = requests.removed w.requests win }

-- cancel_char_event
unfoldable pub cancel_char_event : Scene → List ℕ → Outcome Reply
cancel_char_event w args = let cancels = is_for false (requests.of w.requests (arg args 0)) in
    answered (if cancels then without_request w (arg args 0) else w) (replies 0)

-- cancel_line_event: gives the event of a line of no characters where one was waited for
unfoldable pub cancel_line_event : Scene → FlatState → ℕ → List ℕ → Outcome Reply
cancel_line_event w f room args = let cancels = is_for true (requests.of w.requests (arg args 0)) in
    give f room 0 (arg args 1) (if cancels then event line_event_type (arg args 0) 0 else no_event) >>= λ reply.
    answered (if cancels then without_request w (arg args 0) else w) reply

-- ---- "Events": polling, and waiting

-- select_poll: no event of those that come between two waits is known
unfoldable pub select_poll : Scene → FlatState → ℕ → List ℕ → Outcome Reply
select_poll w f room args = give f room 0 (arg args 0) no_event >>= λ reply. answered w reply

-- select: the place of the event is looked at; with no request nothing could come, else the call waits
unfoldable pub select : Scene → FlatState → ℕ → List ℕ → Outcome Turn
select w f room args = give f room 0 (arg args 0) no_event >>= λ looked.
    Ok (if is_none (requests.oldest w.requests) then (silent w, Stuck) else (silent (waits w texts.select args), Wait))

-- ---- what a line gives to the request that it meets

-- the event that a line gives to a request
abbrev pub event_of : Request → List ℕ → List ℕ
event_of r line =
    if r.line then event line_event_type r.win (line_length r line) else event char_event_type r.win (char_value r line)

-- the places of a line request's characters; a character request has none
abbrev pub line_places : Request → List ℕ → Places
line_places r line =
    record { at = r.buf; width = if r.wide then 4 else 1; count = if r.line then line_length r line else 0 }

-- the echo stream of a request's window, 0 for none
abbrev pub echo_for : Scene → Request → ℕ
echo_for w r = (window_entry w.windows.entries r.win).echo

-- a line is put to the window's echo stream, where that is there
abbrev pub echoes : Scene → Request → Bool
echoes w r = r.line && streams.has w.streams (echo_for w r)

-- what is put to it: the characters as they are in the buffer, where one above FF has no place among bytes, and a
-- line feed
abbrev pub echoed : Scene → Request → List ℕ → List ℕ
echoed w r line = let chars = map (λ c. if r.wide then c else latin_of c) (take (line_length r line) line) in
    if echoes w r then chars ++ line_feed ∷ [] else []

-- the places of memory that they use
abbrev pub echo_places : Scene → Request → List ℕ → Places
echo_places w r line = if echoes w r then places_of w (echo_for w r) (length (echoed w r line)) else no_places

-- the looks: at the buffer, at the place of the event and the room for it, at the places of the echo stream
unfoldable pub looked_at_line : Scene → FlatState → ℕ → ℕ → Request → List ℕ → Result (Unit {0}) Fault
looked_at_line w f room at r line = do
  buffer ← can_lay f (line_places r line)
  there ← can_give f at 4
  fits ← can_push room (length (pushes_for at (event_of r line)))
  can_lay f (echo_places w r line)

-- what is given: the characters in the buffer, the event, and the characters in memory where the echo stream ends
abbrev pub line_reply : Scene → ℕ → Request → List ℕ → Reply
line_reply w at r line = let echo = char_writes (echo_places w r line) (echoed w r line) in
    let writes = char_writes (line_places r line) line ++ writes_for at (event_of r line) ++ echo in
    record { value = 0; pushes = pushes_for at (event_of r line); writes = writes }

-- a line meets a request, which ends
unfoldable pub met : Scene → FlatState → ℕ → ℕ → Request → List ℕ → Outcome Reply
met w f room at r line = looked_at_line w f room at r line >>= λ looked.
    let said = put_chars w (echo_for w r) (echoed w r line) in
    Ok ((line_taken (without_request said.0 r.win), said.1), line_reply w at r line)

-- Memory is wanted for the event, the characters in the buffer, and those that are put to the echo stream.
unfoldable pub met_grows : Scene → ℕ → Request → List ℕ → Bool
met_grows w at r line = not (at == 0) || not ((line_places r line).count == 0) || echoes w r

-- select goes on with a line, which meets the oldest request, whatever its window.
unfoldable pub select_goes_on : Scene → FlatState → ℕ → List ℕ → List ℕ → Outcome Reply
select_goes_on w f room args line =
    elim (requests.oldest w.requests) [ None ↦ Err BadGlk | Some r ↦ met w f room (arg args 0) r line ]

unfoldable pub select_goes_on_grow : Scene → FlatState → List ℕ → List ℕ → Bool
select_goes_on_grow w f args line =
    elim (requests.oldest w.requests) [ None ↦ false | Some r ↦ met_grows w (arg args 0) r line ]
