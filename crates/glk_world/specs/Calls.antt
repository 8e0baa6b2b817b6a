-- What the calls that change the world make of a scene (Glk 0.7.5).
use Rattle.std.specs.Prelude.{ℕ, ◌+◌, ◌==◌, ◌&&◌, nat_le, if◌then◌else◌, Bool, List, [], ◌∷◌, ◌++◌}
use Rattle.glk_objects.specs.Objects as objects
use Rattle.glk_streams.specs.Constants.{write_mode}
use Rattle.glk_streams.specs.declared.kinds.Stream.{Stream}
use Rattle.glk_streams.specs.declared.kinds.StreamKind.{StreamKind}
use Rattle.glk_streams.specs.declared.kinds.StreamKind.TheVariants as kinds
use Rattle.glk_streams.specs.Stream as one
use Rattle.glk_streams.specs.Streams as streams
use Rattle.glk_windows.specs.Windows.{can_add, last_given, window_entry}
use Rattle.glk_windows.specs.Changes as changes
use Rattle.glk_events.specs.Requests as requests
use Rattle.glk_screen.specs.Texts.{screen_cleared, screen_gone}
use Rattle.glk_world.specs.World.{Scene, reference_id}
use Rattle.glk_world.specs.Putting.{with_stream, leads_to}
use Rattle.glk_world.specs.Constants.{last_identifier}

-- an identifier may be given
abbrev pub is_identifier : ℕ → Bool
is_identifier id = nat_le id last_identifier

-- the identifier of a new object, 0 where none may be given
abbrev pub new_id : Scene → ℕ
new_id w = if is_identifier w.next_id then w.next_id else 0

-- ---- file references ("File References")

unfoldable pub with_reference : Scene → List ℕ → ℕ → ℕ → Scene
with_reference w base usage rock =
    let all = w.references ++ record { id = w.next_id; base = base; usage = usage; rock = rock } ∷ [] in
    if is_identifier w.next_id then record w { references = all; next_id = w.next_id + 1 } else w

unfoldable pub without_reference : Scene → ℕ → Scene
without_reference w id = record w { references = objects.all_but reference_id w.references id }

-- ---- windows ("Windows")

-- a window may be opened: the rules of windows allow it, and there are identifiers for all that is made
abbrev pub can_open : Scene → ℕ → ℕ → ℕ → Bool
can_open w split method kind = can_add w.windows split method kind && is_identifier (last_given split w.next_id)

-- the stream of a window, whose identifier is the next
abbrev pub window_stream : ℕ → Stream
window_stream win = one.opened (win + 1) (kinds.Window win) write_mode 0

-- the streams of a new window and, beside another window, of its pair
abbrev pub with_streams : List Stream → ℕ → ℕ → List Stream
with_streams all split id =
    if split == 0 then all ++ window_stream id ∷ [] else (all ++ window_stream id ∷ []) ++ window_stream (id + 2) ∷ []

unfoldable pub with_window : Scene → ℕ → ℕ → ℕ → ℕ → ℕ → Scene
with_window w split method size kind rock = let all = with_streams w.streams split w.next_id in
    let new = changes.with_new_window w.windows split method size kind rock w.next_id in
    if can_open w split method kind
    then record w { windows = new; streams = all; next_id = last_given split w.next_id + 1 } else w

-- what windows that are gone had is taken away, one after another
unfoldable pub without_each : {A : Type 0} → (A → ℕ → A) → A → List ℕ → A
without_each without all [] = all
without_each without all (win ∷ gone) = without_each without (without all win) gone

-- the counts of a window's stream
abbrev pub window_counts : Scene → ℕ → ℕ × ℕ
window_counts w win =
    let s = streams.stream w.streams (window_entry w.windows.entries win).stream in (s.read, s.written)

-- A window is closed with all windows below it and their pair; their streams, requests and texts go too. The current
-- stream is none where it is gone.
unfoldable pub without_window : Scene → ℕ → Scene
without_window w win = let gone = changes.gone w.windows win in
    let left = streams.without_windows w.streams gone in
    let current = if streams.has left w.current then w.current else 0 in
    let closed = record w { windows = changes.window_closed w.windows win; streams = left; current = current } in
    let asked = without_each requests.removed w.requests gone in
    record closed { requests = asked; screen = without_each screen_gone w.screen gone }

unfoldable pub with_arrangement : Scene → ℕ → ℕ → ℕ → ℕ → Scene
with_arrangement w win method size key = record w { windows = changes.arranged w.windows win method size key }

unfoldable pub window_cleared : Scene → ℕ → Scene
window_cleared w win = record w { windows = changes.cleared_in w.windows win; screen = screen_cleared w.screen win }

unfoldable pub cursor_moved : Scene → ℕ → ℕ → ℕ → Scene
cursor_moved w win x y = record w { windows = changes.moved_in w.windows win x y }

-- a window's echo stream, 0 for none; nothing changes where that would lead back to the window
unfoldable pub with_echo : Scene → ℕ → ℕ → Scene
with_echo w win stream =
    if leads_to w stream win then w else record w { windows = changes.with_echo_stream w.windows win stream }

-- ---- streams ("Streams")

unfoldable pub with_new_stream : Scene → StreamKind → ℕ → ℕ → Scene
with_new_stream w kind mode rock = let all = w.streams ++ one.opened w.next_id kind mode rock ∷ [] in
    if is_identifier w.next_id then record w { streams = all; next_id = w.next_id + 1 } else w

-- a stream is closed; as a current or an echo stream it becomes none
unfoldable pub without_stream : Scene → ℕ → Scene
without_stream w id = let left = objects.all_but streams.id_of w.streams id in
    let current = if w.current == id then 0 else w.current in
    record w { windows = changes.without_echoes w.windows id; streams = left; current = current }

-- a file is taken out of its stream, to be stored
unfoldable pub without_file : Scene → ℕ → Scene
without_file w id = with_stream w (one.without_file (streams.stream w.streams id))

unfoldable pub repositioned : Scene → ℕ → ℕ → ℕ → Scene
repositioned w id pos seek = with_stream w (one.positioned (streams.stream w.streams id) pos seek)

-- so many characters were read from a stream, up to a position
unfoldable pub chars_got : Scene → ℕ → ℕ → ℕ → Scene
chars_got w id position count = with_stream w (one.passed (streams.stream w.streams id) position count)

-- the next character was read, if there is one
unfoldable pub char_got : Scene → ℕ → ℕ → Scene
char_got w id found = let s = streams.stream w.streams id in with_stream w (one.after_get s (one.read_next s found))
