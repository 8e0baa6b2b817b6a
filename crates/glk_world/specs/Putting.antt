-- A character is put to a stream (Glk 0.7.5, "Streams" and "Echo Streams").
use Rattle.std.specs.Prelude.{ℕ, zero, suc, ◌==◌, ◌&&◌, ◌||◌, not, if◌then◌else◌, Bool, false, List, [], ◌∷◌, length}
use Rattle.std.specs.Prelude.{encode_utf8}
use Rattle.std.specs.Str.{encode_utf8_all}
use Rattle.gx_words.specs.Constants.{line_feed}
use Rattle.glk_text.specs.Characters.{shown}
use Rattle.glk_streams.specs.declared.kinds.Places.{Places}
use Rattle.glk_streams.specs.declared.kinds.Stream.{Stream}
pub use Rattle.glk_streams.specs.Stream.{no_places}
use Rattle.glk_streams.specs.Stream as one
use Rattle.glk_streams.specs.Streams as streams
use Rattle.glk_windows.specs.Constants.{text_buffer, text_grid}
use Rattle.glk_windows.specs.declared.entries.Entry.{Entry}
use Rattle.glk_windows.specs.Windows.{window_entry}
use Rattle.glk_windows.specs.Changes.{put_to}
use Rattle.glk_screen.specs.Texts.{screen_put}
use Rattle.glk_screen.specs.Wrapper.{FlatWrapper, wrapped_char}
use Rattle.glk_world.specs.World.{Scene, Said, silent, then_said, is_composed, is_wrapping}

-- the window of a stream, 0 for none
abbrev pub window_of_stream : Scene → ℕ → ℕ
window_of_stream w stream = one.window_of (streams.stream w.streams stream)

-- the list's entry of a stream's window
abbrev pub entry_of : Scene → ℕ → Entry
entry_of w stream = window_entry w.windows.entries (window_of_stream w stream)

-- what a character is to the text: the present row after it, and what is added in UTF-8, which a view that wraps may
-- hold back
unfoldable pub flowed : Scene → ℕ → FlatWrapper × List ℕ
flowed w c = let wrapped = wrapped_char w.row c in
    if is_wrapping w then (wrapped.1, encode_utf8_all wrapped.0) else (w.row, encode_utf8 c)

-- a character of the text
abbrev pub said_char : Scene → ℕ → Said
said_char w c = (record w { row = (flowed w c).0; fresh = c == line_feed }, (flowed w c).1)

-- A character comes to a text buffer: it is text, or has its place on the composed screen.
unfoldable pub buffer_put : Scene → ℕ → ℕ → Said
buffer_put w win c =
    if is_composed w then silent (record w { screen = screen_put w.screen win c }) else said_char w c

-- A character comes to a window as it is shown: a text buffer shows it, a grid has a place for it, and other
-- windows drop it.
unfoldable pub window_put : Scene → Entry → ℕ → ℕ → Said
window_put w entry win c = if entry.kind == text_buffer then buffer_put w win (shown c) else
    silent (record w { windows = put_to w.windows win (shown c) })

-- the stream of this one's identifier becomes this one
abbrev pub with_stream : Scene → Stream → Scene
with_stream w new = record w { streams = streams.with_stream w.streams new }

-- a stream counts a character, and puts it where it belongs
abbrev pub counted : Scene → ℕ → ℕ → Scene
counted w stream c = with_stream w (one.after_put (streams.stream w.streams stream) c)

-- a character comes to one stream, and to its window if it has one
unfoldable pub stream_put : Scene → ℕ → ℕ → Said
stream_put w stream c = if window_of_stream w stream == 0 then silent (counted w stream c) else
    window_put (counted w stream c) (entry_of w stream) (window_of_stream w stream) c

-- the stream to which what is put to a stream is put after that: its window's echo stream, 0 for none
abbrev pub echo_of : Scene → ℕ → ℕ
echo_of w stream = if window_of_stream w stream == 0 then 0 else (entry_of w stream).echo

-- so many streams at most, one the echo stream of the other
unfoldable pub put_along : ℕ → Scene → ℕ → ℕ → Said
put_along zero w stream c = silent w
put_along (suc n) w stream c = if streams.has w.streams stream
    then then_said (stream_put w stream c) (λ more. put_along n more (echo_of w stream) c) else silent w

-- A character is put to a stream, then to its echo stream, and so on. No chain has more streams than there are,
-- since none comes back to where it was (specs/Chains).
abbrev pub put_of : Scene → ℕ → ℕ → Said
put_of w stream c = put_along (length w.streams) w stream c

-- characters put one after another
unfoldable pub put_chars : Scene → ℕ → List ℕ → Said
put_chars w stream [] = silent w
put_chars w stream (c ∷ cs) = then_said (put_of w stream c) (λ more. put_chars more stream cs)

-- whether nothing is shown since a line feed, after these characters of the text
unfoldable pub fresh_after : Bool → List ℕ → Bool
fresh_after fresh [] = fresh
fresh_after fresh (c ∷ cs) = fresh_after (shown c == line_feed) cs

-- a stream of a text buffer window that has no echo stream
abbrev pub is_plain_text : Scene → ℕ → Bool
is_plain_text w stream =
    streams.has w.streams stream && not (window_of_stream w stream == 0) && (entry_of w stream).kind == text_buffer
    && (entry_of w stream).echo == 0

-- A stream takes the characters that are put to it: it is open for writing, and that of a window leads to text, to a
-- grid or to an echo stream.
abbrev pub takes_chars : Scene → ℕ → Bool
takes_chars w stream = let e = entry_of w stream in
    if window_of_stream w stream == 0 then one.writable (streams.stream w.streams stream)
    else e.kind == text_buffer || e.kind == text_grid || not (e.echo == 0)

-- putting to one stream adds text, or makes a file longer
abbrev pub stream_grows : Scene → ℕ → ℕ → Bool
stream_grows w stream c = let s = streams.stream w.streams stream in
    if window_of_stream w stream == 0 then one.lengthens s.kind s c else (entry_of w stream).kind == text_buffer

unfoldable pub grows_along : ℕ → Scene → ℕ → ℕ → Bool
grows_along zero w stream c = false
grows_along (suc n) w stream c = streams.has w.streams stream
    && (stream_grows w stream c || grows_along n (stream_put w stream c).0 (echo_of w stream) c)

-- the same for one of the streams to which a character goes
abbrev pub put_grows : Scene → ℕ → ℕ → Bool
put_grows w stream c = grows_along (length w.streams) w stream c

-- the stream where a chain of echo streams ends
unfoldable pub end_along : ℕ → Scene → ℕ → ℕ
end_along zero w stream = stream
end_along (suc n) w stream =
    if streams.has w.streams (echo_of w stream) then end_along n w (echo_of w stream) else stream

abbrev pub chain_end : Scene → ℕ → ℕ
chain_end w stream = end_along (length w.streams) w stream

-- the places of memory that so many characters put to a stream use; one that isn't open for writing uses none
abbrev pub places_of : Scene → ℕ → ℕ → Places
places_of w stream count = let last = streams.stream w.streams (chain_end w stream) in
    if one.writable last then one.next_places last count else no_places

-- the places of memory that so many characters got from a stream use; one that isn't open for reading uses none
abbrev pub places_read : Scene → ℕ → ℕ → Places
places_read w stream count =
    let from = streams.stream w.streams stream in if one.readable from then one.next_places from count else no_places

-- a stream's chain of echo streams comes to a window
unfoldable pub leads_along : ℕ → Scene → ℕ → ℕ → Bool
leads_along zero w stream win = false
leads_along (suc n) w stream win =
    streams.has w.streams stream && (window_of_stream w stream == win || leads_along n w (echo_of w stream) win)

abbrev pub leads_to : Scene → ℕ → ℕ → Bool
leads_to w stream win = leads_along (length w.streams) w stream win
