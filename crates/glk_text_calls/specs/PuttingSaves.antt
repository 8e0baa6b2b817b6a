-- The bytes of a save, put to a stream and got from one (Glulx 3.1.2, "Game State").
--
-- Each byte is put as a character, in the stream's own form. None stands for a stream that doesn't take a save, or that
-- holds what can't be one.
use Rattle.std.specs.Prelude.{ℕ, ◌-◌, ◌==◌, ◌&&◌, not, nat_lt, if◌then◌else◌, Bool, false, List, length, Option, Some}
use Rattle.std.specs.Prelude.{None, Result, Ok}
use Rattle.std.specs.List.{list_all}
use Rattle.gx_words.specs.declared.faults.Fault.{Fault}
use Rattle.gx_words.specs.Results.{◌>>=◌}
use Rattle.gx_state.specs.Flat.{FlatState}
use Rattle.gx_state.specs.declared.effects.Reply.{Reply}
use Rattle.glk_streams.specs.declared.kinds.Stream.{Stream}
use Rattle.glk_streams.specs.Stream as one
use Rattle.glk_streams.specs.Streams as streams
use Rattle.glk_world.specs.World.{Scene, Said, silent}
use Rattle.glk_world.specs.Calls.{chars_got}
use Rattle.glk_text_calls.specs.Input.{reading, has_read}
use Rattle.glk_text_calls.specs.Putting.{put_all}

-- Whether a stream takes these bytes: it is there, it is open for writing, and it has room for all of them, each put as
-- a character. The stream of a window never has room.
abbrev pub takes_save : Scene → ℕ → List ℕ → Bool
takes_save w id bytes =
    let s = streams.stream w.streams id in streams.has w.streams id && one.writable s && one.fits s bytes

-- The bytes of a save are put to a stream that takes them; the reply answers 0.
unfoldable pub put_save : Scene → FlatState → ℕ → List ℕ → Result (Said × Option Reply) Fault
put_save w f id bytes =
    if takes_save w id bytes then (put_all w f id bytes >>= λ r. Ok (r.0, Some r.1)) else Ok (silent w, None)

-- how many positions are left before a stream's end
abbrev pub rest_len : Stream → ℕ
rest_len s = one.end_position s - s.position

-- characters that are bytes
abbrev pub as_bytes : List ℕ → Option (List ℕ)
as_bytes chars = if list_all (λ c. nat_lt c 256) chars then Some chars else None

-- The bytes from a stream's position to its end, where it then stands. Where it isn't open for reading it stands as it
-- was.
unfoldable pub take_rest : Scene → FlatState → ℕ → Result (Said × Option (List ℕ)) Fault
take_rest w f id = let s = streams.stream w.streams id in
    if streams.has w.streams id && one.readable s then (do
      got ← reading w f id false (rest_len s)
      Ok (silent (chars_got w id got.1 (length got.0)), as_bytes got.0)) else Ok (silent w, None)

-- ---- where memory may be wanted: for a byte that is put or that is read

abbrev pub put_save_grows : Scene → ℕ → List ℕ → Bool
put_save_grows w id bytes = takes_save w id bytes && not (length bytes == 0)

abbrev pub take_rest_grows : Scene → FlatState → ℕ → Bool
take_rest_grows w f id =
    let s = streams.stream w.streams id in
    streams.has w.streams id && one.readable s && has_read (reading w f id false (rest_len s))
