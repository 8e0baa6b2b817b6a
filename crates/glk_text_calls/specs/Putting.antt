-- Characters are put to a stream (Glk 0.7.5, "How To Print"): the places in memory where they end are looked at first.
use Rattle.std.specs.Prelude.{ℕ, ◌==◌, ◌&&◌, ◌||◌, not, if◌then◌else◌, Bool, List, length, Ok}
use Rattle.gx_words.specs.Results.{◌>>=◌}
use Rattle.gx_state.specs.Flat.{FlatState}
use Rattle.gx_state.specs.declared.effects.Reply.{Reply}
use Rattle.glk_streams.specs.Streams as streams
use Rattle.glk_world.specs.World.{Scene, Outcome, answered}
use Rattle.glk_world.specs.Putting.{put_chars, put_grows, places_of, takes_chars}
use Rattle.glk_replies.specs.Parts.{replies, can_lay, reply_filling}

-- Characters are put to a stream, and written where it ends in memory, if they may be; a stream that isn't there takes
-- none.
unfoldable pub put_all : Scene → FlatState → ℕ → List ℕ → Outcome Reply
put_all w f stream cs = if not (streams.has w.streams stream) then answered w (replies 0) else
    can_lay f (places_of w stream (length cs)) >>= λ there.
    Ok (put_chars w stream cs, reply_filling 0 (places_of w stream (length cs)) cs)

-- putting one character wants memory where it adds text, makes a file longer or has a place in memory
abbrev pub put_grows_one : Scene → ℕ → ℕ → Bool
put_grows_one w stream c =
    streams.has w.streams stream && (put_grows w stream c || not ((places_of w stream 1).count == 0))

-- putting a string or a buffer wants memory where there is a character and the stream takes it
abbrev pub put_grows_some : Scene → ℕ → Bool → Bool
put_grows_some w stream some = streams.has w.streams stream && (takes_chars w stream && some)
