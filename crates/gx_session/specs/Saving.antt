-- Saves and restores in a session (Glulx 3.1.2, "Game State"; Quetzal 1.4).
--
-- Both are done by Glk streams, and fail where the I/O system isn't Glk's. A failure is no fault: the story is answered
-- 1. A save to a stream in memory whose places can't be written is a fault.
use Rattle.std.specs.Prelude.{◌≡◌, ℕ, ◌≤◌, ◌==◌, ◌&&◌, if◌then◌else◌, Bool, List, Option, None, option_and_then}
use Rattle.std.specs.Prelude.{unwrap_or, Result, Ok}
use Rattle.std.specs.Result.{result_ok}
use Rattle.gx_words.specs.declared.faults.Fault.{Fault}
use Rattle.gx_words.specs.Constants.{ceiling, glk_system}
use Rattle.gx_words.specs.Results.{◌>>=◌}
use Rattle.gx_story.specs.Stories.{FlatStory}
use Rattle.gx_state.specs.declared.effects.Reply.{Reply}
use Rattle.gx_state.specs.Copies.{Copy, IsCopyFor}
use Rattle.gx_state.specs.Flat.{FlatState}
use Rattle.gx_machine.specs.SavedCopies.{saved_copy}
use Rattle.glk_streams.specs.Stream as one
use Rattle.glk_streams.specs.Streams as streams
use Rattle.glk_world.specs.World.{Scene, Said, silent}
use Rattle.glk_replies.specs.Parts.{replies}
use Rattle.glk_text_calls.specs.PuttingSaves.{put_save, take_rest}
use Rattle.quetzal.specs.ReadingSaves.{copy_in_save}
use Rattle.quetzal.specs.Writing.{save_bytes}
use Rattle.gx_session.specs.Constants.{failed}

-- A save: the copy of the state is written as a save to the stream; nothing is written where the stream doesn't take
-- it, and the save has failed.
unfoldable pub saving : Scene → FlatState → ℕ → Result (Said × Reply) Fault
saving w f stream = if f.iosys.0 == glk_system then
    (put_save w f stream (save_bytes f.story (saved_copy f)) >>= λ r. Ok (r.0, unwrap_or r.1 (replies failed)))
    else Ok (silent w, replies failed)

-- A restore: the rest of the stream is taken, and is the copy of a save of the story, or isn't.
unfoldable pub restoring : Scene → FlatState → ℕ → Result (Said × Option Copy) Fault
restoring w f stream = if f.iosys.0 == glk_system then (take_rest w f stream
    >>= λ r. Ok (r.0, option_and_then (λ bytes. result_ok (copy_in_save ceiling bytes f.story)) r.1))
    else Ok (silent w, None)

-- A save is begun, so that the copy is made, where the stream may take one: it is there, open for writing and no
-- window's. Whether it has room, and whether its places may be written where it ends in memory, depends on the length
-- of the save.
abbrev pub is_save_begun : Scene → FlatState → ℕ → Bool
is_save_begun w f stream = let s = streams.stream w.streams stream in
    f.iosys.0 == glk_system && (streams.has w.streams stream && one.writable s && one.window_of s == 0)

-- A stream may hold a save where it is there and open for reading. So a restore is begun: the stream is read.
abbrev pub is_restore_begun : Scene → FlatState → ℕ → Bool
is_restore_begun w f stream =
    f.iosys.0 == glk_system && (streams.has w.streams stream && one.readable (streams.stream w.streams stream))

-- THE ROUND TRIP: each copy that is fit for the story is read back as it was saved. And each save that was a copy while
-- memory had a lower ceiling, such as 0x04000000, is restored as the same copy.
pub record SavesReadBack (story : FlatStory) : Type 0 where
  pub round_trip : (copy : Copy) → IsCopyFor story copy → copy_in_save ceiling (save_bytes story copy) story ≡ Ok copy
  pub old_saves : (old : ℕ) (save : List ℕ) (copy : Copy) → old ≤ ceiling → copy_in_save old save story ≡ Ok copy
      → copy_in_save ceiling save story ≡ Ok copy
