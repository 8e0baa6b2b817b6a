-- THE ENDING: after a stop the last screen is shown, where the screen is composed, or what is held of wrapped text is
-- let go. Then the pending text is sent, and each file stream that is open for writing is stored, in order of creation.
use Rattle.std.specs.Prelude.{ℕ, if◌then◌else◌, List, Ok}
use Rattle.std.specs.List.{filter_map}
use Rattle.glk_streams.specs.Stream.{stored_file}
use Rattle.glk_world.specs.World.{Scene}
use Rattle.gx_outside.specs.Shelves.{Exchange, store_file, was_stored}
use Rattle.gx_session.specs.Configurations.{Configuration}
use Rattle.gx_session.specs.Moves.{all_sent}
use Rattle.gx_session.specs.Sending.{is_due}

-- what is stored at the end: names, each with the bytes that are stored under it
abbrev pub stores_of : Scene → List (List ℕ × List ℕ)
stores_of scene = filter_map stored_file scene.streams

-- the call that stores it
abbrev pub store_call : List ℕ × List ℕ → Exchange
store_call s = (store_file s.0 s.1, Ok was_stored)

-- The configuration at the end, once its text is sent.
abbrev pub told_all : Configuration → Configuration
told_all m = record m { sent = if is_due 1 m.sent m.world.text then (all_sent m).sent else m.sent }
