-- The calls of streams (Glk 0.7.5, "Streams").
--
-- A first argument names a stream but in stream_iterate and stream_set_current, where it may be 0, and in
-- stream_open_memory.
use Rattle.std.specs.Prelude.{ℕ, ◌==◌, not, if◌then◌else◌, Bool, List, [], ◌∷◌, Option, Some, None, Ok}
use Rattle.gx_words.specs.Results.{◌>>=◌}
use Rattle.gx_state.specs.Flat.{FlatState}
use Rattle.gx_state.specs.declared.effects.Reply.{Reply}
use Rattle.glk_objects.specs.Objects as objects
use Rattle.glk_streams.specs.declared.kinds.Stream.{Stream}
use Rattle.glk_streams.specs.declared.kinds.StreamKind.{StreamKind}
use Rattle.glk_streams.specs.declared.kinds.StreamKind.TheVariants as kinds
use Rattle.glk_streams.specs.Stream as one
use Rattle.glk_streams.specs.Streams as streams
use Rattle.glk_world.specs.World.{Scene, silent, Outcome, answered, waits, arg}
use Rattle.glk_world.specs.Calls.{new_id, with_new_stream, without_stream, without_file, repositioned}
use Rattle.glk_replies.specs.declared.Turn.{Turn}
use Rattle.glk_replies.specs.declared.Turn.TheVariants.{Store}
use Rattle.glk_replies.specs.Numbers as selectors
use Rattle.glk_replies.specs.Parts.{replies, give, can_give_pair}
use Rattle.glk_object_calls.specs.Answers.{tells, replying, as_turn}

-- a stream; what stands for none has zeros
abbrev pub stream_of : Scene → ℕ → Stream
stream_of w id = streams.stream w.streams id

-- ---- "Opaque Objects"

-- stream_iterate: the next stream and its rock, zeros at the end
unfoldable pub stream_iterate : Scene → FlatState → ℕ → List ℕ → Outcome Reply
stream_iterate w f room args = let next = objects.next streams.id_of w.streams (arg args 0) in
    replying w (give f room next (arg args 1) ((stream_of w next).rock ∷ []))

unfoldable pub stream_get_rock : Scene → List ℕ → Outcome Reply
stream_get_rock w args = tells w (stream_of w (arg args 0)).rock

-- ---- "Memory Streams"

abbrev pub memory_kind : List ℕ → Bool → StreamKind
memory_kind args wide = kinds.Memory (arg args 0) (arg args 1) wide

-- stream_open_memory, stream_open_memory_uni; another mode than writing, reading or both is refused
unfoldable pub stream_open_memory : Scene → List ℕ → Bool → Outcome Reply
stream_open_memory w args wide = if not (one.allows_mode (memory_kind args wide) (arg args 2)) then tells w 0 else
    answered (with_new_stream w (memory_kind args wide) (arg args 2) (arg args 3)) (replies (new_id w))

-- ---- "Closing Streams"

-- the characters read and those written
abbrev pub counts : Scene → ℕ → List ℕ
counts w id = (stream_of w id).read ∷ (stream_of w id).written ∷ []

-- a stream is gone; that of a window stays as long as the window
unfoldable pub close : Scene → FlatState → ℕ → List ℕ → Outcome Reply
close w f room args =
    let closed = if one.window_of (stream_of w (arg args 0)) == 0 then without_stream w (arg args 0) else w in
    replying closed (give f room 0 (arg args 1) (counts w (arg args 0)))

-- the name and the content of a file that is open for writing: it is stored before its stream is closed
abbrev pub file_to_store : Scene → ℕ → Option (List ℕ × List ℕ)
file_to_store w id = if one.writable (stream_of w id) then streams.file_of w.streams id else None

-- the file is taken out of its stream, which is closed once the file is stored
abbrev pub closing_by : Option (List ℕ × List ℕ) → Scene → FlatState → ℕ → List ℕ → Outcome Turn
closing_by None w f room args = as_turn (close w f room args)
closing_by (Some file) w f room args = can_give_pair f room (arg args 1) >>= λ there.
    Ok (silent (waits (without_file w (arg args 0)) selectors.stream_close args), Store file.0 file.1)

unfoldable pub stream_close : Scene → FlatState → ℕ → List ℕ → Outcome Turn
stream_close w f room args = closing_by (file_to_store w (arg args 0)) w f room args

-- ---- "Stream Positions"

unfoldable pub stream_set_position : Scene → List ℕ → Outcome Reply
stream_set_position w args = answered (repositioned w (arg args 0) (arg args 1) (arg args 2)) (replies 0)

unfoldable pub stream_get_position : Scene → List ℕ → Outcome Reply
stream_get_position w args = tells w (stream_of w (arg args 0)).position

-- ---- "How To Print"

unfoldable pub stream_set_current : Scene → List ℕ → Outcome Reply
stream_set_current w args = answered (record w { current = arg args 0 }) (replies 0)

unfoldable pub stream_get_current : Scene → Outcome Reply
stream_get_current w = tells w w.current
