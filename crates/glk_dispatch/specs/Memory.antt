-- Where memory may be wanted, by what a call comes to.
--
-- Left out is putting to a stream that is there, whose text may have its place on a screen that keeps so much of it
-- alone. Of it the rows of the table alone say it.
use Rattle.std.specs.Prelude.{ℕ, ◌==◌, ◌||◌, ◌&&◌, not, nat_lt, Bool, true, false, IsTrue, List, [], ◌∷◌, length, Ok}
use Rattle.std.specs.Prelude.{Err}
use Rattle.std.specs.Int.{is_in_range}
use Rattle.gx_state.specs.declared.effects.Reply.{Reply}
use Rattle.glk_streams.specs.Streams as streams
use Rattle.glk_windows.specs.Changes.{some_grow}
use Rattle.glk_world.specs.World.{Scene, Said, Outcome, arg}
use Rattle.glk_replies.specs.TextNumbers as texts
use Rattle.glk_replies.specs.declared.Turn.{Turn}
use Rattle.glk_replies.specs.declared.Turn.TheVariants as turn

abbrev pub has_some : {X : Type 0} → List X → Bool
has_some [] = false
has_some (x ∷ xs) = true

-- a reply writes or pushes
abbrev pub gives_some : Reply → Bool
gives_some reply = has_some reply.writes || has_some reply.pushes

-- so does the turn's, or the name of a file is made for it
abbrev pub turn_takes : Turn → Bool
turn_takes (turn.Answer reply) = gives_some reply
turn_takes turn.Wait = false
turn_takes turn.Stuck = false
turn_takes turn.Prompt = false
turn_takes (turn.Load name) = true
turn_takes (turn.Store name bytes) = false
turn_takes (turn.Remove name) = true
turn_takes (turn.Has name) = true
turn_takes turn.Exit = false

-- an object or a request is made, or a grid gets a row or a cell more
abbrev pub is_more : Scene → Scene → Bool
is_more w v =
    nat_lt (length w.streams) (length v.streams) || nat_lt (length w.references) (length v.references)
    || nat_lt (length w.requests) (length v.requests)
    || some_grow v.windows.tree (w.windows.columns, w.windows.rows) w.windows.grids

-- one of these, or text is added
abbrev pub takes_some : Scene → Said × Turn → Bool
takes_some w r = turn_takes r.1 || has_some r.0.1 || is_more w r.0.0

-- the calls that put characters to the current stream
abbrev pub puts_to_current : ℕ → Bool
puts_to_current selector =
    selector == texts.put_char || selector == texts.put_string || selector == texts.put_buffer
    || is_in_range texts.put_char_uni texts.put_buffer_uni selector

-- those that put characters to the stream of the first argument
abbrev pub puts_to_stream : ℕ → Bool
puts_to_stream selector =
    selector == texts.put_char_stream || selector == texts.put_string_stream
    || selector == texts.put_buffer_stream
    || is_in_range texts.put_char_stream_uni texts.put_buffer_stream_uni selector

-- what is left out: characters for a stream that is there
abbrev pub is_left_out : Scene → ℕ → List ℕ → Bool
is_left_out w selector args =
    (puts_to_current selector && streams.has w.streams w.current)
    || (puts_to_stream selector && not (arg args 0 == 0))

abbrev pub TakesMemory : Scene → Outcome Turn → Type 0
TakesMemory w (Ok r) = IsTrue (takes_some w r)
TakesMemory w (Err e) = ⊥
