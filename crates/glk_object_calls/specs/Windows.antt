-- The calls of windows (Glk 0.7.5, "Windows").
--
-- A first argument names a window but in window_iterate, window_open and set_window, where it may be 0.
use Rattle.std.specs.Prelude.{ℕ, ◌==◌, if◌then◌else◌, List, [], ◌∷◌, unwrap_or}
use Rattle.gx_state.specs.Flat.{FlatState}
use Rattle.gx_state.specs.declared.effects.Reply.{Reply}
use Rattle.glk_objects.specs.Objects as objects
use Rattle.glk_windows.specs.declared.tree.Pair.{Pair}
use Rattle.glk_windows.specs.declared.entries.Entry.{Entry}
use Rattle.glk_windows.specs.Windows as windows
use Rattle.glk_windows.specs.Windows.{FlatWindows, entry_id, window_entry}
use Rattle.glk_world.specs.World.{Scene, Outcome, answered, arg}
use Rattle.glk_world.specs.Calls.{can_open, with_window, without_window, with_arrangement, window_cleared}
use Rattle.glk_world.specs.Calls.{cursor_moved, with_echo}
use Rattle.glk_replies.specs.Parts.{replies, give, give_each}
use Rattle.glk_object_calls.specs.Answers.{tells, replying}
use Rattle.glk_object_calls.specs.Streams.{counts}

-- the window of the first argument; that of 0 has neither rock nor stream
abbrev pub first_window : Scene → List ℕ → Entry
first_window w args = window_entry w.windows.entries (arg args 0)

-- a pair window; other windows are none, with zeros
abbrev pub pair_at : FlatWindows → ℕ → Pair
pair_at f win = unwrap_or (windows.window_pair f win) (record { first = 0; second = 0; method = 0; size = 0; key = 0 })

-- ---- "Window Opening, Closing, and Constraints"

-- window_open: 0 where it isn't opened
unfoldable pub window_open : Scene → List ℕ → Outcome Reply
window_open w args = answered (with_window w (arg args 0) (arg args 1) (arg args 2) (arg args 3) (arg args 4))
    (replies (if can_open w (arg args 0) (arg args 1) (arg args 3) then w.next_id else 0))

-- window_close: gives the counts of its stream
unfoldable pub window_close : Scene → FlatState → ℕ → List ℕ → Outcome Reply
window_close w f room args =
    replying (without_window w (arg args 0)) (give f room 0 (arg args 1) (counts w (first_window w args).stream))

-- ---- "Window Sizes", "Changing Window Constraints"

-- window_get_size: columns and rows
unfoldable pub window_get_size : Scene → FlatState → ℕ → List ℕ → Outcome Reply
window_get_size w f room args = let size = windows.text_size w.windows (arg args 0) in
    replying w (give_each f room 0 (arg args 1 ∷ arg args 2 ∷ []) (size.0 ∷ size.1 ∷ []))

-- window_set_arrangement: the key 0 leaves the key as it is
unfoldable pub window_set_arrangement : Scene → List ℕ → Outcome Reply
window_set_arrangement w args =
    answered (with_arrangement w (arg args 0) (arg args 1) (arg args 2) (arg args 3)) (replies 0)

-- window_get_arrangement: method, size and key of a pair window, zeros for other windows
unfoldable pub window_get_arrangement : Scene → FlatState → ℕ → List ℕ → Outcome Reply
window_get_arrangement w f room args = let p = pair_at w.windows (arg args 0) in
    replying w (give_each f room 0 (arg args 1 ∷ arg args 2 ∷ arg args 3 ∷ []) (p.method ∷ p.size ∷ p.key ∷ []))

-- ---- "The Types of Windows"

unfoldable pub window_move_cursor : Scene → List ℕ → Outcome Reply
window_move_cursor w args = answered (cursor_moved w (arg args 0) (arg args 1) (arg args 2)) (replies 0)

-- ---- "Echo Streams"

unfoldable pub window_set_echo_stream : Scene → List ℕ → Outcome Reply
window_set_echo_stream w args = answered (with_echo w (arg args 0) (arg args 1)) (replies 0)

unfoldable pub window_get_echo_stream : Scene → List ℕ → Outcome Reply
window_get_echo_stream w args = tells w (first_window w args).echo

-- ---- "Other Window Functions"

-- window_iterate: the next window and its rock, at the end 0 and 0
unfoldable pub window_iterate : Scene → FlatState → ℕ → List ℕ → Outcome Reply
window_iterate w f room args = let win = objects.next entry_id w.windows.entries (arg args 0) in
    replying w (give f room win (arg args 1) ((window_entry w.windows.entries win).rock ∷ []))

unfoldable pub window_get_rock : Scene → List ℕ → Outcome Reply
window_get_rock w args = tells w (first_window w args).rock

unfoldable pub window_get_type : Scene → List ℕ → Outcome Reply
window_get_type w args = tells w (first_window w args).kind

-- window_get_parent: the pair above a window, 0 for none
unfoldable pub window_get_parent : Scene → List ℕ → Outcome Reply
window_get_parent w args = tells w (windows.parent w.windows (arg args 0))

-- window_get_sibling: the other child of the pair above a window, 0 for none
unfoldable pub window_get_sibling : Scene → List ℕ → Outcome Reply
window_get_sibling w args = let above = pair_at w.windows (windows.parent w.windows (arg args 0)) in
    tells w (if above.first == arg args 0 then above.second else above.first)

unfoldable pub window_get_root : Scene → Outcome Reply
window_get_root w = tells w (windows.root w.windows)

unfoldable pub window_clear : Scene → List ℕ → Outcome Reply
window_clear w args = answered (window_cleared w (arg args 0)) (replies 0)

unfoldable pub window_get_stream : Scene → List ℕ → Outcome Reply
window_get_stream w args = tells w (first_window w args).stream

-- set_window: the window 0 has no stream
unfoldable pub set_window : Scene → List ℕ → Outcome Reply
set_window w args = answered (record w { current = (first_window w args).stream }) (replies 0)
