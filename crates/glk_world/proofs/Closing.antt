-- What is left of a world when a window is closed.
use Rattle.std.proofs.Common.{◌≡◌, ℕ, if◌then◌else◌, List, refl}
use Rattle.std.proofs.lemmas.List.{append-nil}
use Rattle.std.specs.String.{string_bytes}
use Rattle.glk_streams.specs.declared.kinds.Stream.{Stream}
use Rattle.glk_streams.specs.Streams as streams
use Rattle.glk_windows.specs.Windows.{FlatWindows}
use Rattle.glk_windows.specs.Changes as windows
use Rattle.glk_events.specs.declared.requests.Request.{Request}
use Rattle.glk_events.specs.Requests as requests
use Rattle.glk_screen.specs.Texts.{FlatText, screen_gone}
use Rattle.glk_world.specs.declared.world.World.TheInside.{Inside}
use Rattle.glk_world.specs.World.{after, silent}
use Rattle.glk_world.specs.Calls.{without_each, without_window}
use Rattle.glk_world.specs.Kept.{flat_of}

pub closed_world : (w : Inside) (win : ℕ) (gone : List ℕ) (f : FlatWindows) (ss : List Stream) (rs : List Request)
    (ts : List FlatText) (current : ℕ)
    → gone ≡ windows.gone w.windows win → f ≡ windows.window_closed w.windows win
    → ss ≡ streams.without_windows w.streams gone
    → rs ≡ without_each requests.removed w.requests gone → ts ≡ without_each screen_gone w.screen gone
    → current ≡ (if streams.has ss w.current then w.current else 0)
    → flat_of (record w { windows = f; streams = ss; requests = rs; screen = ts; current = current })
    ≡ after (flat_of w) (silent (without_window (flat_of w).scene win))
unfolding without_window
closed_world w win gone f ss rs ts current gone_is f_is ss_is rs_is ts_is current_is =
    rw (current_is, ss_is, rs_is, ts_is, f_is, gone_is, append-nil (string_bytes w.text)) refl
