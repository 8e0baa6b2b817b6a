-- The stream of a file that is taken out of it stays, and is no window's.
use Rattle.std.proofs.Common.{◌≡◌, ℕ, true, sym, ap, ◌∙◌}
use Rattle.glk_objects.proofs.Places.{id_at}
use Rattle.glk_objects.proofs.Found as found
use Rattle.glk_streams.specs.declared.kinds.Stream.{Stream}
use Rattle.glk_streams.specs.Stream as one
use Rattle.glk_streams.specs.Streams as streams
use Rattle.glk_world.specs.World.{Scene}
use Rattle.glk_world.specs.Calls.{without_file}

pub taken_there : (w : Scene) (id : ℕ) → streams.has w.streams id ≡ true
    → streams.has (without_file w id).streams id ≡ true
unfolding without_file
taken_there w id there =
    found.has_with streams.id_of streams.no_stream w.streams (one.without_file (streams.stream w.streams id)) id
    ∙ there

pub taken_windowless : (w : Scene) (id : ℕ) → streams.has w.streams id ≡ true
    → one.window_of (streams.stream (without_file w id).streams id) ≡ 0
unfolding without_file
taken_windowless w id there =
    let taken : Stream = one.without_file (streams.stream w.streams id) in
    let named : taken.id ≡ id = id_at streams.id_of streams.no_stream w.streams id there in
    ap (λ (s : ℕ). one.window_of (streams.stream (streams.with_stream w.streams taken) s)) (sym named)
    ∙ ap one.window_of (found.at_with_here streams.id_of streams.no_stream w.streams taken (rw named there))
