-- Windows and streams name each other (Glk 0.7.5, "Window Streams").
use Rattle.std.specs.Prelude.{◌≡◌, ◌≢◌, ℕ, true, List}
use Rattle.glk_objects.specs.Objects as objects
use Rattle.glk_streams.specs.declared.kinds.Stream.{Stream}
use Rattle.glk_streams.specs.Stream as one
use Rattle.glk_streams.specs.Streams as streams
use Rattle.glk_windows.specs.declared.entries.Entry.{Entry}
use Rattle.glk_windows.specs.Windows.{entry_id, window_entry}
use Rattle.glk_windows.specs.Laws.{AreWhole}
use Rattle.glk_world.specs.World.{Scene}

-- a window is there, and this is its stream
abbrev pub HasStream : List Entry → ℕ → ℕ → Type 0
HasStream entries win s = (objects.has entry_id entries win ≡ true) × ((window_entry entries win).stream ≡ s)

-- a stream is there, and this is its window
abbrev pub HasWindow : List Stream → ℕ → ℕ → Type 0
HasWindow all s win = (streams.has all s ≡ true) × (one.window_of (streams.stream all s) ≡ win)

-- Each window's stream is that window's, and each window that a stream names has that stream.
pub record AreNamed (entries : List Entry) (all : List Stream) : Type 0 where
  pub windows : (win : ℕ) → objects.has entry_id entries win ≡ true
      → HasWindow all (window_entry entries win).stream win
  pub streams : (s : ℕ) → streams.has all s ≡ true → one.window_of (streams.stream all s) ≢ 0
      → HasStream entries (one.window_of (streams.stream all s)) s

-- So it is in every world, and each window has its place on the screen.
pub record IsWholeScene (w : Scene) : Type 0 where
  pub windows : AreWhole w.windows
  pub named : AreNamed w.windows.entries w.streams
