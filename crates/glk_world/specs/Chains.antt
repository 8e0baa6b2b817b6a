-- Chains of echo streams (Glk 0.7.5, "Echo Streams"): none comes back to where it was.
use Rattle.std.specs.Prelude.{◌≡◌, ℕ, ◌<◌, ◌==◌, if◌then◌else◌, true, List, [], ◌∷◌}
use Rattle.glk_objects.specs.Objects.{IsBelowAll, AreRising}
use Rattle.glk_streams.specs.declared.kinds.Stream.{Stream}
use Rattle.glk_streams.specs.Stream as one
use Rattle.glk_streams.specs.Streams as streams
use Rattle.glk_windows.specs.declared.entries.Entry.{Entry}
use Rattle.glk_windows.specs.Windows.{entry_id, window_entry}

-- the echo stream of a stream's window, 0 for none
abbrev pub echo_in : List Entry → List Stream → ℕ → ℕ
echo_in entries all s =
    if one.window_of (streams.stream all s) == 0 then 0
    else (window_entry entries (one.window_of (streams.stream all s))).echo

-- each stream ranks above its echo stream
pub record IsRanked (entries : List Entry) (all : List Stream) (rank : ℕ → ℕ) : Type 0 where
  pub falls : (s : ℕ) → streams.has all s ≡ true → streams.has all (echo_in entries all s) ≡ true
      → rank (echo_in entries all s) < rank s

-- each echo stream has an identifier that was given
abbrev pub EchoesBelow : List Entry → ℕ → Type 0
EchoesBelow [] next = Unit {0}
EchoesBelow (e ∷ es) next = (e.echo < next) × EchoesBelow es next

-- streams of which no chain comes back; their identifiers rise from 1 on, and 0 is no window
pub record AreLinked (entries : List Entry) (all : List Stream) (next : ℕ) : Type 0 where
  pub ranked : (rank : ℕ → ℕ) × IsRanked entries all rank
  pub echoes : EchoesBelow entries next
  pub rises : AreRising streams.id_of all
  pub first : IsBelowAll streams.id_of all 0
  pub windows : IsBelowAll entry_id entries 0
  pub begun : 0 < next
