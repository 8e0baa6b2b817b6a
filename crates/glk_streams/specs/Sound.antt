-- What is true of the streams at all times.
use Rattle.std.specs.Prelude.{◌≤◌, List, [], ◌∷◌, length}
use Rattle.glk_objects.specs.Objects.{AreRising}
use Rattle.glk_streams.specs.declared.kinds.StreamKind.{StreamKind}
use Rattle.glk_streams.specs.declared.kinds.StreamKind.TheVariants as kinds
use Rattle.glk_streams.specs.declared.kinds.Stream.{Stream}
use Rattle.glk_streams.specs.Constants.{largest}
use Rattle.glk_streams.specs.Stream.{end_position}
use Rattle.glk_streams.specs.Streams.{id_of}

-- a file isn't larger than a file may be
abbrev pub IsSoundKind : StreamKind → Type 0
IsSoundKind (kinds.Window win) = Unit {0}
IsSoundKind (kinds.Memory at len wide) = Unit {0}
IsSoundKind (kinds.File name content form) = length content ≤ largest

-- and no position is past the end
pub record IsSoundStream (s : Stream) : Type 0 where
  pub kind : IsSoundKind s.kind
  pub position : s.position ≤ end_position s

abbrev pub EachSound : List Stream → Type 0
EachSound [] = Unit {0}
EachSound (s ∷ ss) = IsSoundStream s × EachSound ss

pub record AreSound (streams : List Stream) : Type 0 where
  pub rising : AreRising id_of streams
  pub each : EachSound streams
