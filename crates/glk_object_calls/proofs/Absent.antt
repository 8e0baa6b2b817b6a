-- Streams and file references that aren't there.
use Rattle.std.proofs.Common.{◌≡◌, ℕ, false, List}
use Rattle.glk_objects.proofs.Above.{at_absent}
use Rattle.glk_streams.specs.declared.kinds.Stream.{Stream}
use Rattle.glk_streams.specs.Streams as streams
use Rattle.glk_streams.specs.Streams.{id_of, no_stream}
use Rattle.glk_world.specs.World.{Scene, reference_id, no_reference, reference_at, has_reference}

pub stream_absent : (all : List Stream) (id : ℕ) → streams.has all id ≡ false → streams.stream all id ≡ no_stream
stream_absent all id gone = at_absent id_of no_stream all id gone

pub ruleset no_stream_there = (stream_absent)

pub reference_absent : (w : Scene) (id : ℕ) → has_reference w id ≡ false → reference_at w id ≡ no_reference
reference_absent w id gone = at_absent reference_id no_reference w.references id gone

pub ruleset no_reference_there = (reference_absent)
